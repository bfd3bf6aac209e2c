use Rattle.std.proofs.Common.{ap, ◌∙◌}
use Rattle.fb_types_networks.specs.declared.typed.Network.{out-Network}
use Rattle.fb_flat.specs.Placed.{position_named}
use Rattle.fb_flat.proofs.Placing.{found_first, found_within}
use Rattle.fb_flat.proofs.lookup.Indexed.position.Goals as goal

pub returns-clause-first : goal.returns-clause-first
returns-clause-first c =
    let x = c.args.name.now in
    found_first c.copied.result (out-Network c.args.self.now).instances.items x
    (c.copied.ensures ∙ c.get.ensures.value ∙ c.self.invariant.positions_are x ∙ ap (λ n. position_named (out-Network n).instances.items x) c.self.view_is)

pub returns-clause-within : goal.returns-clause-within
returns-clause-within c =
    let x = c.args.name.now in
    found_within c.copied.result (out-Network c.args.self.now).instances.items x
    (c.copied.ensures ∙ c.get.ensures.value ∙ c.self.invariant.positions_are x ∙ ap (λ n. position_named (out-Network n).instances.items x) c.self.view_is)
