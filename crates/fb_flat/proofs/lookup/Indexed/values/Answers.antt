use Rattle.std.proofs.Common.{map, ap, sym, ◌∙◌}
use Rattle.fb_types_networks.specs.declared.typed.Network.{out-Network}
use Rattle.fb_types_networks.specs.Views.{connection_of}
use Rattle.fb_flat.specs.Bundled.{seen, under, ending, target_of}
use Rattle.fb_flat.proofs.Following.{values_are}
use Rattle.fb_flat.proofs.lookup.Indexed.values.Goals as goal

pub returns : goal.returns
returns c = λ i port e.
    ap (λ l. ending target_of i port (map seen l)) (c.at.ensures ∙ ap (under c.self.inside.values) e)
    ∙ c.self.invariant.values_are i port
    ∙ ap (λ n. ending target_of i port (map connection_of (out-Network n).values.items)) c.self.view_is
    ∙ ap (ending target_of i port) (sym (values_are c.args.self.now))
