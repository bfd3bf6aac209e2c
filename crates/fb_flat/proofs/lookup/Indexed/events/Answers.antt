use Rattle.std.proofs.Common.{map, ap, sym, ◌∙◌}
use Rattle.fb_types_networks.specs.declared.typed.Network.{out-Network}
use Rattle.fb_types_networks.specs.Views.{connection_of}
use Rattle.fb_flat.specs.Bundled.{seen, under, ending, source_of}
use Rattle.fb_flat.proofs.Following.{events_are}
use Rattle.fb_flat.proofs.lookup.Indexed.events.Goals as goal

pub returns : goal.returns
returns c = λ i port e.
    ap (λ l. ending source_of i port (map seen l)) (c.at.ensures ∙ ap (under c.self.inside.events) e)
    ∙ c.self.invariant.events_are i port
    ∙ ap (λ n. ending source_of i port (map connection_of (out-Network n).events.items)) c.self.view_is
    ∙ ap (ending source_of i port) (sym (events_are c.args.self.now))
