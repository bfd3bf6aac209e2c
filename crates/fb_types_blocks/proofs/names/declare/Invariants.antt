use Rattle.std.proofs.Common.{◌≡◌, ◌++◌, map, drop}
use Rattle.fb_model.specs.Typing.{AreNew}
use Rattle.fb_types_blocks.specs.Views.{names_of}
use Rattle.fb_model.specs.BlockFaults.{repeated}
use Rattle.fb_types_blocks.proofs.names.declare.Given as goal

-- the names so far are new where those that are left are
abbrev pub invariant-loop-item : goal.invariant-loop-item
invariant-loop-item g l =
    let rest = map g.T.Named.text (drop l.item-index l.items) in
    record {
      new : AreNew (names_of l.names) rest → AreNew (names_of l.initial.names) (map g.T.Named.text l.items);
      added : names_of l.names ++ rest ≡ names_of l.initial.names ++ map g.T.Named.text l.items;
      first : repeated (names_of l.names) (map (λ x. record { text = g.T.Named.text x; at = g.T.Named.at x }) (drop l.item-index l.items)) ≡ repeated (names_of l.initial.names) (map (λ x. record { text = g.T.Named.text x; at = g.T.Named.at x }) l.items);
    }
