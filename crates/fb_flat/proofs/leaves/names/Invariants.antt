use Rattle.std.proofs.Common.{◌≡◌, map, take}
use Rattle.fb_model.specs.Typing.{names_of}
use Rattle.fb_types_blocks.specs.Views.{events_of}
use Rattle.fb_flat.proofs.leaves.names.Given as goal

abbrev pub invariant-loop-index : goal.invariant-loop-index
invariant-loop-index l = map (λ s. s.now) l.names.items ≡ take l.index (names_of (events_of l.events))
