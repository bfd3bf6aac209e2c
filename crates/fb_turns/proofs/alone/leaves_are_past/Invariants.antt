use Rattle.std.proofs.Common.{drop}
use Rattle.std.specs.List.{AllByRecursion}
use Rattle.fb_cert.specs.Views.{certificate_of}
use Rattle.fb_turns.specs.Room.{IsPastHere}
use Rattle.fb_turns.proofs.alone.leaves_are_past.Given as goal

abbrev pub invariant-loop-leaf : goal.invariant-loop-leaf
invariant-loop-leaf l =
    AllByRecursion (IsPastHere l.depth l.own (certificate_of l.certificate)) (drop l.leaf-index l.leaves) → AllByRecursion (IsPastHere l.depth l.own (certificate_of l.certificate)) l.leaves
