use Rattle.std.proofs.Common.{drop, map}
use Rattle.fb_tree.specs.Algorithms.{label_of}
use Rattle.st_types.proofs.Loops.{LabelsLeft}
use Rattle.st_types.proofs.statement.labels.Given as goal

abbrev pub invariant-loop-one : goal.invariant-loop-one
invariant-loop-one l = LabelsLeft l.of (map label_of l.list) l.numbers.items (map label_of (drop l.one-index l.list))
