use Rattle.std.proofs.Common.{◌≡◌, ◌++◌, map, take}
use Rattle.fb_ranges.specs.Views.{spans_of}
use Rattle.fb_find.specs.Parts.{table_in}
use Rattle.fb_find.proofs.table.add_tables.Given as goal

abbrev pub invariant-loop-leaf : goal.invariant-loop-leaf
invariant-loop-leaf l = map spans_of l.all.items ≡ map spans_of l.initial.all.items ++ map (table_in l.certificate) (map (λ x. x.now) (take l.leaf-index l.leaves))
