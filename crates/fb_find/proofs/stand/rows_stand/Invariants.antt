use Rattle.std.proofs.Common.{drop}
use Rattle.std.specs.List.{AllByRecursion}
use Rattle.fb_cert.specs.Views.{rows_of}
use Rattle.fb_find.specs.Bounds.{RowsStand, Stands}
use Rattle.fb_find.proofs.stand.rows_stand.Given as goal

-- where those that are left stand, all do
abbrev pub invariant-loop-index : goal.invariant-loop-index
invariant-loop-index l = AllByRecursion (Stands (rows_of l.certificate)) (drop l.index (rows_of l.rows).ranges) → RowsStand (rows_of l.rows) (rows_of l.certificate)
