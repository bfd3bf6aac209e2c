use Rattle.std.proofs.Common.{◌≡◌, map, drop}
use Rattle.fb_ranges.specs.Views.{spans_of}
use Rattle.fb_cert.specs.Views.{rows_of}
use Rattle.fb_find_ranges.specs.AddedRows.{adding, all_rows}
use Rattle.fb_find_ranges.proofs.row.add_leaves.Given as goal

-- with the rows of the leaves that are left, all are there
abbrev pub invariant-loop-index : goal.invariant-loop-index
invariant-loop-index l =
    adding (all_rows (map spans_of (drop l.index l.tables)) (map (λ x. x.now) (drop l.index l.leaves))) (rows_of l.certificate) ≡ adding (all_rows (map spans_of l.tables) (map (λ x. x.now) l.leaves)) (rows_of l.initial.certificate)
