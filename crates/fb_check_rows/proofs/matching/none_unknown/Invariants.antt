use Rattle.std.proofs.Common.{drop}
use Rattle.fb_types_blocks.specs.Views.{names_of}
use Rattle.fb_cert.specs.Views.{rows_of}
use Rattle.fb_check_rows.specs.Members.{AreAmong}
use Rattle.fb_check_rows.specs.Texts.{paths_of}
use Rattle.fb_check_rows.proofs.matching.none_unknown.Given as goal

-- where those that are left are among these, all are
abbrev pub invariant-loop-index : goal.invariant-loop-index
invariant-loop-index l = AreAmong (drop l.index (paths_of l.kind (rows_of l.certificate))) (names_of l.rows) → AreAmong (paths_of l.kind (rows_of l.certificate)) (names_of l.rows)
