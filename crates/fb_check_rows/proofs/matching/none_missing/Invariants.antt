use Rattle.std.proofs.Common.{map, drop, string_bytes}
use Rattle.fb_types_blocks.specs.Views.{names_of}
use Rattle.fb_cert.specs.Views.{rows_of}
use Rattle.fb_check_rows.specs.Members.{AreAmong}
use Rattle.fb_check_rows.specs.Texts.{paths_of}
use Rattle.fb_check_rows.proofs.matching.none_missing.Given as goal

-- where those that are left stand there, all do
abbrev pub invariant-loop-index : goal.invariant-loop-index
invariant-loop-index l = AreAmong (map string_bytes (drop l.index l.rows.keys)) (paths_of l.kind (rows_of l.certificate)) → AreAmong (names_of l.rows) (paths_of l.kind (rows_of l.certificate))
