use Rattle.std.proofs.Common.{◌≡◌, true, drop}
use Rattle.fb_cert.specs.Reading.{path_from}
use Rattle.fb_cert.proofs.row.is_path.Given as goal

-- what is left goes on from here
abbrev pub invariant-loop-byte : goal.invariant-loop-byte
invariant-loop-byte l = path_from l.name_begins (drop l.byte-index l.word) ≡ path_from true l.word
