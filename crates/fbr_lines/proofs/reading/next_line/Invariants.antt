use Rattle.std.proofs.Common.{◌≡◌, length}
use Rattle.std.specs.Io.Buffered.{reader_remaining}
use Rattle.std.specs.Io.KnownBytes.{Consumes}
use Rattle.fbr_lines.specs.Reading.{IsUnbroken}
use Rattle.fbr_lines.proofs.reading.next_line.Given as goal

-- what was read so far is the line
abbrev pub invariant-loop : goal.invariant-loop
invariant-loop g l = Consumes (reader_remaining g.R.Read.remaining l.fn.reader) (reader_remaining g.R.Read.remaining l.reader) l.line.items × IsUnbroken l.line.items × (length l.line.items ≡ l.counter)
