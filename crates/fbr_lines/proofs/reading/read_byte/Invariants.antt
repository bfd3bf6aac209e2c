use Rattle.std.specs.Prelude.{◌≡◌, length, []}
use Rattle.std.specs.Io.KnownBytes.{Consumes}
use Rattle.fbr_lines.proofs.reading.read_byte.Given as goal

-- nothing was read yet
abbrev pub invariant-loop : goal.invariant-loop
invariant-loop g l = Consumes (g.R.Read.remaining l.fn.reader) (g.R.Read.remaining l.reader) [] × (length l.one ≡ 1)
