use Rattle.fb_cert.specs.Progress.{read_of}
use Rattle.fb_cert.proofs.Lines.{Ahead}
use Rattle.fb_cert.proofs.reading.take_lines.Given as goal

-- what is left goes on from here
abbrev pub invariant-loop-line : goal.invariant-loop-line
invariant-loop-line l = Ahead l.line-iterator l.number (read_of l.reader) l.text (read_of l.initial.reader)
