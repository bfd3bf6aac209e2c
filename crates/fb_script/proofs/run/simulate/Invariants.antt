use Rattle.std.specs.Io.Buffered.{reader_remaining}
use Rattle.fb_script.proofs.Lines.{Ahead}
use Rattle.fb_script.proofs.run.simulate.Given as goal

-- what is left goes on from here
abbrev pub invariant-loop-number : goal.invariant-loop-number
invariant-loop-number g l =
    Ahead l.number l.fn.world l.world (reader_remaining g.I.Read.remaining l.fn.script) (reader_remaining g.I.Read.remaining l.script) (g.W.Write.contents l.fn.output) (g.W.Write.contents l.output)
