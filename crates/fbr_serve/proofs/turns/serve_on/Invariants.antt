use Rattle.fbr_serve.proofs.Looped.{SoFar}
use Rattle.fbr_serve.proofs.turns.serve_on.Given as goal

-- the turns so far were taken at the moments that the timer told, summed and printed
abbrev pub invariant-loop-turn : goal.invariant-loop-turn
invariant-loop-turn g l = SoFar g.L.Link.steps g.L.Link.count g.T.Timer.tells l.fn.serve.telling.has_clock l.fn.device l.fn.link l.fn.timer (record { printed = g.W.Write.contents l.fn.output; recorded = record { bytes = g.F.Write.contents l.fn.notes.recorder.stream; lost = l.fn.notes.recorder.is_lost } }) l.turn l.sums l.is_lost l.device l.link l.timer (record { printed = g.W.Write.contents l.output; recorded = record { bytes = g.F.Write.contents l.notes.recorder.stream; lost = l.notes.recorder.is_lost } })
