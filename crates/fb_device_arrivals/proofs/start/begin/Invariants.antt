use Rattle.fb_device_arrivals.proofs.Beginning.{Begins}
use Rattle.fb_device_arrivals.proofs.start.begin.Given as goal

-- what is left to begin comes to the same as all
abbrev pub invariant-loop-at : goal.invariant-loop-at
invariant-loop-at l = Begins l.program l.fn.running l.running l.at
