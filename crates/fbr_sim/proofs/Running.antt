-- What is told of a script that runs.
use Rattle.std.proofs.Common.{ℕ, List, Option, Result, Ok, Err, IfOk}
use Rattle.fb_verified.specs.declared.verified.Verified.{Verified}
use Rattle.fbr_sim.specs.Simulation.{TellsEnd, IsFresh, TellsScript, a_run, TellsRunFrom}
use Rattle.fb_world_course.specs.Scenes.{Scene}
use Rattle.fb_script.specs.Runs.{IsRun}
use Rattle.fb_script.specs.declared.run.End.{End}

-- a run from the first world is one of what was verified
pub run_told : {E : Type 0} (v : Verified) (first : Scene) (held old new : Option (List ℕ)) (r : Result ℕ E) → IsFresh v first → IfOk r (λ status. TellsRunFrom first held old new status) → IfOk r (λ status. TellsScript v held old new status)
run_told v first held old new (Ok status) f h = a_run h.0 h.1 (first, h.2, f, h.3) h.4
run_told v first held old new (Err e) f h = tt

pub ends_told : {E : Type 0} (first last : Scene) (held old mid new : Option (List ℕ)) (end : End) (r : Result ℕ E) → IsRun first held old mid end last → IfOk r (λ status. TellsEnd end mid new status) → IfOk r (λ status. TellsRunFrom first held old new status)
ends_told first last held old mid new end (Ok status) h t = (end, mid, last, h, t)
ends_told first last held old mid new end (Err e) h t = tt
