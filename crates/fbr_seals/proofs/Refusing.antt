-- A refusal that is told in place of a key.
use Rattle.std.proofs.Common.{ℕ, List, Option, Result, Ok, Err, inr}
use Rattle.std.specs.Prelude.{IfOk}
use Rattle.fbr_files.specs.declared.fault.Fault.{Fault}
use Rattle.fbr_files.specs.Outcomes.{Tells, refusal}
use Rattle.fbr_seals.specs.Making.{TellsKey}

pub refused_key : {E : Type 0} (f : Fault) (old new : Option (List ℕ)) (r : Result ℕ E) → IfOk r (λ status. Tells (refusal f) old new status) → IfOk r (λ status. TellsKey old new status)
refused_key f old new (Ok status) h = inr (f, h)
refused_key f old new (Err e) h = tt
