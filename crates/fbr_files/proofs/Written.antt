-- What is told of a file that could not be written.
use Rattle.std.proofs.Common.{◌≡◌, ℕ, List, Option, Result, Ok, Err, IfOk}
use Rattle.fbr_files.specs.declared.fault.Fault.{Fault}
use Rattle.fbr_files.specs.Outcomes.{Tells, refusal, IsReadFault}
use Rattle.fbr_files.specs.Writing.{Writes, unwritten}

pub unwritten_told : {E : Type 0} (name text : List ℕ) (f : Fault) (before after old new : Option (List ℕ)) (r : Result ℕ E) → IsReadFault name f → after ≡ before
    → IfOk r (λ status. Tells (refusal f) old new status) → IfOk r (λ status. Writes name text before after old new status)
unwritten_told name text f before after old new (Ok status) is kept h = unwritten f is h kept
unwritten_told name text f before after old new (Err e) is kept h = tt
