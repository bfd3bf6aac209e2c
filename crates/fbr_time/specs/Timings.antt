-- What becomes of `time`: this project's profile.
use Rattle.std.specs.Prelude.{◌≡◌, ◌⊎◌, ℕ, List, Option, Result, Ok, Err}
use Rattle.fbr_files.specs.declared.fault.Fault.{Fault}
use Rattle.fbr_files.specs.Outcomes.{Tells, refusal}
use Rattle.fbr_files.specs.Reading.{held_by}
use Rattle.fbr_files.specs.Writing.{Holdings}
use Rattle.fbr_words.specs.Program.{Timing}
use Rattle.fbr_check.specs.Verdicts.{IsFilesOutcome}

-- why the certificate is refused is told and nothing else; or it is accepted, and of what is told then nothing is said
pub data TellsTime (q : Timing) (before : Holdings) (old new : Option (List ℕ)) (status : ℕ) : Type 0 where
  times_none : (f : Fault) → IsFilesOutcome {A = Unit {0}} q.app q.cert (held_by q.meant (before q.app)) (before q.cert) (Err f) → Tells (refusal f) old new status → TellsTime q before old new status
  times_it : IsFilesOutcome {A = Unit {0}} q.app q.cert (held_by q.meant (before q.app)) (before q.cert) (Ok tt) → TellsTime q before old new status
