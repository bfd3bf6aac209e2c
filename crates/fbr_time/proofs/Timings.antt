-- What `time` tells of a verdict.
use Rattle.std.proofs.Common.{◌≡◌, ◌⊎◌, ℕ, List, Option, Result, Ok, Err, IfOk, inl, inr, subst}
use Rattle.fb_verified.specs.declared.verified.Verified.{Verified}
use Rattle.fbr_files.specs.declared.fault.Fault.{Fault}
use Rattle.fbr_files.specs.Outcomes.{Tells, refusal}
use Rattle.fbr_files.specs.Reading.{held_by}
use Rattle.fbr_files.specs.Writing.{Holdings}
use Rattle.fbr_words.specs.Program.{Timing}
use Rattle.fbr_check.specs.Verdicts.{IsFilesOutcome, IsVerified}
use Rattle.fbr_check.proofs.Verdicts.{files_accepted}
use Rattle.fbr_static.specs.Tellings.{OrJson}
use Rattle.fbr_time.specs.Timings.{TellsTime, times_none, times_it}

module _ {E : Type 0} (q : Timing) (before : Holdings) (old new : Option (List ℕ)) (one two : List ℕ) (r : Result ℕ E) (first : one ≡ q.app) (second : two ≡ q.cert) where
  abbrev held_one : Option (List ℕ)
  held_one = held_by q.meant (before q.app)

  -- the outcome over files of these names
  named : (said : Result (Unit {0}) Fault) → IsFilesOutcome one two held_one (before q.cert) said → IsFilesOutcome q.app q.cert held_one (before q.cert) said
  named said h =
      subst (λ n. IsFilesOutcome n q.cert held_one (before q.cert) said) first
      (subst (λ n. IsFilesOutcome one n held_one (before q.cert) said) second h)

  pub times_accepted : (v : Verified) → IsVerified one two held_one (before q.cert) (Ok v) → IfOk r (λ status. OrJson q.json (TellsTime q before old new status))
  times_accepted v h = by r
    where
      by : (r : Result ℕ E) → IfOk r (λ status. OrJson q.json (TellsTime q before old new status))
      by (Ok status) = inr (times_it (named (Ok tt) (files_accepted {A = Unit {0}} one two held_one (before q.cert) v tt h)))
      by (Err e) = tt

  pub times_refused : (f : Fault) → IsVerified one two held_one (before q.cert) (Err f) → IfOk r (λ status. OrJson q.json (Tells (refusal f) old new status))
      → IfOk r (λ status. OrJson q.json (TellsTime q before old new status))
  times_refused f h told = by r told
    where
      by : (r : Result ℕ E) → IfOk r (λ status. OrJson q.json (Tells (refusal f) old new status)) → IfOk r (λ status. OrJson q.json (TellsTime q before old new status))
      by (Ok status) (inl json) = inl json
      by (Ok status) (inr t) = inr (times_none f (named (Err f) h) t)
      by (Err e) t = tt
