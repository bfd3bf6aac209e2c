-- What a verdict says of the two texts.
use Rattle.std.specs.Prelude.{ℕ, ◌≡◌, List, Result, Ok, Err}
use Rattle.fb_types.specs.declared.typed.Configuration.{Configuration}
use Rattle.fb_types.specs.Views.{system_of, system_offsets, all_offsets}
use Rattle.fb_model.specs.Written.{IsSystemOf}
use Rattle.fb_model.specs.System.{System}
use Rattle.fb_model.specs.Certificates.{Certificate}
use Rattle.fb_model.specs.Verdicts.{AreFitting}
use Rattle.fb_model.specs.Promises.{Verdict, accepted, refused}
use Rattle.fb_faults.specs.declared.refusal.Refusal.{Refusal}
use Rattle.fb_verified.specs.Checked.{Checked, system_in, certificate_in}

-- this is its typed system, whose resources have the offsets of their names in the text
pub record IsTypedOf (text : List ℕ) (typed : Configuration) : Type 0 where
  pub system_is : IsSystemOf text (system_of typed)
  pub offsets : system_offsets typed.devices.items ≡ all_offsets system_is.source.system.devices

-- what was checked is the system of the application's text and the certificate of the other, and this fits
abbrev pub IsOfTexts : List ℕ → List ℕ → Checked → Type 0
IsOfTexts text certificate v = AreFitting text certificate (system_in v) (certificate_in v)

-- an answer, without where it lies in memory
abbrev pub verdict_of : Result Checked Refusal → Verdict
verdict_of (Ok v) = accepted (system_in v) (certificate_in v)
verdict_of (Err f) = refused f

-- this system and this certificate were given
abbrev pub AreGiven : System → Certificate → System → Certificate → Type 0
AreGiven system rows s c = (s ≡ system) × (c ≡ rows)
