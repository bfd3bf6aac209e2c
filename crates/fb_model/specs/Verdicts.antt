-- What stands in the texts of an application and of a certificate, and why they are refused.
use Rattle.std.specs.Prelude.{ℕ, ◌≤◌, List, length}
use Rattle.fb_faults.specs.declared.refusal.Refusal.{Refusal}
use Rattle.fb_faults.specs.declared.refusal.Refusal.TheVariants.{OutOfMemory, Text, Typing, Certificate as Spelling}
use Rattle.fb_model.specs.Spelling.{text_limit}
use Rattle.fb_model.specs.System.{System}
use Rattle.fb_model.specs.Declarations.{SourceTree}
use Rattle.fb_model.specs.Sources.{IsSource}
use Rattle.fb_model.specs.Written.{IsSystemOf}
use Rattle.fb_model.specs.Certificates.{Certificate, Fits}
use Rattle.fb_model.specs.CertificateText.{Spells, most_characters}
use Rattle.fb_model.specs.RefusedTexts.{IsRefusal}
use Rattle.fb_model.specs.SourceFaults.{IsRefused, SomeCrowded}
use Rattle.fb_model.specs.RefusedCertificates.{Refuses}
use Rattle.fb_model.specs.Misfits.{IsMisfit}

-- both texts are as long as they may be, or shorter
pub record AreShort (text certificate : List ℕ) : Type 0 where
  pub text_within : length text ≤ text_limit
  pub certificate_within : length certificate ≤ most_characters

-- the system is that of the application's text, the certificate is that of the other, and it fits
pub record AreFitting (text certificate : List ℕ) (system : System) (rows : Certificate) : Type 0 where
  pub system_is : IsSystemOf text system
  pub certificate_is : Spells certificate rows
  pub fits : Fits system rows

-- these are the system and the certificate of the two texts, and both are short enough
pub record StandIn (text certificate : List ℕ) (system : System) (rows : Certificate) : Type 0 where
  pub short : AreShort text certificate
  pub system_is : IsSystemOf text system
  pub certificate_is : Spells certificate rows

-- ---- refusals

-- what is at fault in a source tree
abbrev pub IsTypingFault : SourceTree → Refusal → Type 0
IsTypingFault source OutOfMemory = Unit {0}
IsTypingFault source (Typing fault) = IsRefused source fault
IsTypingFault source other = ⊥

-- what is at fault in an application's text: in its characters or tokens, or in its source tree
abbrev pub IsTextFault : List ℕ → Refusal → Type 0
IsTextFault text OutOfMemory = Unit {0}
IsTextFault text (Text fault) = IsRefusal text fault
IsTextFault text (Typing fault) = (source : SourceTree) × IsSource text source × IsTypingFault source (Typing fault)
IsTextFault text other = ⊥

-- what is at fault in a certificate's text
abbrev pub IsCertificateFault : List ℕ → Refusal → Type 0
IsCertificateFault text OutOfMemory = Unit {0}
IsCertificateFault text (Spelling fault) = Refuses text fault
IsCertificateFault text other = ⊥

-- the two texts are spelled and well typed, and what the refusal says of how they fit is so
pub record IsMisfitOf (text certificate : List ℕ) (f : Refusal) : Type 0 where
  pub system : System
  pub rows : Certificate
  pub system_is : IsSystemOf text system
  pub certificate_is : Spells certificate rows
  pub fault : IsMisfit (SomeCrowded system_is.source.system.devices system.devices) system rows f

-- what the refusal says is so, of one of the texts or of how they fit
pub data IsFaultOf (text certificate : List ℕ) (f : Refusal) : Type 0 where
  of_application : IsTextFault text f → IsFaultOf text certificate f
  of_other : IsCertificateFault certificate f → IsFaultOf text certificate f
  of_both : IsMisfitOf text certificate f → IsFaultOf text certificate f
