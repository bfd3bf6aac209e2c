-- What is said case by case, as the records of the book say it.
use Rattle.std.proofs.Common.{◌≡◌, ◌≤◌, ℕ, List, length, refl, sym, subst, Result, Ok, Err}
use Rattle.std.specs.Prelude.{IfOk, IfErr, OnOk}
use Rattle.fb_model.specs.Spelling.{text_limit}
use Rattle.fb_model.specs.System.{System}
use Rattle.fb_model.specs.Declarations.{SourceTree}
use Rattle.fb_model.specs.Sources.{IsSource}
use Rattle.fb_model.specs.EventBlocks.{Elaborates}
use Rattle.fb_model.specs.Certificates.{Certificate, Fits}
use Rattle.fb_model.specs.CertificateText.{Spells, most_characters}
use Rattle.fb_model.specs.Written.{IsSystemOf}
use Rattle.fb_model.specs.Verdicts.{StandIn}
use Rattle.fb_model.specs.Promises.{Verdict, accepted, refused, AcceptsExactly, RefusesTruly}
use Rattle.fb_faults.specs.declared.refusal.Refusal.{Refusal}
use Rattle.fb_faults.specs.declared.refusal.Refusal.TheVariants.{OutOfMemory}
use Rattle.fb_verified.specs.Checked.{Checked, system_in, certificate_in}
use Rattle.fb_verdict.specs.Verdicts.{AreGiven, IsOfTexts, verdict_of}

-- of two texts
pub exactly_texts : (text certificate : List ℕ) (r : Result Checked Refusal) → IfOk r (IsOfTexts text certificate) → IfOk r (λ v. (length text ≤ text_limit) × (length certificate ≤ most_characters))
    → ((source : SourceTree) (system : System) (rows : Certificate) → length text ≤ text_limit → length certificate ≤ most_characters → IsSource text source → Elaborates source system → Spells certificate rows → Fits system rows → IfErr r (λ f. f ≡ OutOfMemory))
    → AcceptsExactly (StandIn text certificate) (verdict_of r)
exactly_texts text certificate (Ok v) h short all =
    record {
      only = λ system rows e.
          let s : system_in v ≡ system = cc in
          let c : certificate_in v ≡ rows = cc in (
            record {
              short = record { text_within = short.0; certificate_within = short.1 };
              system_is = subst (IsSystemOf text) s h.system_is;
              certificate_is = subst (Spells certificate) c h.certificate_is;
            },
            subst (λ x. Fits x rows) s (subst (Fits (system_in v)) c h.fits),
          );
      always = λ system rows f given fits e. absurd cc;
    }
exactly_texts text certificate (Err g) h short all =
    record {
      only = λ system rows e. absurd cc;
      always = λ system rows f given fits e.
          let k : g ≡ f = cc in
          subst (λ x. x ≡ OutOfMemory) k (all given.system_is.source system rows given.short.text_within given.short.certificate_within given.system_is.source_is given.system_is.typed given.certificate_is fits);
    }

-- of a system and a certificate
pub exactly_given : (system : System) (rows : Certificate) (r : Result Checked Refusal) → IfOk r (λ v. (system_in v ≡ system) × (certificate_in v ≡ rows)) → OnOk r (Fits system rows) → (Fits system rows → IfErr r (λ f. f ≡ OutOfMemory)) → AcceptsExactly (AreGiven system rows) (verdict_of r)
exactly_given system rows (Ok v) same fits all =
    record {
      only = λ s c e.
          let a : s ≡ system = (let i : system_in v ≡ s = cc in let j : system_in v ≡ system = same.0 in cc) in
          let b : c ≡ rows = (let i : certificate_in v ≡ c = cc in let j : certificate_in v ≡ rows = same.1 in cc) in
          ((a, b), subst (λ x. Fits x c) (sym a) (subst (Fits system) (sym b) fits));
      always = λ s c f given h e. absurd cc;
    }
exactly_given system rows (Err g) same fits all =
    record {
      only = λ s c e. absurd cc;
      always = λ s c f given h e.
          let k : g ≡ f = cc in
          subst (λ x. x ≡ OutOfMemory) k (all (subst (λ x. Fits x rows) given.0 (subst (Fits s) given.1 h)));
    }

-- refusals
pub truly : (IsSo : Refusal → Type 0) (r : Result Checked Refusal) → IfErr r IsSo → RefusesTruly IsSo (verdict_of r)
truly IsSo (Ok v) h = record { so = λ f e. absurd cc }
truly IsSo (Err g) h = record { so = λ f e. let k : g ≡ f = cc in subst IsSo k h }
