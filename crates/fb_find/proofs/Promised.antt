-- What is said case by case, as the record of the book says it.
use Rattle.std.proofs.Common.{◌≡◌, ℕ, List, sym, subst, Option, Result, Ok, Err}
use Rattle.std.specs.Prelude.{IfOk, IfErr}
use Rattle.std.specs.declared.string.String.{String}
use Rattle.std.specs.declared.alloc.Global.{Global}
use Rattle.fb_model.specs.System.{System}
use Rattle.fb_model.specs.Ranges.{Range}
use Rattle.fb_model.specs.Certificates as book
use Rattle.fb_model.specs.Certificates.{Fits}
use Rattle.fb_model.specs.Finding.{IsFoundWith, IsNoBoundWith, IsWalk, IsRuledOut}
use Rattle.fb_model.specs.Promises.{Found, found, not_found, FindsLeast}
use Rattle.fb_faults.specs.declared.no_bound.NoBound.{NoBound}
use Rattle.fb_cert.specs.declared.certificate.Certificate.{Certificate}
use Rattle.fb_cert.specs.Views.{certificate_of}
use Rattle.fb_find.specs.Answers.{found_of}

pub finds_least : (Are : List Range → Type 0) (Fails : String Global → Type 0) (repeats : Option ℕ) (s : System) (r : Result Certificate NoBound)
    → IfOk r (λ c. IsFoundWith Are repeats s (certificate_of c)) → IfErr r (IsNoBoundWith Are Fails repeats s) → IfErr r (λ f. IsWalk f → (cert : book.Certificate) → IsRuledOut repeats cert → Fits s cert → ⊥)
    → FindsLeast Are Fails repeats s (found_of r)
finds_least Are Fails repeats s (Ok c) h k d =
    record {
      least = λ cert e. let i : certificate_of c ≡ cert = cc in subst (IsFoundWith Are repeats s) i h;
      so = λ f e. absurd cc;
      none = λ f cert e walk out fits. absurd cc;
    }
finds_least Are Fails repeats s (Err g) h k d =
    record {
      least = λ cert e. absurd cc;
      so = λ f e. let i : g ≡ f = cc in subst (IsNoBoundWith Are Fails repeats s) i k;
      none = λ f cert e walk out fits. let i : f ≡ g = cc in d (subst IsWalk i walk) cert out fits;
    }
