-- From what the finder answers to the certificate that is asked for.
use Rattle.std.proofs.Common.{◌≡◌, ℕ, List, Option, None, Some, Result, Ok, Err, IfOk, sym, subst, inl, inr}
use Rattle.std.specs.Prelude.{IfErr, MatchResult}
use Rattle.fb_model.specs.System.{System}
use Rattle.fb_model.specs.Certificates.{Fits}
use Rattle.fb_cert.specs.Views.{Rows, book_of}
use Rattle.fb_find.specs.Bounds.{RowsStand}
use Rattle.fb_model.specs.Finding.{IsNoBound}
use Rattle.fb_model.specs.Finding.{IsFound}
use Rattle.fb_faults.specs.declared.no_bound.NoBound.{NoBound}
use Rattle.fb_faults.specs.declared.no_bound.NoBound.TheVariants.{OutOfMemory, Cycle, NoRange, Limit}
use Rattle.fb_find_search.specs.Searching.{IsFoundSomehow, IsSearched, IsNoBoundKeeping}
use Rattle.fbr_files.specs.declared.fault.Fault.{Fault}
use Rattle.fbr_files.specs.declared.fault.Fault.TheVariants.{Memory}
use Rattle.fbr_files.specs.Writing.{Holdings}
use Rattle.fbr_find.specs.Bounding.{HoldsRows, IsFoundBy, IsUnbound, IsUnboundKeeping, IsKeptFault, IsRangesFault, fault_of, bound_in}

pub unbound_is : (repeats : Option ℕ) (s : System) (f : NoBound) → IsNoBound repeats s f → IsUnbound repeats s (fault_of f)
unbound_is repeats s OutOfMemory h = tt
unbound_is repeats s (Cycle places) h = h
unbound_is repeats s (NoRange path) h = h
unbound_is repeats s (Limit resource) h = h

pub keeping_is : (given : Rows) (repeats : Option ℕ) (s : System) (f : NoBound) → IsNoBoundKeeping given repeats s f → IsUnboundKeeping given repeats s (fault_of f)
keeping_is given repeats s OutOfMemory h = tt
keeping_is given repeats s (Cycle places) h = h
keeping_is given repeats s (NoRange path) h = h
keeping_is given repeats s (Limit resource) h = h

-- what holds of the finder's answer holds of what is made of it
pub bounded_as : {X : Type 0} (P : X → Type 0) (Q : NoBound → Type 0) (R : Fault → Type 0) (found : Result X NoBound) (r : Result X Fault) → r ≡ bound_in found
    → ((f : NoBound) → Q f → R (fault_of f)) → IfOk found P → IfErr found Q → MatchResult r P R
bounded_as P Q R (Ok c) r is g h k = subst (λ x. MatchResult x P R) (sym is) h
bounded_as P Q R (Err f) r is g h k = subst (λ x. MatchResult x P R) (sym is) (g f k)

pub both_ok : {X E : Type 0} (P Q : X → Type 0) (r : Result X E) → IfOk r P → IfOk r Q → IfOk r (λ x. P x × Q x)
both_ok P Q (Ok x) h k = (h, k)
both_ok P Q (Err e) h k = tt

-- ---- with the ranges that are asked for

pub by_rounds : (asked : Option (Option (List ℕ))) (repeats : Option ℕ) (files : Holdings) (s : System) (r : Result Rows Fault) → asked ≡ None
    → MatchResult r (λ c. IsFound repeats s (book_of c)) (IsUnbound repeats s) → MatchResult r (λ c. IsFoundBy asked repeats files s c) (IsRangesFault asked repeats files s)
by_rounds asked repeats files s r is h = subst (λ a. MatchResult r (λ c. IsFoundBy a repeats files s c) (IsRangesFault a repeats files s)) (sym is) h

pub by_search : (asked : Option (Option (List ℕ))) (repeats : Option ℕ) (files : Holdings) (s : System) (r : Result Rows Fault) → asked ≡ Some None
    → MatchResult r (λ c. IsFoundSomehow repeats s (book_of c) × IsSearched repeats s (book_of c)) (IsUnbound repeats s) → MatchResult r (λ c. IsFoundBy asked repeats files s c) (IsRangesFault asked repeats files s)
by_search asked repeats files s r is h = subst (λ a. MatchResult r (λ c. IsFoundBy a repeats files s c) (IsRangesFault a repeats files s)) (sym is) h

pub by_file : (asked : Option (Option (List ℕ))) (repeats : Option ℕ) (files : Holdings) (s : System) (r : Result Rows Fault) (name own : List ℕ) → asked ≡ Some (Some name) → own ≡ name
    → MatchResult r (λ c. IsFoundSomehow repeats s (book_of c) × ((given : Rows) × HoldsRows (files name) given × RowsStand given c)) (IsKeptFault own (files name) repeats s)
    → MatchResult r (λ c. IsFoundBy asked repeats files s c) (IsRangesFault asked repeats files s)
by_file asked repeats files s r name own is same h =
    subst (λ a. MatchResult r (λ c. IsFoundBy a repeats files s c) (IsRangesFault a repeats files s)) (sym is)
    (subst (λ n. MatchResult r (λ c. IsFoundSomehow repeats s (book_of c) × ((given : Rows) × HoldsRows (files name) given × RowsStand given c)) (IsKeptFault n (files name) repeats s)) same h)

-- the rows that a file holds are kept, or this is why there is none
pub kept_of : (name : List ℕ) (held : Option (List ℕ)) (repeats : Option ℕ) (s : System) (given : Rows) (r : Result Rows Fault) → HoldsRows held given
    → MatchResult r (λ c. IsFoundSomehow repeats s (book_of c) × RowsStand given c) (IsUnboundKeeping given repeats s)
    → MatchResult r (λ c. IsFoundSomehow repeats s (book_of c) × ((g : Rows) × HoldsRows held g × RowsStand g c)) (IsKeptFault name held repeats s)
kept_of name held repeats s given (Ok c) is h = (h.0, (given, is, h.1))
kept_of name held repeats s given (Err f) is h = inr (given, is, h)

pub fits_found : (asked : Option (Option (List ℕ))) (repeats : Option ℕ) (files : Holdings) (s : System) (rows : Rows) → IsFoundBy asked repeats files s rows → Fits s (book_of rows)
fits_found None repeats files s rows h = h.fits
fits_found (Some None) repeats files s rows h = h.0.fits
fits_found (Some (Some name)) repeats files s rows h = h.0.fits

-- memory may run out under all ranges
pub ranges_memory : (asked : Option (Option (List ℕ))) (repeats : Option ℕ) (files : Holdings) (s : System) → IsRangesFault asked repeats files s Memory
ranges_memory None repeats files s = tt
ranges_memory (Some None) repeats files s = tt
ranges_memory (Some (Some name)) repeats files s = inl tt
