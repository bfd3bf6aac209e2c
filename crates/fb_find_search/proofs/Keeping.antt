-- Rows that are given stand first, and so they stand in what is found within all.
use Rattle.std.proofs.Common.{◌≡◌, ℕ, ℤ, Bool, true, false, Option, List, [], ◌∷◌, ◌++◌, Result, Ok, Err, IfOk, refl, ap, ◌∙◌, append_assoc, subst, if◌then◌else◌}
use Rattle.std.specs.Prelude.{IfErr}
use Rattle.fb_model.specs.Names.{Name}
use Rattle.std.specs.List.{AllByRecursion}
use Rattle.fb_model.specs.Spans.{Span, span}
use Rattle.fb_model.specs.CertificateText.{range}
use Rattle.fb_model.specs.System.{System}
use Rattle.fb_cert.specs.Views.{Rows, Table, with_row}
use Rattle.fb_faults.specs.declared.no_bound.NoBound.{NoBound}
use Rattle.fb_find.specs.Bounds.{IsNoBoundWithin, RowsStand, Stands}
use Rattle.fb_find_search.specs.Searching.{AreFirstOf, IsNoBoundKeeping, IsRanged}

pub first_same : (Is : Name → Type 0) (given : Rows) → AreFirstOf Is given given
first_same Is given = ([], append_none given.ranges, tt) where
  append_none : (xs : Table Span) → xs ≡ xs ++ []
  append_none [] = refl
  append_none (x ∷ xs) = ap (λ (ys : Table Span). x ∷ ys) (append_none xs)

pub first_kept : (Is : Name → Type 0) (given old new : Rows) → AreFirstOf Is given old → new ≡ old → AreFirstOf Is given new
first_kept Is given old new first is = (first.0, ap (λ (r : Rows). r.ranges) is ∙ first.1, first.2)

all_with : (Is : Name → Type 0) (xs : Table Span) (x : Name × Span) → AllByRecursion (λ r. Is r.0) xs → Is x.0 → AllByRecursion (λ r. Is r.0) (xs ++ x ∷ [])
all_with Is [] x h k = (k, tt)
all_with Is (y ∷ ys) x h k = (h.0, all_with Is ys x h.1 k)

-- one more row RANGE, or none
pub first_added : (Is : Name → Type 0) (given old new : Rows) (path : List ℕ) (low high : ℤ) (said : Bool) → Is path → AreFirstOf Is given old → new ≡ (if said then with_row (range path low high) old else old) → AreFirstOf Is given new
first_added Is given old new path low high true so first is = (
  first.0 ++ (path, span low high) ∷ [],
  ap (λ (r : Rows). r.ranges) is ∙ (ap (λ (xs : Table Span). xs ++ (path, span low high) ∷ []) first.1 ∙ append_assoc given.ranges first.0 ((path, span low high) ∷ [])),
  all_with Is first.0 (path, span low high) first.2 so,
)
first_added Is given old new path low high false so first is = first_kept Is given old new first is

all_as : (Is Are : Name → Type 0) → ((path : Name) → Is path → Are path) → (xs : Table Span) → AllByRecursion (λ r. Is r.0) xs → AllByRecursion (λ r. Are r.0) xs
all_as Is Are f [] h = tt
all_as Is Are f (x ∷ xs) h = (f x.0 h.0, all_as Is Are f xs h.1)

both_all : (P : Name × Span → Type 0) (xs ys : Table Span) → AllByRecursion P xs → AllByRecursion P ys → AllByRecursion P (xs ++ ys)
both_all P [] ys h k = k
both_all P (x ∷ xs) ys h k = (h.0, both_all P xs ys h.1 k)

-- others behind others
pub first_then : (Is : Name → Type 0) (given mid new : Rows) → AreFirstOf Is given mid → AreFirstOf Is mid new → AreFirstOf Is given new
first_then Is given mid new one two = (
  one.0 ++ two.0,
  two.1 ∙ (ap (λ (xs : Table Span). xs ++ two.0) one.1 ∙ append_assoc given.ranges one.0 two.0),
  both_all (λ r. Is r.0) one.0 two.0 one.2 two.2,
)

-- paths that are so are so in other words
pub first_as : (Is Are : Name → Type 0) (given new : Rows) → ((path : Name) → Is path → Are path) → AreFirstOf Is given new → AreFirstOf Are given new
first_as Is Are given new f first = (first.0, first.1, all_as Is Are f first.0 first.2)

all_before : (P : List ℕ × Span → Type 0) (xs ys : Table Span) → AllByRecursion P (xs ++ ys) → AllByRecursion P xs
all_before P [] ys h = tt
all_before P (x ∷ xs) ys h = (h.0, all_before P xs ys h.1)

stand_first : (Is : Name → Type 0) (given rows found : Rows) → AreFirstOf Is given rows → RowsStand rows found → RowsStand given found
stand_first Is given rows found first h = all_before (Stands found) given.ranges first.0 (subst (λ (xs : Table Span). AllByRecursion (Stands found) xs) first.1 h)

-- what stands in a certificate that is found, where rows stand first
pub given_stand : {X E : Type 0} (rows_in : X → Rows) (Is : Name → Type 0) (given rows : Rows) (r : Result X E) → AreFirstOf Is given rows → IfOk r (λ c. RowsStand rows (rows_in c)) → IfOk r (λ c. RowsStand given (rows_in c))
given_stand rows_in Is given rows (Ok c) first h = stand_first Is given rows (rows_in c) first h
given_stand rows_in Is given rows (Err e) first h = tt

pub none_keeping : {X : Type 0} (given rows : Rows) (repeats : Option ℕ) (s : System) (r : Result X NoBound) → AreFirstOf (IsRanged s) given rows → IfErr r (IsNoBoundWithin rows repeats s) → IfErr r (IsNoBoundKeeping given repeats s)
none_keeping given rows repeats s (Ok c) first h = tt
none_keeping given rows repeats s (Err f) first h = (rows, first, h)
