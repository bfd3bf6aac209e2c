-- Looking a row up, from an index on.
use Rattle.std.proofs.Common.{◌≡◌, ◌+◌, ℕ, zero, suc, true, false, List, [], ◌∷◌, drop, None, Some, slice_get, ap, add-one, refl, ◌∙◌}
use Rattle.std.specs.Prelude.{if◌then◌else◌}
use Rattle.fb_cert.specs.Views.{Table}
use Rattle.fb_verified.specs.Lookups.{is_same_path, row_at}

at_some : {V : Type 0} (path : List ℕ) (rows : Table V) (i : ℕ) (r : (List ℕ) × V) → slice_get rows i ≡ Some r → row_at path (drop i rows) ≡ (if is_same_path r.0 path then Some r.1 else row_at path (drop (suc i) rows))
at_some path [] i r h = absurd cc
at_some path (x ∷ xs) zero r h = let e : x ≡ r = cc in ap (λ (z : _). if is_same_path z.0 path then Some z.1 else row_at path xs) e
at_some path (x ∷ xs) (suc i) r h = at_some path xs i r h

at_none : {V : Type 0} (path : List ℕ) (rows : Table V) (i : ℕ) → slice_get rows i ≡ None → row_at path (drop i rows) ≡ None
at_none path [] zero h = refl
at_none path [] (suc i) h = refl
at_none path (x ∷ xs) zero h = absurd cc
at_none path (x ∷ xs) (suc i) h = at_none path xs i h

pub row_here : {V : Type 0} (path row : List ℕ) (rows : Table V) (i : ℕ) (value : V) → slice_get rows i ≡ Some (row, value) → is_same_path row path ≡ true → row_at path (drop i rows) ≡ Some value
row_here path row rows i value h e = at_some path rows i (row, value) h ∙ ap (λ b. if b then Some value else row_at path (drop (suc i) rows)) e

pub row_past : {V : Type 0} (path row : List ℕ) (rows : Table V) (i : ℕ) (value : V) → slice_get rows i ≡ Some (row, value) → is_same_path row path ≡ false → row_at path (drop i rows) ≡ row_at path (drop (i + 1) rows)
row_past path row rows i value h e = rw add-one (at_some path rows i (row, value) h ∙ ap (λ b. if b then Some value else row_at path (drop (suc i) rows)) e)

pub row_none : {V : Type 0} (path : List ℕ) (rows : Table V) (i : ℕ) → slice_get rows i ≡ None → row_at path (drop i rows) ≡ None
row_none path rows i h = at_none path rows i h
