-- Rows DEPTH are found by the paths of their resources.
use Rattle.std.proofs.Common.{◌≡◌, ℕ, Bool, true, false, refl, ap, ◌∙◌, List, [], ◌∷◌, ◌++◌}
use Rattle.std.specs.Prelude.{◌||◌, if◌then◌else◌}
use Rattle.std.specs.List.{AllByRecursion}
use Rattle.std.specs.Str.{bytes_eq}
use Rattle.fb_model.specs.Names.{Name, Path, is_in, path_eq}
use Rattle.fb_model.specs.Certificates.{depth_at}
use Rattle.fb_model.specs.CertificateText.{names_in}
use Rattle.fb_model.proofs.Lists.{all_both, all_weaker}
use Rattle.fb_cert.specs.Views.{Table, depth_rows}
use Rattle.fb_check_rows.proofs.Names.{bytes_same, bytes_turned}
use Rattle.fb_check_rows.proofs.Places.{same_names}
use Rattle.fb_find_rows.specs.Needs.{AreFresh, paths}

left_false : (a b : Bool) → (a || b) ≡ false → a ≡ false
left_false true b h = h
left_false false b h = refl

right_false : (a b : Bool) → (a || b) ≡ false → b ≡ false
right_false true b h = absurd cc
right_false false b h = h

in_first : (t : Name) (before more : List Name) → is_in t (before ++ more) ≡ false → is_in t before ≡ false
in_first t [] more h = refl
in_first t (x ∷ before) more h =
    let a = left_false (bytes_eq t x) (is_in t (before ++ more)) h in
    let b = in_first t before more (right_false (bytes_eq t x) (is_in t (before ++ more)) h) in
    rw (a, b) refl

in_last : (t x : Name) (before : List Name) → is_in t (before ++ x ∷ []) ≡ false → bytes_eq t x ≡ false
in_last t x [] h = left_false (bytes_eq t x) false h
in_last t x (y ∷ before) h = in_last t x before (right_false (bytes_eq t y) (is_in t (before ++ x ∷ [])) h)

-- none of these is among those before
fresh_all : (before : List Name) (ts : Table ℕ) → AreFresh before (paths ts) → AllByRecursion (λ (r : Name × ℕ). is_in r.0 before ≡ false) ts
fresh_all before [] h = tt
fresh_all before (r ∷ ts) h = (h.1, all_weaker (λ (q : Name × ℕ). is_in q.0 (before ++ r.0 ∷ []) ≡ false) (λ (q : Name × ℕ). is_in q.0 before ≡ false) ts (λ q k. in_first q.0 before (r.0 ∷ []) k) (fresh_all (before ++ r.0 ∷ []) ts h.2))

-- each row says what is found at its path
pub found_all : (before : List Name) (ts : Table ℕ) → AreFresh before (paths ts) → AllByRecursion (λ (r : Name × ℕ). depth_at (depth_rows ts) (names_in r.0) ≡ r.1) ts
found_all before [] h = tt
found_all before (x ∷ ts) h =
    let here : path_eq (names_in x.0) (names_in x.0) ≡ true = same_names x.0 x.0 ∙ bytes_same x.0 in (
      ap (λ b. if b then x.1 else depth_at (depth_rows ts) (names_in x.0)) here,
      all_both (λ (r : Name × ℕ). is_in r.0 (before ++ x.0 ∷ []) ≡ false) (λ (r : Name × ℕ). depth_at (depth_rows ts) (names_in r.0) ≡ r.1) (λ (r : Name × ℕ). depth_at (depth_rows (x ∷ ts)) (names_in r.0) ≡ r.1) ts
          (λ r k e.
          let other : path_eq (names_in x.0) (names_in r.0) ≡ false = same_names x.0 r.0 ∙ bytes_turned r.0 x.0 false (in_last r.0 x.0 before k) in
          ap (λ b. if b then x.1 else depth_at (depth_rows ts) (names_in r.0)) other ∙ e)
          (fresh_all (before ++ x.0 ∷ []) ts h.2) (found_all (before ++ x.0 ∷ []) ts h.2),
    )

-- and nothing is found where no row has the path
pub none_found : (ts : Table ℕ) (path : Path) → AllByRecursion (λ (r : Name × ℕ). path_eq (names_in r.0) path ≡ false) ts → depth_at (depth_rows ts) path ≡ 0
none_found [] path h = refl
none_found (x ∷ ts) path h = ap (λ b. if b then x.1 else depth_at (depth_rows ts) path) h.0 ∙ none_found ts path h.1
