-- Words of a line.
use Rattle.std.proofs.Common.{arith, ◌≡◌, ◌⊎◌, inl, inr, ℕ, ◌-◌, ◌<◌, true, false, List, [], ◌∷◌, ◌++◌, length, map, take, drop, Option, None, Some, refl, sym, ◌∙◌, ap, Bor}
use Rattle.std.specs.Prelude.{◌≢◌, ◌+◌, option_map, codes, IsCharBoundary, MatchOption}
use Rattle.std.specs.Str.{bytes_eq}
use Rattle.std.proofs.lemmas.Bool.{cases_Bool, cond-true, cond-false}
use Rattle.std.proofs.lemmas.Slice.Eq.{bytes_eq-Decides}
use Rattle.std.proofs.lemmas.List.{append_cancel_left, take-append-drop}
use Rattle.fb_keys.specs.Keys.{peer_in}
use Rattle.fb_keys.specs.Rates.{before_s}

-- what a suffix that was cut off leaves
pub cut : (s : List ℕ) (r : Option (Bor (List ℕ)))
    → MatchOption r ((front : List ℕ) → s ≢ front ++ codes "/s") (λ x. (k : ℕ)
    × ((k ≡ length (codes "/s")) × (s ≡ take (length s - k) s ++ codes "/s") × IsCharBoundary s (length s - length (codes "/s")))
    × (x.now ≡ take (length s - k) s) × (length x.now + k ≡ length s)) → option_map (λ w. w.now) r ≡ before_s s
cut s None h = choose (cases_Bool (bytes_eq (drop (length s - 2) s) (codes "/s")))
  where
    choose : (bytes_eq (drop (length s - 2) s) (codes "/s") ≡ true) ⊎ (bytes_eq (drop (length s - 2) s) (codes "/s") ≡ false) → None ≡ before_s s
    choose (inl same) =
        absurd (h (take (length s - 2) s) (sym (take-append-drop (length s - 2) s) ∙ ap (λ (x : List ℕ). take (length s - 2) s ++ x) ((bytes_eq-Decides (drop (length s - 2) s) (codes "/s")).0 same)))
    choose (inr other) = sym (cond-false (bytes_eq (drop (length s - 2) s) (codes "/s")) (Some (take (length s - 2) s)) None other)
cut s (Some x) h =
    let two : h.0 ≡ 2 = h.1.0 in
    let rest : drop (length s - h.0) s ≡ codes "/s" =
    append_cancel_left (take (length s - h.0) s) (drop (length s - h.0) s) (codes "/s") (take-append-drop (length s - h.0) s ∙ h.1.1) in
    let same : bytes_eq (drop (length s - 2) s) (codes "/s") ≡ true =
    (bytes_eq-Decides (drop (length s - 2) s) (codes "/s")).1 (ap (λ (n : ℕ). drop (length s - n) s) (sym two) ∙ rest) in
    ap Some (h.2 ∙ ap (λ (n : ℕ). take (length s - n) s) two) ∙ sym (cond-true (bytes_eq (drop (length s - 2) s) (codes "/s")) (Some (take (length s - 2) s)) None same)

-- fewer than three words say no device
pub too_few : (ws : List (Bor (List ℕ))) → length ws < 3 → None ≡ peer_in (map (λ w. w.now) ws)
too_few [] lt = refl
too_few (a ∷ []) lt = refl
too_few (a ∷ b ∷ []) lt = refl
too_few (a ∷ b ∷ c ∷ ws) lt = absurd (omega (arith, lt))
