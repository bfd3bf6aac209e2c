-- From what was read to what a file holds.
use Rattle.std.proofs.Common.{◌≡◌, ℕ, zero, suc, ◌≤◌, refl, ◌∙◌, ap, subst, arith, List, [], ◌∷◌, ◌++◌, length, take, Option, Some, None, IfSome}
use Rattle.std.specs.Prelude.{option_map}
use Rattle.fbr_files.specs.Outcomes.{IsContents}

-- what a read of at most so many bytes gives
pub read_limited : (rem : Option (List ℕ)) (limit most : ℕ) (old new : List ℕ) → limit ≡ most → old ≡ [] → IfSome (option_map (take limit) rem) (λ xs. new ≡ old ++ xs) → IfSome rem (λ xs. new ≡ take most xs)
read_limited None limit most old new e n h = tt
read_limited (Some xs) limit most old new e n h = h ∙ (ap (λ ys. ys ++ take limit xs) n ∙ ap (λ k. take k xs) e)

-- what was read up to a limit, and is shorter, is all
whole : (n : ℕ) (xs : List ℕ) → length (take (suc n) xs) ≤ n → take (suc n) xs ≡ xs
whole n [] h = refl
whole zero (x ∷ xs) h = absurd (omega (arith, h))
whole (suc n) (x ∷ xs) h = ap (λ ys. x ∷ ys) (whole n xs (omega (arith, h)))

pub taken : (most : ℕ) (xs bytes : List ℕ) → bytes ≡ take (suc most) xs → length bytes ≤ most → bytes ≡ xs
taken most xs bytes e h = e ∙ whole most xs (subst (λ ys. length ys ≤ most) e h)

pub file_held : (held : Option (List ℕ)) (bytes : List ℕ) → IfSome held (λ xs. bytes ≡ take 33554433 xs) → length bytes ≤ 33554432 → IsContents held bytes
file_held None bytes e h = tt
file_held (Some xs) bytes e h = taken 33554432 xs bytes e h
