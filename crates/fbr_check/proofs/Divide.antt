-- How the bytes of standard input are divided, and when they are text.
use Rattle.std.proofs.Common.{◌≡◌, ℕ, List, [], ◌∷◌, ◌++◌, take, Bool, true, false, refl, ◌∙◌, ap}
use Rattle.std.specs.Prelude.{Option, Some, None, ◌==◌, IfSome, option_map}
use Rattle.std.specs.Str.{IsUtf8, is_utf8}
use Rattle.std.proofs.lemmas.Str.{IsUtf8-from_is_utf8}
use Rattle.fbr_check.specs.Halves.{fence_here, divided_at, before, divide}

pub false_from : (b : Bool) → (b ≡ true → ⊥) → b ≡ false
false_from true h = absurd (h refl)
false_from false h = refl

pub not_utf8 : (bs : List ℕ) → (IsUtf8 bs → ⊥) → is_utf8 bs ≡ false
not_utf8 bs h = false_from (is_utf8 bs) (λ e. h (IsUtf8-from_is_utf8 bs e))

-- the first text goes on with these bytes
abbrev pub with_front : List ℕ → List ℕ × List ℕ → List ℕ × List ℕ
with_front xs parts = (xs ++ parts.0, parts.1)

-- a dividing line stands here
pub divide_here : (start : Bool) (b : ℕ) (bs rest : List ℕ) → fence_here start (b ∷ bs) ≡ Some rest → divide start (b ∷ bs) ≡ ([], rest)
divide_here start b bs rest h = ap (λ o. divided_at o (before b (divide (b == 10) bs))) h

-- none stands here
pub divide_on : (start : Bool) (b : ℕ) (bs : List ℕ) → fence_here start (b ∷ bs) ≡ None → divide start (b ∷ bs) ≡ before b (divide (b == 10) bs)
divide_on start b bs h = ap (λ o. divided_at o (before b (divide (b == 10) bs))) h
