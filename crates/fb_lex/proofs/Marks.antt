-- The search for a mark in a list of marks.
use Rattle.std.proofs.Common.{◌≡◌, ◌<◌, List, [], ◌∷◌, ℕ, zero, suc, true, false, cond, Some, get_or, drop, length, arith, ap}
use Rattle.std.specs.Str.{bytes_eq}
use Rattle.fb_words.specs.declared.mark.Mark.{Mark}
use Rattle.fb_lex.specs.Scanning.{find}

pub find_step : (text : Mark → List ℕ) (ks : List Mark) (i : ℕ) (d : Mark) (t : List ℕ) → i < length ks → bytes_eq (text (get_or ks i d)) t ≡ false → find text (drop i ks) t ≡ find text (drop (suc i) ks) t
find_step text [] i d t lt h = absurd (omega arith)
find_step text (k ∷ ks) zero d t lt h = ap (λ b. cond b (Some k) (find text ks t)) h
find_step text (k ∷ ks) (suc i) d t lt h = find_step text ks i d t (omega arith) h

pub find_here : (text : Mark → List ℕ) (ks : List Mark) (i : ℕ) (d : Mark) (t : List ℕ) → i < length ks → bytes_eq (text (get_or ks i d)) t ≡ true → find text (drop i ks) t ≡ Some (get_or ks i d)
find_here text [] i d t lt h = absurd (omega arith)
find_here text (k ∷ ks) zero d t lt h = ap (λ b. cond b (Some k) (find text ks t)) h
find_here text (k ∷ ks) (suc i) d t lt h = find_here text ks i d t (omega arith) h
