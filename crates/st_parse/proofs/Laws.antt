-- What reading tells of algorithms.
use Rattle.std.proofs.Common.{◌≡◌, ◌⊎◌, ℕ, ◌+◌, ◌<◌, List, [], Ok, Err, refl, sym, ap, ◌∙◌, arith, inl, inr}
use Rattle.fb_model.specs.Tokens.{Token}
use Rattle.fb_model.specs.StructuredText.{Statements}
use Rattle.fb_model.specs.StructuredTextGrammar.{IsExpression, IsAlgorithm, most_nested, most_nested_statements}
use Rattle.fb_read.specs.Reading.{too_deep, Answer}
use Rattle.fb_read.proofs.Readers.{Sound, Gets, Complete}
use Rattle.fb_read.proofs.Steady.{Steady}
use Rattle.fb_read.proofs.Whole.{Points, whole_sound, whole_complete, whole_points}
use Rattle.st_parse.specs.ExpressionReading.{continues, expression_at}
use Rattle.st_parse.specs.Reading.{begins_entry, algorithm_at, whole_at}
use Rattle.st_parse.proofs.ExpressionLaws.{expression_sound, expression_complete, expression_shorter, expression_steady}
use Rattle.st_parse.proofs.Sound.{body_sound}
use Rattle.st_parse.proofs.Shorter.{NoLonger, body_no_longer}
use Rattle.st_parse.proofs.Complete.{deeper, body_complete}
use Rattle.st_parse.proofs.Steady.{body_steady}

-- ---- algorithms that stand first

pub algorithm_sound : (d j : ℕ) → Sound (IsAlgorithm d j) (algorithm_at d j)
algorithm_sound d j = body_sound (IsExpression d) (expression_at d) (expression_sound d) j

-- What nests no deeper than is read is read; a list goes on where a statement or a lone semicolon begins.
pub algorithm_complete : (n k d j : ℕ) → Complete ((d < n) ⊎ (j < k)) begins_entry (IsAlgorithm n k) (algorithm_at d j)
algorithm_complete n k d j =
    body_complete ((d < n) ⊎ (j < k)) (IsExpression n) (expression_at d) (expression_shorter n)
    (deeper continues (IsExpression n) (expression_at d) (λ h. inl h) (expression_complete n d)) k j (λ h. inr h)

-- A list may take nothing.
pub algorithm_no_longer : (n k : ℕ) → NoLonger (IsAlgorithm n k)
algorithm_no_longer n k = body_no_longer (IsExpression n) (expression_shorter n) k

pub algorithm_steady : (d j : ℕ) → Steady (algorithm_at d j)
algorithm_steady d j = body_steady (IsExpression d) (expression_at d) (expression_sound d) (expression_shorter d) (expression_steady d) j

-- ---- algorithms that are all of the tokens

-- the statements that were read
answered : Statements → Answer Statements → Statements
answered other (Ok x) = x.0
answered other (Err e) = other

pub only_read : (n k n' k' : ℕ) (ts : List Token) (x y : Statements) → IsAlgorithm n k ts x [] → IsAlgorithm n' k' ts y [] → x ≡ y
unfolding answered
only_read n k n' k' ts x y h g =
    let all = algorithm_at (n + n') (k + k') ts in
    let a : all ≡ Ok (x, []) = elim (algorithm_complete n k (n + n') (k + k') ts x [] h refl) [ inl e ↦ e | inr q ↦ absurd (elim q.1 [ inl lt ↦ omega arith | inr lt ↦ omega arith ]) ] in
    let b : all ≡ Ok (y, []) = elim (algorithm_complete n' k' (n + n') (k + k') ts y [] g refl) [ inl e ↦ e | inr q ↦ absurd (elim q.1 [ inl lt ↦ omega arith | inr lt ↦ omega arith ]) ] in
    ap (answered x) (sym a ∙ b)

whole_gets : (n k : ℕ) (ts : List Token) (x : Statements) → IsAlgorithm n k ts x [] → Gets ((most_nested < n) ⊎ (most_nested_statements < k)) (whole_at ts) x
unfolding whole_at
whole_gets n k = whole_complete ((most_nested < n) ⊎ (most_nested_statements < k)) begins_entry (IsAlgorithm n k) (algorithm_at most_nested most_nested_statements) (algorithm_complete n k most_nested most_nested_statements) refl

-- what is in the grammar is read, where it nests no deeper than the limits
pub whole_read : {ts : List Token} {x : Statements} → IsAlgorithm most_nested most_nested_statements ts x [] → whole_at ts ≡ Ok x
whole_read {ts = ts} {x = x} h = elim (whole_gets most_nested most_nested_statements ts x h) [ inl e ↦ e | inr q ↦ absurd (elim q.1 [ inl lt ↦ omega arith | inr lt ↦ omega arith ]) ]

-- however deep it nests, it is read or it is too deep
pub whole_any : (n k : ℕ) (ts : List Token) (x : Statements) → IsAlgorithm n k ts x [] → (whole_at ts ≡ Ok x) ⊎ ((left : ℕ) × (whole_at ts ≡ Err (too_deep left)))
whole_any n k ts x h = elim (whole_gets n k ts x h) [ inl e ↦ inl e | inr q ↦ inr (q.0, q.2) ]

-- what is read is in the grammar
pub whole_spelled : {ts : List Token} {x : Statements} → whole_at ts ≡ Ok x → IsAlgorithm most_nested most_nested_statements ts x []
unfolding whole_at
whole_spelled {ts = ts} {x = x} e = whole_sound (IsAlgorithm most_nested most_nested_statements) (algorithm_at most_nested most_nested_statements) (algorithm_sound most_nested most_nested_statements) ts x e

-- Tokens that begin with those up to the one where reading stopped, and with it, are refused too, and for the same reason.
pub algorithm_points : Points whole_at
unfolding whole_at
algorithm_points = whole_points (algorithm_at most_nested most_nested_statements) (algorithm_steady most_nested most_nested_statements)
