-- The parts of a TIME, one after the other.
use Rattle.std.proofs.Common.{◌≡◌, ℕ, zero, suc, ◌+◌, ◌≤◌, false, cond, List, Some, None, sym, ap, ◌∙◌, arith}
use Rattle.std.specs.Prelude.{nat_lt}
use Rattle.std.proofs.lemmas.Bool.{ltb-true, false_from_ne_true}
use Rattle.fb_lex.specs.declared.span.Unit.{Unit as TimeUnit}
use Rattle.fb_lex.specs.Scanning.{rank_of, amount_at, behind_joint, and_more, from_amount, span_at}

pub no_less : (r least : ℕ) → least ≤ r → nat_lt r least ≡ false
no_less r least h = false_from_ne_true (nat_lt r least) (λ t. let p = ltb-true r least t in absurd (omega arith))

-- from one part to those behind it
pub span_is : (m least : ℕ) (bytes : List ℕ) (u : TimeUnit) (v : ℕ) (rest : List ℕ) (r : ℕ) (joined : List ℕ)
    → r ≡ rank_of u → joined ≡ behind_joint rest → amount_at bytes ≡ Some (u, v, rest) → least ≤ r → r ≤ 4 → 5 ≤ m + least
    → (n : ℕ) × (5 ≤ n + (r + 1)) × (span_at m least bytes ≡ and_more v rest (span_at n (r + 1) joined))
unfolding span_at
span_is zero least bytes u v rest r joined e j a le four h = absurd (omega arith)
span_is (suc n) least bytes u v rest r joined e j a le four h = (
  n,
  omega arith,
  ap (from_amount (span_at n) least) a
      ∙ ap (λ b. cond b None (and_more v rest (span_at n (rank_of u + 1) (behind_joint rest)))) (no_less (rank_of u) least (omega arith))
      ∙ ap (λ k. and_more v rest (span_at n (k + 1) (behind_joint rest))) (sym e)
      ∙ ap (λ l. and_more v rest (span_at n (r + 1) l)) (sym j),
)
