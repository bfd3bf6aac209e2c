-- Sums as far as they are told apart.
use Rattle.std.proofs.Common.{◌≡◌, ℕ, ◌+◌, ◌*◌, ◌≤◌, ap, ap₂, ◌∙◌, arith}
use Rattle.std.specs.Prelude.{max}
use Rattle.std.proofs.Math.Nat.{mul_comm}
use Rattle.fb_find_laws.specs.Nodes.{capped}

-- a sum of two sums
pub both : {a b c : ℕ} (x y : ℕ) → c ≡ capped (a + b) → a ≡ capped x → b ≡ capped y → c ≡ capped (x + y)
both x y h p q = grind arith

-- a number and a sum
pub behind : {a b c x : ℕ} (y : ℕ) → c ≡ capped (a + b) → a ≡ x → b ≡ capped y → c ≡ capped (x + y)
behind y h p q = grind arith

-- a sum and a number
pub before : {a b c y : ℕ} (x : ℕ) → c ≡ capped (a + b) → a ≡ capped x → b ≡ y → c ≡ capped (x + y)
before x h p q = grind arith

-- so many times a price
pub turned : {c count each m n : ℕ} → c ≡ capped (count * each) → count ≡ m → each ≡ n → c ≡ capped (n * m)
turned {c} {count} {each} {m} {n} h p q = h ∙ ap₂ (λ x y. capped (x * y)) p q ∙ ap capped (mul_comm m n)

-- a part of a sum, and what is left of it
pub added_more : (sum new x rest here : ℕ) → new ≡ capped (sum + x) → x ≡ capped here → capped (new + rest) ≡ capped (sum + (here + rest))
added_more sum new x rest here h p = grind arith

pub below : (c n : ℕ) → c ≡ capped n → c ≤ 1000000000001
below c n h = grind arith

-- the greater of two
pub greater : (most tried new rest here : ℕ) → new ≡ max most tried → tried ≡ capped here
    → capped (max new rest) ≡ capped (max most (max here rest))
greater most tried new rest here h p = grind arith

pub most_below : (most tried new here : ℕ) → new ≡ max most tried → tried ≡ capped here → most ≤ 1000000000001 → new ≤ 1000000000001
most_below most tried new here h p l = grind arith
