-- Numbers that are told apart up to the first that stands for all greater ones.
use Rattle.std.proofs.Common.{◌≡◌, ℕ, zero, suc, ◌+◌, ◌*◌, ◌≤◌, max, ap, ap₂, ◌∙◌, pos, arith}
use Rattle.std.proofs.Math.Nat.{mul-le-mul_right}
use Rattle.std.proofs.lemmas.Int.{by_lt_z, clamps, ints}
use Rattle.fb_find_laws.specs.Nodes.{capped}

pub capped_again : (n : ℕ) → capped (capped n) ≡ capped n
capped_again n = omega (arith, clamps)

pub added_capped : (a b m n : ℕ) → capped m ≡ capped n → capped (a + (m + b)) ≡ capped (a + (n + b))
added_capped a b m n h = omega (arith, clamps, h)

-- a sum of sums, each capped
pub summed : (p n x o s q : ℕ) → o ≡ capped x → s ≡ capped (n + o) → q ≡ capped (p + s) → capped q ≡ capped (p + (n + x))
summed p n x o s q operand sum put = omega (arith, clamps, operand, sum, put)

tried_twice : (t x y : ℕ) → capped (capped (t + capped x) + capped y) ≡ capped ((t + x) + y)
tried_twice t x y = omega (arith, clamps)

tried_once : (t x y : ℕ) → capped (capped (t + capped x) + y) ≡ capped ((t + x) + y)
tried_once t x y = omega (arith, clamps)

dearer : (best t y z : ℕ) → max (max best (capped (t + y))) (capped (t + z)) ≡ max best (capped (t + max y z))
dearer best t y z = omega (arith, clamps)

regrouped : (t x y : ℕ) → (t + x) + y ≡ t + (x + y)
regrouped t x y = omega arith

-- the dearest way, one more condition or arm tried
pub dearest : (best tried own body rest o b t a m all : ℕ)
    → o ≡ capped own → b ≡ capped body → t ≡ capped (tried + o) → a ≡ capped (t + b) → m ≡ max best a
    → max best (capped (tried + (own + max body rest))) ≡ all → max m (capped (t + rest)) ≡ all
dearest best tried own body rest o b t a m all e f put g most h =
    let once = put ∙ ap (λ n. capped (tried + n)) e in
    let way = g ∙ ap₂ (λ n k. capped (n + k)) once f ∙ tried_twice tried own body in
    ap₂ (λ n k. max n (capped (k + rest))) (most ∙ ap (max best) way) once
    ∙ ap (max (max best (capped ((tried + own) + body)))) (tried_once tried own rest)
    ∙ dearer best (tried + own) body rest
    ∙ ap (λ n. max best (capped n)) (regrouped tried own (max body rest))
    ∙ h

-- so many times a number that is capped
repeated_some : (j m : ℕ) → capped (suc j * capped m) ≡ capped (suc j * m)
repeated_some j m =
    by_lt_z (pos 1000000000000) (pos m)
    (λ many.
    let least : 1000000000001 ≤ m = omega (arith, ints) in
    let c : capped m ≡ 1000000000001 = omega (arith, clamps, least) in
    let a : 1 * capped m ≤ suc j * capped m = mul-le-mul_right (capped m) (omega arith) in
    let b : 1 * m ≤ suc j * m = mul-le-mul_right m (omega arith) in
    omega (arith, clamps, least, c, a, b))
    (λ few. let same : capped m ≡ m = omega (arith, ints, clamps) in ap (λ k. capped (suc j * k)) same)

pub repeated : (n m : ℕ) → capped (n * capped m) ≡ capped (n * m)
repeated zero m = omega (arith, clamps)
repeated (suc n) m = repeated_some n m

-- a number and so many times another
pub labelled : (a b n k l q r all : ℕ) → q ≡ b → r ≡ a → l ≡ n → k ≡ capped (l * q) → all ≡ capped (r + k) → all ≡ capped (a + b * n)
labelled a b n k l q r all e f g times put =
    let product : l * q ≡ n * b = ap₂ (λ x y. x * y) g e in
    let turned : n * b ≡ b * n = omega arith in
    omega (arith, clamps, product, turned, f, times, put)
