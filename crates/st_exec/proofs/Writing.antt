-- Writing numbers into a row: some change, and the others stay.
use Rattle.std.proofs.Common.{◌≡◌, ℕ, ◌+◌, ◌-◌, ◌<◌, ◌≤◌, ℤ, ◌-ℤ◌, ◌≤ℤ◌, unsigned_abs, ◌⊎◌, inl, inr, List, ◌++◌, length, take, drop, ap, ◌∙◌, arith}
use Rattle.std.specs.Prelude.{slice_set}
use Rattle.std.proofs.lemmas.List.{drop-set-lt, drop-set, drop-set-add, take-set-le}
use Rattle.std.proofs.lemmas.Int.{ints}
use Rattle.fb_model.specs.BlockTyping.{extent}
use Rattle.st_exec.specs.Slots.{first_of}

-- the numbers outside of some slots are as before
abbrev pub IsSameOutside : ℕ → ℕ → List ℤ → List ℤ → Type 0
IsSameOutside a b numbers others = (k n : ℕ) → (k + n ≤ a) ⊎ (b ≤ k) → take n (drop k others) ≡ take n (drop k numbers)

pub set_same : (a b i : ℕ) (numbers : List ℤ) (v : ℤ) → a ≤ i → i < b → IsSameOutside a b numbers (slice_set numbers i v)
set_same a b i numbers v l m k n (inl h) =
    let s : i ≡ k + (i - k) = omega arith in
    ap (λ j. take n (drop k (slice_set numbers j v))) s ∙ ap (take n) (drop-set-add k numbers (i - k) v) ∙ take-set-le n (drop k numbers) (i - k) v (omega arith)
set_same a b i numbers v l m k n (inr h) = ap (take n) (drop-set-lt k numbers i v (omega arith))

-- a slot takes a number
pub first_put : (numbers : List ℤ) (i : ℕ) (v : ℤ) → i < length numbers → first_of (drop i (slice_set numbers i v)) ≡ v
first_put numbers i v h = ap first_of (drop-set numbers i v h)

-- the distance from the lowest index
pub index_within : (low high k : ℤ) (j : ℕ) → low ≤ℤ k → k ≤ℤ high → j ≡ unsigned_abs (k -ℤ low) → j < extent (low, high)
index_within low high k j l m e = omega (arith, ints)

-- some numbers in the place of as many
abbrev pub spliced : List ℤ → ℕ → List ℤ → ℕ → List ℤ
spliced numbers i new count = take i numbers ++ new ++ drop (i + count) numbers
