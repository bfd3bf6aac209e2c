-- Facts of the table of types, and of wrapping.
use Rattle.std.proofs.Common.{◌≡◌, ℕ, ◌-◌, ◌^◌, ◌<◌, ◌≤◌, ℤ, pos, negsuc, ◌+ℤ◌, ◌-ℤ◌, ◌≤ℤ◌, ◌<ℤ◌, int_lt, int_le, true, false, refl, sym, ap, arith}
use Rattle.std.specs.Int.{int_rem_euclid}
use Rattle.std.proofs.lemmas.Int.{ints, by_lt_z}
use Rattle.std.proofs.Math.Nat.{mod-lt, mod-eq_of_lt}
use Rattle.fb_words.specs.declared.elem_type.ElemType.{ElemType}
use Rattle.fb_words.specs.declared.elem_type.ElemType.TheVariants as t
use Rattle.fb_words.specs.Numbers.{lowest, highest, size, seated, wrapped}

pub record Bounded (type : ElemType) : Type 0 where
  pub some : 1 ≤ size type
  pub small : size type ≤ 2 ^ 64
  pub span : lowest type +ℤ pos (size type) ≡ highest type +ℤ pos 1
  pub least : negsuc 9223372036854775807 ≤ℤ lowest type
  pub low : lowest type ≤ℤ pos 0
  pub most : highest type ≤ℤ pos 9223372036854775807
  pub high : pos 0 ≤ℤ highest type

pub bounded : (type : ElemType) → Bounded type
bounded t.Bool = record { some = omega arith; small = omega arith; span = refl; least = omega (arith, ints); low = omega (arith, ints); most = omega (arith, ints); high = omega (arith, ints) }
bounded t.Sint = record { some = omega arith; small = omega arith; span = refl; least = omega (arith, ints); low = omega (arith, ints); most = omega (arith, ints); high = omega (arith, ints) }
bounded t.Int = record { some = omega arith; small = omega arith; span = refl; least = omega (arith, ints); low = omega (arith, ints); most = omega (arith, ints); high = omega (arith, ints) }
bounded t.Dint = record { some = omega arith; small = omega arith; span = refl; least = omega (arith, ints); low = omega (arith, ints); most = omega (arith, ints); high = omega (arith, ints) }
bounded t.Lint = record { some = omega arith; small = omega arith; span = refl; least = omega (arith, ints); low = omega (arith, ints); most = omega (arith, ints); high = omega (arith, ints) }
bounded t.Usint = record { some = omega arith; small = omega arith; span = refl; least = omega (arith, ints); low = omega (arith, ints); most = omega (arith, ints); high = omega (arith, ints) }
bounded t.Uint = record { some = omega arith; small = omega arith; span = refl; least = omega (arith, ints); low = omega (arith, ints); most = omega (arith, ints); high = omega (arith, ints) }
bounded t.Udint = record { some = omega arith; small = omega arith; span = refl; least = omega (arith, ints); low = omega (arith, ints); most = omega (arith, ints); high = omega (arith, ints) }
bounded t.Time = record { some = omega arith; small = omega arith; span = refl; least = omega (arith, ints); low = omega (arith, ints); most = omega (arith, ints); high = omega (arith, ints) }

-- a test as a rewriting
pub lt_true : (a b : ℤ) → a <ℤ b → int_lt a b ≡ true
lt_true a b h = grind (arith, ints)

pub lt_false : (a b : ℤ) → b ≤ℤ a → int_lt a b ≡ false
lt_false a b h = grind (arith, ints)

pub le_true : (a b : ℤ) → a ≤ℤ b → int_le a b ≡ true
le_true a b h = grind (arith, ints)

pub le_false : (a b : ℤ) → b <ℤ a → int_le a b ≡ false
le_false a b h = grind (arith, ints)

pub le_is : (a b : ℤ) → int_le a b ≡ true → a ≤ℤ b
le_is a b h = by_lt_z b a (λ p. absurd (let e = le_false a b p in cc)) (λ p. p)

pub seated_above : (type : ElemType) (r : ℤ) → highest type <ℤ r → seated type r ≡ r -ℤ pos (size type)
seated_above type r h = rw (lt_true (highest type) r h)

pub seated_within : (type : ElemType) (r : ℤ) → r ≤ℤ highest type → seated type r ≡ r
seated_within type r h = rw (lt_false (highest type) r h)

pub wrapped_above : (type : ElemType) (z r : ℤ) → r ≡ int_rem_euclid z (pos (size type)) → highest type <ℤ r → wrapped type z ≡ r -ℤ pos (size type)
unfolding wrapped
wrapped_above type z r e h = rw (← e) (seated_above type r h)

pub wrapped_within : (type : ElemType) (z r : ℤ) → r ≡ int_rem_euclid z (pos (size type)) → r ≤ℤ highest type → wrapped type z ≡ r
unfolding wrapped
wrapped_within type z r e h = rw (← e) (seated_within type r h)

-- what the remainder of the type's size is
rest_below : (z : ℤ) (n : ℕ) → 0 < n → (pos 0 ≤ℤ int_rem_euclid z (pos n)) × (int_rem_euclid z (pos n) <ℤ pos n)
rest_below (pos a) n h = let m = mod-lt a h in (omega (arith, ints), omega (arith, ints))
rest_below (negsuc a) n h = let m = mod-lt a h in (omega (arith, ints), omega (arith, ints))

pub record Fitting (type : ElemType) (z : ℤ) : Type 0 where
  pub least : lowest type ≤ℤ z
  pub most : z ≤ℤ highest type

pub wrapped_fits : (type : ElemType) (z : ℤ) → Fitting type (wrapped type z)
wrapped_fits type z =
    let b = bounded type in
    let r = int_rem_euclid z (pos (size type)) in
    let m = rest_below z (size type) b.some in
    by_lt_z (highest type) r
    (λ p. let e = wrapped_above type z r refl p in record { least = omega (arith, ints); most = omega (arith, ints) })
    (λ p. let e = wrapped_within type z r refl p in record { least = omega (arith, ints); most = omega (arith, ints) })

pub wrapped_same : (type : ElemType) (z : ℤ) → lowest type ≤ℤ z → z ≤ℤ highest type → wrapped type z ≡ z
wrapped_same type (pos a) l h =
    let b = bounded type in
    let lt : a < size type = omega (arith, ints) in
    let e : pos a ≡ int_rem_euclid (pos a) (pos (size type)) = ap pos (sym (mod-eq_of_lt lt)) in
    wrapped_within type (pos a) (pos a) e h
wrapped_same type (negsuc a) l h =
    let b = bounded type in
    let lt : a < size type = omega (arith, ints) in
    let e : pos (size type - 1 - a) ≡ int_rem_euclid (negsuc a) (pos (size type)) = ap (λ k. pos (size type - 1 - k)) (sym (mod-eq_of_lt lt)) in
    let w = wrapped_above type (negsuc a) (pos (size type - 1 - a)) e (omega (arith, ints)) in
    omega (arith, ints)
