-- Widened rows.
use Rattle.std.proofs.Common.{ℕ, ◌≡◌, ℤ, ◌≤ℤ◌, ◌<ℤ◌, int_lt, int_le, Bool, true, false, ◌&&◌, List, [], ◌∷◌, refl, ap, subst, arith, nat_lt, if◌then◌else◌}
use Rattle.std.specs.Int.{int_min, int_max}
use Rattle.std.specs.List.{AllByRecursion}
use Rattle.std.proofs.lemmas.Int.{ints, clamps, by_lt_z}
use Rattle.fb_words.specs.declared.elem_type.ElemType.{ElemType}
use Rattle.fb_words.proofs.Types.{bounded, lt_true, lt_false, le_true, le_is}
use Rattle.fb_model.specs.Values.{lowest, highest}
use Rattle.fb_model.specs.Spans.{Span, span, within, joined, whole}
use Rattle.fb_model.specs.Shapes.{IsIn}
use Rattle.fb_model.specs.FinderRanges.{held, widened}

-- a range within another, by its ends
pub record Inside (r s : Span) : Type 0 where
  pub low : s.low ≤ℤ r.low
  pub high : r.high ≤ℤ s.high

both : (a b : Bool) → (a && b) ≡ true → (a ≡ true) × (b ≡ true)
both true true e = (refl, refl)
both true false e = absurd cc
both false b e = absurd cc

pub inside_is : (r s : Span) → within r s ≡ true → Inside r s
inside_is r s e = let p = both (int_le s.low r.low) (int_le r.high s.high) e in record { low = le_is s.low r.low p.0; high = le_is r.high s.high p.1 }

pub inside_within : (r s : Span) → Inside r s → within r s ≡ true
inside_within r s i = rw (le_true s.low r.low i.low, le_true r.high s.high i.high) refl

pub in_more : (r s : Span) (ns : List ℤ) → Inside r s → AllByRecursion (IsIn r) ns → AllByRecursion (IsIn s) ns
in_more r s [] i h = tt
in_more r s (n ∷ ns) i h = (record { least = omega (arith, ints, i.low, h.0.least); most = omega (arith, ints, i.high, h.0.most) }, in_more r s ns i h.1)

-- ---- at first

pub held_holds : (ns : List ℤ) → AllByRecursion (IsIn (held ns)) ns
held_holds [] = tt
held_holds (n ∷ []) = (record { least = omega (arith, ints); most = omega (arith, ints) }, tt)
held_holds (n ∷ m ∷ ns) =
    let r = held (m ∷ ns) in
    let more : Inside r (joined (span n n) r) = record { low = omega (arith, ints, clamps); high = omega (arith, ints, clamps) } in
    (record { least = omega (arith, ints, clamps); most = omega (arith, ints, clamps) }, in_more r (joined (span n n) r) (m ∷ ns) more (held_holds (m ∷ ns)))

pub held_typed : (a : ElemType) (ns : List ℤ) → AllByRecursion (IsIn (whole a)) ns → Inside (held ns) (whole a)
held_typed a [] h = let b = bounded a in record { low = b.low; high = b.high }
held_typed a (n ∷ []) h = record { low = h.0.least; high = h.0.most }
held_typed a (n ∷ m ∷ ns) h = let i = held_typed a (m ∷ ns) h.1 in record { low = omega (arith, ints, clamps, i.low, h.0.least); high = omega (arith, ints, clamps, i.high, h.0.most) }

-- ---- widened

-- an end that may have been widened lies between its type's end and itself
record Lowered (a : ElemType) (old new : ℤ) : Type 0 where
  least : lowest a ≤ℤ new
  most : new ≤ℤ old

record Raised (a : ElemType) (old new : ℤ) : Type 0 where
  least : old ≤ℤ new
  most : new ≤ℤ highest a

lowered : (a : ElemType) (old r : ℤ) (grows far : Bool) → int_lt r old ≡ grows → lowest a ≤ℤ old → Lowered a old (if grows then (if far then lowest a else int_max (lowest a) r) else old)
lowered a old r true true e l = record { least = omega (arith, ints); most = l }
lowered a old r true false e l = let s : r <ℤ old = by_lt_z r old (λ p. p) (λ p. absurd (let q = lt_false r old p in cc)) in record { least = omega (arith, ints, clamps); most = omega (arith, ints, clamps) }
lowered a old r false far e l = record { least = l; most = omega (arith, ints) }

raised : (a : ElemType) (old r : ℤ) (grows far : Bool) → int_lt old r ≡ grows → old ≤ℤ highest a → Raised a old (if grows then (if far then highest a else int_min (highest a) r) else old)
raised a old r true true e l = record { least = l; most = omega (arith, ints) }
raised a old r true false e l = let s : old <ℤ r = by_lt_z old r (λ p. p) (λ p. absurd (let q = lt_false old r p in cc)) in record { least = omega (arith, ints, clamps); most = omega (arith, ints, clamps) }
raised a old r false far e l = record { least = omega (arith, ints); most = l }

-- a widened row stays in its type
pub widened_typed : (n : ℕ) (a : ElemType) (old r : Span) → Inside old (whole a) → Inside (widened n a old r) (whole a)
widened_typed n a old r i =
    let l = lowered a old.low r.low (int_lt r.low old.low) (nat_lt 64 n) refl i.low in
    let h = raised a old.high r.high (int_lt old.high r.high) (nat_lt 64 n) refl i.high in
    record { low = l.least; high = h.most }

-- and holds the one before
pub widened_more : (n : ℕ) (a : ElemType) (old r : Span) → Inside old (whole a) → Inside old (widened n a old r)
widened_more n a old r i =
    let l = lowered a old.low r.low (int_lt r.low old.low) (nat_lt 64 n) refl i.low in
    let h = raised a old.high r.high (int_lt old.high r.high) (nat_lt 64 n) refl i.high in
    record { low = l.most; high = h.least }

-- ---- nothing grows

-- where a low end stays, nothing that is asked for and lies in the type is lower
low_stays : (a : ElemType) (old r s : ℤ) (grows far : Bool) → int_lt r old ≡ grows → (if grows then (if far then lowest a else int_max (lowest a) r) else old) ≡ old → lowest a ≤ℤ s → r ≤ℤ s → old ≤ℤ s
low_stays a old r s true true g e t l = subst (λ z. z ≤ℤ s) e t
low_stays a old r s true false g e t l = subst (λ z. z ≤ℤ s) e (omega (arith, ints, clamps))
low_stays a old r s false far g e t l = let p : old ≤ℤ r = by_lt_z r old (λ q. absurd (let k = lt_true r old q in cc)) (λ q. q) in omega (arith, ints)

high_stays : (a : ElemType) (old r s : ℤ) (grows far : Bool) → int_lt old r ≡ grows → (if grows then (if far then highest a else int_min (highest a) r) else old) ≡ old → s ≤ℤ highest a → s ≤ℤ r → s ≤ℤ old
high_stays a old r s true true g e t l = subst (λ z. s ≤ℤ z) e t
high_stays a old r s true false g e t l = subst (λ z. s ≤ℤ z) e (omega (arith, ints, clamps))
high_stays a old r s false far g e t l = let p : r ≤ℤ old = by_lt_z old r (λ q. absurd (let k = lt_true old r q in cc)) (λ q. q) in omega (arith, ints)

-- a row that stays holds all that is asked and lies in the type
pub stays_holds : (n : ℕ) (a : ElemType) (old r s : Span) → widened n a old r ≡ old → Inside s (whole a) → Inside s r → Inside s old
stays_holds n a old r s e t i = record {
  low = low_stays a old.low r.low s.low (int_lt r.low old.low) (nat_lt 64 n) refl (ap (λ w. w.low) e) t.low i.low;
  high = high_stays a old.high r.high s.high (int_lt old.high r.high) (nat_lt 64 n) refl (ap (λ w. w.high) e) t.high i.high;
}
