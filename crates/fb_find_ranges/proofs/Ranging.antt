-- A range that is that of a value is the smallest that holds its numbers.
use Rattle.std.proofs.Common.{◌≡◌, ◌↔◌, ℤ, pos, ◌+ℤ◌, true, List, [], ◌∷◌, ap₂, arith}
use Rattle.std.specs.List.{AllByRecursion}
use Rattle.std.proofs.lemmas.Int.{ints, clamps}
use Rattle.fb_model.specs.Values.{Value, numbers_of}
use Rattle.fb_model.specs.Spans.{Span, span, within}
use Rattle.fb_model.specs.Shapes.{IsIn}
use Rattle.fb_model.specs.FinderRanges.{held}
use Rattle.fb_model_laws.proofs.Spans.{Inside, inside_is, inside_within, held_holds}
use Rattle.fb_check_ranges.specs.Beginning.{IsRange}

-- what holds all numbers of a list holds their smallest range
held_least : (r : Span) (n : ℤ) (ns : List ℤ) → AllByRecursion (IsIn r) (n ∷ ns) → Inside (held (n ∷ ns)) r
held_least r n [] h = record { low = h.0.least; high = h.0.most }
held_least r n (m ∷ ns) h = let i = held_least r m ns h.1 in record { low = omega (arith, ints, clamps, i.low, h.0.least); high = omega (arith, ints, clamps, i.high, h.0.most) }

both_inside : (r s : Span) → Inside r s → Inside s r → r ≡ s
both_inside r s i j =
    let low : r.low ≡ s.low = omega (arith, ints, i.low, j.low) in
    let high : r.high ≡ s.high = omega (arith, ints, i.high, j.high) in
    ap₂ span low high

refl_inside : (r : Span) → Inside r r
refl_inside r = record { low = omega (arith, ints); high = omega (arith, ints) }

by_numbers : (s : Span) (ns : List ℤ) → ((r : Span) → (within s r ≡ true) ↔ AllByRecursion (IsIn r) ns) → s ≡ held ns
by_numbers s [] h =
    let i = inside_is s (span (s.low +ℤ pos 1) s.high) ((h (span (s.low +ℤ pos 1) s.high)).1 tt) in
    absurd (omega (arith, ints, i.low))
by_numbers s (n ∷ ns) h =
    both_inside s (held (n ∷ ns)) (inside_is s (held (n ∷ ns)) ((h (held (n ∷ ns))).1 (held_holds (n ∷ ns)))) (held_least s n ns ((h s).0 (inside_within s s (refl_inside s))))

pub range_is : (s : Span) (value : Value) → IsRange s value → s ≡ held (numbers_of value)
range_is s value h = by_numbers s (numbers_of value) h
