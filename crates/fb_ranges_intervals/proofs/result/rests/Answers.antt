use Rattle.std.proofs.Common.{◌≡◌, ◌-◌, ◌-ℤ◌, max, pos, unsigned_abs, neg_ℤ, to_z, of_z, arith}
use Rattle.std.specs.Int.{w128, int_min, int_max}
use Rattle.std.proofs.lemmas.Int.{ints}
use Rattle.fb_ranges_intervals.proofs.result.rests.Goals as goal

pub returns-clause-low : goal.returns-clause-low
returns-clause-low c =
    let a : to_z w128 (of_z w128 c.size_of_rests-most.result) ≡ pos (max (unsigned_abs c.args.s.low) (unsigned_abs c.args.s.high) - 1) = omega (arith, ints) in
    let n : to_z w128 (of_z w128 (pos 0 -ℤ to_z w128 (of_z w128 c.from.result))) ≡ neg_ℤ c.args.r.low = omega (arith, ints) in
    let v : c.clamped.result ≡ int_min (pos (max (unsigned_abs c.args.s.low) (unsigned_abs c.args.s.high) - 1)) (int_max (pos 0) (neg_ℤ c.args.r.low)) = cc c.clamped.ensures.value in
    rw (← v) (omega (arith, ints))

pub returns-clause-high : goal.returns-clause-high
returns-clause-high c =
    let a : to_z w128 (of_z w128 c.size_of_rests-most.result) ≡ pos (max (unsigned_abs c.args.s.low) (unsigned_abs c.args.s.high) - 1) = omega (arith, ints) in
    let n : to_z w128 (of_z w128 c.from-2.result) ≡ c.args.r.high = omega (arith, ints) in
    let v : c.clamped-2.result ≡ int_min (pos (max (unsigned_abs c.args.s.low) (unsigned_abs c.args.s.high) - 1)) (int_max (pos 0) c.args.r.high) = cc c.clamped-2.ensures.value in
    rw (← v) (omega (arith, ints))
