use Rattle.std.proofs.Common.{◌≡◌, ◌-◌, pos, to_z, of_z, arith}
use Rattle.std.specs.Int.{w128}
use Rattle.std.proofs.lemmas.Int.{ints}
use Rattle.fb_ranges_intervals.proofs.Counting.{last_is}
use Rattle.fb_ranges_intervals.proofs.iteration.last_value.Goals as goal

pub overflow_cast-result : goal.overflow_cast-result
overflow_cast-result c =
    let e = last_is c.args.first c.args.step c.args.iterations c.requires.some in
    let p : to_z w128 (of_z w128 c.from-2.result) ≡ pos (c.args.iterations - 1) = omega (arith, ints) in
    let q : to_z w128 (of_z w128 c.from-3.result) ≡ c.args.step = omega (arith, ints) in
    let f : to_z w128 (of_z w128 c.from.result) ≡ c.args.first = omega (arith, ints) in
    rw (p, q, f) (omega (arith, ints, e))

pub returns : goal.returns
returns c =
    let e = last_is c.args.first c.args.step c.args.iterations c.requires.some in
    let p : to_z w128 (of_z w128 c.from-2.result) ≡ pos (c.args.iterations - 1) = omega (arith, ints) in
    let q : to_z w128 (of_z w128 c.from-3.result) ≡ c.args.step = omega (arith, ints) in
    let f : to_z w128 (of_z w128 c.from.result) ≡ c.args.first = omega (arith, ints) in
    rw (p, q, f) (omega (arith, ints, e))
