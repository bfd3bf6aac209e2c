use Rattle.std.proofs.Common.{◌≡◌, to_z, of_z, w64, arith}
use Rattle.std.specs.Int.{w128}
use Rattle.std.proofs.lemmas.Int.{ints}
use Rattle.fb_ranges_intervals.proofs.result.products.Goals as goal

pub returns-clause-low : goal.returns-clause-low
returns-clause-low c =
    let a : to_z w64 (of_z w64 c.args.r.low) ≡ c.args.r.low = omega (arith, ints) in
    let b : to_z w64 (of_z w64 c.args.r.high) ≡ c.args.r.high = omega (arith, ints) in
    let x : to_z w64 (of_z w64 c.args.s.low) ≡ c.args.s.low = omega (arith, ints) in
    let y : to_z w64 (of_z w64 c.args.s.high) ≡ c.args.s.high = omega (arith, ints) in
    let p : to_z w128 (of_z w128 c.product.result) ≡ c.product.result = omega (arith, ints) in
    let p2 : to_z w128 (of_z w128 c.product-2.result) ≡ c.product-2.result = omega (arith, ints) in
    let p3 : to_z w128 (of_z w128 c.product-3.result) ≡ c.product-3.result = omega (arith, ints) in
    let p4 : to_z w128 (of_z w128 c.product-4.result) ≡ c.product-4.result = omega (arith, ints) in
    cc c.spread.ensures.low

pub returns-clause-high : goal.returns-clause-high
returns-clause-high c =
    let a : to_z w64 (of_z w64 c.args.r.low) ≡ c.args.r.low = omega (arith, ints) in
    let b : to_z w64 (of_z w64 c.args.r.high) ≡ c.args.r.high = omega (arith, ints) in
    let x : to_z w64 (of_z w64 c.args.s.low) ≡ c.args.s.low = omega (arith, ints) in
    let y : to_z w64 (of_z w64 c.args.s.high) ≡ c.args.s.high = omega (arith, ints) in
    let p : to_z w128 (of_z w128 c.product.result) ≡ c.product.result = omega (arith, ints) in
    let p2 : to_z w128 (of_z w128 c.product-2.result) ≡ c.product-2.result = omega (arith, ints) in
    let p3 : to_z w128 (of_z w128 c.product-3.result) ≡ c.product-3.result = omega (arith, ints) in
    let p4 : to_z w128 (of_z w128 c.product-4.result) ≡ c.product-4.result = omega (arith, ints) in
    cc c.spread.ensures.high
