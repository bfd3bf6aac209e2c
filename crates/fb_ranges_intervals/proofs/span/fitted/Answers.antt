use Rattle.std.proofs.Common.{◌≡◌, ◌≤ℤ◌, to_z, of_z, w64, arith, sym}
use Rattle.std.specs.Int.{w128}
use Rattle.std.proofs.lemmas.Int.{ints}
use Rattle.fb_model.specs.Values.{lowest, highest}
use Rattle.fb_ranges_intervals.proofs.Spans.{fitted_yes}
use Rattle.fb_ranges_intervals.proofs.span.fitted.Goals as goal

pub returns : goal.returns
returns c =
    let h : lowest c.args.of ≤ℤ c.args.w.low = omega (arith, ints) in
    let k : c.args.w.high ≤ℤ highest c.args.of = omega (arith, ints) in
    let a : to_z w64 (of_z w64 (to_z w128 (of_z w128 c.args.w.low))) ≡ c.args.w.low = omega (arith, ints) in
    let b : to_z w64 (of_z w64 (to_z w128 (of_z w128 c.args.w.high))) ≡ c.args.w.high = omega (arith, ints) in
    rw (a, b) (sym (fitted_yes c.args.of c.args.w.low c.args.w.high h k))
