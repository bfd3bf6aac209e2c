use Rattle.std.proofs.Common.{◌≡◌, to_z, of_z, arith, ap₂, ◌∙◌}
use Rattle.std.specs.Int.{w128, int_min, int_max}
use Rattle.std.proofs.lemmas.Int.{ints, clamps}
use Rattle.fb_model.specs.Spans.{span}
use Rattle.fb_model.specs.Clear.{cut}
use Rattle.fb_ranges_intervals.specs.Views.{span_of}
use Rattle.fb_ranges_intervals.proofs.cut.just.Goals as goal

pub returns : goal.returns
returns c =
    let a : to_z w128 (of_z w128 c.from.result) ≡ int_max c.args.r.low c.args.number = omega (arith, ints, clamps) in
    let b : to_z w128 (of_z w128 c.from-2.result) ≡ int_min c.args.r.high c.args.number = omega (arith, ints, clamps) in
    c.cut.ensures ∙ ap₂ (λ x y. cut (span x y) (span_of c.args.r)) a b
