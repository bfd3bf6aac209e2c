use Rattle.std.proofs.Common.{◌≡◌, pos, ◌+ℤ◌, ◌-ℤ◌, ◌&&◌, int_le, to_z, of_z, w64, arith, ap₂, ◌∙◌}
use Rattle.std.specs.Int.{w128}
use Rattle.std.specs.Prelude.{if◌then◌else◌}
use Rattle.std.proofs.lemmas.Int.{ints}
use Rattle.fb_model.specs.Spans.{span}
use Rattle.fb_model.specs.Clear.{cut}
use Rattle.fb_ranges_intervals.specs.Views.{span_of}
use Rattle.fb_ranges_intervals.proofs.cut.without.Goals as goal

pub returns : goal.returns
returns c =
    let a : to_z w128 (of_z w128 c.low_without.result) ≡ c.low_without.result = omega (arith, ints) in
    let b : to_z w128 (of_z w128 c.high_without.result) ≡ c.high_without.result = omega (arith, ints) in
    let k : to_z w64 (of_z w64 c.args.number) ≡ c.args.number = omega (arith, ints) in
    let l : to_z w64 (of_z w64 c.args.r.low) ≡ c.args.r.low = omega (arith, ints) in
    let h : to_z w64 (of_z w64 c.args.r.high) ≡ c.args.r.high = omega (arith, ints) in
    let e = c.low_without.ensures.value ∙ ap₂ (λ x y. if int_le x y && int_le y x then x +ℤ pos 1 else x) l k in
    let f = c.high_without.ensures.value ∙ ap₂ (λ x y. if int_le x y && int_le y x then x -ℤ pos 1 else x) h k in
    c.cut.ensures ∙ ap₂ (λ x y. cut (span x y) (span_of c.args.r)) (a ∙ e) (b ∙ f)
