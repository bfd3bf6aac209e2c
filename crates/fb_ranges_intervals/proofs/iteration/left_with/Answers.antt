use Rattle.std.proofs.Common.{◌≡◌, ◌&&◌, true, false, to_z, of_z, w64, arith, sym, ap, ◌∙◌}
use Rattle.std.proofs.lemmas.Int.{ints}
use Rattle.fb_model.specs.Spans.{Span, joined}
use Rattle.fb_model.specs.Clear.{is_single, taken, may_skip}
use Rattle.fb_ranges_intervals.specs.Views.{span_of}
use Rattle.fb_ranges_intervals.proofs.Counting.{left_by}
use Rattle.fb_ranges_intervals.proofs.iteration.left_with.Goals as goal

pub returns-then-may_skip : goal.returns-then-may_skip
returns-then-may_skip c =
    let r = span_of c.args.first in
    let s = span_of c.args.last in
    let before = span_of c.args.before in
    let k : to_z w64 (of_z w64 c.args.step) ≡ c.args.step = omega (arith, ints) in
    let many : (is_single r && is_single s) ≡ false = sym c.are_known.ensures ∙ c.if-are_known.false in
    let skips : may_skip r s c.args.step ≡ true = ap (may_skip r s) (sym k) ∙ sym c.may_skip.ensures ∙ c.if-may_skip.true in
    let own : span_of c.taken-own.result ≡ taken r s c.args.step c.args.iterations = c.taken-own.ensures ∙ ap (λ z. taken r s z c.args.iterations) k in
    c.joined.ensures ∙ ap (λ (t : Span). joined t before) own ∙ sym (left_by r s c.args.step c.args.iterations true before many skips)
