use Rattle.std.proofs.Common.{ℤ, pos, slice_index_or, refl, sym, ◌∙◌, arith}
use Rattle.std.proofs.lemmas.List.{map-id}
use Rattle.std.proofs.lemmas.Option.{slice_get-get_or}
use Rattle.fb_model_laws.proofs.Alike.{alike_more, alike_whole}
use Rattle.fb_types_same.proofs.names.same_labels.Goals as goal

pub loop-at-init : goal.loop-at-init
loop-at-init c = refl

pub loop-at-preserved : goal.loop-at-preserved
loop-at-preserved c =
    let none : ℤ × ℤ = (pos 0, pos 0) in
    alike_more (λ x. x) c.args.one.now c.args.other.now c.loop-at.at (slice_index_or c.args.one.now c.loop-at.at none) (slice_index_or c.args.other.now c.loop-at.at none)
    (sym (slice_get-get_or c.args.one.now c.loop-at.at none c.loop-at-test.true)) (sym (slice_get-get_or c.args.other.now c.loop-at.at none (omega (arith, c.loop-at-test.true, c.if-one-other.false)))) c.if-one-other.false c.loop-at.invariant (c.if-not-same_label.ensures refl)

pub returns : goal.returns
returns c t = sym (map-id c.args.one.now) ∙ alike_whole (λ x. x) c.args.one.now c.args.other.now c.loop-at.at c.loop-at-test.false c.if-one-other.false c.loop-at.invariant ∙ map-id c.args.other.now
