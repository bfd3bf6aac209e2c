use Rattle.std.proofs.Common.{refl}
use Rattle.fb_model_laws.proofs.Alike.{alike_next, alike_whole}
use Rattle.fb_find_ranges.specs.Views.{line_of}
use Rattle.fb_find_ranges.proofs.alike.alike_rows.Goals as goal

pub loop-at-init : goal.loop-at-init
loop-at-init c = refl

pub loop-at-preserved : goal.loop-at-preserved
loop-at-preserved c =
    let x = c.index-some-at.result in
    let y = c.index-others-at.result in
    alike_next line_of c.args.some.now c.args.others.now c.loop-at.at x y c.loop-at-test.true c.if-some-others.false c.index-some-at.is c.index-others-at.is c.loop-at.invariant (c.if-not-alike_row.ensures refl)

pub returns : goal.returns
returns c t = alike_whole line_of c.args.some.now c.args.others.now c.loop-at.at c.loop-at-test.false c.if-some-others.false c.loop-at.invariant
