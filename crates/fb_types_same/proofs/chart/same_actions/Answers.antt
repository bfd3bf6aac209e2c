use Rattle.std.proofs.Common.{refl}
use Rattle.fb_types_blocks.specs.Views.{action_of}
use Rattle.fb_model_laws.proofs.Alike.{alike_next, alike_whole}
use Rattle.fb_types_same.proofs.chart.same_actions.Goals as goal

pub loop-at-init : goal.loop-at-init
loop-at-init c = refl

pub loop-at-preserved : goal.loop-at-preserved
loop-at-preserved c =
    alike_next action_of c.args.one.now c.args.other.now c.loop-at.at c.index-one-at.result c.index-other-at.result c.loop-at-test.true c.if-one-other.false c.index-one-at.is c.index-other-at.is c.loop-at.invariant (c.if-not-same_action.ensures refl)

pub returns : goal.returns
returns c t = alike_whole action_of c.args.one.now c.args.other.now c.loop-at.at c.loop-at-test.false c.if-one-other.false c.loop-at.invariant
