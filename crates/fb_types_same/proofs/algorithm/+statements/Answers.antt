use Rattle.std.proofs.Common.{refl}
use Rattle.st_types.specs.CommandViews.{command_of, choice_of, case_of}
use Rattle.fb_model_laws.proofs.Alike.{alike_next, alike_whole}
use Rattle.fb_types_same.proofs.algorithm.+statements.Goals as goal

pub same_arms-loop-at-init : goal.same_arms-loop-at-init
same_arms-loop-at-init t c = refl

pub same_arms-loop-at-preserved : goal.same_arms-loop-at-preserved
same_arms-loop-at-preserved t c =
    alike_next case_of c.args.one.now c.args.other.now c.loop-at.at c.index-one-at.result c.index-other-at.result c.loop-at-test.true c.if-one-other.false c.index-one-at.is c.index-other-at.is c.loop-at.invariant (c.if-not-same_arm.ensures refl)

pub same_arms-returns : goal.same_arms-returns
same_arms-returns t c u = alike_whole case_of c.args.one.now c.args.other.now c.loop-at.at c.loop-at-test.false c.if-one-other.false c.loop-at.invariant

pub same_branches-loop-at-init : goal.same_branches-loop-at-init
same_branches-loop-at-init t c = refl

pub same_branches-loop-at-preserved : goal.same_branches-loop-at-preserved
same_branches-loop-at-preserved t c =
    alike_next choice_of c.args.one.now c.args.other.now c.loop-at.at c.index-one-at.result c.index-other-at.result c.loop-at-test.true c.if-one-other.false c.index-one-at.is c.index-other-at.is c.loop-at.invariant (c.if-not-same_branch.ensures refl)

pub same_branches-returns : goal.same_branches-returns
same_branches-returns t c u = alike_whole choice_of c.args.one.now c.args.other.now c.loop-at.at c.loop-at-test.false c.if-one-other.false c.loop-at.invariant

pub same_statements-loop-at-init : goal.same_statements-loop-at-init
same_statements-loop-at-init t c = refl

pub same_statements-loop-at-preserved : goal.same_statements-loop-at-preserved
same_statements-loop-at-preserved t c =
    alike_next command_of c.args.one.now c.args.other.now c.loop-at.at c.index-one-at.result c.index-other-at.result c.loop-at-test.true c.if-one-other.false c.index-one-at.is c.index-other-at.is c.loop-at.invariant (c.if-not-same_statement.ensures refl)

pub same_statements-returns : goal.same_statements-returns
same_statements-returns t c u = alike_whole command_of c.args.one.now c.args.other.now c.loop-at.at c.loop-at-test.false c.if-one-other.false c.loop-at.invariant
