use Rattle.std.proofs.Common.{refl}
use Rattle.st_types.specs.Views.{tail_of}
use Rattle.fb_model_laws.proofs.Alike.{alike_next, alike_whole}
use Rattle.fb_types_same.proofs.term.+terms.Goals as goal

pub same_links-loop-at-init : goal.same_links-loop-at-init
same_links-loop-at-init t c = refl

pub same_links-loop-at-preserved : goal.same_links-loop-at-preserved
same_links-loop-at-preserved t c =
    alike_next tail_of c.args.one.now c.args.other.now c.loop-at.at c.index-one-at.result c.index-other-at.result c.loop-at-test.true c.if-one-other.false c.index-one-at.is c.index-other-at.is c.loop-at.invariant (c.if-not-same_link.ensures refl)

pub same_links-returns : goal.same_links-returns
same_links-returns t c u = alike_whole tail_of c.args.one.now c.args.other.now c.loop-at.at c.loop-at-test.false c.if-one-other.false c.loop-at.invariant
