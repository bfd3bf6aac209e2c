use Rattle.std.proofs.Common.{refl, string_bytes}
use Rattle.fb_model_laws.proofs.Alike.{alike_next, alike_whole, names_alike}
use Rattle.fb_types_same.proofs.names.same_names.Goals as goal

pub loop-at-init : goal.loop-at-init
loop-at-init c = refl

pub loop-at-preserved : goal.loop-at-preserved
loop-at-preserved c =
    let x = c.index-one-at.result in
    let y = c.index-other-at.result in
    alike_next string_bytes c.args.one.now c.args.other.now c.loop-at.at x y c.loop-at-test.true c.if-one-other.false c.index-one-at.is c.index-other-at.is c.loop-at.invariant (names_alike x y c.if-ne.ensures)

pub returns : goal.returns
returns c t = alike_whole string_bytes c.args.one.now c.args.other.now c.loop-at.at c.loop-at-test.false c.if-one-other.false c.loop-at.invariant
