use Rattle.std.proofs.Common.{◌+◌, length, refl, arith}
use Rattle.std.proofs.lemmas.Option.{slice_get_read}
use Rattle.fb_world.proofs.Seldom.{is_next, none_between, none_of_fewer, with_next}
use Rattle.fb_world.proofs.often.next_too_often.Goals as goal

pub loop-at-init : goal.loop-at-init
loop-at-init c = (omega arith, none_between c.args.most c.args.behind c.args.datagrams.now)

pub returns-in-Some : goal.returns-in-Some
returns-in-Some c =
    let there = slice_get_read c.args.datagrams.now (length c.args.datagrams.now) c.loop-at.at c.index-datagrams-at.result refl c.loop-at-test.true c.index-datagrams-at.is in
    is_next c.args.most c.args.behind c.loop-at.at c.in-Some.device c.args.datagrams.now c.index-datagrams-at.result there c.loop-at.invariant.0 c.loop-at.invariant.1 c.in-Some.ensures

pub loop-at-preserved : goal.loop-at-preserved
loop-at-preserved c =
    let there = slice_get_read c.args.datagrams.now (length c.args.datagrams.now) c.loop-at.at c.index-datagrams-at.result refl c.loop-at-test.true c.index-datagrams-at.is in
    let before = c.loop-at.invariant.0 in
    (omega (arith, before), with_next c.args.most c.args.behind c.loop-at.at c.args.datagrams.now c.index-datagrams-at.result there c.in-None.ensures c.loop-at.invariant.1)

pub returns : goal.returns
returns c =
    let past = c.loop-at-test.false in
    none_of_fewer c.args.most c.args.behind (c.loop-at.at + 1) (length c.args.datagrams.now + 1) c.args.datagrams.now (omega (arith, past)) c.loop-at.invariant.1
