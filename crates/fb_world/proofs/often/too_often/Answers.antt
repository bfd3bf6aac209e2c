use Rattle.std.proofs.Common.{length, refl}
use Rattle.std.proofs.lemmas.Option.{slice_get_read}
use Rattle.fb_world_course.specs.Scenes.{datagram_of}
use Rattle.fb_world.proofs.Seldom.{numbered_so, further}
use Rattle.fb_world.proofs.often.too_often.Goals as goal

pub returns-in-Some : goal.returns-in-Some
returns-in-Some c =
    let there = slice_get_read c.args.datagrams.now (length c.args.datagrams.now) c.loop-at.at c.index-datagrams-at.result refl c.loop-at-test.true c.index-datagrams-at.is in
    record { root_is = refl; datagram = datagram_of c.index-datagrams-at.result; numbered = numbered_so c.args.datagrams.now c.loop-at.at c.index-datagrams-at.result there; often = c.in-Some.ensures }

pub loop-at-preserved : goal.loop-at-preserved
loop-at-preserved c = λ h.
    let there = slice_get_read c.args.datagrams.now (length c.args.datagrams.now) c.loop-at.at c.index-datagrams-at.result refl c.loop-at-test.true c.index-datagrams-at.is in
    c.loop-at.invariant (further c.args.most c.args.root c.args.datagrams.now c.loop-at.at c.index-datagrams-at.result there c.in-None.ensures h)
