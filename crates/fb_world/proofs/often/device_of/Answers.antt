use Rattle.std.proofs.Common.{sym, arith}
use Rattle.fb_world.proofs.Seldom.{counted}
use Rattle.fb_world.proofs.often.device_of.Goals as goal

pub returns-in-None : goal.returns-in-None
returns-in-None c = counted c.args.most c.args.root c.args.sent.now c.first_above.result (omega (arith, c.if-sent-root.false)) (sym c.in-None.ensures.stamp) c.first_above.ensures
