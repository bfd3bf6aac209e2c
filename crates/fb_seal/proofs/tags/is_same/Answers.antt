use Rattle.std.proofs.Common.{arith, refl}
use Rattle.fb_seal.proofs.Padding.{same_more, same_all}
use Rattle.fb_seal.proofs.tags.is_same.Goals as goal

pub loop-i-preserved : goal.loop-i-preserved
loop-i-preserved c = same_more c.loop-i.difference _ c.loop-i.i c.args.one.now c.args.other.now (omega arith) (omega arith) refl c.loop-i.invariant

pub returns : goal.returns
returns c = same_all c.loop-i.difference c.loop-i.i c.args.one.now c.args.other.now (omega arith) (omega arith) c.loop-i.invariant
