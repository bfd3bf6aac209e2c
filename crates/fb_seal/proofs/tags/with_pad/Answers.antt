use Rattle.std.proofs.Common.{arith}
use Rattle.fb_seal.proofs.Padding.{pad_more}
use Rattle.fb_seal.proofs.tags.with_pad.Goals as goal

pub loop-i-preserved : goal.loop-i-preserved
loop-i-preserved c = pad_more c.args.pad c.loop-i.i c.args.key.now c.loop-i.bytes (omega arith) c.loop-i.invariant
