use Rattle.std.proofs.Common.{arith}
use Rattle.fb_keys.proofs.Words.{too_few}
use Rattle.fb_keys.proofs.line.read_peer.Goals as goal

pub returns-in_default : goal.returns-in_default
returns-in_default c = too_few c.args.words.now (omega arith)
