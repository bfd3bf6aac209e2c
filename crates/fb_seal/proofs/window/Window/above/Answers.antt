use Rattle.fb_seal.proofs.Windows.{all_above}
use Rattle.fb_seal.proofs.window.Window.above.Goals as goal

pub returns : goal.returns
returns c = all_above c.args.counter
