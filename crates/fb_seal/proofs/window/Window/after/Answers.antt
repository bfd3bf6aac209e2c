use Rattle.std.proofs.Common.{arith}
use Rattle.fb_seal.proofs.Windows.{after_above, after_below}
use Rattle.fb_seal.proofs.window.Window.after.Goals as goal

pub returns-then-counter-self : goal.returns-then-counter-self
returns-then-counter-self c =
    after_above c.args.self.now c.args.counter c.shifted.result (omega arith) c.shifted.ensures.first c.shifted.ensures.between c.shifted.ensures.others

pub returns-else-counter-self : goal.returns-else-counter-self
returns-else-counter-self c = after_below c.args.self.now c.args.counter (omega arith) c.requires
