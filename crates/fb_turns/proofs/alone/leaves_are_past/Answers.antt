use Rattle.std.proofs.Common.{sym}
use Rattle.fb_turns.proofs.Resources.{not_both}
use Rattle.fb_turns.proofs.alone.leaves_are_past.Goals as goal

pub returns-then-not-is_past-clause-one : goal.returns-then-not-is_past-clause-one
returns-then-not-is_past-clause-one c = λ e. (
  c.loop-leaf.leaf-index,
  c.leaf-item.result,
  c.loop-leaf-test.true,
  sym c.leaf-item.is,
  λ leaf is p. not_both c.in_ok-is_past.is_past c.if-not-is_past.true ((c.in_ok-is_past.ensures leaf is).1 p),
)
