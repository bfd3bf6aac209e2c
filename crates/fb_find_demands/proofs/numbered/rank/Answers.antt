use Rattle.std.proofs.Common.{sym, ◌∙◌}
use Rattle.fb_find_demands.proofs.Ranks.{rank_here, rank_later, rank_past}
use Rattle.fb_find_demands.proofs.numbered.rank.Goals as goal

pub returns-then-is_at : goal.returns-then-is_at
returns-then-is_at c = rank_here c.args.numbers.now c.loop-index.index c.args.number c.loop-index-test.true (sym c.is_at.ensures ∙ c.if-is_at.true) c.loop-index.invariant

pub loop-index-preserved : goal.loop-index-preserved
loop-index-preserved c = rank_later c.args.numbers.now c.loop-index.index c.args.number c.loop-index-test.true (sym c.is_at.ensures ∙ c.if-is_at.false) c.loop-index.invariant

pub returns : goal.returns
returns c = rank_past c.args.numbers.now c.loop-index.index c.args.number c.loop-index-test.false c.loop-index.invariant
