use Rattle.std.proofs.Common.{◌≡◌, ◌+◌, drop}
use Rattle.fb_find_laws.specs.Nodes.{rank_in}
use Rattle.fb_find_demands.proofs.numbered.rank.Given as goal

-- it does not stand among the first
abbrev pub invariant-loop-index : goal.invariant-loop-index
invariant-loop-index l = l.index + rank_in (drop l.index l.numbers) l.number ≡ rank_in l.numbers l.number
