use Rattle.std.proofs.Common.{◌≡◌, map, drop}
use Rattle.fb_find_demands.specs.Ends.{end_in}
use Rattle.fb_find_demands.proofs.channels.end.Given as goal

-- none of the first leaves names it
abbrev pub invariant-loop-leaf : goal.invariant-loop-leaf
invariant-loop-leaf l = end_in (map (λ x. x.now) (drop l.leaf-index l.leaves)) l.number ≡ end_in (map (λ x. x.now) l.leaves) l.number
