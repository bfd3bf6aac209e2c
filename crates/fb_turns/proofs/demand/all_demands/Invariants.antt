use Rattle.std.proofs.Common.{◌≡◌, ◌++◌, map, drop}
use Rattle.fb_find_demands.specs.Rights.{rights_of}
use Rattle.fb_turns.specs.Counting.{all_right}
use Rattle.fb_turns.proofs.demand.all_demands.Given as goal

-- what is there, and what comes of the demands that are left, is the whole
abbrev pub invariant-loop-right : goal.invariant-loop-right
invariant-loop-right l = rights_of l.rights.items ++ map (all_right l.states) (rights_of (drop l.right-index l.asked)) ≡ map (all_right l.states) (rights_of l.asked)
