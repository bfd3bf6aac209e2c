use Rattle.std.proofs.Common.{◌≡◌, ◌++◌, drop}
use Rattle.std.specs.List.{flat_map}
use Rattle.fb_find_demands.specs.Rights.{rights_of}
use Rattle.fb_turns.specs.Counting.{chain_rights}
use Rattle.fb_turns.proofs.demand.chain_demands.Given as goal

-- what is there, and what comes of the demands that are left, is the whole
abbrev pub invariant-loop-right : goal.invariant-loop-right
invariant-loop-right l = rights_of l.rights.items ++ flat_map (chain_rights l.states) (rights_of (drop l.right-index l.asked)) ≡ flat_map (chain_rights l.states) (rights_of l.asked)
