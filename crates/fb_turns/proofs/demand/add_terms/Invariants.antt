use Rattle.std.proofs.Common.{◌≡◌, ◌++◌, map, drop}
use Rattle.fb_find_demands.specs.Rights.{rights_of}
use Rattle.fb_turns.specs.Counting.{term_right}
use Rattle.fb_turns.proofs.demand.add_terms.Given as goal

-- what is there, and what comes of the terms that are left, is the whole
abbrev pub invariant-loop-term : goal.invariant-loop-term
invariant-loop-term l =
    rights_of l.rights.items ++ map (term_right l.states l.right.node) (drop l.term-index l.term-items) ≡ rights_of l.initial.rights.items ++ map (term_right l.states l.right.node) l.term-items
