use Rattle.std.proofs.Common.{◌≡◌, map, take}
use Rattle.fb_find_demands.specs.Shown.{shown_node, sought}
use Rattle.fb_find_demands.proofs.walk_numbers.numbers_of.Given as goal

-- the first places have their numbers
abbrev pub invariant-loop-place : goal.invariant-loop-place
invariant-loop-place l = l.numbers.items ≡ map (λ p. sought l.fn.numbering (shown_node p)) (take l.place-index l.places)
