use Rattle.std.proofs.Common.{◌≡◌, ◌+◌, map, drop}
use Rattle.fb_find_length.specs.Counting.{names_length}
use Rattle.fb_find_length.proofs.row.names.Given as goal

-- what is left, with the rows of all names, is the budget with those of the names that are left
abbrev pub invariant-loop-name : goal.invariant-loop-name
invariant-loop-name l = l.left + names_length l.beside (map (λ n. n.now) l.names) ≡ l.initial.left + names_length l.beside (map (λ n. n.now) (drop l.name-index l.names))
