use Rattle.std.proofs.Common.{◌≡◌, ◌+◌, map, drop, string_bytes}
use Rattle.fb_find_length.specs.Counting.{names_length}
use Rattle.fb_find_length.proofs.row.table.Given as goal

-- what is left, with the rows of all names, is the budget with those of the names that are left
abbrev pub invariant-loop-index : goal.invariant-loop-index
invariant-loop-index g l = l.left + names_length l.beside (map (λ p. string_bytes p.0) l.table.entries) ≡ l.initial.left + names_length l.beside (map (λ p. string_bytes p.0) (drop l.index l.table.entries))
