use Rattle.std.proofs.Common.{◌≡◌, map, drop, string_bytes}
use Rattle.fb_types_blocks.specs.Views.{names_of}
use Rattle.fb_check_rows.specs.Members.{gathered}
use Rattle.fb_check_rows.specs.Texts.{texts_in}
use Rattle.fb_check_rows.proofs.requirement.require_table.Given as goal

-- with the rows of the names that are left, all are there
abbrev pub invariant-loop-index : goal.invariant-loop-index
invariant-loop-index g l = gathered (names_of l.rows) (texts_in l.path (map (λ p. string_bytes p.0) (drop l.index l.table.entries))) ≡ gathered (names_of l.initial.rows) (texts_in l.path (map (λ p. string_bytes p.0) l.table.entries))
