use Rattle.std.proofs.Common.{◌≡◌, map, drop}
use Rattle.fb_types_blocks.specs.Views.{names_of}
use Rattle.fb_check_rows.specs.Members.{gathered}
use Rattle.fb_check_rows.specs.Texts.{texts_in}
use Rattle.fb_check_rows.proofs.requirement.require_names.Given as goal

-- with the rows of the names that are left, all are there
abbrev pub invariant-loop-name : goal.invariant-loop-name
invariant-loop-name l = gathered (names_of l.rows) (texts_in l.path (map (λ n. n.now) (drop l.name-index l.names))) ≡ gathered (names_of l.initial.rows) (texts_in l.path (map (λ n. n.now) l.names))
