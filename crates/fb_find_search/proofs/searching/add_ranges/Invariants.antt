use Rattle.std.proofs.Common.{◌≡◌, true}
use Rattle.fb_model.specs.Names.{is_in}
use Rattle.fb_types_blocks.specs.Views.{names_of}
use Rattle.fb_cert.specs.Views.{rows_of}
use Rattle.fb_find_search.specs.Searching.{AreFirstOf}
use Rattle.fb_find_search.proofs.searching.add_ranges.Given as goal

-- the rows that there were stand first, and the others are of these paths
abbrev pub invariant-loop-index : goal.invariant-loop-index
invariant-loop-index l = AreFirstOf (λ path. is_in path (names_of l.paths) ≡ true) (rows_of l.initial.rows) (rows_of l.rows)
