use Rattle.std.proofs.Common.{map, drop}
use Rattle.fb_tree.specs.Files as tree
use Rattle.st_types.specs.Views.{entries}
use Rattle.fb_types_blocks.specs.Answers.{names_in_map}
use Rattle.fb_types_blocks.specs.Views.{transition_of}
use Rattle.fb_types_blocks.proofs.Charts.{TransitionsLeft}
use Rattle.fb_types_blocks.proofs.chart.transitions.Given as goal

-- the transitions so far are typed, with those that are left
abbrev pub invariant-loop-source : goal.invariant-loop-source
invariant-loop-source l = TransitionsLeft (entries l.scope) (names_in_map l.states) (names_in_map l.inputs) (map tree.transition_of l.sources) (map transition_of l.transitions.items) (map tree.transition_of (drop l.source-index l.sources))
