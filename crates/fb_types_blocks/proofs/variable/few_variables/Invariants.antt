use Rattle.std.proofs.Common.{◌≡◌, ◌+◌, map, drop, length}
use Rattle.std.specs.Prelude.{slice_get}
use Rattle.fb_model.specs.BlockTyping.{words_in}
use Rattle.fb_tree.specs.Files as tree
use Rattle.fb_types_blocks.proofs.variable.few_variables.Given as goal

-- what is left of the names stands against what is left of the number
abbrev pub invariant-loop-source : goal.invariant-loop-source
invariant-loop-source l =
    let rest = words_in (map tree.variable_of (drop l.source-index l.sources)) in
    let all = words_in (map tree.variable_of l.sources) in
    record {
      count : l.left + length all ≡ l.most + length rest;
      same : slice_get rest l.left ≡ slice_get all l.most;
    }
