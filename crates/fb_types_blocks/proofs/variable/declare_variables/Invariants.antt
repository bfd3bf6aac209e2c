use Rattle.std.proofs.Common.{◌≡◌, ◌++◌, map, drop}
use Rattle.fb_model.specs.BlockTyping.{words_in}
use Rattle.fb_model.specs.Typing.{AreNew, texts}
use Rattle.fb_tree.specs.Files as tree
use Rattle.fb_types_blocks.specs.Views.{names_of}
use Rattle.fb_model.specs.BlockFaults.{repeated}
use Rattle.fb_types_blocks.proofs.variable.declare_variables.Given as goal

-- the names so far are new where those that are left are
abbrev pub invariant-loop-source : goal.invariant-loop-source
invariant-loop-source l =
    let rest = words_in (map tree.variable_of (drop l.source-index l.sources)) in
    let all = words_in (map tree.variable_of l.sources) in
    record {
      new : AreNew (names_of l.names) (texts rest) → AreNew (names_of l.initial.names) (texts all);
      added : names_of l.names ++ texts rest ≡ names_of l.initial.names ++ texts all;
      first : repeated (names_of l.names) rest ≡ repeated (names_of l.initial.names) all;
    }
