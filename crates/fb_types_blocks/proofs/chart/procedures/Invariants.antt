use Rattle.std.proofs.Common.{map, drop}
use Rattle.fb_model.specs.BlockTyping.{algorithm_texts}
use Rattle.fb_model.specs.Typing.{AreNew}
use Rattle.fb_tree.specs.Files as tree
use Rattle.st_types.specs.Views.{entries}
use Rattle.fb_types_blocks.specs.Answers.{names_in_map}
use Rattle.fb_types_blocks.specs.Views.{procedures_of}
use Rattle.fb_types_blocks.proofs.Charts.{ProceduresLeft}
use Rattle.fb_types_blocks.proofs.chart.procedures.Given as goal

-- the algorithms so far are typed, with those that are left, whose names are new
abbrev pub invariant-loop-source : goal.invariant-loop-source
invariant-loop-source l =
    let rest = map tree.algorithm_of (drop l.source-index l.sources) in
    record {
      new : AreNew (names_in_map l.procedures) (algorithm_texts rest);
      found : ProceduresLeft (entries l.scope) (map tree.algorithm_of l.sources) (procedures_of l.procedures) rest;
    }
