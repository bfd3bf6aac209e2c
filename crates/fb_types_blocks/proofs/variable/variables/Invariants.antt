use Rattle.std.proofs.Common.{◌++◌, List, map, drop}
use Rattle.fb_model.specs.BlockTyping.{Declared, AreDeclared, names_in, words_in}
use Rattle.fb_model.specs.Typing.{AreNew, texts}
use Rattle.fb_tree.specs.Files as tree
use Rattle.fb_types_blocks.specs.Views.{declared_in}
use Rattle.fb_types_blocks.proofs.variable.variables.Given as goal

-- the variables so far are declared, with those of the declarations that are left, whose names are new
abbrev pub invariant-loop-source : goal.invariant-loop-source
invariant-loop-source l =
    let rest = map tree.variable_of (drop l.source-index l.sources) in
    record {
      new : AreNew (names_in (declared_in l.variables)) (texts (words_in rest));
      found : (ds : List Declared) → AreDeclared rest ds → AreDeclared (map tree.variable_of l.sources) (declared_in l.variables ++ ds);
    }
