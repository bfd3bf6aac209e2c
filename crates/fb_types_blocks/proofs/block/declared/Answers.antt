use Rattle.std.proofs.Common.{map, subst, sym}
use Rattle.std.proofs.lemmas.Result.{err_from_is_err_and}
use Rattle.fb_model.specs.BlockTyping.{AreDeclared, words_in}
use Rattle.fb_model.specs.Typing.{AreDistinct, texts}
use Rattle.fb_tree.specs.Files as tree
use Rattle.fb_types_blocks.specs.Views.{declared_in}
use Rattle.fb_model.specs.BlockFaults.{Among, IsVariableFault, no_memory_for_block, faulty_face, faulty_internal}
use Rattle.fb_types_blocks.proofs.Refused.{either_of}
use Rattle.fb_types_blocks.proofs.Blocks.{two_parts}
use Rattle.fb_types_blocks.proofs.block.declared.Goals as goal

pub ports-requires : goal.ports-requires
ports-requires c = (two_parts (tree.block_of c.args.source.now) (tree.chart_of c.args.chart.now) c.requires).0

pub variables-requires : goal.variables-requires
variables-requires c = subst (λ xs. AreDistinct (texts (words_in (map tree.variable_of xs)))) (sym c.deref.ensures.value) (two_parts (tree.block_of c.args.source.now) (tree.chart_of c.args.chart.now) c.requires).1

pub returns-in_err-face-clause-refused : goal.returns-in_err-face-clause-refused
returns-in_err-face-clause-refused c =
    let p = err_from_is_err_and c.from_residual.result c.from_residual.ensures.1 in
    rw (p.1, p.2) (faulty_face c.in_err-face.ensures.refused)

pub returns-in-Ok-clause-internals : goal.returns-in-Ok-clause-internals
returns-in-Ok-clause-internals c = subst (λ xs. AreDeclared (map tree.variable_of xs) (declared_in c.in-Ok.internals)) c.deref.ensures.value c.in-Ok.ensures.found

pub returns-in-Err-clause-refused : goal.returns-in-Err-clause-refused
returns-in-Err-clause-refused c = either_of no_memory_for_block faulty_internal (subst (λ xs. Among IsVariableFault (map tree.variable_of xs) c.in-Err.fault) c.deref.ensures.value c.in-Err.ensures.refused)
