use Rattle.std.proofs.Common.{[], refl}
use Rattle.std.proofs.lemmas.Result.{IfErr-weaker}
use Rattle.fb_model.specs.BlockTyping.{words_in}
use Rattle.fb_model.specs.Typing.{texts}
use Rattle.fb_tree.specs.Files as tree
use Rattle.fb_model.specs.BlockFaults.{own_words}
use Rattle.fb_types_blocks.specs.Views.{names_of}
use Rattle.fb_model.specs.BlockFaults.{repeated_variable}
use Rattle.fb_types_blocks.proofs.Lists.{on_ok}
use Rattle.fb_types_blocks.proofs.Repeated.{both_new, second_again}
use Rattle.fb_types_blocks.proofs.block.names_apart.Goals as goal

pub returns-clause-names : goal.returns-clause-names
returns-clause-names c =
    let ws = own_words (tree.block_of c.args.source.now) in
    let vs = words_in (tree.chart_of c.args.chart.now).internals in
    on_ok (λ h. both_new [] (names_of c.in_ok-names.names) ws vs (texts ws) (texts vs) refl refl c.in_ok-names.ensures.distinct c.in_ok-names.ensures.names h) c.declare_variables.result (rw c.deref.ensures.value at c.declare_variables.ensures.new)

pub returns-clause-refused : goal.returns-clause-refused
returns-clause-refused c =
    let ws = own_words (tree.block_of c.args.source.now) in
    let vs = words_in (tree.chart_of c.args.chart.now).internals in
    IfErr-weaker c.declare_variables.result _ _ (λ f h. repeated_variable (second_again [] (names_of c.in_ok-names.names) ws vs vs (texts ws) f refl refl c.in_ok-names.ensures.distinct c.in_ok-names.ensures.names h)) (rw c.deref.ensures.value at c.declare_variables.ensures.refused)
