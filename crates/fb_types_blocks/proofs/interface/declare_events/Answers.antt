use Rattle.std.proofs.Common.{map, string_bytes, subst}
use Rattle.std.proofs.lemmas.Result.{err_from_is_err_and, IfErr-weaker}
use Rattle.fb_tree.specs.Files as tree
use Rattle.fb_model.specs.BlockFaults.{event_words}
use Rattle.fb_types_blocks.specs.Views.{names_of}
use Rattle.fb_model.specs.BlockFaults.{IsRepetition}
use Rattle.fb_types_blocks.proofs.Lists.{on_ok}
use Rattle.fb_types_blocks.proofs.Repeated.{in_front, both_new, both_added, second_again}
use Rattle.fb_types_blocks.proofs.Interfaces.{event_words_are, event_names_are}
use Rattle.fb_types_blocks.proofs.interface.declare_events.Goals as goal

pub returns-in_err-declare-clause-refused : goal.returns-in_err-declare-clause-refused
returns-in_err-declare-clause-refused c =
    let f = c.in_err-declare.field-0.0 in
    let old = names_of c.args.names.now in
    let ws = event_words (map tree.event_of c.args.inputs.now) in
    let vs = event_words (map tree.event_of c.args.outputs.now) in
    let p = err_from_is_err_and c.from_residual.result c.from_residual.ensures.1 in
    rw (p.1, p.2) (in_front old ws vs f (subst (λ xs. IsRepetition old xs f) (event_words_are c.args.inputs.now) c.in_err-declare.ensures.refused))

pub returns-clause-new : goal.returns-clause-new
returns-clause-new c =
    let old = names_of c.args.names.now in
    let mid = names_of c.declare.new.names in
    let ins = c.args.inputs.now in
    let outs = c.args.outputs.now in
    on_ok (λ h. both_new old mid (event_words (map tree.event_of ins)) (event_words (map tree.event_of outs)) (map (λ x. string_bytes x.name.text) ins) (map (λ x. string_bytes x.name.text) outs) (event_names_are ins) (event_names_are outs) c.in_ok-declare.ensures.new c.in_ok-declare.ensures.added h) c.declare-2.result c.declare-2.ensures.new

pub returns-clause-added : goal.returns-clause-added
returns-clause-added c =
    let old = names_of c.args.names.now in
    let mid = names_of c.declare.new.names in
    let ins = c.args.inputs.now in
    let outs = c.args.outputs.now in
    on_ok (λ h. both_added old mid (names_of c.declare-2.new.names) (event_words (map tree.event_of ins)) (event_words (map tree.event_of outs)) (map (λ x. string_bytes x.name.text) ins) (map (λ x. string_bytes x.name.text) outs) (event_names_are ins) (event_names_are outs) c.in_ok-declare.ensures.added h) c.declare-2.result c.declare-2.ensures.added

pub returns-clause-refused : goal.returns-clause-refused
returns-clause-refused c =
    let old = names_of c.args.names.now in
    let mid = names_of c.declare.new.names in
    let ins = c.args.inputs.now in
    let outs = c.args.outputs.now in
    IfErr-weaker c.declare-2.result _ _ (λ f h. second_again old mid (event_words (map tree.event_of ins)) (event_words (map tree.event_of outs)) (map (λ x. record { text = string_bytes x.name.text; at = x.name.at }) outs) (map (λ x. string_bytes x.name.text) ins) f (event_names_are ins) (event_words_are outs) c.in_ok-declare.ensures.new c.in_ok-declare.ensures.added h) c.declare-2.ensures.refused
