use Rattle.std.proofs.Common.{◌≡◌, ◌++◌, [], map, refl, ap, subst, ◌∙◌, string_bytes}
use Rattle.std.proofs.lemmas.Result.{err_from_is_err_and}
use Rattle.fb_model.specs.BlockTyping.{words_in}
use Rattle.fb_model.specs.Typing.{AreNew, texts}
use Rattle.fb_tree.specs.Files as tree
use Rattle.fb_model.specs.BlockFaults.{event_words}
use Rattle.fb_types_blocks.specs.Views.{names_of}
use Rattle.fb_model.specs.BlockFaults.{IsRepetition}
use Rattle.fb_types_blocks.proofs.Repeated.{in_front, both_new, second_again}
use Rattle.fb_types_blocks.proofs.interface.own_names.Goals as goal

pub returns-in_err-declare_events-clause-refused : goal.returns-in_err-declare_events-clause-refused
returns-in_err-declare_events-clause-refused c =
    let f = c.in_err-declare_events.field-0.0 in
    let b = tree.block_of c.args.source.now in
    let ws = event_words b.event_inputs ++ event_words b.event_outputs in
    let vs = words_in b.inputs ++ words_in b.outputs in
    let none : names_of c.new-names.result ≡ [] = ap (map string_bytes) c.new-names.ensures.empty in
    let p = err_from_is_err_and c.from_residual.result c.from_residual.ensures.1 in
    rw (p.1, p.2) (in_front [] ws vs f (subst (λ ns. IsRepetition ns ws f) none (rw (c.deref.ensures.value, c.deref-2.ensures.value) at c.in_err-declare_events.ensures.refused)))

pub returns-in_err-declare_ports-clause-refused : goal.returns-in_err-declare_ports-clause-refused
returns-in_err-declare_ports-clause-refused c =
    let f = c.in_err-declare_ports.field-0.0 in
    let b = tree.block_of c.args.source.now in
    let ws = event_words b.event_inputs ++ event_words b.event_outputs in
    let vs = words_in b.inputs ++ words_in b.outputs in
    let none : names_of c.new-names.result ≡ [] = ap (map string_bytes) c.new-names.ensures.empty in
    let new : AreNew [] (texts ws) = subst (λ ns. AreNew ns (texts ws)) none (rw (c.deref.ensures.value, c.deref-2.ensures.value) at c.in_ok-declare_events.ensures.new) in
    let added : names_of c.declare_events.new.names ≡ texts ws = (rw (c.deref.ensures.value, c.deref-2.ensures.value) at c.in_ok-declare_events.ensures.added) ∙ ap (λ ns. ns ++ texts ws) none in
    let p = err_from_is_err_and c.from_residual-in_err-declare_ports.result c.from_residual-in_err-declare_ports.ensures.1 in
    rw (p.1, p.2) (second_again [] (names_of c.declare_events.new.names) ws vs vs (texts ws) f refl refl new added (rw (c.deref-3.ensures.value, c.deref-4.ensures.value) at c.in_err-declare_ports.ensures.refused))

pub returns-clause-distinct : goal.returns-clause-distinct
returns-clause-distinct c =
    let b = tree.block_of c.args.source.now in
    let ws = event_words b.event_inputs ++ event_words b.event_outputs in
    let vs = words_in b.inputs ++ words_in b.outputs in
    let none : names_of c.new-names.result ≡ [] = ap (map string_bytes) c.new-names.ensures.empty in
    let new : AreNew [] (texts ws) = subst (λ ns. AreNew ns (texts ws)) none (rw (c.deref.ensures.value, c.deref-2.ensures.value) at c.in_ok-declare_events.ensures.new) in
    let added : names_of c.declare_events.new.names ≡ texts ws = (rw (c.deref.ensures.value, c.deref-2.ensures.value) at c.in_ok-declare_events.ensures.added) ∙ ap (λ ns. ns ++ texts ws) none in
    both_new [] (names_of c.declare_events.new.names) ws vs (texts ws) (texts vs) refl refl new added (rw (c.deref-3.ensures.value, c.deref-4.ensures.value) at c.in_ok-declare_ports.ensures.new)
