use Rattle.std.proofs.Common.{◌≡◌, ◌++◌, map, drop, ◌+◌, sym, ap, subst, ◌∙◌}
use Rattle.std.proofs.lemmas.Result.{err_from_is_err_and}
use Rattle.fb_tree.specs.Words.{word_of}
use Rattle.fb_model.specs.BlockTyping.{words_in}
use Rattle.fb_model.specs.Typing.{AreNew, texts}
use Rattle.fb_tree.specs.Files as tree
use Rattle.fb_types_blocks.specs.Views.{names_of}
use Rattle.fb_model.specs.BlockFaults.{repeated}
use Rattle.fb_types_blocks.proofs.Repeated.{declared_step, declared_again}
use Rattle.fb_types_blocks.proofs.Variables.{words_left, names_are}
use Rattle.fb_types_blocks.proofs.variable.declare_variables.Goals as goal

pub returns-in_err-declare-clause-refused : goal.returns-in_err-declare-clause-refused
returns-in_err-declare-clause-refused c =
    let x = c.source-item.result in
    let i = c.loop-source.source-index in
    let l = c.loop-source in
    let all = words_in (map tree.variable_of c.args.sources.now) in
    let rest = words_in (map tree.variable_of (drop (i + 1) c.args.sources.now)) in
    let p = err_from_is_err_and c.from_residual.result c.from_residual.ensures.1 in
    let first : repeated (names_of l.names) (map word_of x.names.items ++ rest) ≡ repeated (names_of c.args.names.now) all = sym (ap (repeated (names_of l.names)) (words_left c.args.sources.now i x c.loop-source-test.true c.source-item.is)) ∙ l.invariant.first in
    rw (p.1, p.2) (declared_again (names_of l.names) (names_of c.args.names.now) (map word_of x.names.items) rest all c.in_err-declare.field-0.0 first (rw c.deref.ensures.value at c.in_err-declare.ensures.refused))

pub loop-source-preserved : goal.loop-source-preserved
loop-source-preserved c =
    let x = c.source-item.result in
    let i = c.loop-source.source-index in
    let l = c.loop-source in
    let ws = map word_of x.names.items in
    let all = words_in (map tree.variable_of c.args.sources.now) in
    let rest = words_in (map tree.variable_of (drop (i + 1) c.args.sources.now)) in
    let left = words_left c.args.sources.now i x c.loop-source-test.true c.source-item.is in
    let names = names_are x.names.items in
    let new : AreNew (names_of l.names) (texts ws) = subst (AreNew (names_of l.names)) names (rw c.deref.ensures.value at c.in_ok-declare.ensures.new) in
    let added : names_of c.declare.new.names ≡ names_of l.names ++ texts ws = (rw c.deref.ensures.value at c.in_ok-declare.ensures.added) ∙ ap (λ ts. names_of l.names ++ ts) names in
    let s =
    declared_step (names_of l.names) (names_of c.declare.new.names) (names_of c.args.names.now ++ texts all) ws rest (repeated (names_of c.args.names.now) all) new added
    (λ h. l.invariant.new (subst (λ ts. AreNew (names_of l.names) (texts ts)) (sym left) h))
    (sym (ap (λ ts. names_of l.names ++ texts ts) left) ∙ l.invariant.added)
    (sym (ap (repeated (names_of l.names)) left) ∙ l.invariant.first)
    in
    record { new = s.0; added = s.1; first = s.2 }
