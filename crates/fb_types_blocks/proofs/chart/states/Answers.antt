use Rattle.std.proofs.Common.{◌≡◌, ◌∷◌, ◌++◌, [], List, map, drop, ◌+◌, string_bytes, sym, ap, subst, ◌∙◌, append_assoc, inl, inr}
use Rattle.std.specs.List.{AllByRecursion}
use Rattle.std.proofs.lemmas.Result.{err_from_is_err_and}
use Rattle.fb_model.specs.System as book
use Rattle.fb_model.specs.BlockTyping.{IsActionTyped}
use Rattle.fb_model.specs.Typing.{AreNew, typed_state, state_texts}
use Rattle.fb_tree.specs.Files as tree
use Rattle.fb_types_blocks.specs.Answers.{names_in_map}
use Rattle.fb_model.specs.BlockFaults.{IsStateFault}
use Rattle.fb_types_blocks.specs.Views.{action_of, states_of}
use Rattle.fb_types_blocks.proofs.Lists.{new_step}
use Rattle.fb_types_blocks.proofs.Tables.{seen}
use Rattle.fb_types_blocks.proofs.Refused.{drop_step, any_at, either_of}
use Rattle.fb_types_blocks.proofs.chart.states.Goals as goal

pub returns-in_err-actions-clause-refused : goal.returns-in_err-actions-clause-refused
returns-in_err-actions-clause-refused c =
    let f = c.in_err-actions.field-0.0 in
    let p = err_from_is_err_and c.from_residual.result c.from_residual.ensures.1 in
    rw (p.1, p.2) (either_of inl (λ h. inr (any_at (λ s. IsStateFault (names_in_map c.args.algorithms.now) (names_in_map c.args.outputs.now) s f) tree.state_of c.args.sources.now c.loop-source.source-index c.source-item.result c.loop-source-test.true c.source-item.is h)) (rw c.deref.ensures.value at c.in_err-actions.ensures.refused))

pub add-requires : goal.add-requires
add-requires c =
    let step = drop_step c.args.sources.now c.loop-source.source-index c.source-item.result c.loop-source-test.true c.source-item.is in
    (subst (λ es. AreNew (names_in_map c.loop-source.states) (state_texts (map tree.state_of es))) step c.loop-source.invariant.new).0

pub loop-source-preserved : goal.loop-source-preserved
loop-source-preserved c =
    let x = c.source-item.result in
    let n = string_bytes x.name.text in
    let m = c.loop-source.states in
    let l = c.loop-source in
    let v = c.in_ok-actions.actions in
    let rest = map tree.state_of (drop (l.source-index + 1) c.args.sources.now) in
    let step = drop_step c.args.sources.now l.source-index x c.loop-source-test.true c.source-item.is in
    let made_of : List book.Action → book.State = λ xs. record { name = n; actions = xs } in
    let names : names_in_map c.add.new.entries ≡ names_in_map m ++ n ∷ [] = seen (λ n w. n) m.entries c.add.new.entries.entries n v c.in_ok-add.ensures in
    let made : made_of (map action_of v.items) ≡ typed_state (tree.state_of x) = ap made_of (rw c.deref.ensures.value at c.in_ok-actions.ensures.value) in
    let added : states_of c.add.new.entries ≡ states_of m ++ typed_state (tree.state_of x) ∷ [] = seen (λ n w. record { name = n; actions = map action_of w.items }) m.entries c.add.new.entries.entries n v c.in_ok-add.ensures ∙ ap (λ e. states_of m ++ e ∷ []) made in
    record {
      new = new_step (names_in_map m) (names_in_map c.add.new.entries) n (state_texts rest) (subst (λ es. AreNew (names_in_map m) (state_texts (map tree.state_of es))) step l.invariant.new) names;
      typed = λ h. l.invariant.typed (subst (λ es. AllByRecursion (λ s. AllByRecursion (IsActionTyped (names_in_map c.args.algorithms.now) (names_in_map c.args.outputs.now)) s.actions) (map tree.state_of es)) (sym step) ((rw c.deref.ensures.value at c.in_ok-actions.ensures.typed), h));
      value = ap (λ es. es ++ map typed_state rest) added ∙ append_assoc (states_of m) (typed_state (tree.state_of x) ∷ []) (map typed_state rest) ∙ sym (ap (λ es. states_of m ++ map typed_state (map tree.state_of es)) step) ∙ l.invariant.value;
    }
