use Rattle.std.proofs.Common.{◌≡◌, ◌∷◌, ◌++◌, [], map, drop, ◌+◌, string_bytes, sym, ap, subst, ◌∙◌, append_assoc, inl, inr}
use Rattle.std.specs.List.{AllByRecursion}
use Rattle.std.proofs.lemmas.Result.{err_from_is_err_and}
use Rattle.fb_model.specs.BlockTyping.{AreKnown, typed_event, event_texts}
use Rattle.fb_model.specs.Typing.{AreNew}
use Rattle.fb_tree.specs.Files as tree
use Rattle.fb_types_blocks.specs.Answers.{names_in_map}
use Rattle.fb_model.specs.BlockFaults.{IsEventFault}
use Rattle.fb_types_blocks.specs.Views.{event_of, events_of}
use Rattle.fb_types_blocks.proofs.Lists.{new_step}
use Rattle.fb_types_blocks.proofs.Tables.{seen}
use Rattle.fb_types_blocks.proofs.Refused.{drop_step, any_at, either_of}
use Rattle.fb_types_blocks.proofs.event.events.Goals as goal

pub returns-in_err-carried-clause-refused : goal.returns-in_err-carried-clause-refused
returns-in_err-carried-clause-refused c =
    let f = c.in_err-carried.field-0.0 in
    let p = err_from_is_err_and c.from_residual.result c.from_residual.ensures.1 in
    rw (p.1, p.2) (either_of inl (λ h. inr (any_at (λ e. IsEventFault (names_in_map c.args.variables.now) e f) tree.event_of c.args.sources.now c.loop-source.source-index c.source-item.result c.loop-source-test.true c.source-item.is h)) (rw c.deref.ensures.value at c.in_err-carried.ensures.refused))

pub add-requires : goal.add-requires
add-requires c =
    let step = drop_step c.args.sources.now c.loop-source.source-index c.source-item.result c.loop-source-test.true c.source-item.is in
    (subst (λ es. AreNew (names_in_map c.loop-source.events) (event_texts (map tree.event_of es))) step c.loop-source.invariant.new).0

pub loop-source-preserved : goal.loop-source-preserved
loop-source-preserved c =
    let x = c.source-item.result in
    let m = c.loop-source.events in
    let l = c.loop-source in
    let v = c.in_ok-carried.carried in
    let rest = map tree.event_of (drop (l.source-index + 1) c.args.sources.now) in
    let all = map tree.event_of c.args.sources.now in
    let step = drop_step c.args.sources.now l.source-index x c.loop-source-test.true c.source-item.is in
    let names : names_in_map c.add.new.entries ≡ names_in_map m ++ string_bytes x.name.text ∷ [] = seen (λ n w. n) m.entries c.add.new.entries.entries (string_bytes x.name.text) v c.in_ok-add.ensures in
    let made : event_of (string_bytes x.name.text) v.items ≡ typed_event (tree.event_of x) = ap (λ ns. record { name = string_bytes x.name.text; carries = ns }) (rw c.deref.ensures.value at c.in_ok-carried.ensures.value) in
    let added : events_of c.add.new.entries ≡ events_of m ++ typed_event (tree.event_of x) ∷ [] = seen (λ n w. event_of n w.items) m.entries c.add.new.entries.entries (string_bytes x.name.text) v c.in_ok-add.ensures ∙ ap (λ e. events_of m ++ e ∷ []) made in
    record {
      new = new_step (names_in_map m) (names_in_map c.add.new.entries) (string_bytes x.name.text) (event_texts rest) (subst (λ es. AreNew (names_in_map m) (event_texts (map tree.event_of es))) step l.invariant.new) names;
      known = λ h. l.invariant.known (subst (λ es. AllByRecursion (λ e. AreKnown (names_in_map c.args.variables.now) e.carries) (map tree.event_of es)) (sym step) ((rw c.deref.ensures.value at c.in_ok-carried.ensures.known), h));
      value = ap (λ es. es ++ map typed_event rest) added ∙ append_assoc (events_of m) (typed_event (tree.event_of x) ∷ []) (map typed_event rest) ∙ sym (ap (λ es. events_of m ++ map typed_event (map tree.event_of es)) step) ∙ l.invariant.value;
    }
