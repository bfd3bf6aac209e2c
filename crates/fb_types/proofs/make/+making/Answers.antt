use Rattle.std.proofs.Common.{◌≡◌, ◌≤◌, suc, max, None, Some, inl, inr, ◌+◌, ◌-◌, ◌++◌, ◌∷◌, [], map, take, refl, sym, ap, subst, ◌∙◌, arith}
use Rattle.std.specs.Option.{option_map}
use Rattle.std.specs.List.{Any}
use Rattle.std.proofs.Math.Nat.{max-le}
use Rattle.fb_model.specs.NetworkTyping.{type_named}
use Rattle.std.proofs.lemmas.Result.{err_from_is_err_and}
use Rattle.std.proofs.lemmas.List.{take_all}
use Rattle.fb_model.specs.Declarations as decl
use Rattle.fb_tree.specs.Files as trees_of
use Rattle.fb_types_blocks.specs.Views.{declared_in}
use Rattle.fb_types_blocks.proofs.Lists.{mapped_more}
use Rattle.fb_model.specs.Nesting.{IsOf, innermost}
use Rattle.fb_model.specs.SourceFaults.{no_memory_for_type, faulty_basic, faulty_interface, no_memory_for_instance, unknown_type, faulty_plain, faulty_service}
use Rattle.fb_types.specs.Made.{tree_of, IsTyped, AreParts, HaltsAt, LeadsTo, IsUnmade}
use Rattle.fb_types.proofs.Nested.{among_at}
use Rattle.fb_types.proofs.Making.{deeper_again, typed_again, typed_body, done_now, leads_more, halted, named_self, on_path, typed_part, served_part, halted_type, parts_begun, parts_more}
use Rattle.fb_types.proofs.make.+making.Goals as goal

-- ---- types whose bodies are shared

pub body_of_type-returns-then-made-room-clause-refused : goal.body_of_type-returns-then-made-room-clause-refused
body_of_type-returns-then-made-room-clause-refused t c = λ bs table memo opened.
    (refl, opened.named, deeper_again bs c.args.room (trees_of.block_of c.args.source.now) _ c.in-Some.made.now (c.in-Some.ensures bs memo) c.as_str.ensures.value opened.named c.if-made-room.true)

pub body_of_type-returns-in_err-body-in-Some-clause-refused : goal.body_of_type-returns-in_err-body-in-Some-clause-refused
body_of_type-returns-in_err-body-in-Some-clause-refused t c = λ bs table memo opened.
    let p = err_from_is_err_and c.from_residual.result c.from_residual.ensures.1 in
    rw (p.1, p.2) (no_memory_for_type refl)

pub body_of_type-returns-in_err-shared-in-None-clause-refused : goal.body_of_type-returns-in_err-shared-in-None-clause-refused
body_of_type-returns-in_err-shared-in-None-clause-refused t c = λ bs table memo opened.
    let p = err_from_is_err_and c.from_residual-in_err-shared-in-None.result c.from_residual-in_err-shared-in-None.ensures.1 in
    rw (p.1, p.2) (no_memory_for_type refl)

pub body_of_type-returns-in_err-remember-in-None-clause-refused : goal.body_of_type-returns-in_err-remember-in-None-clause-refused
body_of_type-returns-in_err-remember-in-None-clause-refused t c = λ bs table memo opened.
    let p = err_from_is_err_and c.from_residual-in_err-remember-in-None.result c.from_residual-in_err-remember-in-None.ensures.1 in
    rw (p.1, p.2) (no_memory_for_type refl)

pub body_of_type-returns-in_ok-body-in-Some-clause-made : goal.body_of_type-returns-in_ok-body-in-Some-clause-made
body_of_type-returns-in_ok-body-in-Some-clause-made t c = λ bs table memo named.
    let b = trees_of.block_of c.args.source.now in
    let m = c.in-Some.made.now in
    typed_body bs c.args.room b m c.in_ok-body-in-Some.field-0 (typed_again bs c.args.room b _ m (c.in-Some.ensures bs memo) c.as_str.ensures.value named c.if-made-room.false) c.in_ok-body-in-Some.ensures.body c.in_ok-body-in-Some.ensures.uses

pub body_of_type-returns-in_ok-remember-in-None-clause-made : goal.body_of_type-returns-in_ok-remember-in-None-clause-made
body_of_type-returns-in_ok-remember-in-None-clause-made t c = λ bs table memo named.
    typed_body bs c.args.room (trees_of.block_of c.args.source.now) c.in_ok-made-in-None.made c.in_ok-shared-in-None.shared (c.in_ok-made-in-None.ensures.made bs table memo) c.in_ok-shared-in-None.ensures.body c.in_ok-shared-in-None.ensures.uses

pub body_of_type-returns-in_ok-remember-in-None-clause-kept : goal.body_of_type-returns-in_ok-remember-in-None-clause-kept
body_of_type-returns-in_ok-remember-in-None-clause-kept t c = λ bs table memo named.
    c.in_ok-remember-in-None.ensures bs (c.in_ok-made-in-None.ensures.kept bs table memo)
    (done_now bs c.args.room (trees_of.block_of c.args.source.now) c.in_ok-made-in-None.made (c.in_ok-made-in-None.ensures.made bs table memo) named)

-- ---- basic blocks and composites

pub make-returns-in_err-basic_type-in-Chart-clause-refused : goal.make-returns-in_err-basic_type-in-Chart-clause-refused
make-returns-in_err-basic_type-in-Chart-clause-refused t c = λ bs table memo opened.
    let p = err_from_is_err_and c.from_residual.result c.from_residual.ensures.1 in
    rw (p.1, p.2) (faulty_basic (ap trees_of.block_body_of c.in-Chart.is) c.in_err-basic_type-in-Chart.ensures.refused)

pub make-returns-in_ok-basic_type-in-Chart-clause-made : goal.make-returns-in_ok-basic_type-in-Chart-clause-made
make-returns-in_ok-basic_type-in-Chart-clause-made t c = λ bs table memo. c.in_ok-basic_type-in-Chart.ensures.made bs c.args.room (ap trees_of.block_body_of c.in-Chart.is)

pub make_composite-returns-then-room-eq0-clause-refused : goal.make_composite-returns-then-room-eq0-clause-refused
make_composite-returns-then-room-eq0-clause-refused t c = λ bs table memo e opened. (refl, opened.named, record { count = 1; more = omega (arith, c.if-room-eq0.true); nests = innermost e })

pub make_composite-returns-in_err-face-clause-refused : goal.make_composite-returns-in_err-face-clause-refused
make_composite-returns-in_err-face-clause-refused t c = λ bs table memo e opened.
    let p = err_from_is_err_and c.from_residual.result c.from_residual.ensures.1 in
    rw (p.1, p.2) (faulty_interface e c.in_err-face.ensures.refused)

pub make_composite-returns-in_err-composite-in-Ok-clause-refused : goal.make_composite-returns-in_err-composite-in-Ok-clause-refused
make_composite-returns-in_err-composite-in-Ok-clause-refused t c = λ bs table memo e opened.
    let p = err_from_is_err_and c.from_residual-in_err-composite-in-Ok.result c.from_residual-in_err-composite-in-Ok.ensures.1 in
    let f = c.in_ok-face.face in
    rw (p.1, p.2)
    (c.in_err-composite-in-Ok.ensures.refused bs (trees_of.block_of c.args.tree.now.source.now) (declared_in f.inputs) (declared_in f.outputs) (c.args.room - 1) c.in-Ok.deep
    (record { composite = e; face = c.in_ok-face.ensures.found; distinct = c.in_ok-face.ensures.distinct; parts = c.in-Ok.ensures.made bs table memo }))

pub make_composite-returns-in_ok-composite-in-Ok-clause-made : goal.make_composite-returns-in_ok-composite-in-Ok-clause-made
make_composite-returns-in_ok-composite-in-Ok-clause-made t c = λ bs table memo e.
    let f = c.in_ok-face.face in
    let b = trees_of.block_of c.args.tree.now.source.now in
    let one = c.in_ok-composite-in-Ok.ensures.made bs b (declared_in f.inputs) (declared_in f.outputs) (c.args.room - 1) c.in-Ok.deep
    (record { composite = e; face = c.in_ok-face.ensures.found; distinct = c.in_ok-face.ensures.distinct; parts = c.in-Ok.ensures.made bs table memo }) (omega arith) in
    subst (λ d. IsTyped bs d b c.in_ok-composite-in-Ok.field-0) (omega (arith, c.if-room-eq0.false)) one

pub make_composite-returns-in-Err-clause-refused : goal.make_composite-returns-in-Err-clause-refused
make_composite-returns-in-Err-clause-refused t c = λ bs table memo e opened.
    subst (λ d. IsUnmade bs d (trees_of.block_of c.args.tree.now.source.now) c.in-Err.unmade) (omega (arith, c.if-room-eq0.false)) (c.in-Err.ensures.refused bs table memo e opened)

pub inside-returns-in_err-path-clause-refused : goal.inside-returns-in_err-path-clause-refused
inside-returns-in_err-path-clause-refused t c = λ bs table memo e opened.
    let p = err_from_is_err_and c.from_residual.result c.from_residual.ensures.1 in
    rw (p.1, p.2) (no_memory_for_type refl)

pub inside-returns-in-Ok-clause-made : goal.inside-returns-in-Ok-clause-made
inside-returns-in-Ok-clause-made t c = λ bs table memo. subst (λ l. AreParts bs c.args.room (map trees_of.instance_of l) c.in-Ok.instances.items c.in-Ok.deep) c.deref-2.ensures.value (c.in-Ok.ensures.made bs table memo)

pub inside-returns-clause-refused : goal.inside-returns-clause-refused
inside-returns-clause-refused t c = λ bs table memo e opened.
    let b = trees_of.block_of c.args.tree.now.source.now in
    let w = trees_of.network_of c.args.tree.now.network.now in
    let path = map tree_of c.args.path.now in
    let same : map tree_of c.deref.result.now ≡ path ++ b ∷ [] = ap (map tree_of) c.deref.ensures.value ∙ c.in_ok-path.ensures in
    let leads = subst (λ l. LeadsTo bs l w.instances) (sym same) (leads_more bs path b w opened e) in
    halted bs path (suc c.args.room) c.args.room b w c.args.tree.now.source c.in-Err.unmade c.outer.result opened e refl refl
    (subst (λ l. HaltsAt bs l c.args.room w.instances c.in-Err.unmade) same
    (subst (λ l. HaltsAt bs (map tree_of c.deref.result.now) c.args.room (map trees_of.instance_of l) c.in-Err.unmade) c.deref-2.ensures.value (c.in-Err.ensures.refused bs table memo (subst (λ l. LeadsTo bs (map tree_of c.deref.result.now) (map trees_of.instance_of l)) (sym c.deref-2.ensures.value) leads)))) c.outer.ensures.fault c.outer.ensures.deep

-- ---- instances

pub part-returns-in_err-instance-clause-refused : goal.part-returns-in_err-instance-clause-refused
part-returns-in_err-instance-clause-refused t c = λ bs table memo leads.
    let p = err_from_is_err_and c.from_residual.result c.from_residual.ensures.1 in
    rw (p.1, p.2) (inl (faulty_service c.in_err-instance.ensures.refused))

pub part-returns-in-Some-clause-made : goal.part-returns-in-Some-clause-made
part-returns-in-Some-clause-made t c = λ bs table memo.
    let i = trees_of.instance_of c.args.source.now in
    let typed = rw c.in-Some.is at c.in_ok-instance.ensures.typed in
    let offset = rw c.in-Some.is at c.in_ok-instance.ensures.offset in
    let body = rw c.in-Some.is at c.in_ok-instance.ensures.body in
    served_part bs c.args.room i c.in-Some.instance body.0 typed body.1 offset

pub part-returns-in_default-type_of-clause-refused : goal.part-returns-in_default-type_of-clause-refused
part-returns-in_default-type_of-clause-refused t c = λ bs table memo leads.
    let i = trees_of.instance_of c.args.source.now in
    let unnamed : type_named bs i.type.text ≡ None = subst (λ n. type_named bs n ≡ None) c.as_str.ensures.value (sym (c.type_of.ensures bs table) ∙ ap (option_map tree_of) c.in_default-type_of.is) in
    inl (unknown_type (rw c.in_default.is at c.in_ok-instance.ensures.none) unnamed refl)

pub part-returns-then-is_on-clause-refused : goal.part-returns-then-is_on-clause-refused
part-returns-then-is_on-clause-refused t c = λ bs table memo leads.
    let i = trees_of.instance_of c.args.source.now in
    let b = c.in-Some-type_of.block in
    let named : type_named bs i.type.text ≡ Some (tree_of b) = subst (λ n. type_named bs n ≡ Some (tree_of b)) c.as_str.ensures.value (sym (c.type_of.ensures bs table) ∙ ap (option_map tree_of) c.in-Some-type_of.is) in
    let own = named_self bs i.type.text (tree_of b) named in
    let of : IsOf bs i (tree_of b) = record { declared = rw c.in_default.is at c.in_ok-instance.ensures.none; named = named } in
    let path = map tree_of c.args.path.now in
    inr (on_path bs path i (tree_of b) i.type.at (subst (λ n. Any (λ (z : decl.BlockTree). z.name.text ≡ n) path) c.as_str-2.ensures.value (c.is_on.ensures.0 c.if-is_on.true)) leads of refl)

pub part-returns-in_err-body-clause-refused : goal.part-returns-in_err-body-clause-refused
part-returns-in_err-body-clause-refused t c = λ bs table memo leads.
    let i = trees_of.instance_of c.args.source.now in
    let b = c.in-Some-type_of.block in
    let named : type_named bs i.type.text ≡ Some (tree_of b) = subst (λ n. type_named bs n ≡ Some (tree_of b)) c.as_str.ensures.value (sym (c.type_of.ensures bs table) ∙ ap (option_map tree_of) c.in-Some-type_of.is) in
    let own = named_self bs i.type.text (tree_of b) named in
    let of : IsOf bs i (tree_of b) = record { declared = rw c.in_default.is at c.in_ok-instance.ensures.none; named = named } in
    let p = err_from_is_err_and c.from_residual-in_err-body.result c.from_residual-in_err-body.ensures.1 in
    rw (p.1, p.2) (halted_type bs (map tree_of c.args.path.now) c.args.room i (tree_of b) _ of (c.in_err-body.ensures.refused bs table memo (record { named = own; leads = leads (tree_of b) of })))

pub part-returns-in_err-plain-clause-refused : goal.part-returns-in_err-plain-clause-refused
part-returns-in_err-plain-clause-refused t c = λ bs table memo leads.
    let i = trees_of.instance_of c.args.source.now in
    let b = c.in-Some-type_of.block in
    let named : type_named bs i.type.text ≡ Some (tree_of b) = subst (λ n. type_named bs n ≡ Some (tree_of b)) c.as_str.ensures.value (sym (c.type_of.ensures bs table) ∙ ap (option_map tree_of) c.in-Some-type_of.is) in
    let own = named_self bs i.type.text (tree_of b) named in
    let of : IsOf bs i (tree_of b) = record { declared = rw c.in_default.is at c.in_ok-instance.ensures.none; named = named } in
    let p = err_from_is_err_and c.from_residual-in_err-plain.result c.from_residual-in_err-plain.ensures.1 in
    rw (p.1, p.2) (inl (faulty_plain of (c.in_ok-body.ensures.made bs table memo own).made c.in_err-plain.ensures.refused))

pub part-returns-clause-made : goal.part-returns-clause-made
part-returns-clause-made t c = λ bs table memo.
    let i = trees_of.instance_of c.args.source.now in
    let b = c.in-Some-type_of.block in
    let named : type_named bs i.type.text ≡ Some (tree_of b) = subst (λ n. type_named bs n ≡ Some (tree_of b)) c.as_str.ensures.value (sym (c.type_of.ensures bs table) ∙ ap (option_map tree_of) c.in-Some-type_of.is) in
    let own = named_self bs i.type.text (tree_of b) named in
    let of : IsOf bs i (tree_of b) = record { declared = rw c.in_default.is at c.in_ok-instance.ensures.none; named = named } in
    typed_part bs c.args.room i (tree_of b) c.in_ok-plain.field-0 c.in_ok-body.body c.in_ok-body.deep of (c.in_ok-body.ensures.made bs table memo own) c.in_ok-plain.ensures.typed c.in_ok-plain.ensures.body c.in_ok-plain.ensures.offset

pub part-returns-clause-kept : goal.part-returns-clause-kept
part-returns-clause-kept t c = λ bs table memo.
    let i = trees_of.instance_of c.args.source.now in
    let b = c.in-Some-type_of.block in
    let named : type_named bs i.type.text ≡ Some (tree_of b) = subst (λ n. type_named bs n ≡ Some (tree_of b)) c.as_str.ensures.value (sym (c.type_of.ensures bs table) ∙ ap (option_map tree_of) c.in-Some-type_of.is) in
    let own = named_self bs i.type.text (tree_of b) named in
    let of : IsOf bs i (tree_of b) = record { declared = rw c.in_default.is at c.in_ok-instance.ensures.none; named = named } in
    c.in_ok-body.ensures.kept bs table memo own

pub parts-loop-source-init : goal.parts-loop-source-init
parts-loop-source-init t c = record { bounded = omega arith; kept = λ bs table memo. memo; made = λ bs table memo. rw c.new-instances.ensures.items (parts_begun bs c.args.room) }

pub parts-returns-in_err-instance-clause-refused : goal.parts-returns-in_err-instance-clause-refused
parts-returns-in_err-instance-clause-refused t c = λ bs table memo leads.
    let p = err_from_is_err_and c.from_residual.result c.from_residual.ensures.1 in
    let xs = c.args.sources.now in
    let x = c.source-item.result in
    let among = among_at trees_of.instance_of xs c.loop-source.source-index x c.loop-source-test.true c.source-item.is in
    rw (p.1, p.2) (record { part = trees_of.instance_of x; among = among; halted = c.in_err-instance.ensures.refused bs table (c.loop-source.invariant.kept bs table memo) (λ d o. leads (trees_of.instance_of x) d among o) })

pub parts-returns-in_err-push-clause-refused : goal.parts-returns-in_err-push-clause-refused
parts-returns-in_err-push-clause-refused t c = λ bs table memo leads.
    let p = err_from_is_err_and c.from_residual-in_err-push.result c.from_residual-in_err-push.ensures.1 in
    let xs = c.args.sources.now in
    let x = c.source-item.result in
    rw (p.1, p.2) (record { part = trees_of.instance_of x; among = among_at trees_of.instance_of xs c.loop-source.source-index x c.loop-source-test.true c.source-item.is; halted = inl (no_memory_for_instance refl) })

pub parts-loop-source-preserved : goal.parts-loop-source-preserved
parts-loop-source-preserved t c =
    let xs = c.args.sources.now in
    let i = c.loop-source.source-index in
    let x = c.source-item.result in
    let room = c.args.room in
    let made = c.loop-source.instances.items in
    let most = max c.loop-source.deepest c.in_ok-instance.deep in
    record {
      bounded = subst (λ n. n ≤ room) (sym c.larger-deepest.ensures) (max-le c.loop-source.invariant.bounded c.in_ok-instance.ensures.bounded);
      kept = λ bs table memo. c.in_ok-instance.ensures.kept bs table (c.loop-source.invariant.kept bs table memo);
      made = λ bs table memo.
          let more = parts_more bs room (map trees_of.instance_of (take i xs)) (trees_of.instance_of x) made c.in_ok-instance.instance c.loop-source.deepest c.in_ok-instance.deep (c.loop-source.invariant.made bs table memo)
          (c.in_ok-instance.ensures.made bs table (c.loop-source.invariant.kept bs table memo)) in
          let listed = subst (λ l. AreParts bs room l (made ++ c.in_ok-instance.instance ∷ []) most) (sym (mapped_more trees_of.instance_of xs i x c.loop-source-test.true c.source-item.is)) more in
          let pushed = subst (λ l. AreParts bs room (map trees_of.instance_of (take (i + 1) xs)) l most) (sym c.in_ok-push.ensures.items) listed in
          subst (λ n. AreParts bs room (map trees_of.instance_of (take (i + 1) xs)) c.push.new.self.items n) (sym c.larger-deepest.ensures) pushed;
    }

pub parts-returns-clause-made : goal.parts-returns-clause-made
parts-returns-clause-made t c = λ bs table memo.
    subst (λ l. AreParts bs c.args.room (map trees_of.instance_of l) c.loop-source.instances.items c.loop-source.deepest) (take_all c.loop-source.source-index c.args.sources.now c.loop-source-test.false) (c.loop-source.invariant.made bs table memo)
