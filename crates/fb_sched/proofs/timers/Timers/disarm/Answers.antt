use Rattle.std.proofs.Common.{ℕ, ◌≡◌, ◌<◌, List, Option, Some, None, length, remove, set, sym, ap, subst, ◌∙◌, arith}
use Rattle.std.proofs.lemmas.List.{length-set, with_items_is}
use Rattle.std.specs.Prelude.{OnSome}
use Rattle.std.specs.Vec.{with_items}
use Rattle.fb_sched.specs.declared.armed.Armed.{Armed}
use Rattle.fb_sched.specs.Order.{IsOrdered, AreApart, AreTold, position, without, due_of}
use Rattle.fb_sched.proofs.Ordered.{ordered_without, apart_without}
use Rattle.fb_sched.proofs.Seats.{place_removes}
use Rattle.fb_sched.proofs.Moments.{told_is, told_without, told_within, none_without}
use Rattle.fb_sched.proofs.timers.Timers.disarm.Goals as goal

pub tell-requires : goal.tell-requires
tell-requires c =
    let due : due_of c.self.inside.armed.items c.args.block ≡ Some c.in-Some.due = told_is c.self.inside.moments.items c.deref.result.now c.self.inside.armed.items c.args.block (Some c.in-Some.due) c.self.invariant.2 c.deref.ensures.value c.in-Some.ensures in
    omega (arith, told_within c.self.inside.moments.items c.self.inside.armed.items c.args.block c.in-Some.due c.self.invariant.2 due, ap length c.deref_mut.ensures.value)

pub invariant_of-self : goal.invariant_of-self
invariant_of-self c =
    let x : Armed = record { due = c.in-Some.due; block = c.args.block } in
    let old = c.self.inside.armed.items in
    let moments = c.self.inside.moments.items in
    let due : due_of old c.args.block ≡ Some c.in-Some.due = told_is c.self.inside.moments.items c.deref.result.now c.self.inside.armed.items c.args.block (Some c.in-Some.due) c.self.invariant.2 c.deref.ensures.value c.in-Some.ensures in
    let at : c.position_of-at.result ≡ position x old = c.position_of-at.ensures.position in
    let fits : c.position_of-at.result < c.self.inside.armed.len = omega (arith, at, (place_removes x old c.self.invariant.0 due).0, c.self.inside.armed.ok.0) in
    let gone : c.remove.new.self.items ≡ remove old c.position_of-at.result = subst (λ (r : Option Armed). OnSome r (c.remove.new.self.items ≡ remove old c.position_of-at.result)) (c.remove.ensures.succeeds x fits) c.remove.ensures.items in
    let is : c.remove.new.self.items ≡ without old c.args.block = gone ∙ ap (remove old) at ∙ (place_removes x old c.self.invariant.0 due).1 in
    let new : c.tell.new.moments ≡ set moments c.args.block None = c.tell.ensures ∙ ap (λ (ms : List (Option ℕ)). set ms c.args.block None) c.deref_mut.ensures.value in
    let long : length c.tell.new.moments ≡ length moments = ap length new ∙ length-set moments c.args.block None in
    let back : (with_items c.self.inside.moments c.tell.new.moments).items ≡ c.tell.new.moments =
    with_items_is c.self.inside.moments c.tell.new.moments (omega (arith, long, ap length c.deref_mut.ensures.value, c.deref_mut.ensures.len)) in
    let known : c.args.block < length moments = told_within moments old c.args.block c.in-Some.due c.self.invariant.2 due in
    let told : AreTold (set moments c.args.block None) (without old c.args.block) = told_without moments c.args.block old c.self.invariant.2 c.self.invariant.1 known in (
      subst IsOrdered (sym is) (ordered_without old c.args.block c.self.invariant.0),
      subst AreApart (sym is) (apart_without old c.args.block c.self.invariant.1),
      subst (λ (ms : List (Option ℕ)). AreTold ms c.remove.new.self.items) (sym (back ∙ new)) (subst (AreTold (set moments c.args.block None)) (sym is) told),
      omega (arith, ap length back, long, c.self.invariant.3, c.remove.ensures.capacity),
      omega (arith, ap length back, long, c.self.invariant.4),
    )

pub returns-in-Some-clause-armed : goal.returns-in-Some-clause-armed
returns-in-Some-clause-armed c =
    let x : Armed = record { due = c.in-Some.due; block = c.args.block } in
    let old = c.self.inside.armed.items in
    let due : due_of old c.args.block ≡ Some c.in-Some.due = told_is c.self.inside.moments.items c.deref.result.now c.self.inside.armed.items c.args.block (Some c.in-Some.due) c.self.invariant.2 c.deref.ensures.value c.in-Some.ensures in
    let at : c.position_of-at.result ≡ position x old = c.position_of-at.ensures.position in
    let fits : c.position_of-at.result < c.self.inside.armed.len = omega (arith, at, (place_removes x old c.self.invariant.0 due).0, c.self.inside.armed.ok.0) in
    let gone : c.remove.new.self.items ≡ remove old c.position_of-at.result = subst (λ (r : Option Armed). OnSome r (c.remove.new.self.items ≡ remove old c.position_of-at.result)) (c.remove.ensures.succeeds x fits) c.remove.ensures.items in
    gone ∙ ap (remove old) at ∙ (place_removes x old c.self.invariant.0 due).1 ∙ ap (λ t. without t.armed c.args.block) c.self.view_is

pub returns-in_default-clause-armed : goal.returns-in_default-clause-armed
returns-in_default-clause-armed c =
    let none : due_of c.self.inside.armed.items c.args.block ≡ None = told_is c.self.inside.moments.items c.deref.result.now c.self.inside.armed.items c.args.block None c.self.invariant.2 c.deref.ensures.value c.in_default.ensures in
    sym (none_without c.args.self.now.armed c.args.block (sym (ap (λ t. due_of t.armed c.args.block) c.self.view_is) ∙ none))
