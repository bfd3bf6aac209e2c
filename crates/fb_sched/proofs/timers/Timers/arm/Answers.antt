use Rattle.std.proofs.Common.{ℕ, ◌≡◌, ◌<◌, List, Option, Some, None, length, insert, set, sym, ap, subst, ◌∙◌, arith}
use Rattle.std.proofs.lemmas.List.{length-set, with_items_is}
use Rattle.std.specs.Vec.{with_items}
use Rattle.fb_sched.specs.declared.armed.Armed.{Armed}
use Rattle.fb_sched.specs.Order.{IsOrdered, AreApart, AreTold, position, placed, due_of}
use Rattle.fb_sched.proofs.Ordered.{ordered_placed, apart_placed}
use Rattle.fb_sched.proofs.Seats.{place_inserts}
use Rattle.fb_sched.proofs.Moments.{told_placed, told_within}
use Rattle.fb_sched.proofs.Few.{room_for}
use Rattle.fb_sched.proofs.timers.Timers.arm.Goals as goal

pub place-requires-clause-room : goal.place-requires-clause-room
place-requires-clause-room c =
    let old = c.self.inside.armed.items in
    let moments = c.self.inside.moments.items in
    let quiet : due_of old c.args.block ≡ None = ap (λ t. due_of t.armed c.args.block) c.self.view_is ∙ c.requires.quiet in
    let known : c.args.block < length moments = subst (λ t. c.args.block < t.room) (sym c.self.view_is) c.requires.known in
    let few : length old < length moments = room_for (length moments) old c.args.block c.self.invariant.1 quiet known (λ k d e. told_within moments old k d c.self.invariant.2 e) in
    omega (arith, few, c.self.invariant.3)

pub tell-requires : goal.tell-requires
tell-requires c =
    let known : c.args.block < length c.self.inside.moments.items = subst (λ t. c.args.block < t.room) (sym c.self.view_is) c.requires.known in
    omega (arith, known, ap length c.deref_mut.ensures.value)

pub invariant_of-self : goal.invariant_of-self
invariant_of-self c =
    let x : Armed = record { due = c.args.due; block = c.args.block } in
    let old = c.self.inside.armed.items in
    let moments = c.self.inside.moments.items in
    let quiet : due_of old c.args.block ≡ None = ap (λ t. due_of t.armed c.args.block) c.self.view_is ∙ c.requires.quiet in
    let known : c.args.block < length moments = subst (λ t. c.args.block < t.room) (sym c.self.view_is) c.requires.known in
    let at : c.position_of-at.result ≡ position x old = c.position_of-at.ensures.position in
    let is : c.place.new.armed.items ≡ placed x old = c.place.ensures.items ∙ ap (λ i. insert old i x) at ∙ place_inserts x old quiet in
    let new : c.tell.new.moments ≡ set moments c.args.block (Some c.args.due) = c.tell.ensures ∙ ap (λ (ms : List (Option ℕ)). set ms c.args.block (Some c.args.due)) c.deref_mut.ensures.value in
    let long : length c.tell.new.moments ≡ length moments = ap length new ∙ length-set moments c.args.block (Some c.args.due) in
    let back : (with_items c.self.inside.moments c.tell.new.moments).items ≡ c.tell.new.moments =
    with_items_is c.self.inside.moments c.tell.new.moments (omega (arith, long, ap length c.deref_mut.ensures.value, c.deref_mut.ensures.len)) in
    let told : AreTold (set moments c.args.block (Some c.args.due)) (placed x old) = told_placed moments x old c.self.invariant.2 quiet known in (
      subst IsOrdered (sym is) (ordered_placed x old c.self.invariant.0 quiet),
      subst AreApart (sym is) (apart_placed x old c.self.invariant.1 quiet),
      subst (λ (ms : List (Option ℕ)). AreTold ms c.place.new.armed.items) (sym (back ∙ new)) (subst (AreTold (set moments c.args.block (Some c.args.due))) (sym is) told),
      omega (arith, ap length back, long, c.self.invariant.3, c.place.ensures.capacity),
      omega (arith, ap length back, long, c.self.invariant.4),
    )

pub returns-clause-armed : goal.returns-clause-armed
returns-clause-armed c =
    let x : Armed = record { due = c.args.due; block = c.args.block } in
    let old = c.args.self.now.armed in
    let view = ap (λ t. t.armed) c.self.view_is in
    let at : c.position_of-at.result ≡ position x old = c.position_of-at.ensures.position ∙ ap (position x) view in
    c.place.ensures.items ∙ ap (λ (l : List Armed). insert l c.position_of-at.result x) view ∙ ap (λ i. insert old i x) at ∙ place_inserts x old c.requires.quiet
