-- Which causes have a pending entry after each call.
use Rattle.std.proofs.Common.{◌≡◌, ℕ, ◌+◌, ◌<◌, ℤ, cond, List, Option, Some, None, eqb, eq-eqb, sym, ap, ◌∙◌, subst, inl, inr, arith}
use Rattle.std.proofs.lemmas.Bool.{cases_eq, ne_eqb}
use Rattle.arrayvec.specs.ArrayVec.{ArrayVec}
use Rattle.fb_chart.specs.declared.table.Point.{Point}
use Rattle.fb_sched.specs.declared.ticket.Ticket.{Ticket}
use Rattle.fb_sched.specs.declared.reaction.Reaction.{Reaction}
use Rattle.fb_sched.specs.Agenda.{Agenda}
use Rattle.fb_sched.specs.Changes.{Opens, Takes, PutsAll, Settles}
use Rattle.fb_sched.specs.Entries.{AllPending, OthersPending}
use Rattle.fb_sched.proofs.Slots.{slot_cases}

pub opens_pending : (old new : Agenda) (cause : ℕ) (opening : Point) (places : ℕ) (values : ArrayVec ℤ) → Opens old cause opening places values new → AllPending old.slots → AllPending new.slots
opens_pending old new cause opening places values o h slot r e =
    let s : Reaction = record { cause = cause; opening = opening; places = places; pending = 1; steps = 0 } in
    elim (slot_cases old.slots new.slots o.slot (Some s) o.slots slot) [
      | inl p ↦ (let k : s ≡ r = cc (p.1, e) in subst (λ (x : Reaction). 0 < x.pending) k (omega arith))
      | inr p ↦ h slot r (sym p.1 ∙ e)
    ]

pub takes_pending : (old new : Agenda) (first : Ticket) → Takes old first new → AllPending old.slots → OthersPending first.slot new.slots
takes_pending old new first t h slot r n e = h slot r (sym (t.slots.others slot n) ∙ e)

pub puts_all_pending : (old new : Agenda) (slot : ℕ) (points : List Point) → PutsAll old slot points new → OthersPending slot old.slots → OthersPending slot new.slots
puts_all_pending old new slot points p h other r n e = h other r n (sym (p.slots.others other n) ∙ e)

pub settles_pending : (old new : Agenda) (slot steps : ℕ) (ended : Option Reaction) → Settles old slot steps ended new → OthersPending slot old.slots → AllPending new.slots
settles_pending old new slot steps ended s h other r e =
    let more : Reaction = record s.reaction { steps = s.reaction.steps + steps } in
    elim (slot_cases old.slots new.slots slot (cond (eqb s.reaction.pending 0) None (Some more)) s.slots other) [
      | inl p ↦
          elim (cases_eq s.reaction.pending 0) [
            | inl z ↦ (let k : None ≡ Some r = sym (ap (λ b. cond b None (Some more)) (eq-eqb s.reaction.pending 0 z)) ∙ sym p.1 ∙ e in absurd cc)
            | inr z ↦ (
                let k : Some more ≡ Some r = sym (ap (λ b. cond b None (Some more)) (ne_eqb s.reaction.pending 0 z)) ∙ sym p.1 ∙ e in
                let own : more ≡ r = cc in subst (λ (x : Reaction). 0 < x.pending) own (omega (arith, z))
                )
          ]
      | inr p ↦ h other r p.0 (sym p.1 ∙ e)
    ]
