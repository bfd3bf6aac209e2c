-- The steps of a cause, by its slot and by its row.
use Rattle.std.proofs.Common.{◌≡◌, ◌≢◌, ◌⊎◌, ℕ, ℤ, zero, suc, ◌+◌, cond, List, [], ◌∷◌, Option, Some, None, eqb, eq-eqb, refl, sym, ap, ◌∙◌, subst, inl, inr, arith}
use Rattle.std.proofs.Math.Path.{fun_ext}
use Rattle.std.proofs.lemmas.Bool.{cond-true, cond-false, cases_eq, ne_eqb}
use Rattle.arrayvec.specs.ArrayVec.{ArrayVec}
use Rattle.fb_model.specs.Devices.{put}
use Rattle.fb_chart.specs.declared.table.Point.{Point}
use Rattle.fb_sched.specs.declared.ticket.Ticket.{Ticket}
use Rattle.fb_sched.specs.declared.reaction.Reaction.{Reaction}
use Rattle.fb_sched.specs.Agenda.{Agenda, IsAgenda, slot_at, IsNew}
use Rattle.fb_sched.specs.Changes.{ChangesSlot, Opens, Takes, Puts, PutsAll, Settles}
use Rattle.fb_sched.specs.Steps.{rows, steps_by_row, spent}
use Rattle.fb_sched.proofs.Slots.{slot_cases}
use Rattle.fb_sched.proofs.Marked.{AllDiffer}

-- the slots after the first differ too
differ_later : (o : Option Reaction) (slots : List (Option Reaction)) → AllDiffer (o ∷ slots) → AllDiffer slots
differ_later o slots d j k r s hj hk e = (let q = d (suc j) (suc k) r s hj hk e in omega (arith, q))

pub steps_found : (slots : List (Option Reaction)) (k : ℕ) (r : Reaction) → AllDiffer slots → slot_at slots k ≡ Some r → steps_by_row (rows slots) r.cause ≡ r.steps
steps_found [] k r d e = absurd (cc)
steps_found (None ∷ slots) zero r d e = absurd (cc)
steps_found (None ∷ slots) (suc k) r d e = steps_found slots k r (differ_later None slots d) e
steps_found (Some x ∷ slots) zero r d e =
    let q : x ≡ r = cc in
    cond-true (eqb x.cause r.cause) x.steps (steps_by_row (rows slots) r.cause) (eq-eqb x.cause r.cause (ap (λ (y : Reaction). y.cause) q)) ∙ ap (λ (y : Reaction). y.steps) q
steps_found (Some x ∷ slots) (suc k) r d e =
    let n : x.cause ≢ r.cause = λ q. (let z = d zero (suc k) x r refl e q in absurd (omega (arith, z))) in
    cond-false (eqb x.cause r.cause) x.steps (steps_by_row (rows slots) r.cause) (ne_eqb x.cause r.cause n) ∙ steps_found slots k r (differ_later (Some x) slots d) e

pub steps_none : (slots : List (Option Reaction)) (cause : ℕ) → IsNew cause slots → steps_by_row (rows slots) cause ≡ 0
steps_none [] cause h = refl
steps_none (None ∷ slots) cause h = steps_none slots cause (λ k r e. h (suc k) r e)
steps_none (Some x ∷ slots) cause h =
    cond-false (eqb x.cause cause) x.steps (steps_by_row (rows slots) cause) (ne_eqb x.cause cause (h zero x refl)) ∙ steps_none slots cause (λ k r e. h (suc k) r e)

-- ---- what each call does to the steps

-- a cause is new where it is new to the first slot and to the later ones
new_after : (o : Option Reaction) (slots : List (Option Reaction)) (cause : ℕ) → ((r : Reaction) → o ≡ Some r → r.cause ≢ cause) → IsNew cause slots → IsNew cause (o ∷ slots)
new_after o slots cause h n zero r e = h r e
new_after o slots cause h n (suc k) r e = n k r e

-- a slot has a reaction of the cause
abbrev pub HasRow : ℕ → List (Option Reaction) → Type 0
HasRow cause slots = (k : ℕ) × (r : Reaction) × (slot_at slots k ≡ Some r) × (r.cause ≡ cause)

-- a cause has a reaction, or it is new
cause_cases : (slots : List (Option Reaction)) (cause : ℕ) → HasRow cause slots ⊎ IsNew cause slots
cause_cases [] cause = inr (λ k r e. absurd (cc))
cause_cases (o ∷ slots) cause = by o (cause_cases slots cause)
  where
    by : (x : Option Reaction) → (HasRow cause slots ⊎ IsNew cause slots) → HasRow cause (x ∷ slots) ⊎ IsNew cause (x ∷ slots)
    by x (inl p) = inl (suc p.0, p.1, p.2, p.3)
    by None (inr n) = inr (new_after None slots cause (λ r e. absurd (cc)) n)
    by (Some s) (inr n) =
        elim (cases_eq s.cause cause) [
          | inl e ↦ inl (zero, s, refl, e)
          | inr d ↦ inr (new_after (Some s) slots cause (λ r e q. (let own : s ≡ r = cc in d (ap (λ (y : Reaction). y.cause) own ∙ q))) n)
        ]

-- the steps of what a slot holds
abbrev pub steps_in : Option Reaction → ℕ
steps_in None = 0
steps_in (Some r) = r.steps

-- one slot changes, of this cause before and after
pub record OneCause (old new : List (Option Reaction)) (k : ℕ) (o : Option Reaction) (cause : ℕ) : Type 0 where
  pub change : ChangesSlot old new k o
  pub before : (r : Reaction) → slot_at old k ≡ Some r → r.cause ≡ cause
  pub after : (s : Reaction) → o ≡ Some s → s.cause ≡ cause
  pub others : (j : ℕ) (r : Reaction) → j ≢ k → slot_at old j ≡ Some r → r.cause ≢ cause

steps_own : (old new : List (Option Reaction)) (k : ℕ) (o : Option Reaction) (cause : ℕ) → AllDiffer new → OneCause old new k o cause → steps_by_row (rows new) cause ≡ steps_in o
steps_own old new k None cause d c =
    steps_none new cause (λ j r e.
    elim (slot_cases old new k None c.change j) [
      | inl p ↦ absurd (cc (p.1, e))
      | inr p ↦ c.others j r p.0 (sym p.1 ∙ e)
    ])
steps_own old new k (Some s) cause d c = ap (steps_by_row (rows new)) (sym (c.after s refl)) ∙ steps_found new k s d c.change.changed

steps_other : (old new : List (Option Reaction)) (k : ℕ) (o : Option Reaction) (cause : ℕ) → AllDiffer old → AllDiffer new → OneCause old new k o cause → (c : ℕ) → cause ≢ c → steps_by_row (rows new) c ≡ steps_by_row (rows old) c
steps_other old new k o cause d d' h c n =
    elim (cause_cases old c) [
      | inl f ↦ (
          let apart : f.0 ≢ k = λ e. n (sym (h.before f.1 (sym (ap (slot_at old) e) ∙ f.2)) ∙ f.3) in
          let there = h.change.others f.0 apart ∙ f.2 in
          ap (steps_by_row (rows new)) (sym f.3) ∙ steps_found new f.0 f.1 d' there ∙ sym (steps_found old f.0 f.1 d f.2) ∙ ap (steps_by_row (rows old)) f.3
          )
      | inr fresh ↦ steps_none new c (λ j r e.
          elim (slot_cases old new k o h.change j) [
            | inl p ↦ (λ q. n (sym (h.after r (sym p.1 ∙ e)) ∙ q))
            | inr p ↦ fresh j r (sym p.1 ∙ e)
          ]) ∙ sym (steps_none old c fresh)
    ]

-- the steps of the cause are those of what its slot holds now, and all others stay
steps_changed : (old new : List (Option Reaction)) (k : ℕ) (o : Option Reaction) (cause : ℕ) → AllDiffer old → AllDiffer new → OneCause old new k o cause → steps_by_row (rows new) ≡ put (steps_by_row (rows old)) cause (steps_in o)
steps_changed old new k o cause d d' h =
    fun_ext (λ c.
    elim (cases_eq cause c) [
      | inl e ↦ ap (steps_by_row (rows new)) (sym e) ∙ steps_own old new k o cause d' h ∙ sym (cond-true (eqb cause c) (steps_in o) (steps_by_row (rows old) c) (eq-eqb cause c e))
      | inr n ↦ steps_other old new k o cause d d' h c n ∙ sym (cond-false (eqb cause c) (steps_in o) (steps_by_row (rows old) c) (ne_eqb cause c n))
    ])

-- a reaction is rewritten, with its cause
one_rewritten : (old new : List (Option Reaction)) (k : ℕ) (r : Reaction) (o : Option Reaction) → AllDiffer old → slot_at old k ≡ Some r → ChangesSlot old new k o → ((s : Reaction) → o ≡ Some s → s.cause ≡ r.cause) → OneCause old new k o r.cause
one_rewritten old new k r o d was c same =
    record {
      change = c;
      before = λ x e. (let own : x ≡ r = cc (e, was) in ap (λ (y : Reaction). y.cause) own);
      after = same;
      others = λ j x n e q. n (d j k x r e was q);
    }

-- and with its steps
steps_stay : (old new : List (Option Reaction)) (k : ℕ) (r s : Reaction) → AllDiffer old → AllDiffer new → slot_at old k ≡ Some r → ChangesSlot old new k (Some s) → s.cause ≡ r.cause → s.steps ≡ r.steps → steps_by_row (rows new) ≡ steps_by_row (rows old)
steps_stay old new k r s d d' was c cause steps =
    let h = one_rewritten old new k r (Some s) d was c (λ x e. (let own : s ≡ x = cc in sym (ap (λ (y : Reaction). y.cause) own) ∙ cause)) in
    fun_ext (λ n.
    elim (cases_eq r.cause n) [
      | inl e ↦ ap (steps_by_row (rows new)) (sym e) ∙ steps_own old new k (Some s) r.cause d' h ∙ steps ∙ sym (steps_found old k r d was) ∙ ap (steps_by_row (rows old)) e
      | inr x ↦ steps_other old new k (Some s) r.cause d d' h n x
    ])

pub opens_steps : (old new : Agenda) (cause : ℕ) (opening : Point) (places : ℕ) (values : ArrayVec ℤ) → IsAgenda old → IsAgenda new → IsNew cause old.slots → Opens old cause opening places values new → spent new ≡ put (spent old) cause 0
opens_steps old new cause opening places values h h' fresh o =
    let s : Reaction = record { cause = cause; opening = opening; places = places; pending = 1; steps = 0 } in
    steps_changed old.slots new.slots o.slot (Some s) cause h.different h'.different
    (record {
      change = o.slots;
      before = λ r e. absurd (cc (o.was_free, e));
      after = λ x e. (let own : s ≡ x = cc in sym (ap (λ (y : Reaction). y.cause) own));
      others = λ j r n e. fresh j r e;
    })

pub takes_steps : (old new : Agenda) (first : Ticket) → IsAgenda old → IsAgenda new → Takes old first new → spent new ≡ spent old
takes_steps old new first h h' t = steps_stay old.slots new.slots first.slot t.reaction _ h.different h'.different t.was t.slots refl refl

pub puts_steps : (old new : Agenda) (slot : ℕ) (point : Point) → IsAgenda old → IsAgenda new → Puts old slot point new → spent new ≡ spent old
puts_steps old new slot point h h' p = steps_stay old.slots new.slots slot p.reaction _ h.different h'.different p.was p.slots refl refl

pub puts_all_steps : (old new : Agenda) (slot : ℕ) (points : List Point) → IsAgenda old → IsAgenda new → PutsAll old slot points new → spent new ≡ spent old
puts_all_steps old new slot points h h' p = steps_stay old.slots new.slots slot p.reaction _ h.different h'.different p.was p.slots refl refl

pub settles_steps : (old new : Agenda) (slot steps : ℕ) (ended : Option Reaction) (r : Reaction) → IsAgenda old → IsAgenda new → Settles old slot steps ended new → slot_at old.slots slot ≡ Some r → spent new ≡ put (spent old) r.cause (cond (eqb r.pending 0) 0 (r.steps + steps))
settles_steps old new slot steps ended r h h' s was =
    let own : s.reaction ≡ r = cc (s.was, was) in
    let x = s.reaction in
    let more : Reaction = record x { steps = x.steps + steps } in
    subst (λ (y : Reaction). spent new ≡ put (spent old) y.cause (cond (eqb y.pending 0) 0 (y.steps + steps))) own
    (elim (cases_eq x.pending 0) [
      | inl z ↦ (
          let t = eq-eqb x.pending 0 z in
          let c = subst (λ b. ChangesSlot old.slots new.slots slot (cond b None (Some more))) t s.slots in
          steps_changed old.slots new.slots slot None x.cause h.different h'.different (one_rewritten old.slots new.slots slot x None h.different s.was c (λ y e. absurd (cc)))
          ∙ ap (put (spent old) x.cause) (sym (cond-true (eqb x.pending 0) 0 (x.steps + steps) t))
          )
      | inr n ↦ (
          let t = ne_eqb x.pending 0 n in
          let c = subst (λ b. ChangesSlot old.slots new.slots slot (cond b None (Some more))) t s.slots in
          steps_changed old.slots new.slots slot (Some more) x.cause h.different h'.different (one_rewritten old.slots new.slots slot x (Some more) h.different s.was c (λ y e. (let q : more ≡ y = cc in sym (ap (λ (w : Reaction). w.cause) q))))
          ∙ ap (put (spent old) x.cause) (sym (cond-false (eqb x.pending 0) 0 (x.steps + steps) t))
          )
    ])
