-- What a queue comes to in a dispatch.
use Rattle.std.proofs.Common.{◌≡◌, ℕ, ◌+◌, ◌-◌, Bool, true, false, cond, not, List, [], ◌∷◌, ◌++◌, map, length, Option, Some, None, eqb, refl, sym, ◌∙◌, ap}
use Rattle.std.specs.List.{AllByRecursion}
use Rattle.std.specs.Option.{option_map}
use Rattle.std.proofs.lemmas.List.{map-append}
use Rattle.fb_model.specs.Wires.{Leaf}
use Rattle.fb_model.specs.Certificates.{Certificate}
use Rattle.fb_model.specs.Devices as book
use Rattle.fb_model.specs.Devices.{Entry, put, is_pending, follow_ups}
use Rattle.fb_chart.specs.declared.table.Point.{Point}
use Rattle.fb_device_tables.specs.Views.{place_at}
use Rattle.fb_device_tables.specs.Tables.{IsPoint}
use Rattle.fb_sched.specs.declared.ticket.Ticket.{Ticket}
use Rattle.fb_sched.specs.declared.reaction.Reaction.{Reaction}
use Rattle.fb_sched.specs.Agenda.{Agenda, IsAgenda, slot_at}
use Rattle.fb_sched.specs.Changes.{Takes, PutsAll, Settles}
use Rattle.fb_sched.specs.Entries.{AllPending, entries, sent_entry, booked}
use Rattle.fb_sched.specs.Steps.{spent}
use Rattle.fb_sched.proofs.Entries.{puts_all_entries, settles_entries, pending_is}
use Rattle.fb_sched.proofs.Steps.{takes_steps, puts_all_steps, settles_steps}
use Rattle.fb_sched.proofs.Pending.{takes_pending, puts_all_pending, settles_pending}
use Rattle.fb_device_state.specs.Machines.{entries_in}
use Rattle.fb_device_state.specs.Keeping.{ArePlaced}
use Rattle.fb_device_state.proofs.Kept.{puts_placed, settles_placed}
use Rattle.fb_device_dispatch.specs.Answers.{end_of, end_by}

-- a slot holds one reaction
pub one_reaction : (slots : List (Option Reaction)) (slot : ℕ) (x y : Reaction) → slot_at slots slot ≡ Some x → slot_at slots slot ≡ Some y → x ≡ y
one_reaction slots slot x y a b = let e : Some x ≡ Some y = sym a ∙ b in cc

cond_not : {X : Type 0} (b : Bool) (x y : X) → cond (not b) x y ≡ cond b y x
cond_not true x y = refl
cond_not false x y = refl

-- a queue from before its first entry is taken until the steps are noted
pub record Passes (was left mid end : Agenda) (first : Ticket) (points : List Point) (steps : ℕ) (ended : Option Reaction) : Type 0 where
  pub takes : Takes was first left
  pub puts : PutsAll left first.slot points mid
  pub settles : Settles mid first.slot steps ended end
  pub was_agenda : IsAgenda was
  pub left_agenda : IsAgenda left
  pub mid_agenda : IsAgenda mid
  pub end_agenda : IsAgenda end

module _ (was left mid end : Agenda) (first : Ticket) (points : List Point) (steps : ℕ) (ended : Option Reaction) (s : Passes was left mid end first points steps ended) where
  -- the reaction once its entry was taken, and once all points are entered
  abbrev pub waits : Reaction
  waits = record s.takes.reaction { pending = s.takes.reaction.pending - 1 }

  abbrev pub goes : Reaction
  goes = record waits { pending = waits.pending + length points }

  left_holds : slot_at left.slots first.slot ≡ Some waits
  left_holds = s.takes.slots.changed

  pub mid_holds : slot_at mid.slots first.slot ≡ Some goes
  mid_holds = s.puts.slots.changed ∙ ap (λ (x : Reaction). Some (record x { pending = x.pending + length points })) (one_reaction left.slots first.slot s.puts.reaction waits s.puts.was left_holds)

  settled_is : s.settles.reaction ≡ goes
  settled_is = one_reaction mid.slots first.slot s.settles.reaction goes s.settles.was mid_holds

  pub pending_kept : AllPending was.slots → AllPending end.slots
  pending_kept h = settles_pending mid end first.slot steps ended s.settles (puts_all_pending left mid first.slot points s.puts (takes_pending was left first s.takes h))

  module _ (cert : Certificate) (all : List Leaf) where
    pub placed_kept : AllByRecursion (IsPoint all) points → ArePlaced cert all left → ArePlaced cert all end
    placed_kept h a = settles_placed cert all mid end first.slot steps ended s.settles (puts_placed cert all left mid first.slot points s.puts h a)

    abbrev entry : Entry
    entry = record { cause = s.takes.reaction.cause; opening = place_at all s.takes.reaction.opening; place = place_at all first.point; values = first.values.items }

    followed : (ps : List Point) → map (booked (place_at all)) (map (sent_entry waits) ps) ≡ follow_ups entry (map (place_at all) ps)
    followed [] = refl
    followed (o ∷ os) = ap (λ es. record { cause = s.takes.reaction.cause; opening = place_at all s.takes.reaction.opening; place = place_at all o; values = [] } ∷ es) (followed os)

    entries_mid : entries_in all mid ≡ entries_in all left ++ follow_ups entry (map (place_at all) points)
    entries_mid =
        ap (map (booked (place_at all))) (puts_all_entries left mid first.slot points waits s.puts left_holds)
        ∙ map-append (booked (place_at all)) (entries left) (map (sent_entry waits) points)
        ∙ ap (λ es. entries_in all left ++ es) (followed points)

    pub entries_end : entries_in all end ≡ entries_in all left ++ follow_ups entry (map (place_at all) points)
    entries_end = ap (map (booked (place_at all))) (settles_entries mid end first.slot steps ended s.mid_agenda s.settles) ∙ entries_mid

    -- the cause is pending where its reaction counts an entry
    pub pending_mid : is_pending s.takes.reaction.cause (entries_in all left ++ follow_ups entry (map (place_at all) points)) ≡ not (eqb goes.pending 0)
    pending_mid = ap (is_pending s.takes.reaction.cause) (sym entries_mid) ∙ pending_is mid (place_at all) first.slot goes s.mid_agenda mid_holds

    pub spent_end : spent end ≡ put (spent was) s.takes.reaction.cause (cond (is_pending s.takes.reaction.cause (entries_in all left ++ follow_ups entry (map (place_at all) points))) (s.takes.reaction.steps + steps) 0)
    spent_end =
        settles_steps mid end first.slot steps ended goes s.mid_agenda s.end_agenda s.settles mid_holds
        ∙ ap (λ f. put f s.takes.reaction.cause (cond (eqb goes.pending 0) 0 (s.takes.reaction.steps + steps))) (puts_all_steps left mid first.slot points s.left_agenda s.mid_agenda s.puts ∙ takes_steps was left first s.was_agenda s.left_agenda s.takes)
        ∙ ap (put (spent was) s.takes.reaction.cause) (sym (cond_not (eqb goes.pending 0) (s.takes.reaction.steps + steps) 0) ∙ ap (λ c. cond c (s.takes.reaction.steps + steps) 0) (sym pending_mid))

    -- the end of the cause, as the book has it
    pub ended_is : (bound : ℕ) → option_map end_of (option_map (end_by bound) ended)
        ≡ cond (is_pending s.takes.reaction.cause (entries_in all left ++ follow_ups entry (map (place_at all) points))) None (Some (record { cause = s.takes.reaction.cause; total = s.takes.reaction.steps + steps; bound = bound }))
    ended_is bound =
        let E : Option book.Ended = Some (record { cause = s.takes.reaction.cause; total = s.takes.reaction.steps + steps; bound = bound }) in
        ap (λ (o : Option Reaction). option_map end_of (option_map (end_by bound) o)) (s.settles.ended_is ∙ ap (λ (x : Reaction). cond (eqb x.pending 0) (Some (record x { steps = x.steps + steps })) None) settled_is)
        ∙ told (eqb goes.pending 0) ∙ sym (cond_not (eqb goes.pending 0) None E) ∙ ap (λ c. cond c None E) (sym pending_mid)
      where
        told : (c : Bool) → option_map end_of (option_map (end_by bound) (cond c (Some (record goes { steps = goes.steps + steps })) None)) ≡ cond c (Some (record { cause = s.takes.reaction.cause; total = s.takes.reaction.steps + steps; bound = bound })) None
        told true = refl
        told false = refl
