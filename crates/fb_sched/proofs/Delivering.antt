-- Entries that are put one after another.
use Rattle.std.proofs.Common.{◌≡◌, ℕ, ◌+◌, ◌≤◌, List, [], ◌∷◌, ◌++◌, map, length, drop, slice_get, Some, is_some, refl, sym, ap, ◌∙◌, subst, arith, length-append}
use Rattle.std.proofs.lemmas.List.{append-nil, append_assoc, map-append}
use Rattle.fb_chart.specs.declared.table.Point.{Point}
use Rattle.fb_sched.specs.declared.reaction.Reaction.{Reaction}
use Rattle.fb_sched.specs.Agenda.{Agenda, IsAgenda, IsOpen, slot_at}
use Rattle.fb_sched.specs.Changes.{Puts, PutsAll, bare_ticket}
use Rattle.fb_sched.proofs.Slots.{reaction_there}

-- of all points these were put and those are left
pub record Delivers (old : Agenda) (slot : ℕ) (all left : List Point) (new : Agenda) : Type 0 where
  pub done : List Point
  pub split : all ≡ done ++ left
  pub puts : PutsAll old slot done new
  pub sound : IsAgenda new
  pub fits : length new.tickets + length left ≤ new.room

pub begins : (old : Agenda) (slot : ℕ) (all : List Point) → IsAgenda old → IsOpen old.slots slot → length old.tickets + length all ≤ old.room → Delivers old slot all all old
begins old slot all sound is_open fits =
    let r = reaction_there (slot_at old.slots slot) is_open in
    let same : record r.0 { pending = r.0.pending + 0 } ≡ r.0 = ap (λ n. record r.0 { pending = n }) (zero_more r.0.pending) in
    record {
      done = [];
      split = refl;
      puts = record { reaction = r.0; was = r.1; tickets = sym (append-nil old.tickets); slots = record { changed = r.1 ∙ ap Some (sym same); others = λ other n. refl }; room = refl };
      sound = sound;
      fits = fits;
    }
  where
    zero_more : (n : ℕ) → n + 0 ≡ n
    zero_more n = omega arith

-- the reaction that was there last
pub goes_on : (old : Agenda) (slot : ℕ) (all left : List Point) (mid : Agenda) (p : Point) (new : Agenda) → Delivers old slot all (p ∷ left) mid → Puts mid slot p new → IsAgenda new → Delivers old slot all left new
goes_on old slot all left mid p new d t sound =
    let a = d.puts in
    let b : Reaction = record a.reaction { pending = a.reaction.pending + length d.done } in
    let own : t.reaction ≡ b = same t.reaction b (t.was) a.slots.changed in
    let count : length (d.done ++ p ∷ []) ≡ length d.done + 1 = length-append d.done (p ∷ []) in
    let more : record t.reaction { pending = t.reaction.pending + 1 } ≡ record a.reaction { pending = a.reaction.pending + length (d.done ++ p ∷ []) } =
    ap (λ (x : Reaction). record x { pending = x.pending + 1 }) own ∙ ap (λ n. record a.reaction { pending = n }) (omega (arith, count)) in
    let put_more : length new.tickets ≡ length mid.tickets + 1 = ap length t.tickets ∙ length-append mid.tickets (bare_ticket slot p ∷ []) in
    record {
      done = d.done ++ p ∷ [];
      split = d.split ∙ sym (append_assoc d.done (p ∷ []) left);
      puts = record {
        reaction = a.reaction;
        was = a.was;
        tickets = t.tickets ∙ ap (λ ts. ts ++ bare_ticket slot p ∷ []) a.tickets ∙ append_assoc old.tickets (map (bare_ticket slot) d.done) (bare_ticket slot p ∷ []) ∙ ap (λ ts. old.tickets ++ ts) (sym (map-append (bare_ticket slot) d.done (p ∷ [])));
        slots = record { changed = t.slots.changed ∙ ap Some more; others = λ other n. t.slots.others other n ∙ a.slots.others other n };
        room = t.room ∙ a.room;
      };
      sound = sound;
      fits = omega (arith, d.fits, put_more, t.room);
    }
  where
    same : (x y : Reaction) → slot_at mid.slots slot ≡ Some x → slot_at mid.slots slot ≡ Some y → x ≡ y
    same x y e f = cc

-- nothing is left
pub ends_all : (old : Agenda) (slot : ℕ) (all : List Point) (new : Agenda) → Delivers old slot all [] new → PutsAll old slot all new
ends_all old slot all new d = subst (λ ps. PutsAll old slot ps new) (sym (d.split ∙ append-nil d.done)) d.puts

-- and so the slot stays open
pub still_open : (old : Agenda) (slot : ℕ) (all left : List Point) (new : Agenda) → Delivers old slot all left new → IsOpen new.slots slot
still_open old slot all left new d = ap is_some d.puts.slots.changed

-- one more is put
pub next : (old : Agenda) (slot : ℕ) (all left : List Point) (mid : Agenda) (p : Point) (new : Agenda) → Delivers old slot all left mid → slice_get left 0 ≡ Some p → Puts mid slot p new → IsAgenda new → Delivers old slot all (drop 1 left) new
next old slot all [] mid p new d h t sound = cc
next old slot all (x ∷ left) mid p new d h t sound = (let e : x ≡ p = cc in goes_on old slot all left mid p new (subst (λ y. Delivers old slot all (y ∷ left) mid) e d) t sound)
