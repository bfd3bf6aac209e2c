-- Every BEGIN is admitted, one after another.
use Rattle.std.proofs.Common.{◌≡◌, ℕ, zero, suc, ◌+◌, ◌<◌, ◌≤◌, ◌^◌, ◌&&◌, Bool, true, false, cond, List, [], ◌∷◌, ◌++◌, drop, length, slice_get, Some, Result, Ok, Err, eqb, eq-eqb, refl, sym, ◌∙◌, ap, subst, arith, inl}
use Rattle.std.specs.Prelude.{IfOk, IfErr}
use Rattle.fb_model.specs.Names.{at_place}
use Rattle.fb_model.specs.System as system
use Rattle.fb_model.specs.System.{Device}
use Rattle.fb_model.specs.Services.{begin}
use Rattle.fb_model.specs.Messages.{Stamp, IsStamp}
use Rattle.fb_model.specs.Wires.{Kind, Charted, Serviced, Leaf, leaves}
use Rattle.fb_model.specs.Certificates.{Certificate, depth_of, events_of, begin_places, is_restart}
use Rattle.fb_model.specs.Devices.{Machine, Entry, HasRoom, held, places_row, admitted, beginning, begun, silent}
use Rattle.fb_model.specs.Headline.{IsKnown}
use Rattle.fb_model.proofs.Lists.{all_weaker}
use Rattle.fb_model.proofs.Holding.{held_offer}
use Rattle.fb_model.proofs.Running.{put_all}
use Rattle.fb_device_state.specs.declared.program.Program.{Program}
use Rattle.fb_device_state.specs.declared.program.Running.{Running}
use Rattle.fb_device_state.specs.declared.admission.Shortage.{Shortage}
use Rattle.fb_device_state.specs.Sessions.{session_of, next_of}
use Rattle.fb_device_state.specs.Machines.{device_in, cert_in, machine_of}
use Rattle.fb_device_state.specs.Keeping.{IsGood}
use Rattle.fb_device_state.specs.Arrivals.{IsArrival, Admits, IsShort}
use Rattle.fb_device_arrivals.proofs.Ticking.{drop_first}
use Rattle.fb_device_arrivals.proofs.Ticks.{no_room}

-- an E_RESTART has one event
begins_first : (kind : Kind) → is_restart kind ≡ true → slice_get (events_of kind) 0 ≡ Some begin
begins_first (Charted block) h = cc
begins_first (Serviced (system.Input number types)) h = cc
begins_first (Serviced (system.Output number types)) h = cc
begins_first (Serviced (system.Publish channel types)) h = cc
begins_first (Serviced (system.Subscribe channel types)) h = cc
begins_first (Serviced system.Delay) h = cc
begins_first (Serviced system.Cycle) h = cc
begins_first (Serviced system.Restart) h = refl

pub beginning_arrives : (all : List Leaf) (k : ℕ) (leaf : Leaf) → slice_get all k ≡ Some leaf → is_restart leaf.kind ≡ true → IsArrival all (record { block = k; event = 0 }) [] (beginning leaf)
beginning_arrives all k leaf at h = record { leaf = at; event = begins_first leaf.kind h; same = refl; message = inl refl }

-- what is left to begin comes to the same as all, and there is room for it
pub record Begins (p : Program) (first now : Running) (k : ℕ) : Type 0 where
  pub good : IsGood p now
  pub left : begun (drop k (leaves (device_in (session_of p first)))) (machine_of (session_of p now)) ≡ begun (leaves (device_in (session_of p first))) (machine_of (session_of p first))
  pub room : (q : ℕ) → held (places_row (cert_in (session_of p first))) ((machine_of (session_of p now)).queues q) + begin_places (cert_in (session_of p first)) (drop k (leaves (device_in (session_of p first)))) q ≤ depth_of (cert_in (session_of p first)) (device_in (session_of p first)) q
  pub numbers : next_of now.next + length (drop k (leaves (device_in (session_of p first)))) ≤ 2 ^ 64

pub begins : (p : Program) (r : Running) → IsGood p r → (stamp : Stamp) × IsStamp stamp × (machine_of (session_of p r) ≡ silent (device_in (session_of p r)) (next_of r.next) stamp) → next_of r.next + length (leaves (device_in (session_of p r))) ≤ 2 ^ 64 → Begins p r r 0
begins p r g still numbers = record {
  good = g;
  left = refl;
  room = λ q. subst (λ (m : Machine). held (places_row (cert_in (session_of p r))) (m.queues q) + begin_places (cert_in (session_of p r)) (leaves (device_in (session_of p r))) q ≤ depth_of (cert_in (session_of p r)) (device_in (session_of p r)) q) (sym still.2)
      (omega (arith, g.program.holds.fits.begins q));
  numbers = numbers;
}

drop_last : {X : Type 0} (xs : List X) (k : ℕ) → length xs ≤ k → drop k xs ≡ []
drop_last [] zero h = refl
drop_last [] (suc k) h = refl
drop_last (x ∷ xs) zero h = absurd (omega (arith, h))
drop_last (x ∷ xs) (suc k) h = drop_last xs k (omega (arith, h))

pub all_begun : (p : Program) (first now : Running) (k : ℕ) → Begins p first now k → length (leaves (device_in (session_of p first))) ≤ k → machine_of (session_of p now) ≡ begun (leaves (device_in (session_of p first))) (machine_of (session_of p first))
all_begun p first now k b h = ap (λ ls. begun ls (machine_of (session_of p now))) (sym (drop_last (leaves (device_in (session_of p first))) k h)) ∙ b.left

module _ (p : Program) (first now : Running) (k : ℕ) (b : Begins p first now k) (leaf : Leaf) (at : slice_get (leaves (device_in (session_of p first))) k ≡ Some leaf) where
  abbrev cert : Certificate
  cert = cert_in (session_of p first)

  abbrev device : Device
  device = device_in (session_of p first)

  abbrev all : List Leaf
  all = leaves (device_in (session_of p first))

  abbrev m : Machine
  m = machine_of (session_of p now)

  more : drop k all ≡ leaf ∷ drop (suc k) all
  more = drop_first all k leaf at

  next_up : suc k ≡ k + 1
  next_up = omega arith

  left_more : begun (drop (suc k) all) (cond (is_restart leaf.kind) (admitted m (beginning leaf)) m) ≡ begun all (machine_of (session_of p first))
  left_more = ap (λ ls. begun ls m) (sym more) ∙ b.left

  places_more : (q : ℕ) → held (places_row cert) (m.queues q) + (cond (is_restart leaf.kind && eqb leaf.home q) (places_row cert (at_place leaf.path begin)) 0 + begin_places cert (drop (suc k) all) q) ≤ depth_of cert device q
  places_more q = subst (λ ls. held (places_row cert) (m.queues q) + begin_places cert ls q ≤ depth_of cert device q) more (b.room q)

  -- another leaf
  passed_on : is_restart leaf.kind ≡ false → (new : Running) → IsGood p new → machine_of (session_of p new) ≡ m → Begins p first new (k + 1)
  passed_on h new g is = subst (Begins p first new) next_up (record {
    good = g;
    left = ap (begun (drop (suc k) all)) is ∙ ap (λ c. begun (drop (suc k) all) (cond c (admitted m (beginning leaf)) m)) (sym h) ∙ left_more;
    room = λ q. subst (λ (n : Machine). held (places_row cert) (n.queues q) + begin_places cert (drop (suc k) all) q ≤ depth_of cert device q) (sym is) (let none : cond (is_restart leaf.kind && eqb leaf.home q) (places_row cert (at_place leaf.path begin)) 0 ≡ 0 = ap (λ c. cond (c && eqb leaf.home q) (places_row cert (at_place leaf.path begin)) 0) h in omega (arith, places_more q, none));
    numbers = (let next : next_of new.next ≡ m.next = ap (λ (n : Machine). n.next) is in omega (arith, b.numbers, ap length more, next));
  })

  module _ (h : is_restart leaf.kind ≡ true) where
    own : cond (is_restart leaf.kind && eqb leaf.home leaf.home) (places_row cert (at_place leaf.path begin)) 0 ≡ places_row cert (at_place leaf.path begin)
    own = ap (λ c. cond (c && eqb leaf.home leaf.home) (places_row cert (at_place leaf.path begin)) 0) h ∙ ap (λ c. cond c (places_row cert (at_place leaf.path begin)) 0) (eq-eqb leaf.home leaf.home refl)

    pub has_room : HasRoom cert device m (beginning leaf)
    has_room = record { credit = omega (arith, places_more leaf.home, own); number = omega (arith, b.numbers, ap length more) }

    -- it is admitted
    begun_one : (new : Running) → IsGood p new → machine_of (session_of p new) ≡ admitted m (beginning leaf) → Begins p first new (k + 1)
    begun_one new g is = subst (Begins p first new) next_up (record {
      good = g;
      left = ap (begun (drop (suc k) all)) is ∙ ap (λ c. begun (drop (suc k) all) (cond c (admitted m (beginning leaf)) m)) (sym h) ∙ left_more;
      room = λ q. subst (λ (n : Machine). held (places_row cert) (n.queues q) + begin_places cert (drop (suc k) all) q ≤ depth_of cert device q) (sym is)
          (put_all (λ j es. held (places_row cert) es + begin_places cert (drop (suc k) all) j ≤ depth_of cert device j) m.queues leaf.home (m.queues leaf.home ++ record { cause = m.next; opening = at_place leaf.path begin; place = at_place leaf.path begin; values = [] } ∷ [])
          (omega (
            arith,
            places_more leaf.home,
            own,
            held_offer (places_row cert) (m.queues leaf.home) (record { cause = m.next; opening = at_place leaf.path begin; place = at_place leaf.path begin; values = [] })
                (all_weaker (IsKnown device b.good.sound.opening_of b.good.sound.home_of m.next leaf.home) (λ (e : Entry). e.cause < m.next) (m.queues leaf.home) (λ e k. k.cause) (b.good.sound.entries leaf.home)),
          ))
          (λ j n. omega (arith, places_more j)) q);
      numbers = (let next : next_of new.next ≡ m.next + 1 = ap (λ (n : Machine). n.next) is in omega (arith, b.numbers, ap length more, next));
    })

  -- with the BEGIN of this leaf, where it has one
  pub begun_next : (new : Running) → IsGood p new → machine_of (session_of p new) ≡ cond (is_restart leaf.kind) (admitted m (beginning leaf)) m → Begins p first new (k + 1)
  begun_next new g is = go (is_restart leaf.kind) refl is
    where
      go : (c : Bool) → is_restart leaf.kind ≡ c → machine_of (session_of p new) ≡ cond c (admitted m (beginning leaf)) m → Begins p first new (k + 1)
      go true h e = begun_one h new g e
      go false h e = passed_on h new g e

-- what is short of places or numbers has no room, so where there is room an arrival is admitted
pub admitted_where_room : (cert : Certificate) (device : Device) (old : Machine) (leaf : Leaf) (new : Machine) (result : Result ℕ Shortage) → HasRoom cert device old (beginning leaf) → IfOk result (λ cause. Admits cert device old (beginning leaf) cause new)
    → IfErr result (λ why. IsShort cert device old (beginning leaf) why × (new ≡ old)) → new ≡ admitted old (beginning leaf)
admitted_where_room c d old leaf new (Ok cause) room ok err = ok.new_is
admitted_where_room c d old leaf new (Err why) room ok err = absurd (no_room c d old (beginning leaf) why err.0 room)
