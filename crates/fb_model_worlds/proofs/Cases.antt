-- What an event does to a world: nothing, or it opens causes, or serves an entry, or a datagram is admitted.
use Rattle.std.proofs.Common.{◌≡◌, ℕ, zero, suc, ◌==◌, ℤ, List, [], ◌∷◌, Option, Some, refl, subst, if◌then◌else◌}
use Rattle.std.specs.Prelude.{true, slice_get}
use Rattle.std.specs.List.{AllByRecursion}
use Rattle.fb_model.specs.Names.{Place}
use Rattle.fb_model.specs.System.{System, Device}
use Rattle.fb_model.specs.Messages.{Message, Purpose, To_channel, To_input}
use Rattle.fb_model.specs.Wires.{Leaf}
use Rattle.fb_model.specs.Serving.{Effect, is_ready}
use Rattle.fb_model.specs.Certificates.{Certificate, DeviceHolds}
use Rattle.fb_model.specs.Devices.{Ended, Machine, Admitted, Denied, Expired, Idle, Ran, subscriber_of, input_of, addressed, admitted, arriving, with_stamp, numbers_in, format_in, format_of, IsFresh, IsReady, Delivers, Deliver, Runs}
use Rattle.fb_model.specs.Headline.{IsSound}
use Rattle.fb_model.specs.World.{Datagram, World, WorldEvent, At_device, Deliver_datagram, An_offer, A_tick, A_dispatch, WorldAnswer, Answered, Unknown, OpensCauses, AddsSteps, AdmitsDatagram, WorldHappens}
use Rattle.fb_model.proofs.Admitting.{sound_next}
use Rattle.fb_model.specs.Worlds.{AllHold, IsSent, IsWorldSound, dispatches_of}
use Rattle.fb_model_worlds.proofs.Spelling.{spells_one}
use Rattle.fb_model_worlds.proofs.Growing.{Grows, offer_grows, tick_grows}

-- what is so of each is so of the one of a number
pub at_number : {A : Type 0} (P : A → Type 0) (xs : List A) (n : ℕ) (x : A) → slice_get xs n ≡ Some x → AllByRecursion P xs → P x
at_number P [] n x e h = cc
at_number P (y ∷ ys) zero x e h = (let is : y ≡ x = cc in subst P is h.0)
at_number P (y ∷ ys) (suc n) x e h = at_number P ys n x e h.1

-- a device admits a datagram
pub record Admits (cert : Certificate) (device : Device) (old : Machine) (datagram : Datagram) (cause : ℕ) (new : Machine) : Type 0 where
  pub leaf : Leaf
  pub values : List ℤ
  pub known : subscriber_of device datagram.message.number ≡ Some leaf
  pub format : format_in datagram.message.stamp ≡ format_of leaf.kind
  pub ready : is_ready (old.store leaf.path).condition ≡ true
  pub fresh : IsFresh (old.store leaf.path).condition datagram.message.stamp
  pub cause_is : cause ≡ old.next
  pub new_is : new ≡ admitted (with_stamp old leaf datagram.message.stamp) (arriving leaf values)
  pub sound : IsSound cert device new

pub data Case (system : System) (cert : Certificate) (old : World) (event : WorldEvent) (answer : WorldAnswer) (new : World) : Type 0 where
  rests : new ≡ old → ((root : ℕ) → dispatches_of old root event answer ≡ 0) → Case system cert old event answer new
  opens : (d : ℕ) (device : Device) (machine : Machine) → slice_get system.devices d ≡ Some device → Grows cert device (old.machines d) machine → OpensCauses old new d machine → ((root : ℕ) → dispatches_of old root event answer ≡ 0) → Case system cert old event answer new
  serves : (d : ℕ) (device : Device) (machine : Machine) (q cause : ℕ) (place : Place) (steps : ℕ) (effect : Option Effect) (ended : Option Ended) (sent : Option ℕ) → slice_get system.devices d ≡ Some device
      → Runs cert device (old.machines d) q cause place steps effect ended machine → AddsSteps old new d machine cause steps effect ended sent → ((root : ℕ) → dispatches_of old root event answer ≡ (if old.root_of d cause == root then 1 else 0)) → Case system cert old event answer new
  takes : (d n cause : ℕ) (device : Device) (datagram : Datagram) (machine : Machine) → slice_get system.devices d ≡ Some device → slice_get old.datagrams n ≡ Some datagram → Admits cert device (old.machines d) datagram cause machine → AdmitsDatagram old new d n machine datagram cause
      → ((root : ℕ) → dispatches_of old root event answer ≡ 0) → Case system cert old event answer new

module _ (system : System) (cert : Certificate) (hold : AllHold system cert) where
  pub device_holds : (d : ℕ) (device : Device) → slice_get system.devices d ≡ Some device → DeviceHolds cert device
  device_holds d device at = at_number (DeviceHolds cert) system.devices d device at hold

  admits : (device : Device) (holding : DeviceHolds cert device) (old new : Machine) (datagram : Datagram) (bytes : List ℕ) (cause : ℕ) → IsSound cert device old → datagram.message.purpose ≡ To_channel → Rattle.fb_model.specs.Messages.Spells datagram.message bytes
      → (x : Delivers cert device old bytes cause new) → Admits cert device old datagram cause new
  admits device holding old new datagram bytes cause s p spelled x =
      let is : x.message ≡ datagram.message = spells_one bytes x.message datagram.message x.spelled spelled in
      let known : addressed device datagram.message ≡ Some x.leaf = subst (λ m. addressed device m ≡ Some x.leaf) is x.known in
      let ready : IsReady old x.leaf datagram.message.purpose = subst (λ (m : Message). IsReady old x.leaf m.purpose) is x.ready in
      record {
        leaf = x.leaf;
        values = numbers_in x.message.values;
        known = subst (λ (p : Purpose). (elim p [ To_channel ↦ subscriber_of device datagram.message.number | To_input ↦ input_of device datagram.message.number ]) ≡ Some x.leaf) p known;
        format = subst (λ (m : Message). format_in m.stamp ≡ format_of x.leaf.kind) is x.shape.format;
        ready = subst (λ (p : Purpose). IsReady old x.leaf p) p ready;
        fresh = subst (λ (m : Message). IsFresh (old.store x.leaf.path).condition m.stamp) is x.fresh;
        cause_is = x.cause_is;
        new_is = subst (λ (m : Message). new ≡ admitted (with_stamp old x.leaf m.stamp) (arriving x.leaf (numbers_in x.message.values))) is x.new_is;
        sound = sound_next cert device holding old (Deliver bytes) (Admitted cause) new s x;
      }

  pub case : (old : World) (event : WorldEvent) (answer : WorldAnswer) (new : World) → IsWorldSound system cert old → WorldHappens system cert old event answer new → Case system cert old event answer new
  case old (At_device d (An_offer input values)) (Answered (Admitted cause) sent) new s h =
      opens d h.0 h.1 h.2 (offer_grows cert h.0 (device_holds d h.0 h.2) (old.machines d) h.1 input values cause (s.machines d h.0 h.2) h.3) h.4.0 (λ root. refl)
  case old (At_device d (An_offer input values)) (Answered (Denied why) sent) new s h = rests h.4.0 (λ root. refl)
  case old (At_device d (An_offer input values)) (Answered (Expired count) sent) new s h = absurd h.3
  case old (At_device d (An_offer input values)) (Answered Idle sent) new s h = absurd h.3
  case old (At_device d (An_offer input values)) (Answered (Ran cause place steps effect ended) sent) new s h = absurd h.3
  case old (At_device d (A_tick now)) (Answered (Admitted cause) sent) new s h = absurd h.3
  case old (At_device d (A_tick now)) (Answered (Denied why) sent) new s h = absurd h.3
  case old (At_device d (A_tick now)) (Answered (Expired count) sent) new s h =
      opens d h.0 h.1 h.2 (tick_grows cert h.0 (device_holds d h.0 h.2) (old.machines d) h.1 now count (s.machines d h.0 h.2) h.3) h.4.0 (λ root. refl)
  case old (At_device d (A_tick now)) (Answered Idle sent) new s h = absurd h.3
  case old (At_device d (A_tick now)) (Answered (Ran cause place steps effect ended) sent) new s h = absurd h.3
  case old (At_device d (A_dispatch q)) (Answered (Admitted cause) sent) new s h = absurd h.3
  case old (At_device d (A_dispatch q)) (Answered (Denied why) sent) new s h = absurd h.3
  case old (At_device d (A_dispatch q)) (Answered (Expired count) sent) new s h = absurd h.3
  case old (At_device d (A_dispatch q)) (Answered Idle sent) new s h = rests h.4.0 (λ root. refl)
  case old (At_device d (A_dispatch q)) (Answered (Ran cause place steps effect ended) sent) new s h = serves d h.0 h.1 q cause place steps effect ended sent h.2 h.3 h.4 (λ root. refl)
  case old (At_device d event) Unknown new s h = rests h.1 (λ root. refl)
  case old (Deliver_datagram zero d) (Answered answer sent) new s h = absurd h
  case old (Deliver_datagram (suc n) d) (Answered (Admitted cause) sent) new s h =
      let sent_is = at_number (IsSent system old) old.datagrams n h.1 h.4 s.datagrams in
      takes d n cause h.0 h.1 h.2 h.3 h.4 (admits h.0 (device_holds d h.0 h.3) (old.machines d) h.2 h.1 h.5.bytes cause (s.machines d h.0 h.3) sent_is.message.purpose h.5.spelled h.5.happens) h.6 (λ root. refl)
  case old (Deliver_datagram (suc n) d) (Answered (Denied why) sent) new s h = rests h.6 (λ root. refl)
  case old (Deliver_datagram (suc n) d) (Answered (Expired count) sent) new s h = rests h.6 (λ root. refl)
  case old (Deliver_datagram (suc n) d) (Answered Idle sent) new s h = rests h.6 (λ root. refl)
  case old (Deliver_datagram (suc n) d) (Answered (Ran cause place steps effect ended) sent) new s h = rests h.6 (λ root. refl)
  case old (Deliver_datagram n d) Unknown new s h = rests h.1 (λ root. refl)
