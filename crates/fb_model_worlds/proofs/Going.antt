-- There is a world after whatever a device may do.
use Rattle.std.proofs.Common.{◌≡◌, ℕ, suc, ◌+◌, ◌-◌, ◌≤◌, cond, Option, Some, None, refl, sym, ◌∙◌, ap, arith}
use Rattle.std.specs.Prelude.{slice_get, nat_lt}
use Rattle.std.proofs.lemmas.Bool.{eq-eqb, lt-ltb, le-ltb}
use Rattle.fb_model.specs.Names.{Place}
use Rattle.fb_model.specs.System.{System, Device}
use Rattle.fb_model.specs.Certificates.{Certificate}
use Rattle.fb_model.specs.Devices.{Machine, put, Answer, Admitted, Denied, Expired, Idle, Ran, Happens}
use Rattle.fb_model.specs.Headline.{IsKnown}
use Rattle.fb_model.specs.World.{Datagram, World, Root, Local, An_offer, A_tick, A_dispatch, At_device, Deliver_datagram, Answered, local_event, IsDelivered, OpensCauses, roots_from, posted, number_sent, stepped, forgotten, admitted_at, WorldHappens}
use Rattle.fb_model.proofs.Lists.{all_weaker}
use Rattle.fb_model.specs.Worlds.{AllHold, IsWorldSound, GoesOn}
use Rattle.fb_model_worlds.proofs.Cases.{device_holds}
use Rattle.fb_model_worlds.proofs.Growing.{Grows, offer_grows, tick_grows}

as_opened : (roots : ℕ → Root) (opening_of : ℕ → Place) (r n c e : ℕ) (o : Place) → r ≡ n → roots n ≡ record { opening = opening_of c; steps = 0 } → c ≡ e → o ≡ opening_of e → roots r ≡ record { opening = o; steps = 0 }
as_opened roots opening_of r n c e o a b k l = ap roots a ∙ b ∙ ap (λ x. record { opening = opening_of x; steps = 0 }) k ∙ ap (λ x. record { opening = x; steps = 0 }) (sym l)

module _ (cert : Certificate) (old : World) (d : ℕ) (device : Device) (machine : Machine) (g : Grows cert device (old.machines d) machine) where
  abbrev opened_roots : ℕ → Root
  opened_roots n = cond (nat_lt n old.next) (old.roots n) (record { opening = g.sound.opening_of ((old.machines d).next + (n - old.next)); steps = 0 })

  -- with the causes that a device has opened
  there_opens : (new : World) × OpensCauses old new d machine
  there_opens = (
    record {
      machines = put old.machines d machine;
      datagrams = old.datagrams;
      root_of = put old.root_of d (roots_from (old.root_of d) (old.machines d).next machine.next old.next);
      roots = opened_roots;
      next = old.next + (machine.next - (old.machines d).next);
    },
    record {
      machines = refl;
      datagrams = refl;
      root_of = refl;
      next = refl;
      before = λ n l. ap (λ t. cond t (old.roots n) (record { opening = g.sound.opening_of ((old.machines d).next + (n - old.next)); steps = 0 })) (lt-ltb n old.next l);
      opened = λ q. all_weaker (IsKnown device g.sound.opening_of g.sound.home_of machine.next q)
          (λ e. (old.machines d).next ≤ e.cause → (opened_roots (put old.root_of d (roots_from (old.root_of d) (old.machines d).next machine.next old.next) d e.cause) ≡ record { opening = e.opening; steps = 0 })) (machine.queues q)
          (λ e k l.
          let of_is : put old.root_of d (roots_from (old.root_of d) (old.machines d).next machine.next old.next) d e.cause ≡ roots_from (old.root_of d) (old.machines d).next machine.next old.next e.cause =
          ap (λ t. cond t (roots_from (old.root_of d) (old.machines d).next machine.next old.next) (old.root_of d) e.cause) (eq-eqb d d refl) in
          let a : roots_from (old.root_of d) (old.machines d).next machine.next old.next e.cause ≡ cond (nat_lt e.cause machine.next) (old.next + (e.cause - (old.machines d).next)) (old.root_of d e.cause) =
          ap (λ t. cond t (old.root_of d e.cause) (cond (nat_lt e.cause machine.next) (old.next + (e.cause - (old.machines d).next)) (old.root_of d e.cause))) (le-ltb e.cause (old.machines d).next l) in
          let b : cond (nat_lt e.cause machine.next) (old.next + (e.cause - (old.machines d).next)) (old.root_of d e.cause) ≡ old.next + (e.cause - (old.machines d).next) =
          ap (λ t. cond t (old.next + (e.cause - (old.machines d).next)) (old.root_of d e.cause)) (lt-ltb e.cause machine.next k.cause) in
          let later : opened_roots (old.next + (e.cause - (old.machines d).next)) ≡ record { opening = g.sound.opening_of ((old.machines d).next + ((old.next + (e.cause - (old.machines d).next)) - old.next)); steps = 0 } =
          ap (λ t. cond t (old.roots (old.next + (e.cause - (old.machines d).next))) (record { opening = g.sound.opening_of ((old.machines d).next + ((old.next + (e.cause - (old.machines d).next)) - old.next)); steps = 0 }))
          (le-ltb (old.next + (e.cause - (old.machines d).next)) old.next (omega arith)) in
          let cause_is : (old.machines d).next + ((old.next + (e.cause - (old.machines d).next)) - old.next) ≡ e.cause = omega (arith, l) in
          as_opened opened_roots g.sound.opening_of (put old.root_of d (roots_from (old.root_of d) (old.machines d).next machine.next old.next) d e.cause) (old.next + (e.cause - (old.machines d).next))
          ((old.machines d).next + ((old.next + (e.cause - (old.machines d).next)) - old.next)) e.cause e.opening (of_is ∙ a ∙ b) later cause_is k.opening)
          (g.sound.entries q);
    },
  )

module _ (system : System) (cert : Certificate) (hold : AllHold system cert) (old : World) (s : IsWorldSound system cert old) where
  there_then : (d : ℕ) (event : Local) (device : Device) (answer : Answer) (machine : Machine) → slice_get system.devices d ≡ Some device → Happens cert device (old.machines d) (local_event event) answer machine
      → (sent : Option ℕ) × (new : World) × WorldHappens system cert old (At_device d event) (Answered answer sent) new
  there_then d (An_offer input values) device (Admitted cause) machine at h =
      let o = there_opens cert old d device machine (offer_grows cert device (device_holds system cert hold d device at) (old.machines d) machine input values cause (s.machines d device at) h) in
      (None, o.0, (device, machine, at, h, (o.1, refl)))
  there_then d (An_offer input values) device (Denied why) machine at h = (None, old, (device, machine, at, h, (refl, refl)))
  there_then d (An_offer input values) device (Expired count) machine at h = absurd h
  there_then d (An_offer input values) device Idle machine at h = absurd h
  there_then d (An_offer input values) device (Ran cause place steps effect ended) machine at h = absurd h
  there_then d (A_tick now) device (Expired count) machine at h =
      let o = there_opens cert old d device machine (tick_grows cert device (device_holds system cert hold d device at) (old.machines d) machine now count (s.machines d device at) h) in
      (None, o.0, (device, machine, at, h, (o.1, refl)))
  there_then d (A_tick now) device (Admitted cause) machine at h = absurd h
  there_then d (A_tick now) device (Denied why) machine at h = absurd h
  there_then d (A_tick now) device Idle machine at h = absurd h
  there_then d (A_tick now) device (Ran cause place steps effect ended) machine at h = absurd h
  there_then d (A_dispatch q) device Idle machine at h = (None, old, (device, machine, at, h, (refl, refl)))
  there_then d (A_dispatch q) device (Ran cause place steps effect ended) machine at h = (
    number_sent old.datagrams effect,
    record {
      machines = put old.machines d machine;
      datagrams = posted old.datagrams (old.root_of d cause) effect;
      root_of = forgotten old.root_of d cause ended;
      roots = stepped old.roots (old.root_of d cause) steps;
      next = old.next;
    },
    (device, machine, at, h, record { machines = refl; datagrams = refl; root_of = refl; next = refl; roots = refl; sent_is = refl }),
  )
  there_then d (A_dispatch q) device (Admitted cause) machine at h = absurd h
  there_then d (A_dispatch q) device (Denied why) machine at h = absurd h
  there_then d (A_dispatch q) device (Expired count) machine at h = absurd h

  there_delivered : (d n : ℕ) (device : Device) (datagram : Datagram) (answer : Answer) (machine : Machine) → slice_get system.devices d ≡ Some device → slice_get old.datagrams n ≡ Some datagram → IsDelivered cert device datagram (old.machines d) answer machine
      → (new : World) × WorldHappens system cert old (Deliver_datagram (suc n) d) (Answered answer None) new
  there_delivered d n device datagram (Admitted cause) machine at got h = (
    record {
      machines = put old.machines d machine;
      datagrams = admitted_at old.datagrams n d;
      root_of = put old.root_of d (put (old.root_of d) cause datagram.root);
      roots = old.roots;
      next = old.next;
    },
    (device, datagram, machine, at, got, h, record { machines = refl; datagrams = refl; root_of = refl; next = refl; roots = refl }, refl),
  )
  there_delivered d n device datagram (Denied why) machine at got h = (old, (device, datagram, machine, at, got, h, refl, refl))
  there_delivered d n device datagram (Expired count) machine at got h = (old, (device, datagram, machine, at, got, h, refl, refl))
  there_delivered d n device datagram Idle machine at got h = (old, (device, datagram, machine, at, got, h, refl, refl))
  there_delivered d n device datagram (Ran cause place steps effect ended) machine at got h = (old, (device, datagram, machine, at, got, h, refl, refl))

  pub goes_on : GoesOn system cert old
  goes_on = record { at_device = there_then; delivers = there_delivered }
