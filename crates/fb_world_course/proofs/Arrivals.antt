-- Offers and ticks of a device, in the book's world.
use Rattle.std.proofs.Common.{◌≡◌, ℕ, ◌+◌, ◌<◌, ℤ, List, [], ◌∷◌, ◌++◌, length, slice_get, Some, None, Result, Ok, Err, refl, sym, ◌∙◌, ap, subst, arith}
use Rattle.std.specs.Prelude.{set, is_ok, if◌then◌else◌}
use Rattle.std.specs.List.{AllByRecursion}
use Rattle.std.proofs.lemmas.List.{append-nil}
use Rattle.fb_model.specs.Devices as book
use Rattle.fb_model.specs.Devices.{Machine, Entry, Event, Offer, Tick, Expired, Happens}
use Rattle.fb_model.specs.Headline.{IsSound, IsKnown}
use Rattle.fb_model.specs.World.{An_offer, A_tick, At_device, Answered, OpensCauses, roots_from}
use Rattle.fb_model.proofs.Lists.{all_weaker}
use Rattle.fb_model.specs.Worlds.{IsWorldSound}
use Rattle.fb_model_worlds.proofs.Cases.{device_holds}
use Rattle.fb_model_worlds.proofs.Growing.{offer_grows, tick_grows}
use Rattle.fb_verified.specs.declared.verified.Verified.{Verified}
use Rattle.fb_verified.specs.Checked.{system_in, certificate_in}
use Rattle.fb_device_arrivals.specs.declared.denied.Denied.{Denied}
use Rattle.fb_device_arrivals.specs.Answers.{admission_of}
use Rattle.fb_device_state.specs.Machines.{device_in, cert_in, machine_of}
use Rattle.fb_world_course.specs.declared.station.Root.{Root}
use Rattle.fb_world_course.specs.declared.station.Station.{Station}
use Rattle.fb_world_course.specs.declared.course.Course.{Course}
use Rattle.fb_world_course.specs.Scenes.{root_for, world_in}
use Rattle.fb_world_course.specs.Roots.{IsCounted, OpensRoots, with_device}
use Rattle.fb_world_course.specs.Keeping.{IsStation, IsRoot, IsSteady, IsKept, Goes}
use Rattle.fb_world_course.proofs.Worlds.{machine_here}
use Rattle.fb_world_course.proofs.Openings.{causes_open, roots_open}
use Rattle.fb_world_course.proofs.Stations.{from_none, tick_counts}
use Rattle.fb_world_course.proofs.Kept.{all_hold, reached_sound, device_stands, cert_same, steady_set, worlds_same}

-- nothing was opened
none_more : (roots roots' more : List Root) → roots' ≡ roots ++ more → length more ≡ 0 → roots' ≡ roots
none_more roots roots' [] e n = e ∙ append-nil roots
none_more roots roots' (x ∷ xs) e n = absurd (omega (arith, n))

module _ (v : Verified) (old new : Course) (k : IsKept v old) (d : ℕ) (s t : Station) (stands : slice_get old.stations.items d ≡ Some s) (set_is : new.stations.items ≡ set old.stations.items d t)
    (same : (t.device.verified ≡ s.device.verified) × (t.device.number ≡ s.device.number)) (grams : new.datagrams.items ≡ old.datagrams.items) (dispatches : new.dispatches ≡ old.dispatches) where
  abbrev was : IsStation v d s
  was = k.steady.stations d s stands

  verified : t.device.verified ≡ v
  verified = same.0 ∙ was.verified

  number : t.device.number ≡ d
  number = same.1 ∙ was.number

  at : slice_get (system_in v).devices d ≡ Some (device_in s.device)
  at = device_stands v old k.steady.count d s stands was

  sound : IsWorldSound (system_in v) (certificate_in v) (world_in v old)
  sound = reached_sound v (world_in v old) k.checked k.reached

  sound_here : IsSound (certificate_in v) (device_in s.device) ((world_in v old).machines d)
  sound_here = sound.machines d (device_in s.device) at

  -- what happens at the device is so in what was checked
  pub happens_here : (e : Event) (a : book.Answer) → Happens (cert_in s.device) (device_in s.device) (machine_of s.device) e a (machine_of t.device) → Happens (certificate_in v) (device_in s.device) ((world_in v old).machines d) e a (machine_of t.device)
  happens_here e a h =
      subst (λ m. Happens (certificate_in v) (device_in s.device) m e a (machine_of t.device)) (sym (machine_here v old d s stands))
      (subst (λ c. Happens c (device_in s.device) (machine_of s.device) e a (machine_of t.device)) (cert_same v s.device was.verified) h)

  module _ (count : ℕ) (opens : OpensRoots (with_device s t.device) d count old.roots.items t new.roots.items) (next : (machine_of t.device).next ≡ (machine_of s.device).next + count) where
    counted_now : IsCounted t
    counted_now = omega (arith, opens.causes, next, was.counted)

    pub steady_open : IsSteady v new
    steady_open =
        steady_set v old new d s t stands set_is k.steady (record { verified = verified; number = number; counted = counted_now })
        (subst (λ n. AllByRecursion (IsRoot v n) new.roots.items) (sym dispatches) (roots_open v old new d count s t stands set_is verified number was.counted counted_now opens grams old.dispatches k.steady.roots))

    pub world_opens : IsSound (certificate_in v) (device_in s.device) (machine_of t.device) → OpensCauses (world_in v old) (world_in v new) d (machine_of t.device)
    world_opens x =
        causes_open v old new d count s t stands set_is verified number was.counted counted_now opens grams x.opening_of
        (λ q. all_weaker (IsKnown (device_in s.device) x.opening_of x.home_of (machine_of t.device).next q) (λ e. (e.opening ≡ x.opening_of e.cause) × (e.cause < (machine_of t.device).next)) ((machine_of t.device).queues q) (λ e i. (i.opening, i.cause)) (x.entries q))

    -- where no root was opened and the machine stays, the world stays
    pub world_rests : count ≡ 0 → machine_of t.device ≡ machine_of s.device → world_in v new ≡ world_in v old
    world_rests none m =
        worlds_same v old new d s t stands set_is m
        (λ c. opens.rooted c ∙ ap (λ n. roots_from (root_for s.roots.entries) (s.causes + 1) (s.causes + 1 + n) (length old.roots.items + 1) c) none ∙ sym (from_none (root_for s.roots.entries) (s.causes + 1) (length old.roots.items + 1) c))
        grams (none_more old.roots.items new.roots.items opens.more opens.roots_are (opens.counted ∙ none))

  -- an offer
  pub offer_goes : (input : ℕ) (values : List ℤ) (r : Result ℕ Denied) → Happens (cert_in s.device) (device_in s.device) (machine_of s.device) (Offer input values) (admission_of r) (machine_of t.device)
      → OpensRoots (with_device s t.device) d (if is_ok r then 1 else 0) old.roots.items t new.roots.items → Goes v old (At_device d (An_offer input values)) (Answered (admission_of r) None) new
  offer_goes input values (Ok cause) h opens =
      let i = happens_here (Offer input values) (admission_of (Ok cause)) h in
      let next : (machine_of t.device).next ≡ (machine_of s.device).next + 1 = ap (λ (m : Machine). m.next) h.new_is in
      let g = offer_grows (certificate_in v) (device_in s.device) (device_holds (system_in v) (certificate_in v) (all_hold v k.checked) d (device_in s.device) at) ((world_in v old).machines d) (machine_of t.device) input values cause sound_here i in
      record { happens = (device_in s.device, machine_of t.device, at, i, (world_opens 1 opens next g.sound, refl)); steady = steady_open 1 opens next }
  offer_goes input values (Err why) h opens =
      let next : (machine_of t.device).next ≡ (machine_of s.device).next + 0 = omega (arith, ap (λ (m : Machine). m.next) h.1) in
      record {
        happens = (device_in s.device, machine_of t.device, at, happens_here (Offer input values) (admission_of (Err why)) h, (world_rests 0 opens next refl h.1, refl));
        steady = steady_open 0 opens next;
      }

  -- a moment of the clock
  pub tick_goes : (now count : ℕ) → Happens (cert_in s.device) (device_in s.device) (machine_of s.device) (Tick now) (Expired count) (machine_of t.device) → OpensRoots (with_device s t.device) d count old.roots.items t new.roots.items
      → Goes v old (At_device d (A_tick now)) (Answered (Expired count) None) new
  tick_goes now count h opens =
      let i = happens_here (Tick now) (Expired count) h in
      let next = (tick_counts (cert_in s.device) (device_in s.device) (machine_of s.device) (machine_of t.device) now count h).next in
      let g = tick_grows (certificate_in v) (device_in s.device) (device_holds (system_in v) (certificate_in v) (all_hold v k.checked) d (device_in s.device) at) ((world_in v old).machines d) (machine_of t.device) now count sound_here i in
      record { happens = (device_in s.device, machine_of t.device, at, i, (world_opens count opens next g.sound, refl)); steady = steady_open count opens next }
