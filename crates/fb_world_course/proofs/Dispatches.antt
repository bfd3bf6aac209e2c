-- Dispatches, in the book's world.
use Rattle.std.proofs.Common.{◌≡◌, ℕ, zero, suc, ◌+◌, ◌-◌, ◌<◌, ◌≤◌, ◌^◌, cond, eqb, List, [], ◌∷◌, ◌++◌, map, length, slice_get, Option, Some, None, refl, sym, ◌∙◌, ap, subst, arith}
use Rattle.std.specs.Prelude.{set, replicate, is_some, slice_index_or}
use Rattle.std.specs.List.{AllByRecursion}
use Rattle.std.specs.Option.{option_map}
use Rattle.std.specs.Vec.{vec_capacity}
use Rattle.indexmap.specs.IndexMap.{spare}
use Rattle.std.proofs.lemmas.List.{length-map, length-set, length-append, map-append}
use Rattle.std.proofs.lemmas.Bool.{ne_eqb}
use Rattle.fb_model.specs.System.{System, Device}
use Rattle.fb_model.specs.Wires.{leaves}
use Rattle.fb_model.specs.Devices as book
use Rattle.fb_model.specs.Devices.{Machine, put, Happens}
use Rattle.fb_model.specs.World as worlds
use Rattle.fb_model.specs.World.{A_dispatch, At_device, Answered, AddsSteps, posted, number_sent, stepped, forgotten}
use Rattle.fb_model.specs.Worlds.{IsOpened, IsWorldSound}
use Rattle.fb_verified.specs.declared.verified.Verified.{Verified}
use Rattle.fb_verified.specs.Checked.{system_in, certificate_in}
use Rattle.fb_chart.specs.declared.standing.Effect.{Effect}
use Rattle.fb_chart.specs.declared.standing.Effect.TheVariants as e
use Rattle.fb_chart.specs.Responses.{effect_of}
use Rattle.fb_device_dispatch.specs.declared.answer.Ended.{Ended}
use Rattle.fb_device_dispatch.specs.declared.answer.Ran.{Ran}
use Rattle.fb_device_dispatch.specs.declared.answer.Dispatched.TheVariants as d
use Rattle.fb_device_dispatch.specs.Answers.{dispatched_of, end_of}
use Rattle.fb_device_state.specs.Sessions.{Session}
use Rattle.fb_device_state.specs.Machines.{device_in, cert_in, machine_of}
use Rattle.fb_world_course.specs.declared.sent.Sent.{Sent}
use Rattle.fb_world_course.specs.declared.station.Root.{Root}
use Rattle.fb_world_course.specs.declared.station.Station.{Station}
use Rattle.fb_world_course.specs.declared.course.Course.{Course}
use Rattle.fb_world_course.specs.Scenes.{root_for, root_in, numbered, datagram_of, world_in}
use Rattle.fb_world_course.specs.Answers.{leaves_at}
use Rattle.fb_world_course.specs.Roots.{with_device}
use Rattle.fb_world_course.specs.Booking.{fresh, posted_in, number_in, with_steps, IsBookable, IsBooked}
use Rattle.fb_world_course.specs.Keeping.{IsStation, IsRoot, IsKept, Goes}
use Rattle.fb_world_course.specs.Room.{Uses}
use Rattle.fb_lists.proofs.Lists.{set_stands, within_got, same_at, all_got}
use Rattle.fb_world_course.proofs.Lists.{eqb_suc, set_got, set_twice, got_there, all_set}
use Rattle.fb_world_course.proofs.Worlds.{cond_ap, put_same, machines_put, roots_put, machine_here, roots_here}
use Rattle.fb_world_course.proofs.Openings.{device_same}
use Rattle.fb_world_course.proofs.Kept.{reached_sound, device_stands, cert_same, steady_set, worlds_same}
use Rattle.fb_world_course.proofs.Rooms.{device_kept, uses_set}
use Rattle.fb_model.proofs.Lists.{all_weaker}

-- ---- what is sent

abbrev zeros : ℕ → List ℕ
zeros n = replicate n 0

none_admitted : (n j : ℕ) → ◌≡◌ {A = ℕ} (slice_index_or (zeros n) j 0) 0
none_admitted zero j = refl
none_admitted (suc n) zero = refl
none_admitted (suc n) (suc j) = none_admitted n j

posted_so : (gs : List Sent) (r : ℕ) (effect : Option Effect) → map datagram_of (posted_in gs r effect) ≡ posted (map datagram_of gs) r (effect_of effect)
posted_so gs r None = refl
posted_so gs r (Some (e.Write number values)) = refl
posted_so gs r (Some (e.Send message)) =
    map-append datagram_of gs (fresh message r ∷ [])
    ∙ ap (λ (f : ℕ → ℕ). map datagram_of gs ++ record { message = message; root = r; admissions = f } ∷ []) (λ i j. none_admitted 16 j i)

number_so : (gs : List Sent) (effect : Option Effect) → number_in gs effect ≡ number_sent (map datagram_of gs) (effect_of effect)
number_so gs None = refl
number_so gs (Some (e.Write number values)) = refl
number_so gs (Some (e.Send message)) = ap (λ n. Some (n + 1)) (sym (length-map gs datagram_of))

posted_length : (gs : List Sent) (r : ℕ) (effect : Option Effect) → length (posted_in gs r effect) ≤ length gs + 1
posted_length gs r None = omega arith
posted_length gs r (Some (e.Write number values)) = omega arith
posted_length gs r (Some (e.Send message)) = omega (arith, length-append gs (fresh message r ∷ []))

-- ---- steps of a root

stepped_so : (system : System) (roots : List Root) (r steps : ℕ) (root : Root) → slice_get roots r ≡ Some root
    → (λ (n : ℕ). root_in system (numbered (set roots r (with_steps root steps)) n)) ≡ stepped (λ n. root_in system (numbered roots n)) (suc r) steps
stepped_so system roots r steps root h = λ i n. at n i
  where
    f : ℕ → worlds.Root
    f n = root_in system (numbered roots n)

    here : record { opening = (f (suc r)).opening; steps = (f (suc r)).steps + steps } ≡ root_in system (Some (with_steps root steps))
    here = ap (λ (o : Option Root). record { opening = (root_in system o).opening; steps = (root_in system o).steps + steps }) h

    at : (n : ℕ) → root_in system (numbered (set roots r (with_steps root steps)) n) ≡ stepped (λ m. root_in system (numbered roots m)) (suc r) steps n
    at zero = sym (ap (λ b. cond b (record { opening = (f (suc r)).opening; steps = (f (suc r)).steps + steps }) (f zero)) (ne_eqb (suc r) zero (λ e. omega (arith, e))))
    at (suc k) =
        ap (root_in system) (set_got roots r k (with_steps root steps) (within_got roots r root h))
        ∙ cond_ap (root_in system) (eqb r k) (Some (with_steps root steps)) (slice_get roots k)
        ∙ ap (λ x. cond (eqb r k) x (f (suc k))) (sym here)
        ∙ ap (λ b. cond b (record { opening = (f (suc r)).opening; steps = (f (suc r)).steps + steps }) (f (suc k))) (sym (eqb_suc r k))

-- the root of a cause that has ended is forgotten
forgotten_so : (of : ℕ → ℕ → ℕ) (k cause : ℕ) (ended : Option Ended) → put of k (cond (is_some ended) (put (of k) cause 0) (of k)) ≡ forgotten of k cause (option_map end_of ended)
forgotten_so of k cause None = put_same of k (of k) refl
forgotten_so of k cause (Some x) = refl

weaker_root : (v : Verified) (n : ℕ) (r : Root) → IsRoot v n r → IsRoot v (n + 1) r
weaker_root v n r h = record { far = h.far; few = omega (arith, h.few) }

more_steps : (v : Verified) (n steps : ℕ) (r : Root) → steps < 2 ^ 64 → IsRoot v n r → IsRoot v (n + 1) (with_steps r steps)
more_steps v n steps r l h = record { far = h.far; few = omega (arith, h.few, l) }

module _ (v : Verified) (old mid : Course) (k : IsKept v old) (n q : ℕ) (s : Station) (device : Session) (stands : slice_get old.stations.items n ≡ Some s) (set_is : mid.stations.items ≡ set old.stations.items n (with_device s device))
    (same : (device.verified ≡ s.device.verified) × (device.number ≡ s.device.number)) (grams : mid.datagrams.items ≡ old.datagrams.items) (roots : mid.roots.items ≡ old.roots.items) (dispatches : mid.dispatches ≡ old.dispatches) where
  abbrev was : IsStation v n s
  was = k.steady.stations n s stands

  verified : device.verified ≡ v
  verified = same.0 ∙ was.verified

  number : device.number ≡ n
  number = same.1 ∙ was.number

  at : slice_get (system_in v).devices n ≡ Some (device_in s.device)
  at = device_stands v old k.steady.count n s stands was

  mid_stands : slice_get mid.stations.items n ≡ Some (with_device s device)
  mid_stands = ap (λ xs. slice_get xs n) set_is ∙ set_stands old.stations.items n s (with_device s device) stands

  sound : IsWorldSound (system_in v) (certificate_in v) (world_in v old)
  sound = reached_sound v (world_in v old) k.checked k.reached

  happens_here : (a : book.Answer) → Happens (cert_in s.device) (device_in s.device) (machine_of s.device) (book.Dispatch q) a (machine_of device) → Happens (certificate_in v) (device_in s.device) ((world_in v old).machines n) (book.Dispatch q) a (machine_of device)
  happens_here a h =
      subst (λ m. Happens (certificate_in v) (device_in s.device) m (book.Dispatch q) a (machine_of device)) (sym (machine_here v old n s stands))
      (subst (λ c. Happens c (device_in s.device) (machine_of s.device) (book.Dispatch q) a (machine_of device)) (cert_same v s.device was.verified) h)

  -- nothing was pending
  pub idle_goes : Happens (cert_in s.device) (device_in s.device) (machine_of s.device) (book.Dispatch q) book.Idle (machine_of device) → Goes v old (At_device n (A_dispatch q)) (Answered book.Idle None) mid
  idle_goes h =
      record {
        happens = (device_in s.device, machine_of device, at, happens_here book.Idle h, (worlds_same v old mid n s (with_device s device) stands set_is h.1 (λ c. refl) grams roots, refl));
        steady = steady_set v old mid n s (with_device s device) stands set_is k.steady (record { verified = verified; number = number; counted = was.counted ∙ sym (ap (λ (m : Machine). m.next) h.1) })
            (subst (λ x. AllByRecursion (IsRoot v x) mid.roots.items) (sym dispatches) (subst (AllByRecursion (IsRoot v old.dispatches)) (sym roots) k.steady.roots));
      }

  module _ (ran : Ran) (h : Happens (cert_in s.device) (device_in s.device) (machine_of s.device) (book.Dispatch q) (dispatched_of (leaves (device_in s.device)) (d.Ran ran)) (machine_of device)) where
    abbrev root : ℕ
    root = root_for s.roots.entries ran.cause

    root_is : (world_in v old).root_of n ran.cause ≡ root_for s.roots.entries ran.cause
    root_is = ap (λ f. f ran.cause) (roots_here v old n s stands)

    -- the root of its cause was opened
    opened : IsOpened (world_in v old) (root_for s.roots.entries ran.cause)
    opened =
        let all = sound.rooted n q in
        let was_is : ((world_in v old).machines n).queues q ≡ h.first ∷ h.rest = ap (λ (m : Machine). m.queues q) (machine_here v old n s stands) ∙ h.was in
        let first = subst (AllByRecursion (λ e. IsOpened (world_in v old) ((world_in v old).root_of n e.cause))) was_is all in
        subst (IsOpened (world_in v old)) root_is (subst (λ c. IsOpened (world_in v old) ((world_in v old).root_of n c)) (sym h.cause_is) first.0)

    found : (x : Root) × (slice_get old.roots.items (root_for s.roots.entries ran.cause - 1) ≡ Some x)
    found = got_there old.roots.items (root_for s.roots.entries ran.cause - 1) (omega (arith, opened.0, opened.1))

    pub bookable : mid.dispatches + 1 < 2 ^ 64 → IsBookable mid n ran
    bookable l =
        let r = all_got (IsRoot v old.dispatches) old.roots.items (root_for s.roots.entries ran.cause - 1) found.0 k.steady.roots found.1 in
        record {
          station = with_device s device;
          root = found.0;
          stands = mid_stands;
          above = opened.0;
          root_is = ap (λ xs. slice_get xs (root_for s.roots.entries ran.cause - 1)) roots ∙ found.1;
          fits = omega (arith, r.few, l, dispatches);
        }

    module _ (sent : Option ℕ) (new : Course) (b : IsBooked mid n ran sent new) where
      station_is : b.station ≡ with_device s device
      station_is = same_at mid.stations.items n b.station (with_device s device) b.stands mid_stands

      left_is : b.left.device ≡ device
      left_is = b.device ∙ ap (λ (x : Station). x.device) station_is

      stations_are : new.stations.items ≡ set old.stations.items n b.left
      stations_are = b.stations ∙ ap (λ xs. set xs n b.left) set_is ∙ set_twice old.stations.items n (with_device s device) b.left

      of_is : root_for b.station.roots.entries ≡ root_for s.roots.entries
      of_is = ap (λ (x : Station). root_for x.roots.entries) station_is

      root_same : root_for b.station.roots.entries ran.cause ≡ root_for s.roots.entries ran.cause
      root_same = ap (λ f. f ran.cause) of_is

      table_is : root_for b.left.roots.entries ≡ cond (is_some ran.ended) (put ((world_in v old).root_of n) ran.cause 0) ((world_in v old).root_of n)
      table_is = (λ i c. b.rooted c i) ∙ ap (λ f. cond (is_some ran.ended) (put f ran.cause 0) f) (of_is ∙ sym (roots_here v old n s stands))

      r : ℕ
      r = root_for s.roots.entries ran.cause - 1

      above : suc (root_for s.roots.entries ran.cause - 1) ≡ root_for s.roots.entries ran.cause
      above = omega (arith, opened.0)

      root_stands : slice_get old.roots.items (root_for s.roots.entries ran.cause - 1) ≡ Some b.root
      root_stands = ap (λ xs. slice_get xs (root_for s.roots.entries ran.cause - 1)) (sym roots) ∙ ap (λ x. slice_get mid.roots.items (x - 1)) (sym root_same) ∙ b.root_is

      roots_are : new.roots.items ≡ set old.roots.items (root_for s.roots.entries ran.cause - 1) (with_steps b.root ran.steps)
      roots_are = b.roots ∙ ap (λ xs. set xs (root_for b.station.roots.entries ran.cause - 1) (with_steps b.root ran.steps)) roots ∙ ap (λ x. set old.roots.items (x - 1) (with_steps b.root ran.steps)) root_same

      adds : AddsSteps (world_in v old) (world_in v new) n (machine_of b.left.device) ran.cause ran.steps (effect_of ran.effect) (option_map end_of ran.ended) sent
      adds =
          record {
            machines = machines_put v old new n s b.left stands stations_are;
            datagrams = ap (map datagram_of) b.datagrams ∙ ap (λ gs. map datagram_of (posted_in gs (root_for b.station.roots.entries ran.cause) ran.effect)) grams ∙ posted_so old.datagrams.items (root_for b.station.roots.entries ran.cause) ran.effect
                ∙ ap (λ x. posted (map datagram_of old.datagrams.items) x (effect_of ran.effect)) (root_same ∙ sym root_is);
            root_of = roots_put v old new n s b.left stands stations_are ∙ ap (put (world_in v old).root_of n) table_is ∙ forgotten_so (world_in v old).root_of n ran.cause ran.ended;
            next = ap (λ x. x + 1) (ap length roots_are ∙ length-set old.roots.items (root_for s.roots.entries ran.cause - 1) (with_steps b.root ran.steps));
            roots = ap (λ xs m. root_in (system_in v) (numbered xs m)) roots_are ∙ stepped_so (system_in v) old.roots.items (root_for s.roots.entries ran.cause - 1) ran.steps b.root root_stands
                ∙ ap (λ x. stepped (world_in v old).roots x ran.steps) (above ∙ sym root_is);
            sent_is = b.sent_is ∙ ap (λ gs. number_in gs ran.effect) grams ∙ number_so old.datagrams.items ran.effect;
          }

      leaves_are : leaves (device_in s.device) ≡ leaves_at (system_in v) n
      leaves_are = ap leaves (device_same v n s.device was.verified was.number)

      counted : b.left.causes + 1 ≡ (machine_of b.left.device).next
      counted = omega (arith, b.causes, ap (λ (x : Station). x.causes) station_is, was.counted, h.next, ap (λ (x : Session). (machine_of x).next) left_is)

      pub ran_goes : Goes v old (At_device n (A_dispatch q)) (Answered (dispatched_of (leaves_at (system_in v) n) (d.Ran ran)) sent) new
      ran_goes =
          record {
            happens = subst (λ all. (x : Device) × (m : Machine) × (slice_get (system_in v).devices n ≡ Some x) × Happens (certificate_in v) x ((world_in v old).machines n) (book.Dispatch q) (dispatched_of all (d.Ran ran)) m × worlds.Books (world_in v old) (world_in v new) n m (dispatched_of all (d.Ran ran)) sent) leaves_are
                (device_in s.device, machine_of b.left.device, at, subst (λ (x : Session). Happens (certificate_in v) (device_in s.device) ((world_in v old).machines n) (book.Dispatch q) (dispatched_of (leaves (device_in s.device)) (d.Ran ran)) (machine_of x)) (sym left_is) (happens_here (dispatched_of (leaves (device_in s.device)) (d.Ran ran)) h), adds);
            steady = steady_set v old new n s b.left stands stations_are k.steady (record { verified = ap (λ (x : Session). x.verified) left_is ∙ verified; number = ap (λ (x : Session). x.number) left_is ∙ number; counted = counted })
                (subst (λ x. AllByRecursion (IsRoot v x) new.roots.items) (sym (b.dispatches ∙ ap (λ x. x + 1) dispatches))
                (subst (AllByRecursion (IsRoot v (old.dispatches + 1))) (sym roots_are)
                (all_set (IsRoot v (old.dispatches + 1)) old.roots.items (root_for s.roots.entries ran.cause - 1) (with_steps b.root ran.steps)
                (more_steps v old.dispatches ran.steps b.root b.few (all_got (IsRoot v old.dispatches) old.roots.items (root_for s.roots.entries ran.cause - 1) b.root k.steady.roots root_stands))
                (all_weaker (IsRoot v old.dispatches) (IsRoot v (old.dispatches + 1)) old.roots.items (weaker_root v old.dispatches) k.steady.roots))));
          }

-- the room that a dispatch uses
pub booked_uses : (old mid new : Course) (n : ℕ) (s : Station) (device : Session) (ran : Ran) (sent : Option ℕ) → slice_get old.stations.items n ≡ Some s → mid.stations.items ≡ set old.stations.items n (with_device s device)
    → (device.verified ≡ s.device.verified) × (device.number ≡ s.device.number) → mid.datagrams.items ≡ old.datagrams.items → mid.roots.items ≡ old.roots.items → mid.dispatches ≡ old.dispatches
    → IsBooked mid n ran sent new → vec_capacity new.datagrams ≡ vec_capacity old.datagrams → vec_capacity new.roots ≡ vec_capacity old.roots → Uses old new n 0 1
booked_uses old mid new n s device ran sent stands set_is same grams roots dispatches b grams_room roots_room =
    let is = same_at mid.stations.items n b.station (with_device s device) b.stands (ap (λ xs. slice_get xs n) set_is ∙ set_stands old.stations.items n s (with_device s device) stands) in
    let left_is : b.left.device ≡ device = b.device ∙ ap (λ (x : Station). x.device) is in
    let spare_same : spare b.station.roots ≡ spare s.roots = ap (λ (x : Station). spare x.roots) is in
    uses_set old new n 0 1 s b.left stands (b.stations ∙ ap (λ xs. set xs n b.left) set_is ∙ set_twice old.stations.items n (with_device s device) b.left)
    (record { same = ap device_in left_is ∙ device_kept s.device device same.0 same.1; spare_is = omega (arith, b.spare_is, spare_same) })
    (omega (arith, ap length b.roots, length-set mid.roots.items (root_for b.station.roots.entries ran.cause - 1) (with_steps b.root ran.steps), ap length roots)) roots_room
    (omega (arith, ap length b.datagrams, posted_length mid.datagrams.items (root_for b.station.roots.entries ran.cause) ran.effect, ap length grams)) grams_room (omega (arith, b.dispatches, dispatches))
