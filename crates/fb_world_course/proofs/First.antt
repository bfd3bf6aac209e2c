-- The first world of what was checked.
use Rattle.std.proofs.Common.{◌≡◌, ℕ, zero, suc, ◌+◌, ◌-◌, ◌<◌, ◌≤◌, ◌&&◌, true, false, cond, List, [], ◌∷◌, ◌++◌, map, length, slice_get, Option, Some, None, refl, sym, ◌∙◌, ap, subst, arith, inl, inr, true≢false}
use Rattle.std.specs.Prelude.{nat_lt, ◌⊎◌, is_some}
use Rattle.std.specs.List.{AllByRecursion}
use Rattle.std.specs.Option.{option_map}
use Rattle.std.proofs.lemmas.List.{length-append, append-nil, append_assoc}
use Rattle.std.proofs.lemmas.Option.{slice_get-map, slice_get_past}
use Rattle.std.proofs.lemmas.Bool.{lt-ltb, le-ltb, cases_lt, cond_both}
use Rattle.fb_model.specs.System.{Device}
use Rattle.fb_model.specs.Declarations.{BlockTree, DeviceTree}
use Rattle.fb_model.specs.NetworkTyping.{AreDevices, no_device, a_device}
use Rattle.fb_model.specs.Wires.{Leaf, leaves}
use Rattle.fb_model.specs.Certificates.{DeviceHolds, is_restart}
use Rattle.fb_model.specs.Messages.{Stamp}
use Rattle.fb_model.specs.Devices.{Machine, Entry, admitted, beginning, begun, silent, first_stamp, at_first, place_of, is_pending}
use Rattle.fb_model.specs.Headline.{IsKnown, IsSound}
use Rattle.fb_model.specs.World.{roots_from, machine_at, roots_before, first_root, IsFirst}
use Rattle.fb_model.proofs.Lists.{all_weaker, all_append, all_both}
use Rattle.fb_model.proofs.Running.{put_all}
use Rattle.fb_model.proofs.Starting.{first_sound}
use Rattle.fb_model_worlds.proofs.Beginning.{numbered_first}
use Rattle.fb_verified.specs.declared.verified.Verified.{Verified}
use Rattle.fb_verified.specs.Checked.{system_in, certificate_in, IsChecked}
use Rattle.fb_device_state.specs.Sessions.{Session}
use Rattle.fb_device_state.specs.Machines.{device_in, cert_in, machine_of}
use Rattle.fb_device_tables.specs.Tables.{far_at}
use Rattle.fb_device_tables.specs.Views.{place_at}
use Rattle.fb_device.specs.Answers.{IsOpening}
use Rattle.fb_device.specs.declared.answer.Opening.{Opening}
use Rattle.fb_world_course.specs.declared.station.Root.{Root}
use Rattle.fb_world_course.specs.declared.station.Station.{Station}
use Rattle.fb_world_course.specs.declared.course.Course.{Course}
use Rattle.fb_world_course.specs.Scenes.{site_of, site_machine, site_roots, root_for, root_in, opening_place, datagram_of, world_in}
use Rattle.fb_world_course.specs.Roots.{OpensRoots, IsPending}
use Rattle.fb_world_course.specs.Keeping.{IsRoot, IsSteady, IsKept}
use Rattle.fb_world_course.specs.Beginning.{IsAtFirst, Begins, HasBegun, HaveBegun}
use Rattle.fb_lists.proofs.Lists.{within_got, all_got}
use Rattle.fb_world_course.proofs.Lists.{left_got, right_got, got_there, all_by, some_same}
use Rattle.fb_world_course.proofs.Openings.{device_same, opens_so, open_is}
use Rattle.fb_world_course.proofs.Stations.{from_low, from_here, from_high, first_pending, begun_few}
use Rattle.fb_world_course.proofs.Kept.{all_hold}
use Rattle.fb_world_course.proofs.Rooms.{device_kept}

-- ---- causes that have begun are below the next

abbrev below_from : ℕ → Entry → Type 0
below_from n e = e.cause < n

below_admitted : (leaf : Leaf) (m : Machine) → ((q : ℕ) → AllByRecursion (below_from m.next) (m.queues q)) → (q : ℕ) → AllByRecursion (below_from (m.next + 1)) ((admitted m (beginning leaf)).queues q)
below_admitted leaf m h =
    put_all (λ q es. AllByRecursion (below_from (m.next + 1)) es) m.queues leaf.home (m.queues leaf.home ++ record { cause = m.next; opening = place_of (beginning leaf); place = place_of (beginning leaf); values = [] } ∷ [])
    (all_append (below_from (m.next + 1)) (m.queues leaf.home) (record { cause = m.next; opening = place_of (beginning leaf); place = place_of (beginning leaf); values = [] } ∷ [])
    (all_weaker (below_from m.next) (below_from (m.next + 1)) (m.queues leaf.home) (λ e l. omega (arith, l)) (h leaf.home)) (omega arith, tt))
    (λ q _. all_weaker (below_from m.next) (below_from (m.next + 1)) (m.queues q) (λ e l. omega (arith, l)) (h q))

below_begun : (ls : List Leaf) (m : Machine) → ((q : ℕ) → AllByRecursion (below_from m.next) (m.queues q)) → (q : ℕ) → AllByRecursion (below_from (begun ls m).next) ((begun ls m).queues q)
below_begun [] m h = h
below_begun (leaf ∷ rest) m h =
    cond_both (is_restart leaf.kind) (admitted m (beginning leaf)) m (λ x. (q : ℕ) → AllByRecursion (below_from (begun rest x).next) ((begun rest x).queues q))
    (λ _. below_begun rest (admitted m (beginning leaf)) (below_admitted leaf m h)) (λ _. below_begun rest m h)

pub first_below : (device : Device) (q : ℕ) → AllByRecursion (below_from (at_first device 1 first_stamp).next) ((at_first device 1 first_stamp).queues q)
first_below device = below_begun (leaves device) (silent device 1 first_stamp) (λ q. tt)

-- ---- the devices of a system

first_at : (ds : List Device) (d : ℕ) (device : Device) → slice_get ds d ≡ Some device → machine_at ds d ≡ at_first device 1 first_stamp
first_at [] d device h = cc
first_at (x ∷ xs) zero device h = ap (λ y. at_first y 1 first_stamp) (some_same x device h)
first_at (x ∷ xs) (suc d) device h = first_at xs d device h

none_at : (ds : List Device) (d : ℕ) → length ds ≤ d → machine_at ds d ≡ machine_at [] 0
none_at [] d l = refl
none_at (x ∷ xs) zero l = absurd (omega (arith, l))
none_at (x ∷ xs) (suc d) l = none_at xs d (omega (arith, l))

before_suc : (ds : List Device) (d : ℕ) (device : Device) → slice_get ds d ≡ Some device → roots_before ds (suc d) ≡ roots_before ds d + ((at_first device 1 first_stamp).next - 1)
before_suc [] d device h = cc
before_suc (x ∷ []) zero device h = (let is = some_same x device h in omega (arith, ap (λ (y : Device). (at_first y 1 first_stamp).next) is))
before_suc (x ∷ y ∷ ys) zero device h = (let is = some_same x device h in omega (arith, ap (λ (z : Device). (at_first z 1 first_stamp).next) is))
before_suc (x ∷ xs) (suc d) device h = omega (arith, before_suc xs d device h)

module _ (v : Verified) (checked : IsChecked v) where
  abbrev devices : List Device
  devices = (system_in v).devices

  -- a device that has just started
  module _ (k : ℕ) (s : Station) (f : IsAtFirst v k s) (device : Device) (at : slice_get (system_in v).devices k ≡ Some device) where
    device_is : device_in s.device ≡ device
    device_is = device_same v k s.device f.verified f.number ∙ ap (λ (o : Option Device). elim o [ None ↦ record { name = []; resources = [] } | Some y ↦ y ]) at

    machine_is : machine_of s.device ≡ at_first device 1 first_stamp
    machine_is = f.machine ∙ ap (λ d. at_first d 1 first_stamp) device_is

    sound : IsSound (certificate_in v) device (at_first device 1 first_stamp)
    sound = first_sound (certificate_in v) device (all_got (DeviceHolds (certificate_in v)) (system_in v).devices k device (all_hold v checked) at) 1 first_stamp (record { boot = omega arith; sequence = omega arith })

  -- the roots of one more device
  pub roots_told : (k : ℕ) (roots roots' : List Root) (s : Station) → Begins v k roots s roots' → AllByRecursion (IsRoot v 0) roots → AllByRecursion (IsRoot v 0) roots'
  roots_told k roots roots' s b h =
      subst (AllByRecursion (IsRoot v 0)) (sym b.opens.roots_are)
      (all_append (IsRoot v 0) roots b.opens.more h
      (all_by (IsRoot v 0) b.opens.more (λ j r is.
      let o = b.opens.opened j r is in
      let f = (opens_so v k (b.none.causes + 1 + j) b.none.device r.opening (λ c p. Unit {0}) (ap (λ (x : Session). x.verified) b.same ∙ b.first.verified) (ap (λ (x : Session). x.number) b.same ∙ b.first.number) (λ q. all_by (λ e. Unit {0}) ((machine_of b.none.device).queues q) (λ i e g. tt)) o.2).1 in
      record { far = f ∙ ap (λ n. far_at (certificate_in v) (opening_place (system_in v) n r.opening)) (sym o.0); few = omega (arith, o.1) })))

  pub begun_more : (n : ℕ) (stations : List Station) (roots roots' : List Root) (s : Station) → n < length (system_in v).devices → HaveBegun v n stations roots → Begins v n roots s roots' → HaveBegun v (n + 1) (stations ++ s ∷ []) roots'
  begun_more n stations roots roots' s l h b =
      let (device, at) = got_there (system_in v).devices n l in
      let next : s.causes + 1 ≡ (at_first device 1 first_stamp).next = b.counted ∙ ap (λ (m : Machine). m.next) (machine_is n s b.first device at) in
      record {
        count = omega (arith, length-append stations (s ∷ []), h.count);
        counted = omega (arith, ap length b.opens.roots_are, length-append roots b.opens.more, b.opens.counted, h.counted, next, before_suc (system_in v).devices n device at, ap (roots_before (system_in v).devices) (let e : n + 1 ≡ suc n = omega arith in e));
        begun = λ k t is. by k t is (cases_lt k n);
        told = roots_told n roots roots' s b h.told;
      }
    where
      by : (k : ℕ) (t : Station) → slice_get (stations ++ s ∷ []) k ≡ Some t → (k < n) ⊎ (n ≤ k) → HasBegun v k t roots'
      by k t is (inl m) =
          let g = h.begun k t (sym (left_got stations (s ∷ []) k (omega (arith, m, h.count))) ∙ is) in
          record {
            before = g.before;
            middle = g.middle;
            after = g.after ++ b.opens.more;
            counted = g.counted;
            begins = g.begins;
            roots_are = b.opens.roots_are ∙ ap (λ xs. xs ++ b.opens.more) g.roots_are ∙ append_assoc g.middle g.after b.opens.more;
          }
      by k t is (inr m) =
          let last : k ≡ length stations = omega (arith, m, h.count, within_got (stations ++ s ∷ []) k t is, length-append stations (s ∷ [])) in
          let here : slice_get (stations ++ s ∷ []) (length stations + 0) ≡ Some s = right_got stations (s ∷ []) 0 in
          let same : s ≡ t = some_same s t (sym here ∙ ap (slice_get (stations ++ s ∷ [])) (let e : length stations + 0 ≡ k = omega (arith, last) in e) ∙ is) in
          let number : n ≡ k = omega (arith, last, h.count) in
          subst (λ (x : Station). HasBegun v k x roots') same
          (subst (λ j. HasBegun v j s roots') number (record { before = roots; middle = roots'; after = []; counted = h.counted; begins = b; roots_are = sym (append-nil roots') }))

  module _ (c : Course) (h : HaveBegun v (length (system_in v).devices) c.stations.items c.roots.items) (grams : c.datagrams.items ≡ []) (dispatches : c.dispatches ≡ 0) where
    machine_first : (d : ℕ) → (world_in v c).machines d ≡ machine_at (system_in v).devices d
    machine_first d = elim (cases_lt d (length (system_in v).devices)) [
      | inl l ↦ (
          let (device, at) = got_there (system_in v).devices d l in
          let (s, stands) = got_there c.stations.items d (omega (arith, l, h.count)) in
          ap site_machine (slice_get-map site_of c.stations.items d ∙ ap (option_map site_of) stands) ∙ machine_is d s (h.begun d s stands).begins.first device at ∙ sym (first_at (system_in v).devices d device at)
          )
      | inr l ↦ (
          ap site_machine (slice_get-map site_of c.stations.items d ∙ ap (option_map site_of) (slice_get_past c.stations.items d (omega (arith, l, h.count)))) ∙ sym (none_at (system_in v).devices d l)
          )
    ]

    -- the root of a cause of one device
    root_here : (d x : ℕ) (device : Device) (at : slice_get (system_in v).devices d ≡ Some device) (s : Station) (stands : slice_get c.stations.items d ≡ Some s)
        → (world_in v c).root_of d x ≡ cond (nat_lt 0 x && nat_lt x (at_first device 1 first_stamp).next) (roots_before (system_in v).devices d + x) 0
    root_here d x device at s stands =
        let g = h.begun d s stands in
        let b = g.begins in
        let next : s.causes + 1 ≡ (at_first device 1 first_stamp).next = b.counted ∙ ap (λ (m : Machine). m.next) (machine_is d s b.first device at) in
        let table : root_for s.roots.entries x ≡ roots_from (λ y. 0) 1 (1 + s.causes) (roots_before (system_in v).devices d + 1) x =
        b.opens.rooted x
        ∙ ap (λ es. roots_from (root_for es) (b.none.causes + 1) (b.none.causes + 1 + s.causes) (length g.before + 1) x) b.empty
        ∙ ap (λ n. roots_from (λ y. 0) (n + 1) (n + 1 + s.causes) (length g.before + 1) x) b.no_causes
        ∙ ap (λ n. roots_from (λ y. 0) 1 (1 + s.causes) (n + 1) x) g.counted in
        ap (λ o. site_roots o x) (slice_get-map site_of c.stations.items d ∙ ap (option_map site_of) stands) ∙ table ∙ cases x (at_first device 1 first_stamp).next s.causes next
      where
        cases : (y n causes : ℕ) → causes + 1 ≡ n → roots_from (λ z. 0) 1 (1 + causes) (roots_before (system_in v).devices d + 1) y ≡ cond (nat_lt 0 y && nat_lt y n) (roots_before (system_in v).devices d + y) 0
        cases zero n causes e = from_low (λ z. 0) 1 (1 + causes) (roots_before (system_in v).devices d + 1) 0 (omega arith)
        cases (suc y) n causes e = elim (cases_lt (suc y) n) [
          | inl l ↦ from_here (λ z. 0) 1 (1 + causes) (roots_before (system_in v).devices d + 1) (suc y) (omega arith) (omega (arith, l, e))
              ∙ (let i : roots_before (system_in v).devices d + 1 + (suc y - 1) ≡ roots_before (system_in v).devices d + suc y = omega arith in i)
              ∙ sym (ap (λ t. cond (t && nat_lt (suc y) n) (roots_before (system_in v).devices d + suc y) 0) (lt-ltb 0 (suc y) (omega arith)) ∙ ap (λ t. cond t (roots_before (system_in v).devices d + suc y) 0) (lt-ltb (suc y) n l))
          | inr l ↦ from_high (λ z. 0) 1 (1 + causes) (roots_before (system_in v).devices d + 1) (suc y) (omega arith) (omega (arith, l, e))
              ∙ sym (ap (λ t. cond (t && nat_lt (suc y) n) (roots_before (system_in v).devices d + suc y) 0) (lt-ltb 0 (suc y) (omega arith)) ∙ ap (λ t. cond t (roots_before (system_in v).devices d + suc y) 0) (le-ltb (suc y) n l))
        ]

    root_first : (d x : ℕ) → (world_in v c).root_of d x ≡ first_root (system_in v).devices d x
    root_first d x = elim (cases_lt d (length (system_in v).devices)) [
      | inl l ↦ (
          let (device, at) = got_there (system_in v).devices d l in
          let (s, stands) = got_there c.stations.items d (omega (arith, l, h.count)) in
          root_here d x device at s stands ∙ ap (λ (m : Machine). cond (nat_lt 0 x && nat_lt x m.next) (roots_before (system_in v).devices d + x) 0) (sym (first_at (system_in v).devices d device at))
          )
      | inr l ↦ (
          ap (λ o. site_roots o x) (slice_get-map site_of c.stations.items d ∙ ap (option_map site_of) (slice_get_past c.stations.items d (omega (arith, l, h.count))))
          ∙ none x
          ∙ ap (λ (m : Machine). cond (nat_lt 0 x && nat_lt x m.next) (roots_before (system_in v).devices d + x) 0) (sym (none_at (system_in v).devices d l))
          )
    ]
      where
        none : (y : ℕ) → ◌≡◌ {A = ℕ} 0 (cond (nat_lt 0 y && nat_lt y 1) (roots_before (system_in v).devices d + y) 0)
        none zero = refl
        none (suc y) = sym (ap (λ t. cond (t && nat_lt (suc y) 1) (roots_before (system_in v).devices d + suc y) 0) (lt-ltb 0 (suc y) (omega arith)) ∙ ap (λ t. cond t (roots_before (system_in v).devices d + suc y) 0) (le-ltb (suc y) 1 (omega arith)))

    -- the root of an entry has its opening, and no steps
    entry_first : (d : ℕ) (device : Device) (at : slice_get (system_in v).devices d ≡ Some device) (s : Station) (stands : slice_get c.stations.items d ≡ Some s) (e : Entry)
        → e.opening ≡ (sound d s (h.begun d s stands).begins.first device at).opening_of e.cause → 0 < e.cause → e.cause < (at_first device 1 first_stamp).next
        → (world_in v c).roots ((world_in v c).root_of d e.cause) ≡ record { opening = e.opening; steps = 0 }
    entry_first d device at s stands e o low high =
        let g = h.begun d s stands in
        let b = g.begins in
        let x = sound d s b.first device at in
        let next : s.causes + 1 ≡ (at_first device 1 first_stamp).next = b.counted ∙ ap (λ (m : Machine). m.next) (machine_is d s b.first device at) in
        let (r, is) = got_there b.opens.more (e.cause - 1) (omega (arith, low, high, next, b.opens.counted)) in
        let q = b.opens.opened (e.cause - 1) r is in
        let verified : b.none.device.verified ≡ v = ap (λ (y : Session). y.verified) b.same ∙ b.first.verified in
        let number : b.none.device.number ≡ d = ap (λ (y : Session). y.number) b.same ∙ b.first.number in
        let entries : (j : ℕ) → AllByRecursion (λ f. f.opening ≡ x.opening_of f.cause) ((machine_of b.none.device).queues j) =
        (λ j. subst (λ (m : Machine). AllByRecursion (λ f. f.opening ≡ x.opening_of f.cause) (m.queues j)) (sym (ap machine_of b.same ∙ machine_is d s b.first device at))
        (all_weaker (IsKnown device x.opening_of x.home_of (at_first device 1 first_stamp).next j) (λ f. f.opening ≡ x.opening_of f.cause) ((at_first device 1 first_stamp).queues j) (λ f i. i.opening) (x.entries j))) in
        let p = (opens_so v d (b.none.causes + 1 + (e.cause - 1)) b.none.device r.opening (λ n y. y ≡ x.opening_of n) verified number entries q.2).0 in
        let cause : b.none.causes + 1 + (e.cause - 1) ≡ e.cause = omega (arith, b.no_causes, low) in
        let root_is : (world_in v c).root_of d e.cause ≡ suc (length g.before + (e.cause - 1)) =
        root_here d e.cause device at s stands
        ∙ ap (λ t. cond (t && nat_lt e.cause (at_first device 1 first_stamp).next) (roots_before (system_in v).devices d + e.cause) 0) (lt-ltb 0 e.cause low)
        ∙ ap (λ t. cond t (roots_before (system_in v).devices d + e.cause) 0) (lt-ltb e.cause (at_first device 1 first_stamp).next high)
        ∙ (let i : roots_before (system_in v).devices d + e.cause ≡ suc (length g.before + (e.cause - 1)) = omega (arith, g.counted, low) in i) in
        let within : length g.before + (e.cause - 1) < length g.middle = omega (arith, ap length b.opens.roots_are, length-append g.before b.opens.more, within_got b.opens.more (e.cause - 1) r is) in
        let there : slice_get c.roots.items (length g.before + (e.cause - 1)) ≡ Some r =
        ap (λ xs. slice_get xs (length g.before + (e.cause - 1))) g.roots_are ∙ left_got g.middle g.after (length g.before + (e.cause - 1)) within ∙ ap (λ xs. slice_get xs (length g.before + (e.cause - 1))) b.opens.roots_are ∙ right_got g.before b.opens.more (e.cause - 1) ∙ is in
        ap (world_in v c).roots root_is
        ∙ ap (root_in (system_in v)) there
        ∙ ap (λ n. record { opening = opening_place (system_in v) n r.opening; steps = r.steps }) q.0
        ∙ ap (λ n. record { opening = opening_place (system_in v) d r.opening; steps = n }) q.1
        ∙ ap (λ y. record { opening = y; steps = 0 }) (p ∙ ap x.opening_of cause ∙ sym o)

    roots_first : (d q : ℕ) → AllByRecursion (λ e. (world_in v c).roots ((world_in v c).root_of d e.cause) ≡ record { opening = e.opening; steps = 0 }) (((world_in v c).machines d).queues q)
    roots_first d q = elim (cases_lt d (length (system_in v).devices)) [
      | inl l ↦ (
          let (device, at) = got_there (system_in v).devices d l in
          let (s, stands) = got_there c.stations.items d (omega (arith, l, h.count)) in
          let x = sound d s (h.begun d s stands).begins.first device at in
          subst (λ (m : Machine). AllByRecursion (λ e. (world_in v c).roots ((world_in v c).root_of d e.cause) ≡ record { opening = e.opening; steps = 0 }) (m.queues q)) (sym (machine_first d ∙ first_at (system_in v).devices d device at))
          (all_both (λ e. 0 < e.cause) (IsKnown device x.opening_of x.home_of (at_first device 1 first_stamp).next q) (λ e. (world_in v c).roots ((world_in v c).root_of d e.cause) ≡ record { opening = e.opening; steps = 0 }) ((at_first device 1 first_stamp).queues q)
          (λ e low i. entry_first d device at s stands e i.opening low i.cause) ((numbered_first device).1 q) (x.entries q))
          )
      | inr l ↦ (
          subst (λ (m : Machine). AllByRecursion (λ e. (world_in v c).roots ((world_in v c).root_of d e.cause) ≡ record { opening = e.opening; steps = 0 }) (m.queues q)) (sym (machine_first d ∙ none_at (system_in v).devices d l)) tt
          )
    ]

    pub is_first : IsFirst (system_in v) (world_in v c)
    is_first =
        record {
          machines = λ i d. machine_first d i;
          datagrams = ap (map datagram_of) grams;
          root_of = root_first;
          next = ap (λ n. n + 1) h.counted;
          roots = roots_first;
        }

    steady_first : length (system_in v).devices ≤ 16 → IsSteady v c
    steady_first few =
        record {
          count = h.count;
          few = omega (arith, few, h.count);
          stations = λ k s at. (let b = (h.begun k s at).begins in record { verified = b.first.verified; number = b.first.number; counted = b.counted });
          roots = subst (λ n. AllByRecursion (IsRoot v n) c.roots.items) (sym dispatches) h.told;
        }

    pub kept_first : length (system_in v).devices ≤ 16 → IsKept v c
    kept_first few =
        record {
          checked = checked;
          steady = steady_first few;
          reached = record { first = world_in v c; events = []; answers = []; is_first = is_first; run = refl };
        }

-- ---- how many devices a system has

devices_long : (bs : List BlockTree) (ds : List DeviceTree) (es : List Device) → AreDevices bs ds es → length ds ≡ length es
devices_long bs [] [] no_device = refl
devices_long bs [] (e ∷ es) x = elim x [ ]
devices_long bs (d ∷ ds) [] x = elim x [ ]
devices_long bs (d ∷ ds) (e ∷ es) (a_device i h) = ap (λ n. suc n) (devices_long bs ds es h)

pub few_devices : (v : Verified) → IsChecked v → length (system_in v).devices ≤ 16
few_devices v c =
    let t = c.written.1.typed.typed in
    omega (arith, t.few, devices_long (c.written.1.source.blocks ++ c.written.1.typed.library) c.written.1.source.system.devices (system_in v).devices t.devices)

-- ---- how many causes begin

-- a cause that has not ended below the next has an opening, and the next has none
pub begun_here : (s : Session) → machine_of s ≡ at_first (device_in s) 1 first_stamp → (n : ℕ) (o : Option Opening) → IsOpening (cert_in s) (leaves (device_in s)) (machine_of s) (n + 1) o → n + 1 ≤ (machine_of s).next → is_some o ≡ false → n + 1 ≡ (machine_of s).next
begun_here s e n None h l is = elim (cases_lt (n + 1) (machine_of s).next) [
  | inl m ↦ (
      let p = first_pending (cert_in s) (device_in s) (n + 1) (omega arith) (omega (arith, m, ap (λ (x : Machine). x.next) e)) in
      absurd (true≢false (sym (subst (λ (x : Machine). is_pending (n + 1) (x.queues p.0) ≡ true) (sym e) p.1) ∙ h p.0))
      )
  | inr m ↦ omega (arith, l, m)
]
begun_here s e n (Some o) h l is = absurd (true≢false is)

pub begun_above : (s : Session) → machine_of s ≡ at_first (device_in s) 1 first_stamp → (n : ℕ) (o : Option Opening) → IsOpening (cert_in s) (leaves (device_in s)) (machine_of s) (n + 1) o → is_some o ≡ true → n + 1 < (machine_of s).next
begun_above s e n None h is = absurd (true≢false (sym is))
begun_above s e n (Some o) h is =
    open_is (λ c p. c < (machine_of s).next) ((machine_of s).queues h.0) (n + 1) (place_at (leaves (device_in s)) (record { block = o.block; event = o.event }))
    (subst (λ (m : Machine). AllByRecursion (λ f. f.cause < m.next) (m.queues h.0)) (sym e) (first_below (device_in s) h.0)) h.1

pub begun_within : (s : Session) → machine_of s ≡ at_first (device_in s) 1 first_stamp → (machine_of s).next ≤ length (leaves (device_in s)) + 1
begun_within s e = omega (arith, ap (λ (m : Machine). m.next) e, begun_few (leaves (device_in s)) (silent (device_in s) 1 first_stamp))

pub begun_one : (s : Session) → machine_of s ≡ at_first (device_in s) 1 first_stamp → 1 ≤ (machine_of s).next
begun_one s e = omega (arith, ap (λ (m : Machine). m.next) e, (numbered_first (device_in s)).0)

-- ---- nothing has begun

before_none : (ds : List Device) → ◌≡◌ {A = ℕ} 0 (roots_before ds 0)
before_none [] = refl
before_none (x ∷ xs) = refl

pub begun_nothing : (v : Verified) (stations : List Station) (roots : List Root) → stations ≡ [] → roots ≡ [] → HaveBegun v 0 stations roots
begun_nothing v stations roots e r =
    record {
      count = ap length e;
      counted = ap length r ∙ before_none (system_in v).devices;
      begun = λ k s at. absurd (omega (arith, within_got stations k s at, ap length e));
      told = subst (AllByRecursion (IsRoot v 0)) (sym r) tt;
    }

-- ---- one device has begun

-- each cause that it counts is pending
pub begins_pending : (s : Session) → machine_of s ≡ at_first (device_in s) 1 first_stamp → (count : ℕ) → count + 1 ≡ (machine_of s).next → (k : ℕ) → k < count → IsPending s (1 + k)
begins_pending s e count n k l =
    let p = first_pending (cert_in s) (device_in s) (1 + k) (omega arith) (omega (arith, l, n, ap (λ (m : Machine). m.next) e)) in
    (p.0, subst (λ (m : Machine). is_pending (1 + k) (m.queues p.0) ≡ true) (sym e) p.1)

-- and has opened a root
pub begins_so : (v : Verified) (k count : ℕ) (roots mid roots' : List Root) (s t : Station) → mid ≡ roots → s.roots.entries ≡ [] → s.causes ≡ 0 → s.device.verified ≡ v → s.device.number ≡ k → machine_of s.device ≡ at_first (device_in s.device) 1 first_stamp → count + 1 ≡ (machine_of s.device).next
    → OpensRoots s k count mid t roots' → Begins v k roots t roots'
begins_so v k count roots mid roots' s t m empty none verified number first n opens =
    let causes : count ≡ t.causes = omega (arith, opens.causes, none) in
    record {
      first = record { verified = ap (λ (x : Session). x.verified) opens.device ∙ verified; number = ap (λ (x : Session). x.number) opens.device ∙ number; machine = subst (λ (x : Session). machine_of x ≡ at_first (device_in x) 1 first_stamp) (sym opens.device) first };
      none = s;
      empty = empty;
      no_causes = none;
      same = sym opens.device;
      opens = subst (λ j. OpensRoots s k j roots t roots') causes (subst (λ xs. OpensRoots s k count xs t roots') m opens);
      counted = omega (arith, causes, n, ap (λ (x : Session). (machine_of x).next) opens.device);
    }

-- a device that has started as it was loaded
pub started_first : (r s : Session) → machine_of r ≡ silent (device_in r) 1 first_stamp → (s.verified ≡ r.verified) × (s.number ≡ r.number) → ((first : ℕ) (stamp : Stamp) → machine_of r ≡ silent (device_in r) first stamp → machine_of s ≡ at_first (device_in r) first stamp) → machine_of s ≡ at_first (device_in s) 1 first_stamp
started_first r s h same f = f 1 first_stamp h ∙ ap (λ d. at_first d 1 first_stamp) (sym (device_kept r s same.0 same.1))
