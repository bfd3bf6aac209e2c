-- In the first world each BEGIN is an arrival.
use Rattle.std.proofs.Common.{◌≡◌, ℕ, zero, suc, ◌+◌, ◌-◌, ◌<◌, ◌≤◌, ◌&&◌, cond, List, [], ◌∷◌, refl, sym, ◌∙◌, ap, subst, arith, inl, inr}
use Rattle.std.specs.Prelude.{length, nat_lt}
use Rattle.std.specs.List.{AllByRecursion}
use Rattle.std.proofs.lemmas.Bool.{lt-ltb, le-ltb, cases_lt}
use Rattle.fb_model.specs.Names.{Place}
use Rattle.fb_model.specs.System.{System, Device}
use Rattle.fb_model.specs.Messages.{IsStamp}
use Rattle.fb_model.specs.Wires.{leaves}
use Rattle.fb_model.specs.Certificates.{Certificate, DeviceHolds}
use Rattle.fb_model.specs.Devices.{Machine, silent, first_stamp, at_first}
use Rattle.fb_model.specs.Headline.{IsKnown, IsOpen}
use Rattle.fb_model.specs.World.{World, Root, machine_at, roots_before, first_root, IsFirst}
use Rattle.fb_model.proofs.Lists.{all_weaker, all_both}
use Rattle.fb_model.proofs.Starting.{first_sound}
use Rattle.fb_model.specs.Worlds.{IsOpened, AllHold}
use Rattle.fb_model_worlds.proofs.Beginning.{numbered_first, at_every}
use Rattle.fb_model_worlds.proofs.Opening.{admits_begun, first_begins}
use Rattle.fb_model.specs.Causes.{Cause, Belongs, itself, HasOpened, IsPending}
use Rattle.fb_model_causes.proofs.Lists.{there_is, AllFrom}
use Rattle.fb_model_causes.proofs.Putting.{open_is}
use Rattle.fb_model_causes.proofs.Tied.{IsRooted, IsTold, Tied}

-- ---- devices in their order

abbrev begins : Device → ℕ
begins device = (at_first device 1 first_stamp).next

begun_at : (ds : List Device) (d : ℕ) → 0 < (machine_at ds d).next
begun_at [] d = omega arith
begun_at (x ∷ xs) zero = (numbered_first x).0
begun_at (x ∷ xs) (suc d) = begun_at xs d

above_at : (ds : List Device) (d q : ℕ) → AllByRecursion (λ e. 0 < e.cause) ((machine_at ds d).queues q)
above_at ds d q = at_every (λ e. 0 < e.cause) ds d q (λ device at. (numbered_first device).1 q)

below_at : (cert : Certificate) (ds : List Device) → AllByRecursion (DeviceHolds cert) ds → (d q : ℕ) → AllByRecursion (λ e. e.cause < (machine_at ds d).next) ((machine_at ds d).queues q)
below_at cert [] hold d q = tt
below_at cert (x ∷ xs) hold zero q =
    let stamp_is : IsStamp first_stamp = record { boot = omega arith; sequence = omega arith } in
    let s = first_sound cert x hold.0 1 first_stamp stamp_is in
    all_weaker (IsKnown x s.opening_of s.home_of (at_first x 1 first_stamp).next q) (λ e. e.cause < (at_first x 1 first_stamp).next) ((at_first x 1 first_stamp).queues q) (λ e k. k.cause) (s.entries q)
below_at cert (x ∷ xs) hold (suc d) q = below_at cert xs hold.1 d q

root_at : (ds : List Device) (d c : ℕ) → 0 < c → c < (machine_at ds d).next → first_root ds d c ≡ roots_before ds d + c
root_at ds d c l m = ap (λ t. cond (t && nat_lt c (machine_at ds d).next) (roots_before ds d + c) 0) (lt-ltb 0 c l) ∙ ap (λ t. cond t (roots_before ds d + c) 0) (lt-ltb c (machine_at ds d).next m)

root_within : (ds : List Device) (d c : ℕ) → 0 < c → c < (machine_at ds d).next → roots_before ds d + c ≤ roots_before ds (length ds)
root_within [] d c l m = absurd (omega (arith, l, m))
root_within (x ∷ xs) zero c l m = omega (arith, m)
root_within (x ∷ xs) (suc d) c l m = omega (arith, root_within xs d c l m)

-- the cause of each root, where roots are numbered from 1 and devices from one number on
abbrev pub first_arrival : List Device → ℕ → ℕ → Cause
first_arrival [] k n = record { device = k; number = n }
first_arrival (x ∷ xs) k n = cond (nat_lt n (begins x)) (record { device = k; number = n }) (first_arrival xs (k + 1) (n - (begins x - 1)))

arrival_at : (ds : List Device) (k d c : ℕ) → 0 < c → c < (machine_at ds d).next → first_arrival ds k (roots_before ds d + c) ≡ record { device = k + d; number = c }
arrival_at [] k d c l m = absurd (omega (arith, l, m))
arrival_at (x ∷ xs) k zero c l m =
    ap (first_arrival (x ∷ xs) k) (let e : 0 + c ≡ c = omega arith in e)
    ∙ ap (λ t. cond t (record { device = k; number = c }) (first_arrival xs (k + 1) (c - (begins x - 1)))) (lt-ltb c (begins x) m)
    ∙ ap (λ j. record { device = j; number = c }) (let e : k ≡ k + 0 = omega arith in e)
arrival_at (x ∷ xs) k (suc d) c l m =
    ap (λ t. cond t (record { device = k; number = ((begins x - 1) + roots_before xs d) + c }) (first_arrival xs (k + 1) ((((begins x - 1) + roots_before xs d) + c) - (begins x - 1))))
    (le-ltb (((begins x - 1) + roots_before xs d) + c) (begins x) (omega (arith, l, (numbered_first x).0)))
    ∙ ap (first_arrival xs (k + 1)) (let e : (((begins x - 1) + roots_before xs d) + c) - (begins x - 1) ≡ roots_before xs d + c = omega arith in e)
    ∙ arrival_at xs (k + 1) d c l m
    ∙ ap (λ j. record { device = j; number = c }) (let e : (k + 1) + d ≡ k + suc d = omega arith in e)

cause_at : (ds : List Device) (n : ℕ) → 0 < n → n ≤ roots_before ds (length ds) → (d : ℕ) × (c : ℕ) × (0 < c) × (c < (machine_at ds d).next) × (roots_before ds d + c ≡ n)
cause_at [] n l m = absurd (omega (arith, l, m))
cause_at (x ∷ xs) n l m = elim (cases_lt n (begins x)) [
  | inl k ↦ (0, n, l, k, omega arith)
  | inr k ↦ (let r = cause_at xs (n - (begins x - 1)) (omega (arith, k, (numbered_first x).0)) (omega (arith, m, k)) in (suc r.0, r.1, r.2, r.3, omega (arith, r.4, k, (numbered_first x).0)))
]

pending_at : (cert : Certificate) (ds : List Device) (d c : ℕ) → 0 < c → c < (machine_at ds d).next → (p : Place) × (q : ℕ) × IsOpen ((machine_at ds d).queues q) c p
pending_at cert [] d c l m = absurd (omega (arith, l, m))
pending_at cert (x ∷ xs) zero c l m =
    let all = admits_begun cert (leaves x) (silent x 1 first_stamp) in
    let (p, is) = there_is all.0 (c - 1) (omega (arith, l, m, all.1.next)) in
    let there = all.1.there (c - 1) p is in
    (p, there.0, subst (λ k. IsOpen ((at_first x 1 first_stamp).queues there.0) k p) (let e : 1 + (c - 1) ≡ c = omega (arith, l) in e) there.1)
pending_at cert (x ∷ xs) (suc d) c l m = pending_at cert xs d c l m

-- ---- the world

module _ (system : System) (cert : Certificate) (hold : AllHold system cert) (w : World) (first : IsFirst system w) where
  abbrev pub arrival_first : ℕ → Cause
  arrival_first n = first_arrival system.devices 0 n

  next_is : (d : ℕ) → (w.machines d).next ≡ (machine_at system.devices d).next
  next_is d = ap (λ f. (f d).next) first.machines

  pending : (d q : ℕ) → AllByRecursion (λ e. IsRooted w (first_root system.devices) d e.cause) ((w.machines d).queues q)
  pending d q =
      subst (λ (ms : ℕ → Machine). AllByRecursion (λ e. IsRooted w (first_root system.devices) d e.cause) ((ms d).queues q)) (sym first.machines)
      (all_both (λ e. 0 < e.cause) (λ e. e.cause < (machine_at system.devices d).next) (λ e. IsRooted w (first_root system.devices) d e.cause) ((machine_at system.devices d).queues q)
      (λ e l m. record { is_open = (l, omega (arith, m, next_is d)); root = first.root_of d e.cause }) (above_at system.devices d q) (below_at cert system.devices hold d q))

  root_is : (c : Cause) → HasOpened w c → first_root system.devices c.device c.number ≡ roots_before system.devices c.device + c.number
  root_is c h = root_at system.devices c.device c.number h.0 (omega (arith, h.1, next_is c.device))

  back : (c : Cause) → HasOpened w c → arrival_first (first_root system.devices c.device c.number) ≡ c
  back c h =
      ap (first_arrival system.devices 0) (root_is c h) ∙ arrival_at system.devices 0 c.device c.number h.0 (omega (arith, h.1, next_is c.device))
      ∙ ap (λ j. record { device = j; number = c.number }) (let e : 0 + c.device ≡ c.device = omega arith in e)

  -- the cause of a root
  record At (n : ℕ) : Type 0 where
    cause : Cause
    is_open : HasOpened w cause
    arrival : arrival_first n ≡ cause
    root : first_root system.devices cause.device cause.number ≡ n

  at_root : (n : ℕ) → IsOpened w n → At n
  at_root n r =
      let k = cause_at system.devices n r.0 (omega (arith, r.1, first.next)) in
      let open_now : HasOpened w (record { device = k.0; number = k.1 }) = (k.2, omega (arith, k.3, next_is k.0)) in
      let root_now : first_root system.devices k.0 k.1 ≡ n = root_is (record { device = k.0; number = k.1 }) open_now ∙ k.4 in
      record { cause = record { device = k.0; number = k.1 }; is_open = open_now; arrival = ap arrival_first (sym root_now) ∙ back (record { device = k.0; number = k.1 }) open_now; root = root_now }

  returns : (n : ℕ) → IsOpened w n → first_root system.devices (arrival_first n).device (arrival_first n).number ≡ n
  returns n r = let k = at_root n r in ap (λ (c : Cause). first_root system.devices c.device c.number) k.arrival ∙ k.root

  pub tied_first : Tied arrival_first [] w
  tied_first =
      record {
        of = first_root system.devices;
        carried = λ n. 0;
        begun = λ d. omega (arith, begun_at system.devices d, next_is d);
        pending = pending;
        rooted = λ c h. (omega (arith, root_is c h, h.0), omega (arith, root_is c h, first.next, root_within system.devices c.device c.number h.0 (omega (arith, h.1, next_is c.device))));
        belongs = λ c h. subst (λ x. Belongs [] x c) (sym (back c h)) itself;
        arrives = λ n r. let k = at_root n r in (subst (HasOpened w) (sym k.arrival) k.is_open, λ at datagram o. cc);
        returns = returns;
        arrivals = λ c a. back c a.0;
        sends = λ at datagram c message s. (let e = s.told in cc);
        opens = λ at datagram c o. cc;
        datagrams = subst (AllFrom (IsTold (λ n. 0) []) 1) (sym first.datagrams) tt;
        unsent = λ datagram d l. refl;
        ran = tt;
        steps = λ n r. (first_begins system cert 0 w first n r.0 r.1).0;
        opened = λ n q r.
            all_both (λ e. IsRooted w (first_root system.devices) (arrival_first n).device e.cause) (λ e. w.roots (w.root_of (arrival_first n).device e.cause) ≡ record { opening = e.opening; steps = 0 })
            (λ e. e.cause ≡ (arrival_first n).number → e.opening ≡ (w.roots n).opening) ((w.machines (arrival_first n).device).queues q)
            (λ e k p i.
            let root_now : w.root_of (arrival_first n).device e.cause ≡ n = k.root ∙ ap (first_root system.devices (arrival_first n).device) i ∙ returns n r in
            ap (λ (x : Root). x.opening) (sym p) ∙ ap (λ j. (w.roots j).opening) root_now)
            (pending (arrival_first n).device q) (first.roots (arrival_first n).device q);
      }

  pub begins_first : (n : ℕ) → IsOpened w n → IsPending w (arrival_first n) (w.roots n).opening
  begins_first n r =
      let k = at_root n r in
      let p = pending_at cert system.devices k.cause.device k.cause.number k.is_open.0 (omega (arith, k.is_open.1, next_is k.cause.device)) in
      let there : IsOpen ((w.machines k.cause.device).queues p.1) k.cause.number p.0 = subst (λ (ms : ℕ → Machine). IsOpen ((ms k.cause.device).queues p.1) k.cause.number p.0) (sym first.machines) p.2 in
      let opened : w.roots (w.root_of k.cause.device k.cause.number) ≡ record { opening = p.0; steps = 0 } =
      open_is (λ c o. w.roots (w.root_of k.cause.device c) ≡ record { opening = o; steps = 0 }) ((w.machines k.cause.device).queues p.1) k.cause.number p.0 (first.roots k.cause.device p.1) there in
      let opening_is : p.0 ≡ (w.roots n).opening = ap (λ (x : Root). x.opening) (sym opened) ∙ ap (λ j. (w.roots j).opening) (first.root_of k.cause.device k.cause.number ∙ k.root) in
      subst (λ c. IsPending w c (w.roots n).opening) (sym k.arrival) (p.1, subst (IsOpen ((w.machines k.cause.device).queues p.1) k.cause.number) opening_is there)
