-- A first world is there.
use Rattle.std.proofs.Common.{◌≡◌, ℕ, zero, suc, ◌+◌, ◌-◌, ◌<◌, ◌&&◌, cond, List, [], ◌∷◌, refl, sym, ◌∙◌, ap, arith}
use Rattle.std.specs.Prelude.{length, nat_lt}
use Rattle.std.specs.List.{AllByRecursion}
use Rattle.std.proofs.lemmas.Bool.{lt-ltb, le-ltb}
use Rattle.fb_model.specs.Names.{Place, at_place}
use Rattle.fb_model.specs.System.{System, Device}
use Rattle.fb_model.specs.Certificates.{Certificate, DeviceHolds}
use Rattle.fb_model.specs.Devices.{first_stamp, at_first}
use Rattle.fb_model.specs.Headline.{IsKnown, IsSound}
use Rattle.fb_model.specs.World.{World, machine_at, roots_before, first_root, IsFirst}
use Rattle.fb_model.proofs.Lists.{all_weaker, all_both}
use Rattle.fb_model.proofs.Starting.{first_sound}
use Rattle.fb_model.specs.Worlds.{AllHold}
use Rattle.fb_model_worlds.proofs.Beginning.{numbered_first, at_every}

module _ (cert : Certificate) where
  sound : (device : Device) → DeviceHolds cert device → IsSound cert device (at_first device 1 first_stamp)
  sound device holding = first_sound cert device holding 1 first_stamp (record { boot = omega arith; sequence = omega arith })

  -- the openings of the roots of devices, numbered from 1
  abbrev opening_at : (ds : List Device) → AllByRecursion (DeviceHolds cert) ds → ℕ → Place
  opening_at [] hold r = at_place [] []
  opening_at (x ∷ xs) hold r = cond (nat_lt r (at_first x 1 first_stamp).next) ((sound x hold.0).opening_of r) (opening_at xs hold.1 (r - ((at_first x 1 first_stamp).next - 1)))

  above_all : (ds : List Device) (d q : ℕ) → AllByRecursion (λ e. 0 < e.cause) ((machine_at ds d).queues q)
  above_all ds d q = at_every (λ e. 0 < e.cause) ds d q (λ device at. (numbered_first device).1 q)

  -- the opening of each entry is that of its root
  openings : (ds : List Device) (hold : AllByRecursion (DeviceHolds cert) ds) (d q : ℕ) → AllByRecursion (λ e. opening_at ds hold (roots_before ds d + e.cause) ≡ e.opening) ((machine_at ds d).queues q)
  openings [] hold d q = tt
  openings (x ∷ xs) hold zero q =
      let s = sound x hold.0 in
      all_weaker (IsKnown x s.opening_of s.home_of (at_first x 1 first_stamp).next q) (λ e. opening_at (x ∷ xs) hold (0 + e.cause) ≡ e.opening) ((at_first x 1 first_stamp).queues q)
      (λ e k.
      ap (opening_at (x ∷ xs) hold) (let i : 0 + e.cause ≡ e.cause = omega arith in i)
      ∙ ap (λ t. cond t ((sound x hold.0).opening_of e.cause) (opening_at xs hold.1 (e.cause - ((at_first x 1 first_stamp).next - 1)))) (lt-ltb e.cause (at_first x 1 first_stamp).next k.cause)
      ∙ sym k.opening)
      (s.entries q)
  openings (x ∷ xs) hold (suc d) q =
      all_both (λ e. 0 < e.cause) (λ e. opening_at xs hold.1 (roots_before xs d + e.cause) ≡ e.opening) (λ e. opening_at (x ∷ xs) hold (((at_first x 1 first_stamp).next - 1) + roots_before xs d + e.cause) ≡ e.opening) ((machine_at xs d).queues q)
      (λ e l h.
      let r : ℕ = ((at_first x 1 first_stamp).next - 1) + roots_before xs d + e.cause in
      ap (λ t. cond t ((sound x hold.0).opening_of (((at_first x 1 first_stamp).next - 1) + roots_before xs d + e.cause)) (opening_at xs hold.1 ((((at_first x 1 first_stamp).next - 1) + roots_before xs d + e.cause) - ((at_first x 1 first_stamp).next - 1))))
      (le-ltb (((at_first x 1 first_stamp).next - 1) + roots_before xs d + e.cause) (at_first x 1 first_stamp).next (omega (arith, l, (numbered_first x).0)))
      ∙ ap (opening_at xs hold.1) (let i : (((at_first x 1 first_stamp).next - 1) + roots_before xs d + e.cause) - ((at_first x 1 first_stamp).next - 1) ≡ roots_before xs d + e.cause = omega arith in i)
      ∙ h)
      (above_all xs d q) (openings xs hold.1 d q)

  below_all : (ds : List Device) → AllByRecursion (DeviceHolds cert) ds → (d q : ℕ) → AllByRecursion (λ e. e.cause < (machine_at ds d).next) ((machine_at ds d).queues q)
  below_all [] hold d q = tt
  below_all (x ∷ xs) hold zero q = (let s = sound x hold.0 in all_weaker (IsKnown x s.opening_of s.home_of (at_first x 1 first_stamp).next q) (λ e. e.cause < (at_first x 1 first_stamp).next) ((at_first x 1 first_stamp).queues q) (λ e k. k.cause) (s.entries q))
  below_all (x ∷ xs) hold (suc d) q = below_all xs hold.1 d q

pub first_is_there : (system : System) (cert : Certificate) → AllHold system cert → (w : World) × IsFirst system w
first_is_there system cert hold = (
  record {
    machines = machine_at system.devices;
    datagrams = [];
    root_of = first_root system.devices;
    roots = λ r. record { opening = opening_at cert system.devices hold r; steps = 0 };
    next = roots_before system.devices (length system.devices) + 1;
  },
  record {
    machines = refl;
    datagrams = refl;
    root_of = λ d c. refl;
    next = refl;
    roots = λ d q. all_both (λ e. (0 < e.cause) × (e.cause < (machine_at system.devices d).next)) (λ e. opening_at cert system.devices hold (roots_before system.devices d + e.cause) ≡ e.opening)
        (λ e. record { opening = opening_at cert system.devices hold (first_root system.devices d e.cause); steps = 0 } ≡ record { opening = e.opening; steps = 0 }) ((machine_at system.devices d).queues q)
        (λ e l h.
        let is : first_root system.devices d e.cause ≡ roots_before system.devices d + e.cause =
        ap (λ t. cond (t && nat_lt e.cause (machine_at system.devices d).next) (roots_before system.devices d + e.cause) 0) (lt-ltb 0 e.cause l.0)
        ∙ ap (λ t. cond t (roots_before system.devices d + e.cause) 0) (lt-ltb e.cause (machine_at system.devices d).next l.1) in
        ap (λ p. record { opening = p; steps = 0 }) (ap (opening_at cert system.devices hold) is ∙ h))
        (all_both (λ e. 0 < e.cause) (λ e. e.cause < (machine_at system.devices d).next) (λ e. (0 < e.cause) × (e.cause < (machine_at system.devices d).next)) ((machine_at system.devices d).queues q) (λ e l m. (l, m)) (above_all cert system.devices d q) (below_all cert system.devices hold d q))
        (openings cert system.devices hold d q);
  },
)
