-- The first world is sound.
use Rattle.std.proofs.Common.{◌≡◌, ℕ, zero, suc, ◌+◌, ◌-◌, ◌<◌, ◌≤◌, ◌&&◌, cond, List, [], ◌∷◌, Some, refl, sym, ◌∙◌, ap, subst, arith}
use Rattle.std.specs.Prelude.{length, slice_get, nat_lt}
use Rattle.std.specs.List.{AllByRecursion}
use Rattle.std.proofs.lemmas.Bool.{cond_both, lt-ltb}
use Rattle.fb_model.specs.System.{System, Device}
use Rattle.fb_model.specs.Messages.{IsStamp}
use Rattle.fb_model.specs.Wires.{Leaf, leaves}
use Rattle.fb_model.specs.Certificates.{Certificate, DeviceHolds, is_restart}
use Rattle.fb_model.specs.Devices.{Entry, Machine, admitted, beginning, begun, silent, first_stamp, at_first}
use Rattle.fb_model.specs.Headline.{IsKnown, IsSound}
use Rattle.fb_model.specs.World.{World, machine_at, roots_before, IsFirst}
use Rattle.fb_model.proofs.Bounding.{extends_admitted}
use Rattle.fb_model.proofs.Homes.{homes}
use Rattle.fb_model.proofs.Lists.{all_append, all_weaker, all_both}
use Rattle.fb_model.proofs.Starting.{first_sound}
use Rattle.fb_model.specs.Worlds.{AllHold, IsOpened, IsSent, IsWorldSound}
use Rattle.fb_model_worlds.proofs.Growing.{IsEmptyFrom, admitted_within}
use Rattle.fb_model_worlds.proofs.Cases.{at_number}

-- ---- one device

begun_within : (n : ℕ) (ls : List Leaf) (m : Machine) → AllByRecursion (λ leaf. leaf.home < n) ls → IsEmptyFrom n m → IsEmptyFrom n (begun ls m)
begun_within n [] m l h = h
begun_within n (leaf ∷ rest) m l h = cond_both (is_restart leaf.kind) (admitted m (beginning leaf)) m (λ x. IsEmptyFrom n (begun rest x)) (λ _. begun_within n rest (admitted m (beginning leaf)) l.1 (admitted_within n m (beginning leaf) l.0 h)) (λ _. begun_within n rest m l.1 h)

-- its causes are numbered from 1
abbrev pub AreNumbered : Machine → Type 0
AreNumbered m = (0 < m.next) × ((q : ℕ) → AllByRecursion (λ e. 0 < e.cause) (m.queues q))

begun_numbered : (ls : List Leaf) (m : Machine) → AreNumbered m → AreNumbered (begun ls m)
begun_numbered [] m h = h
begun_numbered (leaf ∷ rest) m h =
    cond_both (is_restart leaf.kind) (admitted m (beginning leaf)) m (λ x. AreNumbered (begun rest x)) (λ _. begun_numbered rest (admitted m (beginning leaf)) (omega arith, here)) (λ _. begun_numbered rest m h)
  where
    here : (q : ℕ) → AllByRecursion (λ e. 0 < e.cause) ((admitted m (beginning leaf)).queues q)
    here q =
        let g = (extends_admitted m (beginning leaf)).grows q in
        subst (AllByRecursion (λ e. 0 < e.cause)) (sym g.1) (all_append (λ e. 0 < e.cause) (m.queues q) g.0 (h.1 q) (all_weaker (λ e. m.next ≤ e.cause) (λ e. 0 < e.cause) g.0 (λ e l. omega (arith, h.0, l)) g.2))

pub numbered_first : (device : Device) → AreNumbered (at_first device 1 first_stamp)
numbered_first device = begun_numbered (leaves device) (silent device 1 first_stamp) (omega arith, λ q. tt)

-- ---- all devices

at_device : (ds : List Device) (d : ℕ) (device : Device) → slice_get ds d ≡ Some device → machine_at ds d ≡ at_first device 1 first_stamp
at_device [] d device h = cc
at_device (x ∷ xs) zero device h = (let is : x ≡ device = cc in ap (λ y. at_first y 1 first_stamp) is)
at_device (x ∷ xs) (suc d) device h = at_device xs d device h

roots_within : (ds : List Device) (d : ℕ) (device : Device) → slice_get ds d ≡ Some device → roots_before ds d + ((at_first device 1 first_stamp).next - 1) ≤ roots_before ds (length ds)
roots_within [] d device h = cc
roots_within (x ∷ xs) zero device h = (let is : x ≡ device = cc in omega (arith, ap (λ y. (at_first y 1 first_stamp).next) is))
roots_within (x ∷ xs) (suc d) device h = omega (arith, roots_within xs d device h)

-- what is so of the entries of each device is so of those of every number
pub at_every : (P : Entry → Type 0) (ds : List Device) (d q : ℕ) → ((device : Device) → slice_get ds d ≡ Some device → AllByRecursion P ((at_first device 1 first_stamp).queues q)) → AllByRecursion P ((machine_at ds d).queues q)
at_every P [] d q h = tt
at_every P (x ∷ xs) zero q h = h x refl
at_every P (x ∷ xs) (suc d) q h = at_every P xs d q h

module _ (system : System) (cert : Certificate) (hold : AllHold system cert) (w : World) (first : IsFirst system w) where
  stamp_is : IsStamp first_stamp
  stamp_is = record { boot = omega arith; sequence = omega arith }

  machine_sound : (d : ℕ) (device : Device) → slice_get system.devices d ≡ Some device → IsSound cert device (at_first device 1 first_stamp)
  machine_sound d device at = first_sound cert device (at_number (λ x. DeviceHolds cert x) system.devices d device at hold) 1 first_stamp stamp_is

  machine_is : (d : ℕ) (device : Device) → slice_get system.devices d ≡ Some device → w.machines d ≡ at_first device 1 first_stamp
  machine_is d device at = ap (λ f. f d) first.machines ∙ at_device system.devices d device at

  entry_opened : (d : ℕ) (device : Device) → slice_get system.devices d ≡ Some device → (e : Entry) → 0 < e.cause → e.cause < (at_first device 1 first_stamp).next → IsOpened w (w.root_of d e.cause)
  entry_opened d device at e l m =
      let is : w.root_of d e.cause ≡ roots_before system.devices d + e.cause =
      first.root_of d e.cause
      ∙ ap (λ t. cond (t && nat_lt e.cause (machine_at system.devices d).next) (roots_before system.devices d + e.cause) 0) (lt-ltb 0 e.cause l)
      ∙ ap (λ t. cond t (roots_before system.devices d + e.cause) 0) (lt-ltb e.cause (machine_at system.devices d).next (subst (λ (x : Machine). e.cause < x.next) (sym (at_device system.devices d device at)) m)) in
      (omega (arith, is, l), omega (arith, is, l, m, first.next, roots_within system.devices d device at))

  rooted : (d q : ℕ) → AllByRecursion (λ e. IsOpened w (w.root_of d e.cause)) ((w.machines d).queues q)
  rooted d q =
      subst (λ (ms : ℕ → Machine). AllByRecursion (λ e. IsOpened w (w.root_of d e.cause)) ((ms d).queues q)) (sym first.machines)
      (at_every (λ e. IsOpened w (w.root_of d e.cause)) system.devices d q
      (λ device at.
      let k = machine_sound d device at in
      let m : Machine = at_first device 1 first_stamp in
      all_both (λ e. 0 < e.cause) (IsKnown device k.opening_of k.home_of (at_first device 1 first_stamp).next q) (λ e. IsOpened w (w.root_of d e.cause)) ((at_first device 1 first_stamp).queues q)
      (λ e l h. entry_opened d device at e l h.cause) ((numbered_first device).1 q) (k.entries q)))

  pub first_is_sound : IsWorldSound system cert w
  first_is_sound =
      record {
        above = omega (arith, first.next);
        machines = λ d device at. subst (IsSound cert device) (sym (machine_is d device at)) (machine_sound d device at);
        within = λ d device at. subst (IsEmptyFrom (length device.resources)) (sym (machine_is d device at)) (begun_within (length device.resources) (leaves device) (silent device 1 first_stamp) (homes device) (λ q _. refl));
        rooted = rooted;
        datagrams = subst (AllByRecursion (IsSent system w)) (sym first.datagrams) tt;
      }
