-- Roots that the causes of a device open, in the book's world.
use Rattle.std.proofs.Common.{◌≡◌, ℕ, zero, suc, ◌+◌, ◌-◌, ◌<◌, ◌≤◌, cond, List, [], ◌∷◌, ◌++◌, map, length, slice_get, Some, refl, sym, ◌∙◌, ap, subst, arith, inl, inr}
use Rattle.std.specs.Prelude.{set, nat_lt}
use Rattle.std.specs.List.{AllByRecursion}
use Rattle.std.proofs.lemmas.List.{length-append}
use Rattle.std.proofs.lemmas.Bool.{lt-ltb, le-ltb}
use Rattle.fb_model.specs.Names.{Place}
use Rattle.fb_model.specs.System.{System, Device}
use Rattle.fb_model.specs.Wires.{leaves}
use Rattle.fb_model.specs.Devices.{Machine, Entry, put}
use Rattle.fb_model.specs.Headline.{IsOpen}
use Rattle.fb_model.specs.World.{roots_from, OpensCauses}
use Rattle.fb_model.proofs.Lists.{all_weaker, all_append}
use Rattle.fb_verified.specs.declared.verified.Verified.{Verified}
use Rattle.fb_verified.specs.Checked.{system_in, certificate_in}
use Rattle.fb_device_state.specs.Sessions.{Session}
use Rattle.fb_device_state.specs.Machines.{device_at, device_in, machine_of}
use Rattle.fb_device_tables.specs.Views.{place_at}
use Rattle.fb_device_tables.specs.Tables.{far_at}
use Rattle.fb_device.specs.declared.answer.Opening.{Opening}
use Rattle.fb_world_course.specs.declared.station.Root.{Root}
use Rattle.fb_world_course.specs.declared.station.Station.{Station}
use Rattle.fb_world_course.specs.declared.course.Course.{Course}
use Rattle.fb_world_course.specs.Scenes.{root_for, root_in, numbered, opening_place, datagram_of, world_in}
use Rattle.fb_world_course.specs.Roots.{Opens, IsCounted, OpensRoots, with_device}
use Rattle.fb_world_course.specs.Keeping.{IsRoot}
use Rattle.fb_world_course.proofs.Lists.{left_got, right_got, got_there, all_by}
use Rattle.fb_world_course.proofs.Worlds.{put_here, machines_put, roots_put, machine_here, roots_here}

-- the device of a session is that of its number in what was checked
pub device_same : (v : Verified) (k : ℕ) (s : Session) → s.verified ≡ v → s.number ≡ k → device_in s ≡ device_at (system_in v).devices k
device_same v k s e n = ap (λ (w : Verified). device_at (system_in w).devices s.number) e ∙ ap (device_at (system_in v).devices) n

-- what is so of the causes and openings of entries is so of a cause that is open
pub open_is : (P : ℕ → Place → Type 0) (es : List Entry) (c : ℕ) (p : Place) → AllByRecursion (λ e. P e.cause e.opening) es → IsOpen es c p → P c p
open_is P [] c p h i = absurd i
open_is P (e ∷ es) c p h (inl i) = subst (λ x. P c x) i.1 (subst (λ x. P x e.opening) i.0 h.0)
open_is P (e ∷ es) c p h (inr i) = open_is P es c p h.1 i

-- an arrival that opened a cause, in the terms of what was checked
pub opens_so : (v : Verified) (k c : ℕ) (s : Session) (o : Opening) (P : ℕ → Place → Type 0) → s.verified ≡ v → s.number ≡ k → ((q : ℕ) → AllByRecursion (λ e. P e.cause e.opening) ((machine_of s).queues q))
    → Opens s c o → P c (opening_place (system_in v) k o) × (o.far ≡ far_at (certificate_in v) (opening_place (system_in v) k o))
opens_so v k c s o P e n h x =
    let same = device_same v k s e n in
    let place : place_at (leaves (device_in s)) (record { block = o.block; event = o.event }) ≡ opening_place (system_in v) k o = ap (λ (d : Device). place_at (leaves d) (record { block = o.block; event = o.event })) same in (
      subst (P c) place (open_is P ((machine_of s).queues x.0) c (place_at (leaves (device_in s)) (record { block = o.block; event = o.event })) (h x.0) x.1),
      x.3 ∙ ap (λ (w : Verified). far_at (certificate_in w) (place_at (leaves (device_in s)) (record { block = o.block; event = o.event }))) e ∙ ap (far_at (certificate_in v)) place,
    )

-- a root behind others
root_behind : (system : System) (xs ys : List Root) (k : ℕ) (r : Root) → slice_get ys k ≡ Some r → root_in system (numbered (xs ++ ys) (length xs + 1 + k)) ≡ root_in system (Some r)
root_behind system xs ys k r h =
    ap (λ n. root_in system (numbered (xs ++ ys) n)) (let e : length xs + 1 + k ≡ suc (length xs + k) = omega arith in e)
    ∙ ap (root_in system) (right_got xs ys k ∙ h)

-- and those before stay
root_before : (system : System) (xs ys : List Root) (n : ℕ) → n < length xs + 1 → root_in system (numbered (xs ++ ys) n) ≡ root_in system (numbered xs n)
root_before system xs ys zero h = refl
root_before system xs ys (suc n) h = ap (root_in system) (left_got xs ys n (omega (arith, h)))

module _ (v : Verified) (old new : Course) (d count : ℕ) (s t : Station) (stands : slice_get old.stations.items d ≡ Some s) (set_is : new.stations.items ≡ set old.stations.items d t)
    (verified : t.device.verified ≡ v) (number : t.device.number ≡ d) (counted : IsCounted s) (counted_now : IsCounted t)
    (opens : OpensRoots (with_device s t.device) d count old.roots.items t new.roots.items) (grams : new.datagrams.items ≡ old.datagrams.items) where
  abbrev next_old : (machine_of s.device).next ≡ s.causes + 1
  next_old = sym counted

  next_new : (machine_of t.device).next ≡ s.causes + 1 + count
  next_new = omega (arith, counted_now, opens.causes)

  -- the roots of the device's causes
  of_is : (c : ℕ) → root_for t.roots.entries c ≡ roots_from ((world_in v old).root_of d) ((world_in v old).machines d).next (machine_of t.device).next (world_in v old).next c
  of_is c =
      opens.rooted c
      ∙ ap (λ f. roots_from f (s.causes + 1) (s.causes + 1 + count) (length old.roots.items + 1) c) (sym (roots_here v old d s stands))
      ∙ ap (λ n. roots_from ((world_in v old).root_of d) n (s.causes + 1 + count) (length old.roots.items + 1) c) (counted ∙ ap (λ (m : Machine). m.next) (sym (machine_here v old d s stands)))
      ∙ ap (λ n. roots_from ((world_in v old).root_of d) ((world_in v old).machines d).next n (length old.roots.items + 1) c) (sym next_new)

  module _ (opening_of : ℕ → Place) (entries : (q : ℕ) → AllByRecursion (λ e. (e.opening ≡ opening_of e.cause) × (e.cause < (machine_of t.device).next)) ((machine_of t.device).queues q)) where
    -- the root that a new cause has opened
    opened_at : (k : ℕ) → k < count → (world_in v new).roots (length old.roots.items + 1 + k) ≡ record { opening = opening_of (s.causes + 1 + k); steps = 0 }
    opened_at k l =
        let (r, is) = got_there opens.more k (omega (arith, l, opens.counted)) in
        let o = opens.opened k r is in
        let p = (opens_so v d (s.causes + 1 + k) t.device r.opening (λ c p. p ≡ opening_of c) verified number (λ q. all_weaker (λ e. (e.opening ≡ opening_of e.cause) × (e.cause < (machine_of t.device).next)) (λ e. e.opening ≡ opening_of e.cause) ((machine_of t.device).queues q) (λ e h. h.0) (entries q)) o.2).0 in
        ap (λ xs. root_in (system_in v) (numbered xs (length old.roots.items + 1 + k))) opens.roots_are
        ∙ root_behind (system_in v) old.roots.items opens.more k r is
        ∙ ap (λ n. record { opening = opening_place (system_in v) n r.opening; steps = r.steps }) o.0
        ∙ ap (λ n. record { opening = opening_place (system_in v) d r.opening; steps = n }) o.1
        ∙ ap (λ x. record { opening = x; steps = 0 }) p

    opened_entry : (e : Entry) → e.opening ≡ opening_of e.cause → e.cause < (machine_of t.device).next → ((world_in v old).machines d).next ≤ e.cause → (world_in v new).roots ((world_in v new).root_of d e.cause) ≡ record { opening = e.opening; steps = 0 }
    opened_entry e o l m =
        let low : s.causes + 1 ≤ e.cause = omega (arith, m, counted, ap (λ (x : Machine). x.next) (machine_here v old d s stands)) in
        let k : ℕ = e.cause - (s.causes + 1) in
        let root_is : (world_in v new).root_of d e.cause ≡ length old.roots.items + 1 + (e.cause - (s.causes + 1)) =
        ap (λ f. f d e.cause) (roots_put v old new d s t stands set_is)
        ∙ ap (λ f. f e.cause) (put_here (world_in v old).root_of d (root_for t.roots.entries))
        ∙ opens.rooted e.cause
        ∙ ap (λ b. cond b (root_for s.roots.entries e.cause) (cond (nat_lt e.cause (s.causes + 1 + count)) (length old.roots.items + 1 + (e.cause - (s.causes + 1))) (root_for s.roots.entries e.cause))) (le-ltb e.cause (s.causes + 1) low)
        ∙ ap (λ b. cond b (length old.roots.items + 1 + (e.cause - (s.causes + 1))) (root_for s.roots.entries e.cause)) (lt-ltb e.cause (s.causes + 1 + count) (omega (arith, l, next_new))) in
        ap (world_in v new).roots root_is
        ∙ opened_at (e.cause - (s.causes + 1)) (omega (arith, l, next_new, low))
        ∙ ap (λ c. record { opening = opening_of c; steps = 0 }) (let i : s.causes + 1 + (e.cause - (s.causes + 1)) ≡ e.cause = omega (arith, low) in i)
        ∙ ap (λ x. record { opening = x; steps = 0 }) (sym o)

    pub causes_open : OpensCauses (world_in v old) (world_in v new) d (machine_of t.device)
    causes_open =
        record {
          machines = machines_put v old new d s t stands set_is;
          datagrams = ap (map datagram_of) grams;
          root_of = roots_put v old new d s t stands set_is ∙ ap (put (world_in v old).root_of d) (λ i c. of_is c i);
          next = omega (arith, ap length opens.roots_are, length-append old.roots.items opens.more, opens.counted, next_new, counted, ap (λ (m : Machine). m.next) (machine_here v old d s stands));
          before = λ n l. ap (λ xs. root_in (system_in v) (numbered xs n)) opens.roots_are ∙ root_before (system_in v) old.roots.items opens.more n l;
          opened = λ q. all_weaker (λ e. (e.opening ≡ opening_of e.cause) × (e.cause < (machine_of t.device).next)) (λ e. ((world_in v old).machines d).next ≤ e.cause → (world_in v new).roots ((world_in v new).root_of d e.cause) ≡ record { opening = e.opening; steps = 0 }) ((machine_of t.device).queues q)
              (λ e h m. opened_entry e h.0 h.1 m) (entries q);
        }

  -- new roots tell what their openings may cost, and have no steps
  pub roots_open : (n : ℕ) → AllByRecursion (IsRoot v n) old.roots.items → AllByRecursion (IsRoot v n) new.roots.items
  roots_open n h =
      subst (AllByRecursion (IsRoot v n)) (sym opens.roots_are)
      (all_append (IsRoot v n) old.roots.items opens.more h
      (all_by (IsRoot v n) opens.more (λ k r is.
      let o = opens.opened k r is in
      let f = (opens_so v d (s.causes + 1 + k) t.device r.opening (λ c p. Unit {0}) verified number (λ q. all_by (λ e. Unit {0}) ((machine_of t.device).queues q) (λ i e g. tt)) o.2).1 in
      record { far = f ∙ ap (λ j. far_at (certificate_in v) (opening_place (system_in v) j r.opening)) (sym o.0); few = omega (arith, o.1) })))
