-- What each event does to the measures of roots.
use Rattle.std.proofs.Common.{◌≡◌, ℕ, zero, suc, ◌+◌, ◌-◌, ◌<◌, ◌≤◌, Bool, true, false, cond, eqb, min, ◌⊎◌, List, [], ◌∷◌, Option, Some, None, refl, sym, ◌∙◌, ap, subst, arith, inl, inr}
use Rattle.std.specs.Prelude.{slice_get}
use Rattle.std.proofs.lemmas.Bool.{eqb-true, eq-eqb, ne_eqb, cases_eq}
use Rattle.fb_words.specs.declared.format.Format.{Format}
use Rattle.fb_words.specs.declared.format.Format.TheVariants.{First, Second}
use Rattle.fb_model.specs.Names.{Place}
use Rattle.fb_model.specs.System.{System, Device, Service}
use Rattle.fb_model.specs.Messages.{Stamp}
use Rattle.fb_model.specs.Store.{sampled}
use Rattle.fb_model.specs.Wires.{Kind, Charted, Serviced, leaves}
use Rattle.fb_model.specs.Serving.{Effect, Send, Write}
use Rattle.fb_model.specs.Certificates.{Certificate, ColumnFits, far_of, admissions, IsWired, DeviceHolds}
use Rattle.fb_model.specs.Devices.{Ended, Machine, put, is_subscriber, format_in, format_of, Runs}
use Rattle.fb_model.specs.World.{Datagram, World, WorldEvent, WorldAnswer, OpensCauses, AddsSteps, AdmitsDatagram, posted, admitted_at, stepped, far_left, PaysFar, AreWithin}
use Rattle.fb_model.proofs.Ending.{serves_one}
use Rattle.fb_model.proofs.Far.{dispatch_falls, delivery_falls, opening_keeps}
use Rattle.fb_model.proofs.Lists.{all_weaker}
use Rattle.fb_model.proofs.Running.{at_first_leaf}
use Rattle.fb_model.specs.Worlds.{AllHold, IsOpened, IsSent, IsWorldSound, dispatches_of, MeasureFalls}
use Rattle.fb_model_worlds.proofs.Opening.{opening_begins}
use Rattle.fb_model_worlds.proofs.Cases.{at_number, Admits, Case, rests, opens, serves, takes, device_holds}
use Rattle.fb_model_worlds.proofs.Growing.{Grows}
use Rattle.fb_model_worlds.proofs.Sounding.{all_prefix, bumped, got_admitted, bumped_sent, queue_within}

-- ---- what is allowed

-- where so many admissions are allowed at an event's end, they were before
abbrev Within : ℕ → ℕ → Datagram → Type 0
Within repeats root g = g.root ≡ root → g.message.stamp ≡ None → (d : ℕ) → g.admissions d ≤ repeats

within_before : (repeats root : ℕ) → repeats ≤ 255 → (gs : List Datagram) (n d : ℕ) → AreWithin repeats root (admitted_at gs n d) → AreWithin repeats root gs
within_before repeats root few [] n d h = tt
within_before repeats root few (g ∷ gs) zero d h = (λ e i j. by e i j (cases_eq d j), h.1) where
  by : g.root ≡ root → g.message.stamp ≡ None → (j : ℕ) → (d ≡ j) ⊎ (d ≡ j → ⊥) → g.admissions j ≤ repeats
  by e i j (inl k) =
      let is : put g.admissions d (min (g.admissions d + 1) 256) j ≡ min (g.admissions d + 1) 256 = ap (λ t. cond t (min (g.admissions d + 1) 256) (g.admissions j)) (eq-eqb d j k) in
      omega (arith, h.0 e i j, is, ap g.admissions k, few)
  by e i j (inr k) =
      let is : put g.admissions d (min (g.admissions d + 1) 256) j ≡ g.admissions j = ap (λ t. cond t (min (g.admissions d + 1) 256) (g.admissions j)) (ne_eqb d j k) in
      omega (arith, h.0 e i j, is)
within_before repeats root few (g ∷ gs) (suc n) d h = (h.0, within_before repeats root few gs n d h.1)

posted_before : (repeats root from : ℕ) (gs : List Datagram) (effect : Option Effect) → AreWithin repeats root (posted gs from effect) → AreWithin repeats root gs
posted_before repeats root from gs None h = h
posted_before repeats root from gs (Some (Write number values)) h = h
posted_before repeats root from gs (Some (Send message)) h = all_prefix (Within repeats root) gs (record { message = message; root = from; admissions = λ d. 0 } ∷ []) h

-- a SUBSCRIBE may admit a datagram of its format so often
may_admit : (r c x : ℕ) (kind : Kind) (stamp : Option Stamp) → is_subscriber c kind ≡ true → format_in stamp ≡ format_of kind → (stamp ≡ None → x ≤ r) → ((s : Stamp) → stamp ≡ Some s → x ≤ 1) → x ≤ admissions r c kind
may_admit r c x (Charted block) stamp h f n s = cc
may_admit r c x (Serviced (Service.Input number types)) stamp h f n s = cc
may_admit r c x (Serviced (Service.Output number types)) stamp h f n s = cc
may_admit r c x (Serviced (Service.Publish channel types)) stamp h f n s = cc
may_admit r c x (Serviced (Service.Subscribe channel types)) stamp h f n s = subst (λ t. x ≤ cond t (elim channel.format [ First ↦ r | Second ↦ 1 ]) 0) (sym h) (subst (λ (k : Format). x ≤ elim k [ First ↦ r | Second ↦ 1 ]) f (by stamp n s)) where
  by : (o : Option Stamp) → (o ≡ None → x ≤ r) → ((s : Stamp) → o ≡ Some s → x ≤ 1) → x ≤ elim (format_in o) [ First ↦ r | Second ↦ 1 ]
  by None n s = n refl
  by (Some stamp) n s = s stamp refl
may_admit r c x (Serviced Service.Delay) stamp h f n s = cc
may_admit r c x (Serviced Service.Cycle) stamp h f n s = cc
may_admit r c x (Serviced Service.Restart) stamp h f n s = cc

module _ (system : System) (cert : Certificate) (repeats : ℕ) (old new : World) (event : WorldEvent) (answer : WorldAnswer) (s : IsWorldSound system cert old) where
  -- where nothing is dispatched, and roots are the same
  idle_falls : new.next ≡ old.next → new.roots ≡ old.roots → ((root : ℕ) → dispatches_of old root event answer ≡ 0)
      → ((root : ℕ) → root < old.next → AreWithin repeats root new.datagrams → far_left system cert repeats new root ≤ far_left system cert repeats old root)
      → MeasureFalls system cert repeats old event answer new
  idle_falls next roots x f =
      record {
        opens = λ root l m. absurd (omega (arith, l, m, next));
        openings = λ root l. ap (λ r. (r root).opening) roots;
        steps = λ root l. omega (arith, ap (λ r. (r root).steps) roots, x root);
        spends = λ root l w. omega (arith, ap (λ r. (r root).steps) roots, f root l w);
        falls = λ root l w. omega (arith, x root, f root l w);
      }

  module _ (d : ℕ) (device : Device) (machine : Machine) (at : slice_get system.devices d ≡ Some device) (g : Grows cert device (old.machines d) machine) (b : OpensCauses old new d machine) (x : (root : ℕ) → dispatches_of old root event answer ≡ 0) where
    begins : (root : ℕ) → old.next ≤ root → root < new.next → ((new.roots root).steps ≡ 0) × (far_left system cert repeats new root ≤ (far_of cert).weight (new.roots root).opening)
    begins root l m =
        let k : ℕ = root - old.next in
        let is : old.next + (root - old.next) ≡ root = omega (arith, l) in
        subst (λ r. ((new.roots r).steps ≡ 0) × (far_left system cert repeats new r ≤ (far_of cert).weight (new.roots r).opening)) is
        (opening_begins system cert repeats old new d device at (s.machines d device at) machine g.places g.admits b
        (λ j q. all_weaker (λ e. IsOpened old (old.root_of j e.cause)) (λ e. old.root_of j e.cause < old.next) ((old.machines j).queues q) (λ e h. h.1) (s.rooted j q))
        (all_weaker (IsSent system old) (λ y. y.root < old.next) old.datagrams (λ y h. h.opened.1) s.datagrams)
        (root - old.next) (omega (arith, l, m, b.next, g.admits.next)))

    open_falls : MeasureFalls system cert repeats old event answer new
    open_falls =
        record {
          opens = begins;
          openings = λ root l. ap (λ r. r.opening) (b.before root l);
          steps = λ root l. omega (arith, ap (λ r. r.steps) (b.before root l), x root);
          spends = λ root l w. omega (arith, ap (λ r. r.steps) (b.before root l), opening_keeps system cert repeats old new d device at (s.machines d device at) machine g.sound g.grown b root l);
          falls = λ root l w. omega (arith, x root, opening_keeps system cert repeats old new d device at (s.machines d device at) machine g.sound g.grown b root l);
        }

  module _ (far : PaysFar system cert repeats) (d : ℕ) (device : Device) (holding : DeviceHolds cert device) (machine : Machine) (q cause : ℕ) (place : Place) (steps : ℕ) (effect : Option Effect) (ended : Option Ended) (sent : Option ℕ) (at : slice_get system.devices d ≡ Some device)
      (hold : AllHold system cert) (r : Runs cert device (old.machines d) q cause place steps effect ended machine) (b : AddsSteps old new d machine cause steps effect ended sent)
      (x : (root : ℕ) → dispatches_of old root event answer ≡ cond (eqb (old.root_of d cause) root) 1 0) where
    takes_steps : 1 ≤ steps
    takes_steps = serves_one r.leaf.kind (old.machines d).clock r.first.place.event r.first.values (sampled (old.machines d).store r.leaf r.first.place.event) r.after steps r.outs effect r.served

    serve_falls : MeasureFalls system cert repeats old event answer new
    serve_falls =
        record {
          opens = λ root l m. absurd (omega (arith, l, m, b.next));
          openings = λ root l. ap (λ f. (f root).opening) b.roots ∙ same root;
          steps = λ root l. omega (arith, ap (λ f. (f root).steps) b.roots, x root, more root);
          spends = λ root l w. spends root;
          falls = λ root l w. omega (arith, ap (λ f. (f root).steps) b.roots, x root, more root, spends root);
        }
      where
        spends : (root : ℕ) → (new.roots root).steps + far_left system cert repeats new root ≤ (old.roots root).steps + far_left system cert repeats old root
        spends root =
            dispatch_falls system cert repeats far old new d device at holding (at_number (λ y. ColumnFits (far_of cert) cert.ranges (leaves y)) system.devices d device at far.devices) (s.machines d device at) root q cause place steps effect ended machine sent r
            (queue_within system cert hold old new s d device holding machine q cause place steps effect ended sent at r b) b

        same : (root : ℕ) → (stepped old.roots (old.root_of d cause) steps root).opening ≡ (old.roots root).opening
        same root = by (eqb (old.root_of d cause) root) refl where
          by : (t : Bool) → eqb (old.root_of d cause) root ≡ t → (cond t (record { opening = (old.roots (old.root_of d cause)).opening; steps = (old.roots (old.root_of d cause)).steps + steps }) (old.roots root)).opening ≡ (old.roots root).opening
          by true e = ap (λ i. (old.roots i).opening) (eqb-true (old.root_of d cause) root e)
          by false e = refl

        more : (root : ℕ) → (old.roots root).steps + cond (eqb (old.root_of d cause) root) 1 0 ≤ (stepped old.roots (old.root_of d cause) steps root).steps
        more root = by (eqb (old.root_of d cause) root) refl where
          by : (t : Bool) → eqb (old.root_of d cause) root ≡ t → (old.roots root).steps + cond t 1 0 ≤ (cond t (record { opening = (old.roots (old.root_of d cause)).opening; steps = (old.roots (old.root_of d cause)).steps + steps }) (old.roots root)).steps
          by true e = omega (arith, takes_steps, ap (λ i. (old.roots i).steps) (eqb-true (old.root_of d cause) root e))
          by false e = omega arith

  module _ (few : repeats ≤ 255) (hold : AllHold system cert) (d n cause : ℕ) (device : Device) (holding : DeviceHolds cert device) (datagram : Datagram) (machine : Machine) (at : slice_get system.devices d ≡ Some device) (got : slice_get old.datagrams n ≡ Some datagram)
      (a : Admits cert device (old.machines d) datagram cause machine) (b : AdmitsDatagram old new d n machine datagram cause) (x : (root : ℕ) → dispatches_of old root event answer ≡ 0) where
    -- this admission is one of those that are allowed
    is_allowed : (root : ℕ) → AreWithin repeats root new.datagrams → datagram.root ≡ root → min (datagram.admissions d + 1) 256 ≤ admissions repeats datagram.message.number a.leaf.kind
    is_allowed root w e =
        let sub : is_subscriber datagram.message.number a.leaf.kind ≡ true = (at_first_leaf (IsWired (leaves device)) (is_subscriber datagram.message.number) (leaves device) a.leaf holding.wired a.known).1 in
        let there : AreWithin repeats root (admitted_at old.datagrams n d) = subst (AreWithin repeats root) b.datagrams w in
        let now = at_number (Within repeats root) (admitted_at old.datagrams n d) n (bumped datagram d) (got_admitted old.datagrams n d datagram got) there in
        let here : put datagram.admissions d (min (datagram.admissions d + 1) 256) d ≡ min (datagram.admissions d + 1) 256 = ap (λ t. cond t (min (datagram.admissions d + 1) 256) (datagram.admissions d)) (eq-eqb d d refl) in
        may_admit repeats datagram.message.number (min (datagram.admissions d + 1) 256) a.leaf.kind datagram.message.stamp sub a.format
        (λ i. subst (λ k. k ≤ repeats) here (now e i d))
        (λ stamp i. subst (λ k. k ≤ 1) here ((bumped_sent system cert hold old new s d n cause device holding datagram machine at got a b).once stamp i d))

    take_falls : MeasureFalls system cert repeats old event answer new
    take_falls =
        idle_falls b.next b.roots x
        (λ root l w. delivery_falls system cert repeats old new d device at (s.machines d device at) root few n datagram machine cause a.leaf a.values got a.known a.new_is a.cause_is (is_allowed root w) b)

module _ (system : System) (cert : Certificate) (hold : AllHold system cert) (repeats : ℕ) (far : PaysFar system cert repeats) (few : repeats ≤ 255) where
  pub measure_case : (old : World) (event : WorldEvent) (answer : WorldAnswer) (new : World) → IsWorldSound system cert old → Case system cert old event answer new → MeasureFalls system cert repeats old event answer new
  measure_case old event answer new s (rests e x) =
      idle_falls system cert repeats old new event answer s (ap (λ w. w.next) e) (ap (λ w. w.roots) e) x (λ root l w. omega (arith, ap (λ w. far_left system cert repeats w root) e))
  measure_case old event answer new s (opens d device machine at g b x) = open_falls system cert repeats old new event answer s d device machine at g b x
  measure_case old event answer new s (serves d device machine q cause place steps effect ended sent at r b x) =
      serve_falls system cert repeats old new event answer s far d device (device_holds system cert hold d device at) machine q cause place steps effect ended sent at hold r b x
  measure_case old event answer new s (takes d n cause device datagram machine at got a b x) =
      take_falls system cert repeats old new event answer s few hold d n cause device (device_holds system cert hold d device at) datagram machine at got a b x

  -- what is within at the end was within before
  pub within_case : (old : World) (event : WorldEvent) (answer : WorldAnswer) (new : World) (root : ℕ) → Case system cert old event answer new → AreWithin repeats root new.datagrams → AreWithin repeats root old.datagrams
  within_case old event answer new root (rests e x) w = subst (λ v. AreWithin repeats root v.datagrams) e w
  within_case old event answer new root (opens d device machine at g b x) w = subst (AreWithin repeats root) b.datagrams w
  within_case old event answer new root (serves d device machine q cause place steps effect ended sent at r b x) w =
      posted_before repeats root (old.root_of d cause) old.datagrams effect (subst (AreWithin repeats root) b.datagrams w)
  within_case old event answer new root (takes d n cause device datagram machine at got a b x) w = within_before repeats root few old.datagrams n d (subst (AreWithin repeats root) b.datagrams w)
