-- Dispatches of one resource of a world, one after another.
use Rattle.std.proofs.Common.{◌≡◌, ℕ, zero, suc, ◌+◌, ◌≤◌, Bool, true, false, cond, List, [], ◌∷◌, ◌++◌, Option, None, Some, slice_get, refl, sym, ◌∙◌, ap, subst, arith, inl, inr}
use Rattle.std.specs.Prelude.{replicate, Result, Ok, Err, IfOk, OnErr}
use Rattle.std.specs.List.{AllByRecursion}
use Rattle.std.proofs.lemmas.Bool.{eq-eqb, cases_lt}
use Rattle.fb_model.specs.System.{System, Device}
use Rattle.fb_model.specs.Certificates.{Certificate, DeviceHolds}
use Rattle.fb_model.specs.Devices.{Machine, put, Answer, Admitted, Denied, Expired, Idle, Ran, Dispatch, Happens, Run}
use Rattle.fb_model.specs.Headline.{IsSound}
use Rattle.fb_model.specs.World.{World, WorldEvent, WorldAnswer, Answered, Unknown, At_device, A_dispatch, WorldHappens, WorldRun}
use Rattle.fb_model.proofs.Ending.{drains}
use Rattle.fb_model.proofs.Lists.{all_append}
use Rattle.fb_verified.specs.declared.verified.Verified.{Verified}
use Rattle.fb_verified.specs.Checked.{system_in, certificate_in}
use Rattle.fb_device_state.specs.Sessions.{Session}
use Rattle.fb_device_state.specs.Machines.{device_at, device_in, cert_in, machine_of}
use Rattle.fb_world_course.specs.Scenes.{Scene, system_of, cert_of, world_of}
use Rattle.fb_world.specs.Loads.{IsDeviceAt}
use Rattle.fb_drain.specs.Draining.{HasRun, weight_at, IsServed, IsIdle, AreTold, IsDrained, HasStopped, IsSoundAt, WasTold, IsOneServed}

-- ---- one after another

pub told_append : {W : Type 0} (sees : W → WorldAnswer → W → Type 0) (as' bs : List WorldAnswer) (v m v' : W) → AreTold sees v as' m → AreTold sees m bs v' → AreTold sees v (as' ++ bs) v'
told_append sees [] bs v m v' h k = subst (λ u. AreTold sees u bs v') h k
told_append sees (a ∷ as') bs v m v' h k = (h.0, h.1, told_append sees as' bs h.0 m v' h.2 k)

-- so many events of one kind, and so many more
runs_append : (system : System) (cert : Certificate) (e : WorldEvent) (n k : ℕ) (as' bs : List WorldAnswer) (old mid new : World) → WorldRun system cert old (replicate n e) as' mid → WorldRun system cert mid (replicate k e) bs new
    → WorldRun system cert old (replicate (n + k) e) (as' ++ bs) new
runs_append system cert e zero k [] bs old mid new h g =
    subst (λ (j : ℕ). WorldRun system cert old (replicate j e) bs new) (let i : k ≡ 0 + k = omega arith in i) (subst (λ w. WorldRun system cert w (replicate k e) bs new) h g)
runs_append system cert e zero k (a ∷ as') bs old mid new h g = absurd h
runs_append system cert e (suc n) k [] bs old mid new h g = absurd h
runs_append system cert e (suc n) k (a ∷ as') bs old mid new h g =
    subst (λ (j : ℕ). WorldRun system cert old (replicate j e) (a ∷ (as' ++ bs)) new) (let i : suc (n + k) ≡ suc n + k = omega arith in i) (h.0, h.1, runs_append system cert e n k as' bs h.0 mid new h.2 g)

-- what is put at a place
put_here : {A : Type 0} (f : ℕ → A) (d : ℕ) (x : A) → put f d x d ≡ x
put_here f d x = ap (λ t. cond t x (f d)) (eq-eqb d d refl)

none_some : {X : Type 0} (o : Option X) (x : X) → o ≡ None → o ≡ Some x → ⊥
none_some None x e f = cc
none_some (Some y) x e f = cc

same_some : {X : Type 0} (o : Option X) (x y : X) → o ≡ Some x → o ≡ Some y → x ≡ y
same_some o x y e f = (let i : Some x ≡ Some y = sym e ∙ f in cc)

empty_full : {X : Type 0} (xs : List X) (x : X) (ys : List X) → xs ≡ x ∷ ys → xs ≡ [] → ⊥
empty_full [] x ys e f = cc
empty_full (z ∷ zs) x ys e f = cc

module _ (system : System) (cert : Certificate) (d q : ℕ) where
  pub served_none : (w : World) → IsServed system cert d q 0 w [] w
  served_none w = record { run = refl; ran = tt }

  pub served_more : (n k : ℕ) (as' bs : List WorldAnswer) (old mid new : World) → IsServed system cert d q n old as' mid → IsServed system cert d q k mid bs new → IsServed system cert d q (n + k) old (as' ++ bs) new
  served_more n k as' bs old mid new h g = record { run = runs_append system cert (At_device d (A_dispatch q)) n k as' bs old mid new h.run g.run; ran = all_append HasRun as' bs h.ran g.ran }

  -- where there is no such device there was no dispatch
  no_device : (n : ℕ) (as' : List WorldAnswer) (old new : World) → slice_get system.devices d ≡ None → WorldRun system cert old (replicate n (At_device d (A_dispatch q))) as' new → AllByRecursion HasRun as' → (n ≡ 0) × (new ≡ old)
  no_device zero [] old new e r h = (refl, r)
  no_device zero (a ∷ as') old new e r h = absurd r
  no_device (suc n) [] old new e r h = absurd r
  no_device (suc n) (Answered answer sent ∷ as') old new e r h = absurd (none_some (slice_get system.devices d) r.1.0 e r.1.2)
  no_device (suc n) (Unknown ∷ as') old new e r h = absurd h.0

  -- ---- how many dispatches

  module _ (device : Device) (at : slice_get system.devices d ≡ Some device) where
    -- a dispatch of the world at which a block ran is one of the device, at which something was pending
    one_run : (old new : World) (a : WorldAnswer) → HasRun a → WorldHappens system cert old (At_device d (A_dispatch q)) a new
        → (b : Answer) × Happens cert device (old.machines d) (Dispatch q) b (new.machines d) × ((old.machines d).queues q ≡ [] → ⊥)
    one_run old new (Answered (Ran cause place steps effect ended) sent) ran h =
        let is : new.machines d ≡ h.1 = ap (λ (f : ℕ → Machine). f d) h.4.machines ∙ put_here old.machines d h.1 in
        let here : h.0 ≡ device = same_some (slice_get system.devices d) h.0 device h.2 at in (
          Ran cause place steps effect ended,
          subst (λ (x : Device). Happens cert x (old.machines d) (Dispatch q) (Ran cause place steps effect ended) (new.machines d)) here
              (subst (λ (m : Machine). Happens cert h.0 (old.machines d) (Dispatch q) (Ran cause place steps effect ended) m) (sym is) h.3),
          empty_full ((old.machines d).queues q) h.3.first h.3.rest h.3.was,
        )
    one_run old new (Answered (Admitted cause) sent) ran h = absurd ran
    one_run old new (Answered (Denied why) sent) ran h = absurd ran
    one_run old new (Answered (Expired count) sent) ran h = absurd ran
    one_run old new (Answered Idle sent) ran h = absurd ran
    one_run old new Unknown ran h = absurd ran

    -- before the last of them something was still pending
    before_last : (m : ℕ) (as' : List WorldAnswer) (old new : World) → WorldRun system cert old (replicate (suc m) (At_device d (A_dispatch q))) as' new → AllByRecursion HasRun as'
        → (bs : List Answer) × (mid : Machine) × Run cert device (old.machines d) (replicate m (Dispatch q)) bs mid × (mid.queues q ≡ [] → ⊥)
    before_last m [] old new r ran = absurd r
    before_last zero (a ∷ as') old new r ran = ([], old.machines d, refl, (one_run old r.0 a ran.0 r.1).2)
    before_last (suc m) (a ∷ as') old new r ran =
        let h = before_last m as' r.0 new r.2 ran.1 in
        let o = one_run old r.0 a ran.0 r.1 in
        (o.0 ∷ h.0, h.1, (r.0.machines d, o.1, h.2), h.3)

  -- they are at most what was pending weighs: as many leave nothing pending, and then no block runs
  few_served : (n : ℕ) (as' : List WorldAnswer) (old new : World) → IsSoundAt system cert d old → WorldRun system cert old (replicate n (At_device d (A_dispatch q))) as' new → AllByRecursion HasRun as' → n ≤ weight_at cert old d q
  few_served zero as' old new sound r ran = omega arith
  few_served (suc m) [] old new sound r ran = absurd r
  few_served (suc m) (Unknown ∷ as') old new sound r ran = absurd ran.0
  few_served (suc m) (Answered answer sent ∷ as') old new sound r ran =
      let s = sound r.1.0 r.1.2 in
      let h = before_last r.1.0 r.1.2 m (Answered answer sent ∷ as') old new r ran in
      elim (cases_lt m (weight_at cert old d q)) [
        | inl l ↦ omega (arith, l)
        | inr l ↦ absurd (h.3 (drains cert r.1.0 s.0 q m h.0 (old.machines d) h.1 s.1 h.2 l))
      ]

  -- ---- one dispatch

  -- whatever was answered, some dispatches were made at which a block ran
  pub dispatch_stops : (old new : World) (answer : Answer) (sent : Option ℕ) → WorldHappens system cert old (At_device d (A_dispatch q)) (Answered answer sent) new → HasStopped system cert d q old new
  dispatch_stops old new (Admitted cause) sent h = absurd h.3
  dispatch_stops old new (Denied why) sent h = absurd h.3
  dispatch_stops old new (Expired count) sent h = absurd h.3
  dispatch_stops old new Idle sent h = (0, [], subst (IsServed system cert d q 0 old []) (sym h.4.0) (served_none old))
  dispatch_stops old new (Ran cause place steps effect ended) sent h = (1, Answered (Ran cause place steps effect ended) sent ∷ [], record { run = (new, h, refl); ran = (tt, tt) })

  pub stops_more : (n : ℕ) (as' : List WorldAnswer) (old mid new : World) → IsServed system cert d q n old as' mid → HasStopped system cert d q mid new → HasStopped system cert d q old new
  stops_more n as' old mid new h g = (n + g.0, as' ++ g.1, served_more n g.0 as' g.1 old mid new h g.2)

  module _ {W : Type 0} (sees : W → WorldAnswer → W → Type 0) where
    -- a dispatch, and what the witness was told of it
    pub one_served : (old new : World) (answer : Answer) (sent : Option ℕ) (ran : Bool) (v v' : W) → WorldHappens system cert old (At_device d (A_dispatch q)) (Answered answer sent) new → WasTold sees (Answered answer sent) ran v v'
        → IsOneServed sees system cert d q ran old v new v'
    one_served old new (Admitted cause) sent ran v v' h t = absurd h.3
    one_served old new (Denied why) sent ran v v' h t = absurd h.3
    one_served old new (Expired count) sent ran v v' h t = absurd h.3
    one_served old new Idle sent true v v' h t = absurd t.0
    one_served old new Idle sent false v v' h t = (h.4.0, t.2, λ device at. h.3.0)
    one_served old new (Ran cause place steps effect ended) sent true v v' h t = (Answered (Ran cause place steps effect ended) sent, record { run = (new, h, refl); ran = (tt, tt) }, t.1)
    one_served old new (Ran cause place steps effect ended) sent false v v' h t = absurd (cc t.1)

    -- one more dispatch at which a block ran
    pub one_more : (n : ℕ) (as' : List WorldAnswer) (old mid new : World) (v m v' : W) → IsServed system cert d q n old as' mid → AreTold sees v as' m → IsOneServed sees system cert d q true mid m new v'
        → (answers : List WorldAnswer) × IsServed system cert d q (n + 1) old answers new × AreTold sees v answers v'
    one_more n as' old mid new v m v' h told o = (as' ++ o.0 ∷ [], served_more n 1 as' (o.0 ∷ []) old mid new h o.1, told_append sees as' (o.0 ∷ []) v m v' told (v', o.2, refl))

    -- one at which nothing was pending ends them
    pub drained : (n : ℕ) (as' : List WorldAnswer) (old mid new : World) (v m v' : W) → IsSoundAt system cert d old → IsServed system cert d q n old as' mid → AreTold sees v as' m → IsOneServed sees system cert d q false mid m new v'
        → IsDrained sees system cert d q n old v new v'
    drained n as' old mid new v m v' sound h told o =
        let served : IsServed system cert d q n old as' new = subst (IsServed system cert d q n old as') (sym o.0) h in
        record {
          answers = as';
          served = served;
          told = subst (AreTold sees v as') (sym o.1) told;
          few = few_served n as' old new sound served.run served.ran;
          idle = subst (IsIdle system d q) (sym o.0) o.2;
          none = λ e. no_device n as' old new e served.run served.ran;
        }

-- ---- results

pub if_ok : {T E : Type 0} (r : Result T E) (P Q : T → Type 0) → ((x : T) → P x → Q x) → IfOk r P → IfOk r Q
if_ok (Ok x) P Q f h = f x h
if_ok (Err e) P Q f h = tt

pub on_err : {T E P : Type 0} (r : Result T E) → P → OnErr r P
on_err (Ok x) p = tt
on_err (Err e) p = p

-- ---- where the device stands

pub sound_at : (s : Scene) (d : ℕ) (x : Session) → IsDeviceAt s d x → DeviceHolds (cert_in x) (device_in x) → IsSound (cert_in x) (device_in x) (machine_of x) → IsSoundAt (system_of s) (cert_of s) d (world_of s)
sound_at s d x i holds sound device at =
    let cert_is : cert_in x ≡ cert_of s = ap certificate_in i.verified in
    let here : device_at (system_of s).devices d ≡ device = ap (λ (o : Option Device). elim o [ None ↦ record { name = []; resources = [] } | Some y ↦ y ]) at in
    let device_is : device_in x ≡ device = ap (λ (v : Verified). device_at (system_in v).devices x.number) i.verified ∙ ap (device_at (system_of s).devices) i.number_is ∙ here in (
      subst (λ c. DeviceHolds c device) cert_is (subst (DeviceHolds (cert_in x)) device_is holds),
      subst (λ m. IsSound (cert_of s) device m) i.machine (subst (λ c. IsSound c device (machine_of x)) cert_is (subst (λ y. IsSound (cert_in x) y (machine_of x)) device_is sound)),
    )

-- two scenes of what was checked have one system and one certificate
pub along : (s t : Scene) (P : System → Certificate → Type 0) → s.verified ≡ t.verified → P (system_of s) (cert_of s) → P (system_of t) (cert_of t)
along s t P e h = subst (λ (v : Verified). P (system_in v) (certificate_in v)) e h
