-- Over runs of worlds.
use Rattle.std.proofs.Common.{cond, ◌<◌, ◌+◌, ◌≡◌, ℕ, ◌≤◌, List, [], ◌∷◌, Some, sym, ◌∙◌, ap, subst, arith, inl, inr}
use Rattle.std.specs.Prelude.{nat_lt}
use Rattle.std.specs.List.{AllByRecursion}
use Rattle.std.proofs.lemmas.Bool.{cases_lt, ne_eqb, lt-ltb, le-ltb}
use Rattle.fb_model.specs.System.{System}
use Rattle.fb_model.specs.Certificates.{Certificate, far_of}
use Rattle.fb_model.specs.World.{World, WorldEvent, WorldAnswer, WorldHappens, WorldRun, IsFirst, far_left, PaysFar, AreWithin, BoundsRoots}
use Rattle.fb_model.proofs.Lists.{all_weaker}
use Rattle.fb_model.specs.Worlds.{AllHold, IsOnce, IsSent, IsWorldSound, ArePaid, MeasureFalls, MeasureFallsOver, dispatches_of, dispatches_over, EndsRoots}
use Rattle.fb_model_worlds.proofs.Opening.{first_begins}
use Rattle.fb_model_worlds.proofs.Cases.{Case, rests, opens, serves, takes, case, device_holds}
use Rattle.fb_model_worlds.proofs.Sounding.{sound_case, sound_event, cause_opened}
use Rattle.fb_model_worlds.proofs.Beginning.{first_is_sound}
use Rattle.fb_model_worlds.proofs.Falling.{measure_case, within_case}

module _ (system : System) (cert : Certificate) (hold : AllHold system cert) where
  pub sound_run : (es : List WorldEvent) (as' : List WorldAnswer) (old new : World) → IsWorldSound system cert old → WorldRun system cert old es as' new → IsWorldSound system cert new
  sound_run [] [] old new s r = subst (IsWorldSound system cert) (sym r) s
  sound_run [] (a ∷ as') old new s r = absurd r
  sound_run (e ∷ es) [] old new s r = absurd r
  sound_run (e ∷ es) (a ∷ as') old new s r = sound_run es as' r.0 new (sound_event system cert hold old e a r.0 s r.1) r.2

  -- a stamped datagram is admitted once at each device
  pub once_run : (es : List WorldEvent) (as' : List WorldAnswer) (first new : World) → IsFirst system first → WorldRun system cert first es as' new → AllByRecursion IsOnce new.datagrams
  once_run es as' first new f r = all_weaker (IsSent system new) IsOnce new.datagrams (λ g h. h.once) (sound_run es as' first new (first_is_sound system cert hold first f) r).datagrams

  -- roots that were opened stay so
  next_up : (old : World) (event : WorldEvent) (answer : WorldAnswer) (new : World) → Case system cert old event answer new → old.next ≤ new.next
  next_up old event answer new (rests e x) = omega (arith, ap (λ w. w.next) e)
  next_up old event answer new (opens d device machine at g b x) = omega (arith, b.next)
  next_up old event answer new (serves d device machine q cause place steps effect ended sent at r b x) = omega (arith, b.next)
  next_up old event answer new (takes d n cause device datagram machine at got a b x) = omega (arith, b.next)

  module _ (repeats : ℕ) (far : PaysFar system cert repeats) (few : repeats ≤ 255) where
    pub measure_event : (old : World) (event : WorldEvent) (answer : WorldAnswer) (new : World) → IsWorldSound system cert old → WorldHappens system cert old event answer new → MeasureFalls system cert repeats old event answer new
    measure_event old event answer new s h = measure_case system cert hold repeats far few old event answer new s (case system cert hold old event answer new s h)

    pub within_run : (root : ℕ) (es : List WorldEvent) (as' : List WorldAnswer) (old new : World) → IsWorldSound system cert old → WorldRun system cert old es as' new → AreWithin repeats root new.datagrams → AreWithin repeats root old.datagrams
    within_run root [] [] old new s r w = subst (λ (v : World). AreWithin repeats root v.datagrams) r w
    within_run root [] (a ∷ as') old new s r w = absurd r
    within_run root (e ∷ es) [] old new s r w = absurd r
    within_run root (e ∷ es) (a ∷ as') old new s r w =
        within_case system cert hold repeats far few old e a r.0 root (case system cert hold old e a r.0 s r.1) (within_run root es as' r.0 new (sound_event system cert hold old e a r.0 s r.1) r.2 w)

    pub measure_run : (es : List WorldEvent) (as' : List WorldAnswer) (old new : World) → IsWorldSound system cert old → (r : WorldRun system cert old es as' new) → MeasureFallsOver system cert repeats old es as' new r
    measure_run [] [] old new s r =
        record {
          more = omega (arith, ap (λ (w : World). w.next) r);
          openings = λ root l. ap (λ (w : World). (w.roots root).opening) r;
          steps = λ root l. omega (arith, ap (λ (w : World). (w.roots root).steps) r);
          spends = λ root l w. omega (arith, ap (λ (w : World). (w.roots root).steps) r, ap (λ (w : World). far_left system cert repeats w root) r);
          falls = λ root l w. omega (arith, ap (λ (w : World). far_left system cert repeats w root) r);
        }
    measure_run [] (a ∷ as') old new s r = absurd r
    measure_run (e ∷ es) [] old new s r = absurd r
    measure_run (e ∷ es) (a ∷ as') old new s r =
        let c = case system cert hold old e a r.0 s r.1 in
        let m = measure_case system cert hold repeats far few old e a r.0 s c in
        let t = sound_case system cert hold old e a r.0 s c in
        let k = measure_run es as' r.0 new t r.2 in
        let up = next_up old e a r.0 c in
        record {
          more = omega (arith, up, k.more);
          openings = λ root l. k.openings root (omega (arith, l, up)) ∙ m.openings root l;
          steps = λ root l. omega (arith, k.steps root (omega (arith, l, up)), m.steps root l);
          spends = λ root l w. omega (arith, k.spends root (omega (arith, l, up)) w, m.spends root l (within_run root es as' r.0 new t r.2 w));
          falls = λ root l w. omega (arith, k.falls root (omega (arith, l, up)) w, m.falls root l (within_run root es as' r.0 new t r.2 w));
        }

    -- ---- what roots may cost

    paid_case : (old : World) (event : WorldEvent) (answer : WorldAnswer) (new : World) → IsWorldSound system cert old → Case system cert old event answer new → ArePaid system cert repeats old → ArePaid system cert repeats new
    paid_case old event answer new s c p root o w =
        let m = measure_case system cert hold repeats far few old event answer new s c in
        elim (cases_lt root old.next) [
          | inl l ↦ omega (arith, m.spends root l w, p root (o.0, l) (within_case system cert hold repeats far few old event answer new root c w), ap (far_of cert).weight (m.openings root l))
          | inr l ↦ (let b = m.opens root l o.1 in omega (arith, b.0, b.1))
        ]

    pub paid_event : (old : World) (event : WorldEvent) (answer : WorldAnswer) (new : World) → IsWorldSound system cert old → WorldHappens system cert old event answer new → ArePaid system cert repeats old → ArePaid system cert repeats new
    paid_event old event answer new s h p = paid_case old event answer new s (case system cert hold old event answer new s h) p

    pub paid_run : (es : List WorldEvent) (as' : List WorldAnswer) (old new : World) → IsWorldSound system cert old → WorldRun system cert old es as' new → ArePaid system cert repeats old → ArePaid system cert repeats new
    paid_run [] [] old new s r p = subst (ArePaid system cert repeats) (sym r) p
    paid_run [] (a ∷ as') old new s r p = absurd r
    paid_run (e ∷ es) [] old new s r p = absurd r
    paid_run (e ∷ es) (a ∷ as') old new s r p =
        let c = case system cert hold old e a r.0 s r.1 in
        paid_run es as' r.0 new (sound_case system cert hold old e a r.0 s c) r.2 (paid_case old e a r.0 s c p)

module _ (system : System) (cert : Certificate) (hold : AllHold system cert) where
  -- a root that is not opened is not dispatched
  none_dispatched : (old : World) (event : WorldEvent) (answer : WorldAnswer) (new : World) → IsWorldSound system cert old → (root : ℕ) → old.next ≤ root → Case system cert old event answer new → dispatches_of old root event answer ≡ 0
  none_dispatched old event answer new s root l (rests e x) = x root
  none_dispatched old event answer new s root l (opens d device machine at g b x) = x root
  none_dispatched old event answer new s root l (serves d device machine q cause place steps effect ended sent at r b x) =
      let o = cause_opened system cert hold old new s d device (device_holds system cert hold d device at) machine q cause place steps effect ended sent at r b in
      x root ∙ ap (λ t. cond t 1 0) (ne_eqb (old.root_of d cause) root (λ e. omega (arith, e, o.1, l)))
  none_dispatched old event answer new s root l (takes d n cause device datagram machine at got a b x) = x root

  -- the steps of a root, once it is opened
  abbrev steps_once : World → ℕ → ℕ
  steps_once w root = cond (nat_lt root w.next) (w.roots root).steps 0

  known_steps : (w : World) (root : ℕ) → root < w.next → steps_once w root ≡ (w.roots root).steps
  known_steps w root l = ap (λ t. cond t (w.roots root).steps 0) (lt-ltb root w.next l)

  no_steps : (w : World) (root : ℕ) → w.next ≤ root → steps_once w root ≡ 0
  no_steps w root l = ap (λ t. cond t (w.roots root).steps 0) (le-ltb root w.next l)

  module _ (repeats : ℕ) (far : PaysFar system cert repeats) (few : repeats ≤ 255) where
    -- each dispatch of a root is among its steps
    dispatched_run : (root : ℕ) (es : List WorldEvent) (as' : List WorldAnswer) (old new : World) → IsWorldSound system cert old → (r : WorldRun system cert old es as' new) → steps_once old root + dispatches_over system cert root old es as' new r ≤ steps_once new root
    dispatched_run root [] [] old new s r = omega (arith, ap (λ (w : World). steps_once w root) r)
    dispatched_run root [] (a ∷ as') old new s r = absurd r
    dispatched_run root (e ∷ es) [] old new s r = absurd r
    dispatched_run root (e ∷ es) (a ∷ as') old new s r =
        let c = case system cert hold old e a r.0 s r.1 in
        let later = dispatched_run root es as' r.0 new (sound_case system cert hold old e a r.0 s c) r.2 in
        let one : steps_once old root + dispatches_of old root e a ≤ steps_once r.0 root =
        elim (cases_lt root old.next) [
          | inl l ↦ (let m = measure_case system cert hold repeats far few old e a r.0 s c in omega (arith, known_steps old root l, known_steps r.0 root (omega (arith, l, next_up system cert hold old e a r.0 c)), m.steps root l))
          | inr l ↦ omega (arith, no_steps old root l, none_dispatched old e a r.0 s root l c)
        ]
        in
        omega (arith, later, one)

-- in the first world each root may cost what its opening costs
pub first_is_paid : (system : System) (cert : Certificate) (repeats : ℕ) (w : World) → IsFirst system w → ArePaid system cert repeats w
first_is_paid system cert repeats w f root o within = (let b = first_begins system cert repeats w f root o.0 o.1 in omega (arith, b.0, b.1))

-- roots are bounded
pub bounds_roots : (system : System) (cert : Certificate) → AllHold system cert → ((repeats : ℕ) → cert.repeats ≡ Some repeats → PaysFar system cert repeats) → (w : World) → IsFirst system w → BoundsRoots system cert w
bounds_roots system cert hold far w f es as' new repeats root e few r l m within =
    let s = first_is_sound system cert hold w f in
    let p = paid_run system cert hold repeats (far repeats e) few es as' w new s r (first_is_paid system cert repeats w f) root (l, m) within in
    omega (arith, p)

-- and dispatched at most so often
pub ends_roots : (system : System) (cert : Certificate) → AllHold system cert → ((repeats : ℕ) → cert.repeats ≡ Some repeats → PaysFar system cert repeats) → (w : World) → IsFirst system w → EndsRoots system cert w
ends_roots system cert hold far w f es as' new repeats root run e few l m within =
    let s = first_is_sound system cert hold w f in
    let bound = bounds_roots system cert hold far w f es as' new repeats root e few run l m within in
    let d = dispatched_run system cert hold repeats (far repeats e) few root es as' w new s run in
    omega (arith, bound, d, known_steps system cert hold new root m)
