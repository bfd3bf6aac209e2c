-- What is so of a world that is kept.
use Rattle.std.proofs.Common.{◌≡◌, ℕ, zero, suc, ◌+◌, ◌<◌, ◌≤◌, List, [], ◌∷◌, ◌++◌, map, length, slice_get, Option, Some, None, Result, Ok, Err, refl, sym, ◌∙◌, ap, subst, arith, Bool, true, false, cond, eqb, inl, inr}
use Rattle.std.specs.Prelude.{set, ◌⊎◌, OnErr}
use Rattle.std.specs.Option.{option_map}
use Rattle.std.proofs.lemmas.Option.{slice_get-map, slice_get_past}
use Rattle.std.specs.List.{AllByRecursion}
use Rattle.std.proofs.lemmas.List.{length-map, length-set}
use Rattle.std.proofs.lemmas.Bool.{eqb-true}
use Rattle.fb_model.specs.System.{System, Device}
use Rattle.fb_model.specs.Certificates.{Certificate}
use Rattle.fb_model.specs.World.{World, Datagram, Local, WorldEvent, At_device, Deliver_datagram, WorldAnswer, Unknown, IsUnknown, WorldHappens, WorldRun}
use Rattle.fb_model.specs.Worlds.{AllHold, IsWorldSound}
use Rattle.fb_model_worlds.proofs.Beginning.{first_is_sound}
use Rattle.fb_model_worlds.proofs.Running.{sound_run}
use Rattle.fb_verified.specs.declared.verified.Verified.{Verified}
use Rattle.fb_verified.specs.Checked.{system_in, certificate_in, IsChecked}
use Rattle.fb_verified.proofs.Written.{devices_hold}
use Rattle.fb_device_state.specs.Sessions.{Session}
use Rattle.fb_device_state.specs.Machines.{device_at, device_in, cert_in, machine_of}
use Rattle.fb_world_course.specs.declared.station.Station.{Station}
use Rattle.fb_world_course.specs.declared.course.Course.{Course}
use Rattle.fb_world_course.specs.Scenes.{Site, Scene, site_of, scene_of, world_of, root_for, root_in, numbered, datagram_of, world_in}
use Rattle.fb_world_course.specs.declared.answer.WorldEvent.{WorldEvent as Asked}
use Rattle.fb_world_course.specs.declared.answer.WorldAnswer.{WorldAnswer as Told}
use Rattle.fb_world_course.specs.Answers.{event_of, device_of, leaves_at, answer_of, answers_of, HasWorldPlace, HaveWorldPlaces}
use Rattle.fb_world_course.specs.Room.{Face, face_of, IsSame}
use Rattle.fb_world_course.specs.Keeping.{IsReached, IsStation, IsRoot, IsSteady, IsKept, Goes}
use Rattle.fb_lists.proofs.Lists.{within_got}
use Rattle.fb_world_course.proofs.Lists.{got_there, set_got, some_same, some_none}
use Rattle.fb_world_course.proofs.Worlds.{put_same, machines_put, roots_put, machine_here, roots_here}
use Rattle.fb_world_course.proofs.Openings.{device_same}

-- ---- runs

pub run_more : (system : System) (cert : Certificate) (old mid new : World) (es : List WorldEvent) (as' : List WorldAnswer) (e : WorldEvent) (a : WorldAnswer) → WorldRun system cert old es as' mid → WorldHappens system cert mid e a new → WorldRun system cert old (es ++ e ∷ []) (as' ++ a ∷ []) new
run_more system cert old mid new [] [] e a r h = (new, subst (λ w. WorldHappens system cert w e a new) r h, refl)
run_more system cert old mid new [] (b ∷ bs) e a r h = absurd r
run_more system cert old mid new (f ∷ fs) [] e a r h = absurd r
run_more system cert old mid new (f ∷ fs) (b ∷ bs) e a r h = (r.0, r.1, run_more system cert r.0 mid new fs bs e a r.2 h)

pub reached_more : (system : System) (cert : Certificate) (old new : World) (e : WorldEvent) (a : WorldAnswer) → IsReached system cert old → WorldHappens system cert old e a new → IsReached system cert new
reached_more system cert old new e a r h = record {
  first = r.first;
  events = r.events ++ e ∷ [];
  answers = r.answers ++ a ∷ [];
  is_first = r.is_first;
  run = run_more system cert r.first old new r.events r.answers e a r.run h;
}

-- an event keeps what is kept
pub kept_more : (v : Verified) (old new : Course) (e : WorldEvent) (a : WorldAnswer) → IsKept v old → Goes v old e a new → IsKept v new
kept_more v old new e a k g = record { checked = k.checked; steady = g.steady; reached = reached_more (system_in v) (certificate_in v) (world_in v old) (world_in v new) e a k.reached g.happens }

-- a run of answers by numbers, and one event more
pub answers_more : (system : System) (cert : Certificate) (old mid new : World) (es : List Asked) (as' : List Told) (e : Asked) (a : Told) → WorldRun system cert old (map event_of es) (answers_of system es as') mid
    → WorldHappens system cert mid (event_of e) (answer_of (leaves_at system (device_of e)) a) new → WorldRun system cert old (map event_of (es ++ e ∷ [])) (answers_of system (es ++ e ∷ []) (as' ++ a ∷ [])) new
answers_more system cert old mid new [] [] e a r h = (new, subst (λ w. WorldHappens system cert w (event_of e) (answer_of (leaves_at system (device_of e)) a) new) r h, refl)
answers_more system cert old mid new [] (b ∷ bs) e a r h = absurd r
answers_more system cert old mid new (f ∷ fs) [] e a r h = absurd r
answers_more system cert old mid new (f ∷ fs) (b ∷ bs) e a r h = (r.0, r.1, answers_more system cert r.0 mid new fs bs e a r.2 h)

pub places_more : (system : System) (es : List Asked) (as' : List Told) (e : Asked) (a : Told) → HaveWorldPlaces system es as' → HasWorldPlace (leaves_at system (device_of e)) a → HaveWorldPlaces system (es ++ e ∷ []) (as' ++ a ∷ [])
places_more system [] [] e a h p = (p, tt)
places_more system [] (b ∷ bs) e a h p = absurd h
places_more system (f ∷ fs) [] e a h p = absurd h
places_more system (f ∷ fs) (b ∷ bs) e a h p = (h.0, places_more system fs bs e a h.1 p)

-- ---- worlds that are reached

pub all_hold : (v : Verified) → IsChecked v → AllHold (system_in v) (certificate_in v)
all_hold v c = devices_hold (system_in v) (certificate_in v) c.written c.fits

pub reached_sound : (v : Verified) (w : World) → IsChecked v → IsReached (system_in v) (certificate_in v) w → IsWorldSound (system_in v) (certificate_in v) w
reached_sound v w c r =
    let hold = all_hold v c in
    sound_run (system_in v) (certificate_in v) hold r.events r.answers r.first w (first_is_sound (system_in v) (certificate_in v) hold r.first r.is_first) r.run

-- ---- one device

pub device_stands : (v : Verified) (c : Course) → length c.stations.items ≡ length (system_in v).devices → (d : ℕ) (s : Station) → slice_get c.stations.items d ≡ Some s → IsStation v d s → slice_get (system_in v).devices d ≡ Some (device_in s.device)
device_stands v c count d s stands g =
    let (x, is) = got_there (system_in v).devices d (omega (arith, count, within_got c.stations.items d s stands)) in
    let at : device_at (system_in v).devices d ≡ x = ap (λ (o : Option Device). elim o [ None ↦ record { name = []; resources = [] } | Some y ↦ y ]) is in
    is ∙ ap Some (sym (device_same v d s.device g.verified g.number ∙ at))

pub cert_same : (v : Verified) (s : Session) → s.verified ≡ v → cert_in s ≡ certificate_in v
cert_same v s e = ap certificate_in e

-- a course in which a device has changed stays steady
pub steady_set : (v : Verified) (old new : Course) (d : ℕ) (s t : Station) → slice_get old.stations.items d ≡ Some s → new.stations.items ≡ set old.stations.items d t → IsSteady v old → IsStation v d t → AllByRecursion (IsRoot v new.dispatches) new.roots.items → IsSteady v new
steady_set v old new d s t stands e g h roots =
    record {
      count = ap length e ∙ length-set old.stations.items d t ∙ g.count;
      few = omega (arith, ap length e, length-set old.stations.items d t, g.few);
      stations = λ k u at. by k u (eqb d k) refl (sym (set_got old.stations.items d k t (within_got old.stations.items d s stands)) ∙ ap (λ xs. slice_get xs k) (sym e) ∙ at);
      roots = roots;
    }
  where
    by : (k : ℕ) (u : Station) (b : Bool) → eqb d k ≡ b → cond b (Some t) (slice_get old.stations.items k) ≡ Some u → IsStation v k u
    by k u true i o = (let is = some_same t u o in subst (λ n. IsStation v n u) (eqb-true d k i) (subst (IsStation v d) is h))
    by k u false i o = g.stations k u o

-- nothing has changed that the world tells
pub worlds_same : (v : Verified) (old new : Course) (d : ℕ) (s t : Station) → slice_get old.stations.items d ≡ Some s → new.stations.items ≡ set old.stations.items d t → machine_of t.device ≡ machine_of s.device → ((c : ℕ) → root_for t.roots.entries c ≡ root_for s.roots.entries c)
    → new.datagrams.items ≡ old.datagrams.items → new.roots.items ≡ old.roots.items → world_in v new ≡ world_in v old
worlds_same v old new d s t stands e m r grams roots =
    let ms : (world_in v new).machines ≡ (world_in v old).machines = machines_put v old new d s t stands e ∙ put_same (world_in v old).machines d (machine_of t.device) (m ∙ sym (machine_here v old d s stands)) in
    let rs : (world_in v new).root_of ≡ (world_in v old).root_of = roots_put v old new d s t stands e ∙ put_same (world_in v old).root_of d (root_for t.roots.entries) ((λ i c. r c i) ∙ sym (roots_here v old d s stands)) in
    λ i. record { machines = ms i; datagrams = map datagram_of (grams i); root_of = rs i; roots = λ n. root_in (system_in v) (numbered (roots i) n); next = length (roots i) + 1 }

-- ---- no such device or datagram

pub unknown_device : (v : Verified) (c : Course) → IsKept v c → (d : ℕ) (e : Local) → length c.stations.items ≤ d → Goes v c (At_device d e) Unknown c
unknown_device v c k d e l = record { happens = (slice_get_past (system_in v).devices d (omega (arith, l, k.steady.count)), refl); steady = k.steady }

no_device : (o : Option Device) (g : Option Datagram) → o ≡ None → IsUnknown o g
no_device None g e = tt
no_device (Some x) g e = cc

no_datagram : (o : Option Device) → IsUnknown o None
no_datagram None = tt
no_datagram (Some x) = tt

pub unknown_there : (v : Verified) (c : Course) → IsKept v c → (n d : ℕ) → length c.stations.items ≤ d → Goes v c (Deliver_datagram n d) Unknown c
unknown_there v c k zero d l = record { happens = (no_device (slice_get (system_in v).devices d) None (slice_get_past (system_in v).devices d (omega (arith, l, k.steady.count))), refl); steady = k.steady }
unknown_there v c k (suc n) d l =
    record { happens = (no_device (slice_get (system_in v).devices d) (slice_get (map datagram_of c.datagrams.items) n) (slice_get_past (system_in v).devices d (omega (arith, l, k.steady.count))), refl); steady = k.steady }

pub unknown_sent : (v : Verified) (c : Course) → IsKept v c → (n d : ℕ) → (n ≡ 0) ⊎ (length c.datagrams.items < n) → Goes v c (Deliver_datagram n d) Unknown c
unknown_sent v c k zero d h = record { happens = (no_datagram (slice_get (system_in v).devices d), refl); steady = k.steady }
unknown_sent v c k (suc n) d (inl h) = absurd (omega (arith, h))
unknown_sent v c k (suc n) d (inr h) =
    record {
      happens = (subst (IsUnknown (slice_get (system_in v).devices d)) (sym (slice_get_past (map datagram_of c.datagrams.items) n (omega (arith, h, length-map c.datagrams.items datagram_of)))) (no_datagram (slice_get (system_in v).devices d)), refl);
      steady = k.steady;
    }

-- ---- room is made

pub sites_same : (a b : List Station) → map face_of a ≡ map face_of b → map site_of a ≡ map site_of b
sites_same a b e = sites_by a ∙ ap (map site_face) e ∙ sym (sites_by b)
  where
    site_face : Face → Site
    site_face f = record { session = f.session; rooted = f.rooted }

    sites_by : (xs : List Station) → map site_of xs ≡ map site_face (map face_of xs)
    sites_by [] = refl
    sites_by (x ∷ xs) = ap (λ ys. site_of x ∷ ys) (sites_by xs)

pub scene_same : (v : Verified) (old new : Course) → IsSame old new → scene_of v new ≡ scene_of v old
scene_same v old new h =
    let sites = sites_same new.stations.items old.stations.items h.stations in
    λ i. record { verified = v; sites = sites i; datagrams = h.datagrams i; roots = h.roots i }

face_there : (a b : List Station) (k : ℕ) (s : Station) → map face_of a ≡ map face_of b → slice_get a k ≡ Some s → (t : Station) × (slice_get b k ≡ Some t) × (face_of s ≡ face_of t)
face_there a b k s e at = by (slice_get b k) refl
  where
    both : Some (face_of s) ≡ option_map face_of (slice_get b k)
    both = sym (ap (option_map face_of) at) ∙ sym (slice_get-map face_of a k) ∙ ap (λ fs. slice_get fs k) e ∙ slice_get-map face_of b k

    by : (o : Option Station) → slice_get b k ≡ o → (t : Station) × (slice_get b k ≡ Some t) × (face_of s ≡ face_of t)
    by None is = absurd (some_none (face_of s) (both ∙ ap (option_map face_of) is))
    by (Some t) is = (t, is, some_same (face_of s) (face_of t) (both ∙ ap (option_map face_of) is))

-- as many devices as before
pub count_same : (old new : Course) → IsSame old new → length new.stations.items ≡ length old.stations.items
count_same old new h = sym (length-map new.stations.items face_of) ∙ ap length h.stations ∙ length-map old.stations.items face_of

pub kept_same : (v : Verified) (old new : Course) → IsSame old new → IsKept v old → IsKept v new
kept_same v old new h k =
    record {
      checked = k.checked;
      steady = record {
        count = omega (arith, k.steady.count, count);
        few = omega (arith, k.steady.few, count);
        stations = λ n s at.
            let t = face_there new.stations.items old.stations.items n s h.stations at in
            let g = k.steady.stations n t.0 t.1 in
            let device : s.device ≡ t.0.device = ap (λ (f : Face). f.session) t.2 in
            let causes : s.causes ≡ t.0.causes = ap (λ (f : Face). f.causes) t.2 in
            record { verified = ap (λ (x : Session). x.verified) device ∙ g.verified; number = ap (λ (x : Session). x.number) device ∙ g.number; counted = omega (arith, causes, g.counted, ap (λ (x : Session). (machine_of x).next) device) };
        roots = subst (λ n. AllByRecursion (IsRoot v n) new.roots.items) (sym h.dispatches) (subst (AllByRecursion (IsRoot v old.dispatches)) (sym h.roots) k.steady.roots);
      };
      reached = subst (λ (s : Scene). IsReached (system_in v) (certificate_in v) (world_of s)) (sym (scene_same v old new h)) k.reached;
    }
  where
    count : length new.stations.items ≡ length old.stations.items
    count = count_same old new h

-- ---- refusals

pub on_err : {T E P : Type 0} (r : Result T E) → P → OnErr r P
on_err (Ok x) p = tt
on_err (Err e) p = p
