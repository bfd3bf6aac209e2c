-- How much room an event uses.
use Rattle.std.proofs.Common.{◌≡◌, ℕ, ◌+◌, ◌≤◌, Bool, true, false, cond, eqb, List, [], ◌∷◌, map, length, slice_get, Option, Some, None, refl, sym, ◌∙◌, ap, subst, arith, inl, inr}
use Rattle.std.specs.Prelude.{set, if◌then◌else◌}
use Rattle.std.specs.List.{sum_by}
use Rattle.std.specs.Vec.{vec_capacity}
use Rattle.std.proofs.lemmas.List.{length-set, length-append}
use Rattle.std.proofs.lemmas.List.Sums.{sum_by-cons}
use Rattle.std.specs.Option.{option_map}
use Rattle.std.proofs.lemmas.Option.{slice_get-map, slice_get_past}
use Rattle.std.proofs.lemmas.Bool.{eqb-true, eq-eqb, cases_lt}
use Rattle.fb_model.specs.System.{Device}
use Rattle.fb_model.specs.Wires.{leaves}
use Rattle.fb_verified.specs.declared.verified.Verified.{Verified}
use Rattle.fb_verified.specs.Checked.{system_in}
use Rattle.fb_device_state.specs.Sessions.{Session}
use Rattle.fb_device_state.specs.Machines.{device_at, device_in}
use Rattle.fb_world_course.specs.declared.answer.WorldEvent.{WorldEvent}
use Rattle.fb_world_course.specs.declared.answer.WorldEvent.TheVariants.{Offer, Tick, Dispatch, Deliver}
use Rattle.fb_world_course.specs.declared.station.Root.{Root}
use Rattle.fb_world_course.specs.declared.station.Station.{Station}
use Rattle.fb_world_course.specs.declared.course.Course.{Course}
use Rattle.fb_world_course.specs.Answers.{device_of}
use Rattle.fb_world_course.specs.Roots.{OpensRoots}
use Rattle.fb_world_course.specs.Room.{Face, face_of, blocks_of, opens_at_most, opens_there, dispatches_in, HasRoom, HasPlaces, UsesTable, Uses}
use Rattle.fb_lists.proofs.Lists.{within_got}
use Rattle.fb_world_course.proofs.Lists.{set_got, got_there, some_same}

pub device_kept : (s t : Session) → t.verified ≡ s.verified → t.number ≡ s.number → device_in t ≡ device_in s
device_kept s t e n = ap (λ (w : Verified). device_at (system_in w).devices t.number) e ∙ ap (device_at (system_in s.verified).devices) n

pub longer : (s t : Station) (number count : ℕ) (a b : List Root) → OpensRoots s number count a t b → length b ≡ length a + count
longer s t number count a b h = ap length h.roots_are ∙ length-append a h.more ∙ ap (λ n. length a + n) h.counted

-- one device has changed
pub uses_set : (old new : Course) (d opened sent : ℕ) (s t : Station) → slice_get old.stations.items d ≡ Some s → new.stations.items ≡ set old.stations.items d t → UsesTable s t opened
    → length new.roots.items ≤ length old.roots.items + opened → vec_capacity new.roots ≡ vec_capacity old.roots → length new.datagrams.items ≤ length old.datagrams.items + sent → vec_capacity new.datagrams ≡ vec_capacity old.datagrams → new.dispatches ≤ old.dispatches + sent
    → Uses old new d opened sent
uses_set old new d opened sent s t stands e table roots roots_room grams grams_room dispatches =
    record {
      roots = roots;
      roots_room = roots_room;
      datagrams = grams;
      datagrams_room = grams_room;
      count = ap length e ∙ length-set old.stations.items d t;
      stations = λ k u at. by k u (eqb d k) refl (sym (set_got old.stations.items d k t (within_got old.stations.items d s stands)) ∙ ap (λ xs. slice_get xs k) (sym e) ∙ at);
      dispatches = dispatches;
    }
  where
    by : (k : ℕ) (u : Station) (b : Bool) → eqb d k ≡ b → cond b (Some t) (slice_get old.stations.items k) ≡ Some u → (x : Station) × (slice_get old.stations.items k ≡ Some x) × UsesTable x u (if eqb d k then opened else 0)
    by k u true i o =
        let is = some_same t u o in
        let here : slice_get old.stations.items k ≡ Some s = subst (λ n. slice_get old.stations.items n ≡ Some s) (eqb-true d k i) stands in
        (s, here, subst (λ b. UsesTable s u (if b then opened else 0)) (sym i) (subst (λ x. UsesTable s x opened) is table))
    by k u false i o = (u, o, subst (λ b. UsesTable u u (if b then opened else 0)) (sym i) (record { same = refl; spare_is = omega arith }))

pub uses_none : (c : Course) (d opened sent : ℕ) → Uses c c d opened sent
uses_none c d opened sent =
    record {
      roots = omega arith;
      roots_room = refl;
      datagrams = omega arith;
      datagrams_room = refl;
      count = refl;
      stations = λ k t at. (t, at, record { same = refl; spare_is = omega arith });
      dispatches = omega arith;
    }

-- ---- what events may open

opens_same : (a b : List Station) → ((d : ℕ) → blocks_of (slice_get a d) ≡ blocks_of (slice_get b d)) → (e : WorldEvent) → opens_at_most a e ≡ opens_at_most b e
opens_same a b h (Offer device input values) = refl
opens_same a b h (Tick device now) = h device
opens_same a b h (Dispatch device resource) = refl
opens_same a b h (Deliver number device) = refl

there_same : (a b : List Station) → ((d : ℕ) → blocks_of (slice_get a d) ≡ blocks_of (slice_get b d)) → (k : ℕ) (e : WorldEvent) → opens_there a k e ≡ opens_there b k e
there_same a b h k e = ap (λ n. cond (eqb (device_of e) k) n 0) (opens_same a b h e)

sum_same : (f g : WorldEvent → ℕ) → ((e : WorldEvent) → f e ≡ g e) → (es : List WorldEvent) → sum_by f es ≡ sum_by g es
sum_same f g h [] = refl
sum_same f g h (e ∷ es) = omega (arith, sum_by-cons f e es, sum_by-cons g e es, h e, sum_same f g h es)

blocks_kept : (old new : Course) (d opened sent : ℕ) → Uses old new d opened sent → (k : ℕ) → blocks_of (slice_get new.stations.items k) ≡ blocks_of (slice_get old.stations.items k)
blocks_kept old new d opened sent u k = elim (cases_lt k (length new.stations.items)) [
  | inl l ↦ (
      let (t, at) = got_there new.stations.items k l in
      let s = u.stations k t at in
      ap blocks_of at ∙ ap (λ (x : Device). length (leaves x)) s.2.same ∙ sym (ap blocks_of s.1)
      )
  | inr l ↦ ap blocks_of (slice_get_past new.stations.items k l) ∙ sym (ap blocks_of (slice_get_past old.stations.items k (omega (arith, l, u.count))))
]

-- there is room for the first of events
pub room_first : (c : Course) (e : WorldEvent) (es : List WorldEvent) → HasRoom c (e ∷ es) → HasRoom c (e ∷ [])
room_first c e es h =
    record {
      roots = omega (arith, h.roots, sum_by-cons (opens_at_most c.stations.items) e es, sum_by-cons (opens_at_most c.stations.items) e []);
      datagrams = omega (arith, h.datagrams, sum_by-cons dispatches_in e es, sum_by-cons dispatches_in e []);
      causes = λ k s at. omega (arith, h.causes k s at, sum_by-cons (opens_there c.stations.items k) e es, sum_by-cons (opens_there c.stations.items k) e []);
      numbers = omega (arith, h.numbers, sum_by-cons dispatches_in e es, sum_by-cons dispatches_in e []);
    }

-- and then for the others
pub room_left : (old new : Course) (e : WorldEvent) (es : List WorldEvent) → HasRoom old (e ∷ es) → Uses old new (device_of e) (opens_at_most old.stations.items e) (dispatches_in e) → HasRoom new es
room_left old new e es h u =
    let same = blocks_kept old new (device_of e) (opens_at_most old.stations.items e) (dispatches_in e) u in
    record {
      roots = omega (arith, h.roots, u.roots, u.roots_room, sum_by-cons (opens_at_most old.stations.items) e es, sum_same (opens_at_most new.stations.items) (opens_at_most old.stations.items) (opens_same new.stations.items old.stations.items same) es);
      datagrams = omega (arith, h.datagrams, u.datagrams, u.datagrams_room, sum_by-cons dispatches_in e es);
      causes = λ k t at.
          let s = u.stations k t at in
          omega (arith, h.causes k s.0 s.1, s.2.spare_is, sum_by-cons (opens_there old.stations.items k) e es, sum_same (opens_there new.stations.items k) (opens_there old.stations.items k) (there_same new.stations.items old.stations.items same k) es);
      numbers = omega (arith, h.numbers, u.dispatches, sum_by-cons dispatches_in e es);
    }

-- what a device may open at an event has room
pub places_first : (c : Course) (e : WorldEvent) → HasRoom c (e ∷ []) → HasPlaces c (device_of e) (opens_at_most c.stations.items e) (dispatches_in e)
places_first c e h =
    record {
      roots = omega (arith, h.roots, sum_by-cons (opens_at_most c.stations.items) e []);
      datagrams = omega (arith, h.datagrams, sum_by-cons dispatches_in e []);
      causes = λ s at. omega (arith, h.causes (device_of e) s at, sum_by-cons (opens_there c.stations.items (device_of e)) e [], ap (λ t. cond t (opens_at_most c.stations.items e) 0) (eq-eqb (device_of e) (device_of e) refl));
      numbers = omega (arith, h.numbers, sum_by-cons dispatches_in e []);
    }

-- ---- room is made

abbrev face_blocks : Option Face → ℕ
face_blocks None = 0
face_blocks (Some f) = length (leaves (device_in f.session))

blocks_by : (o : Option Station) → blocks_of o ≡ face_blocks (option_map face_of o)
blocks_by None = refl
blocks_by (Some s) = refl

pub blocks_same : (a b : List Station) → map face_of a ≡ map face_of b → (d : ℕ) → blocks_of (slice_get a d) ≡ blocks_of (slice_get b d)
blocks_same a b e d =
    blocks_by (slice_get a d)
    ∙ ap face_blocks (sym (slice_get-map face_of a d) ∙ ap (λ fs. slice_get fs d) e ∙ slice_get-map face_of b d)
    ∙ sym (blocks_by (slice_get b d))

pub all_there_same : (a b : List Station) → map face_of a ≡ map face_of b → (k : ℕ) (es : List WorldEvent) → sum_by (opens_there a k) es ≡ sum_by (opens_there b k) es
all_there_same a b e k es = sum_same (opens_there a k) (opens_there b k) (there_same a b (blocks_same a b e) k) es

pub all_opened_same : (a b : List Station) → map face_of a ≡ map face_of b → (es : List WorldEvent) → sum_by (opens_at_most a) es ≡ sum_by (opens_at_most b) es
all_opened_same a b e es = sum_same (opens_at_most a) (opens_at_most b) (opens_same a b (blocks_same a b e)) es
