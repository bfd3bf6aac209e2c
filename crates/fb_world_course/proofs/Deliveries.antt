-- Deliveries of datagrams, in the book's world.
use Rattle.std.proofs.Common.{◌≡◌, ℕ, zero, suc, ◌+◌, ◌<◌, true, false, cond, eqb, min, List, [], ◌∷◌, map, length, slice_get, Some, None, Err, refl, sym, ◌∙◌, ap, subst, arith}
use Rattle.std.specs.Prelude.{set, slice_index_or}
use Rattle.std.specs.List.{AllByRecursion}
use Rattle.std.specs.Option.{option_map}
use Rattle.std.proofs.lemmas.Option.{slice_get-map}
use Rattle.std.proofs.lemmas.Bool.{ne_eqb}
use Rattle.fb_model.specs.Messages.{Spells}
use Rattle.fb_model.specs.Devices as book
use Rattle.fb_model.specs.Devices.{Machine, put, Deliver, Happens}
use Rattle.fb_model.specs.World.{Datagram, Deliver_datagram, Answered, IsDelivered, admitted_at}
use Rattle.fb_verified.specs.declared.verified.Verified.{Verified}
use Rattle.fb_verified.specs.Checked.{system_in, certificate_in}
use Rattle.fb_device_arrivals.specs.declared.denied.Denied.{Denied}
use Rattle.fb_device_arrivals.specs.Answers.{admission_of}
use Rattle.fb_device_state.specs.Machines.{device_in, cert_in, machine_of}
use Rattle.fb_world_course.specs.declared.sent.Sent.{Sent}
use Rattle.fb_world_course.specs.declared.station.Station.{Station}
use Rattle.fb_world_course.specs.declared.course.Course.{Course}
use Rattle.fb_world_course.specs.Scenes.{root_for, root_in, numbered, datagram_of, world_in}
use Rattle.fb_world_course.specs.Roots.{EntersRoot}
use Rattle.fb_world_course.specs.Keeping.{IsStation, IsRoot, IsSteady, IsKept, Goes}
use Rattle.fb_lists.proofs.Lists.{within_got}
use Rattle.fb_world_course.proofs.Lists.{eqb_suc}
use Rattle.fb_world_course.proofs.Worlds.{machines_put, roots_put, machine_here, roots_here}
use Rattle.fb_world_course.proofs.Kept.{device_stands, cert_same, steady_set, worlds_same}

index_set : (xs : List ℕ) (i j y : ℕ) → i < length xs → ◌≡◌ {A = ℕ} (slice_index_or (set xs i y) j 0) (cond (eqb i j) y (slice_index_or xs j 0))
index_set [] i j y h = absurd (omega (arith, h))
index_set (x ∷ xs) zero zero y h = refl
index_set (x ∷ xs) zero (suc j) y h = sym (ap (λ t. cond t y (slice_index_or xs j 0)) (ne_eqb 0 (suc j) (λ e. omega (arith, e))))
index_set (x ∷ xs) (suc i) zero y h = sym (ap (λ t. cond t y x) (ne_eqb (suc i) 0 (λ e. omega (arith, e))))
index_set (x ∷ xs) (suc i) (suc j) y h = index_set xs i j y (omega (arith, h)) ∙ sym (ap (λ t. cond t y (slice_index_or xs j 0)) (eqb_suc i j))

-- a datagram that a device has admitted once more
pub record IsAdmitted (g : Sent) (n : ℕ) (g' : Sent) : Type 0 where
  pub message : g'.message ≡ g.message
  pub root : g'.root ≡ g.root
  pub whole : length g.admissions ≡ 16
  pub admissions : g'.admissions ≡ set g.admissions n (min (slice_index_or g.admissions n 0 + 1) 256)

abbrev once_more : Datagram → ℕ → Datagram
once_more g n = record { message = g.message; root = g.root; admissions = put g.admissions n (min (g.admissions n + 1) 256) }

one_admitted : (g g' : Sent) (n : ℕ) → n < 16 → IsAdmitted g n g' → datagram_of g' ≡ once_more (datagram_of g) n
one_admitted g g' n l h = λ i. record { message = h.message i; root = h.root i; admissions = λ j. at j i }
  where
    at : (j : ℕ) → ◌≡◌ {A = ℕ} (slice_index_or g'.admissions j 0) (put (λ k. slice_index_or g.admissions k 0) n (min (slice_index_or g.admissions n 0 + 1) 256) j)
    at j = ap (λ xs. slice_index_or xs j 0) h.admissions ∙ index_set g.admissions n j (min (slice_index_or g.admissions n 0 + 1) 256) (omega (arith, l, h.whole))

admitted_so : (gs : List Sent) (at n : ℕ) (g g' : Sent) → slice_get gs at ≡ Some g → datagram_of g' ≡ once_more (datagram_of g) n → map datagram_of (set gs at g') ≡ admitted_at (map datagram_of gs) at n
admitted_so [] at n g g' e h = cc
admitted_so (x ∷ gs) zero n g g' e h = (let is : x ≡ g = cc in ap (λ y. y ∷ map datagram_of gs) (h ∙ ap (λ z. once_more (datagram_of z) n) (sym is)))
admitted_so (x ∷ gs) (suc at) n g g' e h = ap (λ ys. datagram_of x ∷ ys) (admitted_so gs at n g g' e h)

module _ (v : Verified) (old new : Course) (k : IsKept v old) (n at : ℕ) (s t : Station) (stands : slice_get old.stations.items n ≡ Some s) (set_is : new.stations.items ≡ set old.stations.items n t)
    (same : (t.device.verified ≡ s.device.verified) × (t.device.number ≡ s.device.number)) (roots : new.roots.items ≡ old.roots.items) (dispatches : new.dispatches ≡ old.dispatches)
    (g : Sent) (got : slice_get old.datagrams.items at ≡ Some g) (bytes : List ℕ) (spelled : Spells g.message bytes) where
  abbrev was : IsStation v n s
  was = k.steady.stations n s stands

  device_at : slice_get (system_in v).devices n ≡ Some (device_in s.device)
  device_at = device_stands v old k.steady.count n s stands was

  sent_at : slice_get (map datagram_of old.datagrams.items) at ≡ Some (datagram_of g)
  sent_at = slice_get-map datagram_of old.datagrams.items at ∙ ap (option_map datagram_of) got

  delivered : (a : book.Answer) → Happens (cert_in s.device) (device_in s.device) (machine_of s.device) (Deliver bytes) a (machine_of t.device) → IsDelivered (certificate_in v) (device_in s.device) (datagram_of g) ((world_in v old).machines n) a (machine_of t.device)
  delivered a h =
      record {
        bytes = bytes;
        spelled = spelled;
        happens = subst (λ m. Happens (certificate_in v) (device_in s.device) m (Deliver bytes) a (machine_of t.device)) (sym (machine_here v old n s stands))
            (subst (λ c. Happens c (device_in s.device) (machine_of s.device) (Deliver bytes) a (machine_of t.device)) (cert_same v s.device was.verified) h);
      }

  steady : t.causes + 1 ≡ (machine_of t.device).next → IsSteady v new
  steady counted =
      steady_set v old new n s t stands set_is k.steady (record { verified = same.0 ∙ was.verified; number = same.1 ∙ was.number; counted = counted })
      (subst (λ x. AllByRecursion (IsRoot v x) new.roots.items) (sym dispatches) (subst (AllByRecursion (IsRoot v old.dispatches)) (sym roots) k.steady.roots))

  -- the datagram is admitted
  pub admitted_goes : (cause : ℕ) (g' : Sent) → Happens (cert_in s.device) (device_in s.device) (machine_of s.device) (Deliver bytes) (book.Admitted cause) (machine_of t.device) → EntersRoot s true g.root t → IsAdmitted g n g' → new.datagrams.items ≡ set old.datagrams.items at g'
      → Goes v old (Deliver_datagram (suc at) n) (Answered (book.Admitted cause) None) new
  admitted_goes cause g' h enters is grams =
      let cause_is : s.causes + 1 ≡ cause = was.counted ∙ sym h.cause_is in
      let table : root_for t.roots.entries ≡ put ((world_in v old).root_of n) cause g.root =
      (λ i c. enters.rooted c i) ∙ ap (λ x. put (root_for s.roots.entries) x g.root) cause_is ∙ ap (λ f. put f cause g.root) (sym (roots_here v old n s stands)) in
      record {
        happens = (
          device_in s.device,
          datagram_of g,
          machine_of t.device,
          device_at,
          sent_at,
          delivered (book.Admitted cause) h,
          record {
            machines = machines_put v old new n s t stands set_is;
            datagrams = ap (map datagram_of) grams ∙ admitted_so old.datagrams.items at n g g' got (one_admitted g g' n (omega (arith, k.steady.few, within_got old.stations.items n s stands)) is);
            root_of = roots_put v old new n s t stands set_is ∙ ap (put (world_in v old).root_of n) table;
            next = ap (λ xs. length xs + 1) roots;
            roots = ap (λ xs m. root_in (system_in v) (numbered xs m)) roots;
          },
          refl,
        );
        steady = steady (omega (arith, enters.causes, was.counted, ap (λ (m : Machine). m.next) h.new_is));
      }

  -- it is denied
  pub denied_goes : (why : Denied) → Happens (cert_in s.device) (device_in s.device) (machine_of s.device) (Deliver bytes) (admission_of (Err why)) (machine_of t.device) → EntersRoot s false g.root t → new.datagrams.items ≡ old.datagrams.items
      → Goes v old (Deliver_datagram (suc at) n) (Answered (admission_of (Err why)) None) new
  denied_goes why h enters grams =
      record {
        happens = (device_in s.device, datagram_of g, machine_of t.device, device_at, sent_at, delivered (admission_of (Err why)) h, worlds_same v old new n s t stands set_is h.1 enters.rooted grams roots, refl);
        steady = steady (omega (arith, enters.causes, was.counted, ap (λ (m : Machine). m.next) h.1));
      }
