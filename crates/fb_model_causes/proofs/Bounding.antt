-- The laws.
use Rattle.std.proofs.Common.{◌≡◌, ℕ, ◌+◌, ◌≤◌, List, [], ◌∷◌, Some, None, sym, ◌∙◌, ap, subst, arith, inl, inr}
use Rattle.std.specs.List.{AllByRecursion}
use Rattle.std.proofs.lemmas.Bool.{cases_lt}
use Rattle.fb_model.specs.Names.{Place}
use Rattle.fb_model.specs.System.{System}
use Rattle.fb_model.specs.Messages.{Message}
use Rattle.fb_model.specs.Certificates.{Certificate, far_of}
use Rattle.fb_model.specs.World.{Datagram, World, WorldEvent, WorldAnswer, WorldRun, IsFirst, PaysFar, AreWithin}
use Rattle.fb_model.specs.Worlds.{IsOpened, AllHold}
use Rattle.fb_model_worlds.proofs.Beginning.{first_is_sound}
use Rattle.fb_model_worlds.proofs.Running.{bounds_roots}
use Rattle.fb_model_worlds.proofs.Cases.{at_number}
use Rattle.fb_model.specs.Causes.{Cause, Happening, trace_of, Belongs, IsPending, WasPending, IsArrival, Told, ToldWithin, HasArrivals}
use Rattle.fb_model_causes.proofs.Lists.{AllFrom, from_at}
use Rattle.fb_model_causes.proofs.Belonging.{told_once}
use Rattle.fb_model_causes.proofs.Tied.{IsTold, Tied, same_root, told_all}
use Rattle.fb_model_causes.proofs.First.{arrival_first, tied_first, begins_first}
use Rattle.fb_model_causes.proofs.Running.{Numbers, numbers, pending_at_first}

all_from : (P : ℕ → Datagram → Type 0) (Q : Datagram → Type 0) (k : ℕ) (gs : List Datagram) → ((n : ℕ) (g : Datagram) → P n g → Q g) → AllFrom P k gs → AllByRecursion Q gs
all_from P Q k [] f h = tt
all_from P Q k (g ∷ gs) f h = (f k g h.0, all_from P Q (k + 1) gs f h.1)

-- ---- admissions

module _ (arrival_of : ℕ → Cause) (trace : List Happening) (w : World) (t : Tied arrival_of trace w) (n repeats : ℕ) (r : IsOpened w n) (few : repeats ≤ 255) where
  told_counted : ToldWithin repeats trace (arrival_of n) → AreWithin repeats n w.datagrams
  told_counted told =
      all_from (IsTold t.carried trace) (λ g. g.root ≡ n → g.message.stamp ≡ None → (d : ℕ) → g.admissions d ≤ repeats) 1 w.datagrams
      (λ number g k root_is none d.
      let p = t.sends k.at number k.sender g.message k.sends in
      let is : t.of k.sender.device k.sender.number ≡ n = p.1 ∙ sym k.root ∙ root_is in
      let b : Belongs trace (arrival_of n) k.sender = subst (λ i. Belongs trace (arrival_of i) k.sender) is (t.belongs k.sender p.0) in
      omega (arith, k.admissions d, told k.sender k.at number d g.message b k.sends none))
      t.datagrams

  counted_told : AreWithin repeats n w.datagrams → ToldWithin repeats trace (arrival_of n)
  counted_told counted sender at datagram d message b s none =
      let p = t.sends at datagram sender message s in
      let c = p.2 in
      let k : IsTold t.carried trace datagram c.datagram = subst (λ i. IsTold t.carried trace i c.datagram) (let e : 1 + c.index ≡ datagram = omega (arith, c.number_is) in e) (from_at (IsTold t.carried trace) 1 w.datagrams c.index c.datagram c.there t.datagrams) in
      let root_is : c.datagram.root ≡ n = k.root ∙ sym p.1 ∙ same_root arrival_of trace w t (arrival_of n) sender b ∙ t.returns n r in
      let kept = at_number (λ (g : Datagram). g.root ≡ n → g.message.stamp ≡ None → (d : ℕ) → g.admissions d ≤ repeats) w.datagrams c.index c.datagram c.there counted in
      omega (arith, k.admissions d, kept root_is (ap (λ (m : Message). m.stamp) c.same ∙ none) d, few)

-- ---- runs from a first world

module _ (system : System) (cert : Certificate) (hold : AllHold system cert) (first : World) (is_first : IsFirst system first) (es : List WorldEvent) (as' : List WorldAnswer) (new : World) (run : WorldRun system cert first es as' new) where
  all_numbers : Numbers system cert (arrival_first system cert hold first is_first) [] first es as' new run
  all_numbers = numbers system cert hold (arrival_first system cert hold first is_first) [] first es as' new run (first_is_sound system cert hold first is_first) (tied_first system cert hold first is_first)

  opened_all : (n : ℕ) → IsOpened new n → WasPending system cert (all_numbers.later n) (new.roots n).opening first es as' new run
  opened_all n r = elim (cases_lt n first.next) [
    | inl l ↦ pending_at_first system cert (all_numbers.later n) (new.roots n).opening first es as' new run
        (subst (λ c. IsPending first c (new.roots n).opening) (sym (all_numbers.same n l))
        (subst (IsPending first (arrival_first system cert hold first is_first n)) (sym (all_numbers.openings n l)) (begins_first system cert hold first is_first n (r.0, l))))
    | inr l ↦ all_numbers.opened n l r.1
  ]

  pub has_arrivals : HasArrivals system cert first es as' new run
  has_arrivals =
      record {
        arrival_of = all_numbers.later;
        opening_of = λ n. (new.roots n).opening;
        roots = all_numbers.each;
        opened = opened_all;
        alone = all_numbers.alone;
        within = λ n repeats r few. (
          counted_told all_numbers.later (trace_of es as') new all_numbers.tied n repeats r few,
          told_counted all_numbers.later (trace_of es as') new all_numbers.tied n repeats r few,
        );
      }

  -- the told steps of a root's arrival
  bounds_root : ((repeats : ℕ) → cert.repeats ≡ Some repeats → PaysFar system cert repeats) → (n repeats total : ℕ) (opening : Place) → IsOpened new n → cert.repeats ≡ Some repeats → repeats ≤ 255 → WasPending system cert (all_numbers.later n) opening first es as' new run
      → Told (trace_of es as') (all_numbers.later n) (trace_of es as') total → ToldWithin repeats (trace_of es as') (all_numbers.later n) → total ≤ (far_of cert).weight opening
  bounds_root far n repeats total opening r e few was told within =
      let steps = told_all all_numbers.later (trace_of es as') new all_numbers.tied n r in
      let counted = told_counted all_numbers.later (trace_of es as') new all_numbers.tied n repeats r few within in
      omega (
        arith,
        told_once (trace_of es as') (all_numbers.later n) (trace_of es as') total (new.roots n).steps told steps,
        bounds_roots system cert hold far first is_first es as' new repeats n e few run r.0 r.1 counted,
        ap (far_of cert).weight (all_numbers.alone n opening r was),
      )

  pub bounds_one : ((repeats : ℕ) → cert.repeats ≡ Some repeats → PaysFar system cert repeats) → (repeats total : ℕ) (arrival : Cause) (opening : Place) → cert.repeats ≡ Some repeats → repeats ≤ 255
      → IsArrival (trace_of es as') new arrival → WasPending system cert arrival opening first es as' new run → Told (trace_of es as') arrival (trace_of es as') total → ToldWithin repeats (trace_of es as') arrival → total ≤ (far_of cert).weight opening
  bounds_one far repeats total arrival opening e few a was told within =
      let is : arrival ≡ all_numbers.later (all_numbers.tied.of arrival.device arrival.number) = sym (all_numbers.tied.arrivals arrival a) in
      bounds_root far (all_numbers.tied.of arrival.device arrival.number) repeats total opening (all_numbers.tied.rooted arrival a.0) e few
      (subst (λ c. WasPending system cert c opening first es as' new run) is was) (subst (λ c. Told (trace_of es as') c (trace_of es as') total) is told) (subst (ToldWithin repeats (trace_of es as')) is within)
