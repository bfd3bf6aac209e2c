-- What a root's steps are at most.
use Rattle.std.proofs.Common.{◌≡◌, ℕ, zero, suc, ◌-◌, ◌<◌, ◌≤◌, List, [], ◌∷◌, slice_get, Option, Some, None, sym, ◌∙◌, ap, subst, arith}
use Rattle.std.specs.Prelude.{IfSome, MatchOption, true, false}
use Rattle.std.specs.List.{AllByRecursion}
use Rattle.std.specs.Option.{option_map}
use Rattle.fb_model.specs.System.{Device}
use Rattle.fb_model.specs.Certificates.{Certificate, far_of}
use Rattle.fb_model.specs.CertificateText as texts
use Rattle.fb_model.specs.CertificateText.{Written, TextRow, repeats, range, charge, weight, depth, far, far_state, channel, IsTextRow, a_repeats, AreTextRows, no_text_row, text_row, certificate_in}
use Rattle.fb_model.specs.World as book
use Rattle.fb_model.specs.World.{World, WorldEvent, WorldAnswer, WorldHappens, AreWithin}
use Rattle.fb_model.proofs.Networks.{fits_pays}
use Rattle.fb_model_worlds.proofs.Running.{measure_event, measure_run, bounds_roots}
use Rattle.fb_model_causes.proofs.Bounding.{has_arrivals, bounds_one}
use Rattle.fb_model.specs.Promises.{KeepsFar}
use Rattle.fb_verified.specs.declared.verified.Verified.{Verified}
use Rattle.fb_verified.specs.Checked as checks
use Rattle.fb_verified.specs.Checked.{system_in, IsChecked}
use Rattle.fb_verified.specs.Lookups.{is_same_path}
use Rattle.fb_device_state.specs.Machines.{device_in}
use Rattle.fb_world_course.specs.declared.station.Root.{Root}
use Rattle.fb_world_course.specs.declared.station.Station.{Station}
use Rattle.fb_world_course.specs.declared.course.Course.{Course}
use Rattle.fb_world_course.specs.Scenes.{root_in, opening_place, world_in}
use Rattle.fb_model.specs.Causes.{Falls, FallsOver, IsTold}
use Rattle.fb_world_course.specs.Keeping.{IsReached, IsRoot, IsKept}
use Rattle.fb_lists.proofs.Lists.{all_got, within_got, same_at}
use Rattle.fb_world_course.proofs.Lists.{some_same, some_none, all_by, got_there}
use Rattle.fb_world_course.proofs.Kept.{all_hold, reached_sound, device_stands}

few_row : (words : List (List ℕ)) (n : ℕ) → IsTextRow words (repeats n) → n ≤ 255
few_row words n (a_repeats h) = h.at_most

-- REPEATS is at most 255
few_in : (ws : List Written) (es : List TextRow) (r : ℕ) → AreTextRows ws es → (certificate_in es).repeats ≡ Some r → r ≤ 255
few_in [] [] r no_text_row e = absurd (some_none r (sym e))
few_in [] (x ∷ es) r t e = elim t [ ]
few_in (w ∷ ws) [] r t e = elim t [ ]
few_in (w ∷ ws) (repeats n ∷ es) r (text_row i t) e = subst (λ m. m ≤ 255) (some_same n r e) (few_row w.words n i)
few_in (w ∷ ws) (range p l h ∷ es) r (text_row i t) e = few_in ws es r t e
few_in (w ∷ ws) (charge p s k ∷ es) r (text_row i t) e = few_in ws es r t e
few_in (w ∷ ws) (weight p s k ∷ es) r (text_row i t) e = few_in ws es r t e
few_in (w ∷ ws) (depth p n ∷ es) r (text_row i t) e = few_in ws es r t e
few_in (w ∷ ws) (far p n ∷ es) r (text_row i t) e = few_in ws es r t e
few_in (w ∷ ws) (far_state p n ∷ es) r (text_row i t) e = few_in ws es r t e
few_in (w ∷ ws) (channel c n ∷ es) r (text_row i t) e = few_in ws es r t e

few_repeats : (cert : Certificate) (r : ℕ) → texts.IsTold cert → cert.repeats ≡ Some r → r ≤ 255
few_repeats cert r t e = (let s = t.1 in few_in s.others s.entries r s.others_are (ap (λ (c : Certificate). c.repeats) (sym s.certificate_is) ∙ e))

-- the steps of a root that was opened are at most the FAR of its opening, where its datagrams without a stamp were admitted at most so often
pub root_bounded : (v : Verified) (w : World) → IsChecked v → IsReached (system_in v) (checks.certificate_in v) w → (r n : ℕ) → (checks.certificate_in v).repeats ≡ Some r → 0 < n → n < w.next → AreWithin r n w.datagrams
    → (w.roots n).steps ≤ (far_of (checks.certificate_in v)).weight (w.roots n).opening
root_bounded v w c reached r n e low high within =
    bounds_roots (system_in v) (checks.certificate_in v) (all_hold v c) (λ m i. fits_pays (system_in v) (checks.certificate_in v) m (c.fits.far m i)) reached.first reached.is_first reached.events reached.answers w r n e
    (few_repeats (checks.certificate_in v) r c.told e) reached.run low high within

-- ---- what the laws say of events and runs

pub falls : (v : Verified) (old new : World) (e : WorldEvent) (a : WorldAnswer) → IsChecked v → IsReached (system_in v) (checks.certificate_in v) old → WorldHappens (system_in v) (checks.certificate_in v) old e a new → Falls (system_in v) (checks.certificate_in v) old e a new
falls v old new e a c reached h r i =
    measure_event (system_in v) (checks.certificate_in v) (all_hold v c) r (fits_pays (system_in v) (checks.certificate_in v) r (c.fits.far r i)) (few_repeats (checks.certificate_in v) r c.told i) old e a new (reached_sound v old c reached) h

pub falls_over : (v : Verified) (old new : World) (es : List WorldEvent) (as' : List WorldAnswer) → IsChecked v → IsReached (system_in v) (checks.certificate_in v) old → FallsOver (system_in v) (checks.certificate_in v) old es as' new
falls_over v old new es as' c reached r i run =
    measure_run (system_in v) (checks.certificate_in v) (all_hold v c) r (fits_pays (system_in v) (checks.certificate_in v) r (c.fits.far r i)) (few_repeats (checks.certificate_in v) r c.told i) es as' old new (reached_sound v old c reached) run

-- the roots of a run are its arrivals
reached_told : (v : Verified) (w : World) → IsChecked v → IsReached (system_in v) (checks.certificate_in v) w → IsTold (system_in v) (checks.certificate_in v) w
reached_told v w c r =
    record {
      first = r.first;
      events = r.events;
      answers = r.answers;
      is_first = r.is_first;
      run = r.run;
      arrivals = has_arrivals (system_in v) (checks.certificate_in v) (all_hold v c) r.first r.is_first r.events r.answers w r.run;
    }

-- so FAR is kept
pub reached_kept : (v : Verified) (w : World) → IsChecked v → IsReached (system_in v) (checks.certificate_in v) w → KeepsFar (system_in v) (checks.certificate_in v) w
unfolding reached_told
reached_kept v w c r =
    record {
      told = reached_told v w c r;
      arrivals = λ es as' new repeats total arrival opening run e few a was t within.
          bounds_one (system_in v) (checks.certificate_in v) (all_hold v c) r.first r.is_first es as' new run (λ m i. fits_pays (system_in v) (checks.certificate_in v) m (c.fits.far m i)) repeats total arrival opening e few a was t within;
      far = λ m n e opened within. root_bounded v w c r m n e opened.0 opened.1 within;
    }

pub if_some : (o : Option ℕ) (P Q : ℕ → Type 0) → ((x : ℕ) → P x → Q x) → IfSome o P → IfSome o Q
if_some None P Q f h = tt
if_some (Some x) P Q f h = f x h

-- what is told of a root is bounded by what is told of its FAR
pub root_told : (v : Verified) (c : Course) → IsKept v c → (n : ℕ) (r : Root) → slice_get c.roots.items (n - 1) ≡ Some r → 0 < n → (m : ℕ) → (checks.certificate_in v).repeats ≡ Some m → AreWithin m n (world_in v c).datagrams → IfSome r.opening.far (λ most. r.steps ≤ most)
root_told v c k zero r at low m e within = absurd (omega (arith, low))
root_told v c k (suc n) r at low m e within =
    let here : slice_get c.roots.items n ≡ Some r = ap (slice_get c.roots.items) (let i : n ≡ suc n - 1 = omega arith in i) ∙ at in
    let root_is : (world_in v c).roots (suc n) ≡ root_in (system_in v) (Some r) = ap (root_in (system_in v)) here in
    let bound = root_bounded v (world_in v c) k.checked k.reached m (suc n) e low (omega (arith, within_got c.roots.items n r here)) within in
    let told = (all_got (IsRoot v c.dispatches) c.roots.items n r k.steady.roots here).far in
    let far_is : r.opening.far ≡ Some ((far_of (checks.certificate_in v)).weight (opening_place (system_in v) r.device r.opening)) =
    told ∙ ap (option_map (λ (x : ℕ). (far_of (checks.certificate_in v)).weight (opening_place (system_in v) r.device r.opening))) e in
    subst (λ o. IfSome o (λ most. r.steps ≤ most)) (sym far_is) (omega (arith, bound, ap (λ (x : book.Root). x.steps) root_is, ap (λ (x : book.Root). (far_of (checks.certificate_in v)).weight x.opening) root_is))

-- ---- devices by their names

-- the first device of a name is that of the first station
pub named_so : (v : Verified) (c : Course) → IsKept v c → (name : List ℕ) (r : Option ℕ) → MatchOption r (AllByRecursion (λ (s : Station). is_same_path (device_in s.device).name name ≡ false) c.stations.items) (λ n. (s : Station) × (slice_get c.stations.items n ≡ Some s) × (is_same_path (device_in s.device).name name ≡ true))
    → MatchOption r (AllByRecursion (λ (d : Device). is_same_path d.name name ≡ false) (system_in v).devices) (λ n. (d : Device) × (slice_get (system_in v).devices n ≡ Some d) × (is_same_path d.name name ≡ true))
named_so v c k name None h =
    all_by (λ (d : Device). is_same_path d.name name ≡ false) (system_in v).devices
    (λ i d at.
    let (s, stands) = got_there c.stations.items i (omega (arith, within_got (system_in v).devices i d at, k.steady.count)) in
    let is = same_at (system_in v).devices i (device_in s.device) d (device_stands v c k.steady.count i s stands (k.steady.stations i s stands)) at in
    subst (λ (x : Device). is_same_path x.name name ≡ false) is (all_got (λ (x : Station). is_same_path (device_in x.device).name name ≡ false) c.stations.items i s h stands))
named_so v c k name (Some n) h = (device_in h.0.device, device_stands v c k.steady.count n h.0 h.1 (k.steady.stations n h.0 h.1), h.2)
