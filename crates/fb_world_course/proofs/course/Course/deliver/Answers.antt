use Rattle.std.proofs.Common.{◌≡◌, ℕ, suc, true, false, List, length, Some, None, Result, Ok, Err, refl, sym, ◌∙◌, subst, arith, true≢false, slice_get}
use Rattle.std.specs.Prelude.{is_ok, set}
use Rattle.std.specs.Vec.{with_item}
use Rattle.std.proofs.lemmas.Option.{slice_get_read}
use Rattle.std.proofs.lemmas.List.{length-set}
use Rattle.fb_model.specs.Messages.{Spells}
use Rattle.fb_model.specs.Devices.{Happens, Deliver}
use Rattle.fb_model.specs.World.{Deliver_datagram, Answered}
use Rattle.fb_verified.specs.declared.verified.Verified.{Verified}
use Rattle.fb_device_arrivals.specs.declared.denied.Denied.{Denied}
use Rattle.fb_device_arrivals.specs.Answers.{admission_of}
use Rattle.fb_device_state.specs.Machines.{device_in, cert_in, machine_of}
use Rattle.fb_world_course.specs.declared.sent.Sent.{Sent}
use Rattle.fb_world_course.specs.declared.station.Station.{Station}
use Rattle.fb_world_course.specs.declared.course.Course.{Course}
use Rattle.fb_world_course.specs.Roots.{EntersRoot}
use Rattle.fb_world_course.specs.Keeping.{IsKept, Goes}
use Rattle.fb_world_course.specs.Room.{Uses}
use Rattle.fb_lists.proofs.Lists.{same_at}
use Rattle.fb_world_course.proofs.Deliveries.{IsAdmitted, admitted_goes, denied_goes}
use Rattle.fb_world_course.proofs.Rooms.{device_kept, uses_set}
use Rattle.fb_world_course.proofs.course.Course.deliver.Goals.{then-is_ok, else-is_ok}
use Rattle.fb_world_course.proofs.course.Course.deliver.Goals as goal

-- where the device has admitted it
yes : (v : Verified) (old new : Course) (k : IsKept v old) (n at : ℕ) (s t : Station) (stands : slice_get old.stations.items n ≡ Some s) (set_is : new.stations.items ≡ set old.stations.items n t)
    (same : (t.device.verified ≡ s.device.verified) × (t.device.number ≡ s.device.number)) (roots : new.roots.items ≡ old.roots.items) (dispatches : new.dispatches ≡ old.dispatches)
    (g : Sent) (got : slice_get old.datagrams.items at ≡ Some g) (bytes : List ℕ) (spelled : Spells g.message bytes) (r : Result ℕ Denied) → is_ok r ≡ true
    → (g' : Sent) → Happens (cert_in s.device) (device_in s.device) (machine_of s.device) (Deliver bytes) (admission_of r) (machine_of t.device) → EntersRoot s (is_ok r) g.root t → IsAdmitted g n g' → new.datagrams.items ≡ set old.datagrams.items at g'
    → Goes v old (Deliver_datagram (suc at) n) (Answered (admission_of r) None) new
yes v old new k n at s t stands set_is same roots dispatches g got bytes spelled (Ok cause) e g' h enters is grams = admitted_goes v old new k n at s t stands set_is same roots dispatches g got bytes spelled cause g' h enters is grams
yes v old new k n at s t stands set_is same roots dispatches g got bytes spelled (Err why) e g' h enters is grams = absurd (true≢false (sym e))

-- and where it has not
no : (v : Verified) (old new : Course) (k : IsKept v old) (n at : ℕ) (s t : Station) (stands : slice_get old.stations.items n ≡ Some s) (set_is : new.stations.items ≡ set old.stations.items n t)
    (same : (t.device.verified ≡ s.device.verified) × (t.device.number ≡ s.device.number)) (roots : new.roots.items ≡ old.roots.items) (dispatches : new.dispatches ≡ old.dispatches)
    (g : Sent) (got : slice_get old.datagrams.items at ≡ Some g) (bytes : List ℕ) (spelled : Spells g.message bytes) (r : Result ℕ Denied) → is_ok r ≡ false
    → Happens (cert_in s.device) (device_in s.device) (machine_of s.device) (Deliver bytes) (admission_of r) (machine_of t.device) → EntersRoot s (is_ok r) g.root t → new.datagrams.items ≡ old.datagrams.items
    → Goes v old (Deliver_datagram (suc at) n) (Answered (admission_of r) None) new
no v old new k n at s t stands set_is same roots dispatches g got bytes spelled (Ok cause) e h enters grams = absurd (true≢false e)
no v old new k n at s t stands set_is same roots dispatches g got bytes spelled (Err why) e h enters grams = denied_goes v old new k n at s t stands set_is same roots dispatches g got bytes spelled why h enters grams

pub returns-clause-goes : goal.returns-clause-goes
returns-clause-goes c = λ v k.
    let stands = slice_get_read c.args.self.now.stations.items (length c.args.self.now.stations.items) c.args.device c.index_mut.result.now refl c.requires.there c.index_mut.ensures.value in
    let got = slice_get_read c.args.self.now.datagrams.items (length c.args.self.now.datagrams.items) c.args.at c.index.result.now refl c.requires.sent c.index.ensures in
    let got-2 = slice_get_read c.args.self.now.datagrams.items (length c.args.self.now.datagrams.items) c.args.at c.index-2.result.now refl c.requires.sent c.index-2.ensures in
    let is : c.index-2.result.now ≡ c.index.result.now = same_at c.args.self.now.datagrams.items c.args.at c.index-2.result.now c.index.result.now got-2 got in
    let spelled : Spells c.index.result.now.message c.as_slice.result.now = subst (Spells c.index.result.now.message) (sym c.as_slice.ensures.value) c.encode-bytes.ensures in
    let enters : EntersRoot c.index_mut.result.now (is_ok c.deliver-admitted.result) c.index.result.now.root c.deliver-admitted.new.self = subst (λ (g : Sent). EntersRoot c.index_mut.result.now (is_ok c.deliver-admitted.result) g.root c.deliver-admitted.new.self) is c.deliver-admitted.ensures.enters in
    elim c.if-is_ok.branch [
      | then-is_ok w ↦ (
          let got-3 = slice_get_read c.args.self.now.datagrams.items (length c.args.self.now.datagrams.items) c.args.at w.index_mut-then-is_ok.result.now refl c.requires.sent w.index_mut-then-is_ok.ensures.value in
          let same : w.index_mut-then-is_ok.result.now ≡ c.index.result.now = same_at c.args.self.now.datagrams.items c.args.at w.index_mut-then-is_ok.result.now c.index.result.now got-3 got in
          let admitted : IsAdmitted w.index_mut-then-is_ok.result.now c.args.device w.admit.new.self = record { message = w.admit.ensures.message; root = w.admit.ensures.root; whole = w.admit.ensures.whole; admissions = w.admit.ensures.admissions } in
          let new : Course = record { stations = with_item c.args.self.now.stations c.args.device c.deliver-admitted.new.self; datagrams = with_item c.args.self.now.datagrams c.args.at w.admit.new.self; roots = c.args.self.now.roots; dispatches = c.args.self.now.dispatches } in
          subst (λ (x : Course). Goes v c.args.self.now (Deliver_datagram (suc c.args.at) c.args.device) (Answered (admission_of c.deliver-admitted.result) None) x) (sym w.self-is)
          (yes v c.args.self.now new k c.args.device c.args.at c.index_mut.result.now c.deliver-admitted.new.self stands refl c.deliver-admitted.ensures.same refl refl c.index.result.now got c.as_slice.result.now spelled c.deliver-admitted.result
          (sym c.is_ok.ensures.value ∙ w.if-is_ok.true) w.admit.new.self c.deliver-admitted.ensures.step enters (subst (λ (g : Sent). IsAdmitted g c.args.device w.admit.new.self) same admitted) refl)
          )
      | else-is_ok w ↦ (
          let new : Course = record { stations = with_item c.args.self.now.stations c.args.device c.deliver-admitted.new.self; datagrams = c.args.self.now.datagrams; roots = c.args.self.now.roots; dispatches = c.args.self.now.dispatches } in
          subst (λ (x : Course). Goes v c.args.self.now (Deliver_datagram (suc c.args.at) c.args.device) (Answered (admission_of c.deliver-admitted.result) None) x) (sym w.self-is)
          (no v c.args.self.now new k c.args.device c.args.at c.index_mut.result.now c.deliver-admitted.new.self stands refl c.deliver-admitted.ensures.same refl refl c.index.result.now got c.as_slice.result.now spelled c.deliver-admitted.result
          (sym c.is_ok.ensures.value ∙ w.if-is_ok.false) c.deliver-admitted.ensures.step enters refl)
          )
    ]

pub returns-clause-uses : goal.returns-clause-uses
returns-clause-uses c =
    let stands = slice_get_read c.args.self.now.stations.items (length c.args.self.now.stations.items) c.args.device c.index_mut.result.now refl c.requires.there c.index_mut.ensures.value in
    elim c.if-is_ok.branch [
      | then-is_ok w ↦ (
          let new : Course = record { stations = with_item c.args.self.now.stations c.args.device c.deliver-admitted.new.self; datagrams = with_item c.args.self.now.datagrams c.args.at w.admit.new.self; roots = c.args.self.now.roots; dispatches = c.args.self.now.dispatches } in
          subst (λ (x : Course). Uses c.args.self.now x c.args.device 1 0) (sym w.self-is)
          (uses_set c.args.self.now new c.args.device 1 0 c.index_mut.result.now c.deliver-admitted.new.self stands refl
          (record { same = device_kept c.index_mut.result.now.device c.deliver-admitted.new.self.device c.deliver-admitted.ensures.same.0 c.deliver-admitted.ensures.same.1; spare_is = c.deliver-admitted.ensures.spare })
          (omega arith) refl (omega (arith, length-set c.args.self.now.datagrams.items c.args.at w.admit.new.self)) refl (omega arith))
          )
      | else-is_ok w ↦ (
          let new : Course = record { stations = with_item c.args.self.now.stations c.args.device c.deliver-admitted.new.self; datagrams = c.args.self.now.datagrams; roots = c.args.self.now.roots; dispatches = c.args.self.now.dispatches } in
          subst (λ (x : Course). Uses c.args.self.now x c.args.device 1 0) (sym w.self-is)
          (uses_set c.args.self.now new c.args.device 1 0 c.index_mut.result.now c.deliver-admitted.new.self stands refl
          (record { same = device_kept c.index_mut.result.now.device c.deliver-admitted.new.self.device c.deliver-admitted.ensures.same.0 c.deliver-admitted.ensures.same.1; spare_is = c.deliver-admitted.ensures.spare })
          (omega arith) refl (omega arith) refl (omega arith))
          )
    ]
