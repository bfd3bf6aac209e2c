-- What is promised of every state of a device, and runs whose answers are written to their places.
use Rattle.std.proofs.Common.{◌≡◌, ℕ, ◌+◌, ◌<◌, ◌≤◌, List, [], ◌∷◌, ◌++◌, map, take, get_or, set, length, sym, ap, ◌∙◌, subst, arith}
use Rattle.std.specs.List.{AllByRecursion}
use Rattle.std.proofs.lemmas.List.{take_more, take_more_set, take_all, map-append}
use Rattle.fb_model.specs.System.{Device}
use Rattle.fb_model.specs.Certificates.{Certificate, DeviceHolds}
use Rattle.fb_model.specs.Devices.{Machine, Event, Answer, Run, Happens}
use Rattle.fb_model.specs.Headline.{IsSound}
use Rattle.fb_model.proofs.Bounding.{bounded}
use Rattle.fb_model.proofs.Ending.{run_more, drains}
use Rattle.fb_model.proofs.InTime.{ends_in_time}
use Rattle.fb_model.proofs.Progress.{runs_so}
use Rattle.fb_model.proofs.Starting.{stays_within}
use Rattle.fb_device_state.specs.declared.program.Program.{Program}
use Rattle.fb_device_state.specs.declared.program.Running.{Running}
use Rattle.fb_device_state.specs.Sessions.{Session, session_of}
use Rattle.fb_model.specs.Wires.{leaves}
use Rattle.fb_verified.specs.declared.verified.Verified.{Verified}
use Rattle.fb_verified.specs.Checked.{system_in, certificate_in}
use Rattle.fb_device.specs.Answers.{answer_of, HasPlace}
use Rattle.fb_device.specs.declared.answer.Answer.{Answer as Reply}
use Rattle.fb_device_state.specs.Machines.{device_at, device_in, cert_in, machine_of}
use Rattle.fb_device_state.specs.Keeping.{IsGood}
use Rattle.fb_model.specs.Promises.{IsBounded}

pub promised : (cert : Certificate) (device : Device) (m : Machine) → DeviceHolds cert device → IsSound cert device m → IsBounded cert device m
promised cert device m fits s = record {
  steps = bounded cert device fits m s;
  drains = λ q n answers new r l. drains cert device fits q n answers m new s r l;
  in_time = ends_in_time cert device fits m s;
  answers = λ q first rest was. runs_so cert device fits m s q first rest was;
  within = stays_within cert device fits m s;
}

pub bounded_of : (p : Program) (r : Running) → IsGood p r → IsBounded (cert_in (session_of p r)) (device_in (session_of p r)) (machine_of (session_of p r))
bounded_of p r g = promised (cert_in (session_of p r)) (device_in (session_of p r)) (machine_of (session_of p r)) g.program.holds g.sound

pub run_stored : {X Y : Type 0} (f : X → Event) (g : Y → Answer) (cert : Certificate) (device : Device) (xs : List X) (ys : List Y) (k : ℕ) (d : X) (y : Y) (old mid new : Machine) → k < length xs → k < length ys
    → Run cert device old (map f (take k xs)) (map g (take k ys)) mid → Happens cert device mid (f (get_or xs k d)) (g y) new
    → Run cert device old (map f (take (k + 1) xs)) (map g (take (k + 1) (set ys k y))) new
run_stored f g cert device xs ys k d y old mid new h l r s =
    let es : map f (take (k + 1) xs) ≡ map f (take k xs) ++ f (get_or xs k d) ∷ [] = ap (map f) (take_more xs k d h) ∙ map-append f (take k xs) (get_or xs k d ∷ []) in
    let as' : map g (take (k + 1) (set ys k y)) ≡ map g (take k ys) ++ g y ∷ [] = ap (map g) (take_more_set ys k y l) ∙ map-append g (take k ys) (y ∷ []) in
    rw (es, as') (run_more cert device (map f (take k xs)) (map g (take k ys)) old mid new (f (get_or xs k d)) (g y) r s)

pub run_whole : {X Y : Type 0} (f : X → Event) (g : Y → Answer) (cert : Certificate) (device : Device) (xs : List X) (ys : List Y) (k : ℕ) (old new : Machine) → length xs ≤ k → k ≤ length xs
    → Run cert device old (map f (take k xs)) (map g (take k ys)) new → Run cert device old (map f xs) (map g (take (length xs) ys)) new
run_whole f g cert device xs ys k old new h l r =
    let k_is : k ≡ length xs = omega (arith, h, l) in
    let es : map f (take k xs) ≡ map f xs = ap (map f) (take_all k xs h) in
    subst (λ (es : List Event). Run cert device old es (map g (take (length xs) ys)) new) es (subst (λ (n : ℕ). Run cert device old (map f (take k xs)) (map g (take n ys)) new) k_is r)

-- two sessions of one program have one certificate and one device
pub same_program : (s t : Session) (m n : Machine) (e : Event) (a : Reply) → s.verified ≡ t.verified → s.number ≡ t.number
    → Happens (cert_in s) (device_in s) m e (answer_of (leaves (device_in s)) a) n → Happens (cert_in t) (device_in t) m e (answer_of (leaves (device_in t)) a) n
same_program s t m n e a v k h =
    subst (λ (j : ℕ). Happens (certificate_in t.verified) (device_at (system_in t.verified).devices j) m e (answer_of (leaves (device_at (system_in t.verified).devices j)) a) n) k
    (subst (λ (w : Verified). Happens (certificate_in w) (device_at (system_in w).devices s.number) m e (answer_of (leaves (device_at (system_in w).devices s.number)) a) n) v h)

-- ---- the events of answers that are written to their places

all_more : {Y : Type 0} (P : Y → Type 0) (ys : List Y) (y : Y) → AllByRecursion P ys → P y → AllByRecursion P (ys ++ y ∷ [])
all_more P [] y h p = (p, tt)
all_more P (x ∷ xs) y h p = (h.0, all_more P xs y h.1 p)

pub all_stored : {Y : Type 0} (P : Y → Type 0) (ys : List Y) (k : ℕ) (y : Y) → k < length ys → AllByRecursion P (take k ys) → P y → AllByRecursion P (take (k + 1) (set ys k y))
all_stored P ys k y l h p = subst (AllByRecursion P) (sym (take_more_set ys k y l)) (all_more P (take k ys) y h p)

-- two sessions of one program have the same events
pub same_places : (s t : Session) (a : Reply) → s.verified ≡ t.verified → s.number ≡ t.number → HasPlace (leaves (device_in s)) a → HasPlace (leaves (device_in t)) a
same_places s t a v k h =
    subst (λ (j : ℕ). HasPlace (leaves (device_at (system_in t.verified).devices j)) a) k
    (subst (λ (w : Verified). HasPlace (leaves (device_at (system_in w).devices s.number)) a) v h)
