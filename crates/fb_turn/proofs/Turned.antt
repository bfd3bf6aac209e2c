-- Turns, part by part: calls of links and sinks one after another, receives with their deliveries, dispatches with what goes out.
use Rattle.std.proofs.Common.{◌≡◌, ℕ, ◌+◌, ◌≤◌, ◌<◌, List, [], ◌∷◌, ◌++◌, map, length, refl, sym, ◌∙◌, ap, subst, arith, append_assoc}
use Rattle.std.specs.Prelude.{Result, true, false, Ok, Err, is_err}
use Rattle.std.specs.List.{flat_map, AllByRecursion}
use Rattle.std.proofs.lemmas.List.{map-append, append-nil}
use Rattle.std.proofs.lemmas.List.Sums.{sum_by_push}
use Rattle.std.proofs.lemmas.Grind.{flat_map-append}
use Rattle.fb_model.specs.System.{Device}
use Rattle.fb_model.specs.Certificates.{Certificate}
use Rattle.fb_model.specs.Devices.{Machine, Event, Tick, Dispatch, Answer, Expired, Run, Happens}
use Rattle.fb_model.proofs.Ending.{run_more}
use Rattle.fb_words.specs.Links.{LinkCall, Silent, Broken}
use Rattle.fb_device_arrivals.specs.Answers.{admission_of}
use Rattle.fb_device_arrivals.specs.declared.denied.Denied.{Denied}
use Rattle.fb_verified.specs.declared.verified.Verified.{Verified}
use Rattle.fb_verified.specs.Checked.{system_in, certificate_in}
use Rattle.fb_device_state.specs.Sessions.{Session}
use Rattle.fb_device_state.specs.Machines.{device_at, device_in, cert_in}
use Rattle.fb_turn.specs.Turns.{Receives, ServesOne, Serves}
use Rattle.fb_model.specs.Turning.{Chain, Receipt, Close, Sixteenth, Quiet, Cut, delivery, handing, close_calls, is_cut, denials_of, Service, sends, losses, each_once, Sight, coming, serving, IsTurn}

-- two sessions of one program have one certificate and one device
pub along : (s t : Session) (P : Certificate → Device → Type 0) → s.verified ≡ t.verified → s.number ≡ t.number → P (cert_in s) (device_in s) → P (cert_in t) (device_in t)
along s t P v k h =
    subst (λ (j : ℕ). P (certificate_in t.verified) (device_at (system_in t.verified).devices j)) k
    (subst (λ (w : Verified). P (certificate_in w) (device_at (system_in w).devices s.number)) v h)

-- ---- one after another

pub chain_append : {S C : Type 0} (does : S → C → S → Type 0) (s : S) (xs : List C) (m : S) (ys : List C) (t : S) → Chain does s xs m → Chain does m ys t → Chain does s (xs ++ ys) t
chain_append does s [] m ys t h k = subst (λ u. Chain does u ys t) (sym h) k
chain_append does s (x ∷ xs) m ys t h k = (h.0, h.1, chain_append does h.0 xs m ys t h.2 k)

pub chain_one : {S C : Type 0} (does : S → C → S → Type 0) (s : S) (x : C) (t : S) → does s x t → Chain does s (x ∷ []) t
chain_one does s x t h = (t, h, refl)

pub run_append : (cert : Certificate) (device : Device) (es fs : List Event) (as' bs : List Answer) (old mid new : Machine) → Run cert device old es as' mid → Run cert device mid fs bs new → Run cert device old (es ++ fs) (as' ++ bs) new
run_append cert device [] fs [] bs old mid new h k = subst (λ m. Run cert device m fs bs new) h k
run_append cert device (e ∷ es) fs (a ∷ as') bs old mid new h k = (h.0, h.1, run_append cert device es fs as' bs h.0 mid new h.2 k)
run_append cert device [] fs (a ∷ as') bs old mid new h k = absurd h
run_append cert device (e ∷ es) fs [] bs old mid new h k = absurd h

pub all_push : {Y : Type 0} (P : Y → Type 0) (ys : List Y) (y : Y) → AllByRecursion P ys → P y → AllByRecursion P (ys ++ y ∷ [])
all_push P [] y h p = (p, tt)
all_push P (x ∷ xs) y h p = (h.0, all_push P xs y h.1 p)

-- ---- receives

-- the receives so far: each gave a datagram, which was delivered, and seen
pub record ReceivesSoFar {L W : Type 0} (cert : Certificate) (device : Device) (calls : L → LinkCall → L → Type 0) (count : L → ℕ) (sees : W → Sight → W → Type 0) (s : Machine) (l : L) (w : W) (all : List Receipt) (t : Machine) (m : L) (v : W) : Type 0 where
  pub device_run : Run cert device s (map delivery all) (map (λ r. r.answer) all) t
  pub link_run : Chain calls l (map handing all) m
  pub seen : Chain sees w (map coming all) v
  pub datagrams : AllByRecursion (λ r. length r.bytes ≤ 160) all
  pub counted : count m ≡ count l

module _ {L W : Type 0} (cert : Certificate) (device : Device) (calls : L → LinkCall → L → Type 0) (count : L → ℕ) (sees : W → Sight → W → Type 0) (s : Machine) (l : L) (w : W) where
  pub receives_none : ReceivesSoFar cert device calls count sees s l w [] s l w
  receives_none = record { device_run = refl; link_run = refl; seen = refl; datagrams = tt; counted = refl }

  -- one more datagram came, and was delivered
  pub receives_more : (all : List Receipt) (t : Machine) (m : L) (v : W) (r : Receipt) (t' : Machine) (m' : L) (v' : W) → ReceivesSoFar cert device calls count sees s l w all t m v → Happens cert device t (delivery r) r.answer t' → calls m (handing r) m' → sees v (coming r) v' → count m' ≡ count m + 0 → length r.bytes ≤ 160
      → ReceivesSoFar cert device calls count sees s l w (all ++ r ∷ []) t' m' v'
  receives_more all t m v r t' m' v' h happens told seen counted size =
      record {
        device_run = rw (map-append delivery all (r ∷ []), map-append (λ (x : Receipt). x.answer) all (r ∷ [])) (run_more cert device (map delivery all) (map (λ (x : Receipt). x.answer) all) s t t' (delivery r) r.answer h.device_run happens);
        link_run = rw (map-append handing all (r ∷ [])) (chain_append calls l (map handing all) m (handing r ∷ []) m' h.link_run (chain_one calls m (handing r) m' told));
        seen = rw (map-append coming all (r ∷ [])) (chain_append sees w (map coming all) v (coming r ∷ []) v' h.seen (chain_one sees v (coming r) v' seen));
        datagrams = all_push (λ (x : Receipt). length x.bytes ≤ 160) all r h.datagrams size;
        counted = omega (arith, counted, h.counted);
      }

  -- the receives end where no datagram is there, where the link fails, and at the sixteenth
  pub receives_quiet : (all : List Receipt) (t : Machine) (m : L) (v : W) (m' : L) → ReceivesSoFar cert device calls count sees s l w all t m v → calls m Silent m' → count m' ≡ count m + 0 → length all < 16 → Receives cert device calls count sees s l w all Quiet t m' v
  receives_quiet all t m v m' h told counted few =
      record {
        device_run = h.device_run;
        link_run = chain_append calls l (map handing all) m (Silent ∷ []) m' h.link_run (chain_one calls m Silent m' told);
        seen = h.seen;
        datagrams = h.datagrams;
        closes = few;
        counted = omega (arith, counted, h.counted);
      }

  pub receives_cut : (all : List Receipt) (t : Machine) (m : L) (v : W) (m' : L) → ReceivesSoFar cert device calls count sees s l w all t m v → calls m Broken m' → count m' ≡ count m + 1 → length all < 16 → Receives cert device calls count sees s l w all Cut t m' v
  receives_cut all t m v m' h told counted few =
      record {
        device_run = h.device_run;
        link_run = chain_append calls l (map handing all) m (Broken ∷ []) m' h.link_run (chain_one calls m Broken m' told);
        seen = h.seen;
        datagrams = h.datagrams;
        closes = few;
        counted = omega (arith, counted, h.counted);
      }

  pub receives_sixteenth : (all : List Receipt) (t : Machine) (m : L) (v : W) → ReceivesSoFar cert device calls count sees s l w all t m v → length all ≡ 16 → Receives cert device calls count sees s l w all Sixteenth t m v
  receives_sixteenth all t m v h full =
      record {
        device_run = h.device_run;
        link_run = subst (λ cs. Chain calls l cs m) (sym (append-nil (map handing all))) h.link_run;
        seen = h.seen;
        datagrams = h.datagrams;
        closes = full;
        counted = omega (arith, h.counted);
      }

pub denied_err : (r : Result ℕ Denied) → is_err r ≡ true → denials_of (admission_of r) ≡ 1
denied_err (Ok n) e = absurd (cc e)
denied_err (Err d) e = refl

pub denied_ok : (r : Result ℕ Denied) → is_err r ≡ false → denials_of (admission_of r) ≡ 0
denied_ok (Ok n) e = refl
denied_ok (Err d) e = absurd (cc e)

-- ---- dispatches

-- the dispatches with one more at the end
each_once_push : (q : ℕ) (all : List Service) (s : Service) → each_once q (all ++ s ∷ []) ≡ each_once q all ++ Dispatch (q + length all) ∷ []
each_once_push q [] s = ap (λ n. Dispatch n ∷ []) (let z : q ≡ q + 0 = omega arith in z)
each_once_push q (x ∷ xs) s =
    let e : (q + 1) + length xs ≡ q + length (x ∷ xs) = omega arith in
    ap (λ es. Dispatch q ∷ es) (each_once_push (q + 1) xs s ∙ ap (λ n. each_once (q + 1) xs ++ Dispatch n ∷ []) e)

flat_push : {X A : Type 0} (f : X → List A) (xs : List X) (x : X) → flat_map f (xs ++ x ∷ []) ≡ flat_map f xs ++ f x
flat_push f xs x = flat_map-append f xs (x ∷ []) ∙ ap (λ ys. flat_map f xs ++ ys) (append-nil (f x))

module _ {L W : Type 0} (cert : Certificate) (device : Device) (calls : L → LinkCall → L → Type 0) (count : L → ℕ) (sees : W → Sight → W → Type 0) (s : Machine) (l : L) (w : W) where
  pub serves_none : Serves cert device calls count sees s l w [] s l w
  serves_none = record { device_run = refl; link_run = refl; seen = refl; counted = omega arith }

  -- one more resource was dispatched
  pub serves_more : (all : List Service) (t : Machine) (m : L) (v : W) (q : ℕ) (one : Service) (t' : Machine) (m' : L) (v' : W) → Serves cert device calls count sees s l w all t m v → length all ≡ q
      → ServesOne cert device calls count sees q t m v one t' m' v' → Serves cert device calls count sees s l w (all ++ one ∷ []) t' m' v'
  serves_more all t m v q one t' m' v' h e o =
      let here : Happens cert device t (Dispatch (0 + length all)) one.answer t' = subst (λ n. Happens cert device t (Dispatch n) one.answer t') (let z : q ≡ 0 + length all = omega (arith, e) in z) o.happens in
      record {
        device_run = rw (each_once_push 0 all one, map-append (λ (x : Service). x.answer) all (one ∷ [])) (run_more cert device (each_once 0 all) (map (λ (x : Service). x.answer) all) s t t' (Dispatch (0 + length all)) one.answer h.device_run here);
        link_run = rw (flat_push sends all one) (chain_append calls l (flat_map sends all) m (sends one) m' h.link_run o.out.link_run);
        seen = rw (map-append serving all (one ∷ [])) (chain_append sees w (map serving all) v (serving one ∷ []) v' h.seen (chain_one sees v (serving one) v' o.seen));
        counted = omega (arith, h.counted, o.out.counted, sum_by_push losses all one);
      }

  -- a turn whose receives failed, and a whole one
  pub turn_down : (now fired : ℕ) (s' : Machine) (all : List Receipt) (t : Machine) (m : L) (v : W) → Happens cert device s (Tick now) (Expired fired) s' → Receives cert device calls count sees s' l w all Cut t m v
      → IsTurn cert device calls count sees now s l w (record { fired = fired; receipts = all; close = Cut; services = [] }) t m v
  turn_down now fired s' all t m v tick h =
      record {
        device_run = (s', tick, rw (append-nil (map delivery all), append-nil (map (λ (r : Receipt). r.answer) all)) h.device_run);
        link_run = h.link_run;
        seen = rw (append-nil (map coming all)) h.seen;
        datagrams = h.datagrams;
        closes = h.closes;
        counted = omega (arith, h.counted);
      }

  pub turn_whole : (now fired : ℕ) (s' : Machine) (all : List Receipt) (close : Close) (t : Machine) (m : L) (v : W) (services : List Service) (t' : Machine) (m' : L) (v' : W)
      → Happens cert device s (Tick now) (Expired fired) s' → Receives cert device calls count sees s' l w all close t m v → Serves cert device calls count sees t m v services t' m' v'
      → IsTurn cert device calls count sees now s l w (record { fired = fired; receipts = all; close = close; services = services }) t' m' v'
  turn_whole now fired s' all close t m v services t' m' v' tick h k =
      record {
        device_run = (s', tick, run_append cert device (map delivery all) (each_once 0 services) (map (λ (r : Receipt). r.answer) all) (map (λ (o : Service). o.answer) services) s' t t' h.device_run k.device_run);
        link_run = subst (λ cs. Chain calls l cs m') (append_assoc (map handing all) (close_calls close) (flat_map sends services)) (chain_append calls l (map handing all ++ close_calls close) m (flat_map sends services) m' h.link_run k.link_run);
        seen = chain_append sees w (map coming all) v (map serving services) v' h.seen k.seen;
        datagrams = h.datagrams;
        closes = h.closes;
        counted = omega (arith, h.counted, k.counted);
      }

pub cut_is : (c : Close) → is_cut c ≡ true → c ≡ Cut
cut_is Cut e = refl
cut_is Quiet e = absurd (cc e)
cut_is Sixteenth e = absurd (cc e)
