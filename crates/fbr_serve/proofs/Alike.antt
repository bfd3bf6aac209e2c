-- Turns of a device in which the same came.
use Rattle.std.proofs.Common.{◌≡◌, inl, inr, ℕ, ◌+◌, Bool, true, false, List, [], ◌∷◌, ◌++◌, map, length, refl, sym, ap, ap₂, subst, ◌∙◌, arith}
use Rattle.std.specs.List.{AllByRecursion, flat_map}
use Rattle.fb_model.specs.System.{Device}
use Rattle.fb_model.specs.Certificates.{Certificate}
use Rattle.fb_model.specs.Devices.{Machine, Event, Tick, Deliver, Answer, Admitted, Denied, Expired, Idle, Ran, Run}
use Rattle.fb_model_replay.specs.Alike.{AreAlike, IsAlike}
use Rattle.fb_model_replay.proofs.Running.{run_once}
use Rattle.fb_words.specs.Links.{LinkCall}
use Rattle.fb_record.specs.Records.{Entry}
use Rattle.fb_model.specs.Turning.{Receipt, Service, Turn, answers_of, delivery, each_once, effect_of, events_of, is_cut, writes, writes_for}
use Rattle.fbr_notices.specs.Sums.{TurnAt}
use Rattle.fbr_serve.specs.Serving.{Turns, IsTaken, lines_of, turn_lines, write_line}
use Rattle.fbr_serve.specs.Recording.{IsEnded, entry_of}

-- ---- answers

behind : (as' bs cs ds : List Answer) → AreAlike (as' ++ bs) (cs ++ ds) → length as' ≡ length cs → AreAlike bs ds
behind [] bs [] ds h e = h
behind (a ∷ as') bs (c ∷ cs) ds h e = behind as' bs cs ds h.1 (omega (arith, e))
behind [] bs (c ∷ cs) ds h e = absurd (omega (arith, e))
behind (a ∷ as') bs [] ds h e = absurd (omega (arith, e))

same_effect : (a b : Answer) → IsAlike a b → effect_of a ≡ effect_of b
same_effect (Denied why) (Denied other) h = refl
same_effect (Denied why) (Admitted n) h = ap effect_of h
same_effect (Denied why) (Expired n) h = ap effect_of h
same_effect (Denied why) Idle h = ap effect_of h
same_effect (Denied why) (Ran cause place steps effect ended) h = ap effect_of h
same_effect (Admitted n) b h = ap effect_of h
same_effect (Expired n) b h = ap effect_of h
same_effect Idle b h = ap effect_of h
same_effect (Ran cause place steps effect ended) b h = ap effect_of h

same_writes : (xs ys : List Service) → AreAlike (map (λ s. s.answer) xs) (map (λ s. s.answer) ys) → flat_map writes xs ≡ flat_map writes ys
same_writes [] [] h = refl
same_writes (x ∷ xs) (y ∷ ys) h = ap₂ (λ a b. a ++ b) (ap writes_for (same_effect x.answer y.answer h.0)) (same_writes xs ys h.1)
same_writes [] (y ∷ ys) h = absurd h
same_writes (x ∷ xs) [] h = absurd h

-- ---- events

abbrev bytes_in : List Receipt → List (List ℕ)
bytes_in rs = map (λ r. r.bytes) rs

deliveries : (rs : List Receipt) → map delivery rs ≡ map (λ b. Deliver b) (bytes_in rs)
deliveries [] = refl
deliveries (r ∷ rs) = ap (λ es. Deliver r.bytes ∷ es) (deliveries rs)

as_many_bytes : (rs : List Receipt) → length (bytes_in rs) ≡ length rs
as_many_bytes [] = refl
as_many_bytes (r ∷ rs) = omega (arith, as_many_bytes rs)

as_many_answers : (rs : List Receipt) → length (map (λ (r : Receipt). r.answer) rs) ≡ length rs
as_many_answers [] = refl
as_many_answers (r ∷ rs) = omega (arith, as_many_answers rs)

same_rounds : (q : ℕ) (xs ys : List Service) → length xs ≡ length ys → each_once q xs ≡ each_once q ys
same_rounds q [] [] e = refl
same_rounds q (x ∷ xs) (y ∷ ys) e = ap (λ es. Rattle.fb_model.specs.Devices.Dispatch q ∷ es) (same_rounds (q + 1) xs ys (omega (arith, e)))
same_rounds q [] (y ∷ ys) e = absurd (omega (arith, e))
same_rounds q (x ∷ xs) [] e = absurd (omega (arith, e))

as_many : (device : Device) (x y : Turn) → IsEnded device x → IsEnded device y → is_cut x.close ≡ is_cut y.close → length x.services ≡ length y.services
as_many device x y (inl w) (inl v) e = w.each ∙ sym v.each
as_many device x y (inr w) (inr v) e = ap length w.none ∙ sym (ap length v.none)
as_many device x y (inl w) (inr v) e = absurd (let k : false ≡ true = sym w.uncut ∙ (e ∙ ap is_cut v.cut) in cc)
as_many device x y (inr w) (inl v) e = absurd (let k : true ≡ false = sym (ap is_cut w.cut) ∙ (e ∙ v.uncut) in cc)

-- ---- a turn

-- where the same came, the same was done: the device comes to the same, and writes the same
record AreSame (x y : TurnAt) (t u : Machine) : Type 0 where
  machine : t ≡ u
  lines : (timed : Bool) → turn_lines timed x ≡ turn_lines timed y

same_turn : {L K : Type 0} (cert : Certificate) (device : Device) (calls : L → LinkCall → L → Type 0) (count : L → ℕ) (calls' : K → LinkCall → K → Type 0) (count' : K → ℕ) (s : Machine) (l m : L) (k n : K) (x y : TurnAt) (t u : Machine)
    → IsTaken cert device calls count s l x t m → IsTaken cert device calls' count' s k y u n → IsEnded device x.turn → IsEnded device y.turn → entry_of x ≡ entry_of y → AreSame x y t u
same_turn cert device calls count calls' count' s l m k n x y t u hx hy ex ey e =
    let now : x.now ≡ y.now = ap (λ (i : Entry). i.now) e in
    let bytes : bytes_in x.turn.receipts ≡ bytes_in y.turn.receipts = ap (λ (i : Entry). i.datagrams) e in
    let cut : is_cut x.turn.close ≡ is_cut y.turn.close = ap (λ (i : Entry). i.down) e in
    let many = as_many device x.turn y.turn ex ey cut in
    let came : map delivery x.turn.receipts ≡ map delivery y.turn.receipts = deliveries x.turn.receipts ∙ (ap (map (λ b. Deliver b)) bytes ∙ sym (deliveries y.turn.receipts)) in
    let tail : map delivery x.turn.receipts ++ each_once 0 x.turn.services ≡ map delivery y.turn.receipts ++ each_once 0 y.turn.services = ap₂ (λ a b. a ++ b) came (same_rounds 0 x.turn.services y.turn.services many) in
    let events : events_of x.now x.turn ≡ events_of y.now y.turn = ap₂ (λ n es. Tick n ∷ es) now tail in
    let run = subst (λ es. Run cert device s es (answers_of x.turn) t) events hx.device_run in
    let once = run_once cert device (events_of y.now y.turn) (answers_of x.turn) (answers_of y.turn) s t u run hy.device_run in
    let long : length (map (λ (r : Receipt). r.answer) x.turn.receipts) ≡ length (map (λ (r : Receipt). r.answer) y.turn.receipts) =
    as_many_answers x.turn.receipts ∙ (sym (as_many_bytes x.turn.receipts) ∙ (ap length bytes ∙ (as_many_bytes y.turn.receipts ∙ sym (as_many_answers y.turn.receipts)))) in
    let wrote = same_writes x.turn.services y.turn.services (behind (map (λ (r : Receipt). r.answer) x.turn.receipts) _ (map (λ (r : Receipt). r.answer) y.turn.receipts) _ once.0.1 long) in
    record { machine = once.1; lines = λ timed. ap₂ (λ n ws. flat_map (write_line timed n) ws) now wrote }

-- ---- all turns

pub same_turns : {L K : Type 0} (cert : Certificate) (device : Device) (calls : L → LinkCall → L → Type 0) (count : L → ℕ) (calls' : K → LinkCall → K → Type 0) (count' : K → ℕ) (xs ys : List TurnAt) (s : Machine) (l m : L) (k n : K) (t u : Machine)
    → Turns cert device calls count s l xs t m → Turns cert device calls' count' s k ys u n → AllByRecursion (λ x. IsEnded device x.turn) xs → AllByRecursion (λ y. IsEnded device y.turn) ys → map entry_of xs ≡ map entry_of ys
    → (t ≡ u) × ((timed : Bool) → lines_of timed xs ≡ lines_of timed ys)
same_turns cert device calls count calls' count' [] [] s l m k n t u hx hy ex ey e = (sym hx.0 ∙ hy.0, λ timed. refl)
same_turns cert device calls count calls' count' (x ∷ xs) (y ∷ ys) s l m k n t u hx hy ex ey e =
    let here : entry_of x ≡ entry_of y = cc in
    let there : map entry_of xs ≡ map entry_of ys = cc in
    let one = same_turn cert device calls count calls' count' s l hx.1 k hy.1 x y hx.0 hy.0 hx.2 hy.2 ex.0 ey.0 here in
    let rest = same_turns cert device calls count calls' count' xs ys hx.0 hx.1 m hy.1 n t u hx.3 (subst (λ b. Turns cert device calls' count' b hy.1 ys u n) (sym one.machine) hy.3) ex.1 ey.1 there in
    (rest.0, λ timed. ap₂ (λ a b. a ++ b) (one.lines timed) (rest.1 timed))
same_turns cert device calls count calls' count' [] (y ∷ ys) s l m k n t u hx hy ex ey e = absurd cc
same_turns cert device calls count calls' count' (x ∷ xs) [] s l m k n t u hx hy ex ey e = absurd cc
