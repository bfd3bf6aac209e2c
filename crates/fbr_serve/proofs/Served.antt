-- Turns of a device, and what they print.
use Rattle.std.proofs.KnownBytes.{Appends-nil, Appends-trans}
use Rattle.std.proofs.Common.{◌≡◌, ◌+◌, ℕ, Bool, true, false, not, List, [], ◌∷◌, ◌++◌, map, refl, sym, ap, subst, ◌∙◌, arith, append-nil, Option}
use Rattle.std.specs.List.{flat_map, sum_by}
use Rattle.std.specs.Io.KnownBytes.{Appends}
use Rattle.std.proofs.lemmas.List.Sums.{sum_by_push}
use Rattle.std.proofs.lemmas.Grind.{flat_map-append}
use Rattle.fb_model.specs.System.{Device}
use Rattle.fb_model.specs.Certificates.{Certificate}
use Rattle.fb_model.specs.Devices.{Machine}
use Rattle.fb_words.specs.Links.{LinkCall}
use Rattle.fb_turn.specs.Turns.{report_of}
use Rattle.fb_model.specs.Turning.{Turn, Receipt, Service as Dispatch, Chain, Sight, IsTurn, coming, serving, sights_of, writes}
use Rattle.fbr_notices.specs.declared.sums.Sums.{Sums}
use Rattle.fbr_notices.specs.Sums.{TurnAt, capped, sums_of, with_report}
use Rattle.fbr_serve.specs.Serving.{Anything, IsTaken, Turns, write_line, turn_lines, lines_of, sight_lines}

-- ---- one turn

-- one who tells nothing may see anything
sees_any : (all : List Sight) → Chain Anything tt all tt
sees_any [] = refl
sees_any (x ∷ xs) = (tt, tt, sees_any xs)

-- a turn, whoever watches it
pub any_watch : {L W : Type 0} (cert : Certificate) (device : Device) (calls : L → LinkCall → L → Type 0) (count : L → ℕ) (sees : W → Sight → W → Type 0) (now : ℕ) (s : Machine) (l : L) (w : W) (turn : Turn) (t : Machine) (m : L) (v : W)
    → IsTurn cert device calls count sees now s l w turn t m v → IsTaken cert device calls count s l (record { now = now; turn = turn }) t m
any_watch cert device calls count sees now s l w turn t m v h =
    record {
      device_run = h.device_run;
      link_run = h.link_run;
      seen = sees_any (sights_of turn);
      datagrams = h.datagrams;
      closes = h.closes;
      counted = h.counted;
    }

-- ---- what is printed of a turn

-- what a printer comes to that has held these bytes: it keeps its writer, its moment and its form, and has its lines, unless one was lost
abbrev pub Puts : {P N : Type 0} → (P → N) → (P → ℕ) → (P → Bool) → (P → Bool) → (P → Option (List ℕ)) → P → List ℕ → P → Type 0
Puts name now timed lost held p text q = (name q ≡ name p) × (now q ≡ now p) × (timed q ≡ timed p) × (lost q ≡ false → (lost p ≡ false) × Appends (held p) (held q) text)

pub puts_all : {P N : Type 0} (name : P → N) (now : P → ℕ) (timed : P → Bool) (lost : P → Bool) (held : P → Option (List ℕ)) (clock : Bool) (moment : ℕ) (all : List Sight) (p q : P) → timed p ≡ clock → now p ≡ moment
    → Chain (λ a x b. Puts name now timed lost held a (sight_lines (timed a) (now a) x) b) p all q → lost q ≡ false → (lost p ≡ false) × Appends (held p) (held q) (flat_map (sight_lines clock moment) all)
puts_all name now timed lost held clock moment [] p q c m h e =
    (ap lost h ∙ e, subst (λ b. Appends (held p) (held b) []) h (Appends-nil (held p)))
puts_all name now timed lost held clock moment (x ∷ xs) p q c m h e =
    let rest = puts_all name now timed lost held clock moment xs h.0 q (h.1.2 ∙ c) (h.1.1 ∙ m) h.2 e in
    let first = h.1.3 rest.0 in
    let here : Appends (held p) (held h.0) (sight_lines clock moment x) = subst (λ b. Appends (held p) (held h.0) (sight_lines b moment x)) c (subst (λ n. Appends (held p) (held h.0) (sight_lines (timed p) n x)) m first.1) in
    (first.0, Appends-trans (held p) (held h.0) (held q) (sight_lines clock moment x) (flat_map (sight_lines clock moment) xs) here rest.1)

pub puts_name : {P N : Type 0} (name : P → N) (now : P → ℕ) (timed : P → Bool) (lost : P → Bool) (held : P → Option (List ℕ)) (all : List Sight) (p q : P)
    → Chain (λ a x b. Puts name now timed lost held a (sight_lines (timed a) (now a) x) b) p all q → name q ≡ name p
puts_name name now timed lost held [] p q h = sym (ap name h)
puts_name name now timed lost held (x ∷ xs) p q h = puts_name name now timed lost held xs h.0 q h.2 ∙ h.1.0

-- arrivals print nothing
arrivals_print : (clock : Bool) (moment : ℕ) (rs : List Receipt) → flat_map (sight_lines clock moment) (map coming rs) ≡ []
arrivals_print clock moment [] = refl
arrivals_print clock moment (r ∷ rs) = arrivals_print clock moment rs

dispatches_print : (clock : Bool) (moment : ℕ) (ss : List Dispatch) → flat_map (sight_lines clock moment) (map serving ss) ≡ flat_map (write_line clock moment) (flat_map writes ss)
dispatches_print clock moment [] = refl
dispatches_print clock moment (o ∷ os) =
    ap (λ t. flat_map (write_line clock moment) (writes o) ++ t) (dispatches_print clock moment os) ∙ sym (flat_map-append (write_line clock moment) (writes o) (flat_map writes os))

-- what is seen of a turn prints its lines
pub turn_prints : (clock : Bool) (moment : ℕ) (turn : Turn) → flat_map (sight_lines clock moment) (sights_of turn) ≡ turn_lines clock (record { now = moment; turn = turn })
turn_prints clock moment turn =
    flat_map-append (sight_lines clock moment) (map coming turn.receipts) (map serving turn.services)
    ∙ ap (λ t. t ++ flat_map (sight_lines clock moment) (map serving turn.services)) (arrivals_print clock moment turn.receipts)
    ∙ dispatches_print clock moment turn.services

pub not_true : (b : Bool) → not b ≡ false → b ≡ true
not_true true h = refl
not_true false h = absurd cc

-- ---- turns one after another

-- one turn more
pub more_turns : {L : Type 0} (cert : Certificate) (device : Device) (calls : L → LinkCall → L → Type 0) (count : L → ℕ) (s : Machine) (l : L) (xs : List TurnAt) (t : Machine) (m : L) (x : TurnAt) (u : Machine) (n : L)
    → Turns cert device calls count s l xs t m → IsTaken cert device calls count t m x u n → Turns cert device calls count s l (xs ++ x ∷ []) u n
more_turns {L} cert device calls count s l [] t m x u n h k =
    (u, n, subst (λ (a : Machine). IsTaken cert device calls count a l x u n) (sym h.0) (subst (λ (b : L). IsTaken cert device calls count t b x u n) (sym h.1) k), (refl, refl))
more_turns cert device calls count s l (y ∷ ys) t m x u n h k =
    (h.0, h.1, h.2, more_turns cert device calls count h.0 h.1 ys t m x u n h.3 k)

-- a count that stays where it can rise no more, with one number more
more_capped : (a b : ℕ) → capped (a + b) ≡ capped (capped a + b)
more_capped a b = omega arith

pushed : (f : TurnAt → ℕ) (xs : List TurnAt) (x : TurnAt) → capped (sum_by f (xs ++ x ∷ [])) ≡ capped (capped (sum_by f xs) + f x)
pushed f xs x = ap capped (sum_by_push f xs x) ∙ more_capped (sum_by f xs) (f x)

abbrev sums_with : ℕ → ℕ → ℕ → ℕ → ℕ → ℕ → Sums
sums_with a b c d e f = record { fired = a; received = b; denied = c; ran = d; sent = e; lost = f }

same_sums : (a b c d e f u v w x y z : ℕ) → a ≡ u → b ≡ v → c ≡ w → d ≡ x → e ≡ y → f ≡ z → sums_with a b c d e f ≡ sums_with u v w x y z
same_sums a b c d e f u v w x y z h i j k l m =
    subst (λ t. sums_with a b c d e f ≡ sums_with t v w x y z) h
    (subst (λ t. sums_with a b c d e f ≡ sums_with a t w x y z) i
    (subst (λ t. sums_with a b c d e f ≡ sums_with a b t x y z) j
    (subst (λ t. sums_with a b c d e f ≡ sums_with a b c t y z) k
    (subst (λ t. sums_with a b c d e f ≡ sums_with a b c d t z) l
    (ap (λ t. sums_with a b c d e t) m)))))

pub more_sums : (xs : List TurnAt) (x : TurnAt) → sums_of (xs ++ x ∷ []) ≡ with_report (sums_of xs) (report_of x.turn)
more_sums xs x =
    same_sums _ _ _ _ _ _ _ _ _ _ _ _ (pushed (λ (y : TurnAt). (report_of y.turn).fired) xs x) (pushed (λ (y : TurnAt). (report_of y.turn).received) xs x)
    (pushed (λ (y : TurnAt). (report_of y.turn).denied) xs x) (pushed (λ (y : TurnAt). (report_of y.turn).ran) xs x)
    (pushed (λ (y : TurnAt). (report_of y.turn).sent) xs x) (pushed (λ (y : TurnAt). (report_of y.turn).lost) xs x)

pub more_lines : (clock : Bool) (xs : List TurnAt) (x : TurnAt) → lines_of clock (xs ++ x ∷ []) ≡ lines_of clock xs ++ turn_lines clock x
more_lines clock xs x = flat_map-append (turn_lines clock) xs (x ∷ []) ∙ ap (λ t. lines_of clock xs ++ t) (append-nil (turn_lines clock x))
