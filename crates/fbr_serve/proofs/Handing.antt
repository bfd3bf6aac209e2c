-- What a link hands out that plays what came in a turn.
use Rattle.std.proofs.Common.{◌≡◌, ◌==◌, ◌||◌, inl, inr, Result, Ok, Err, ℕ, ◌+◌, ◌<◌, ◌≤◌, Bool, true, false, if◌then◌else◌, List, [], ◌∷◌, ◌++◌, map, length, take, zero, suc, refl, sym, ap, ap₂, subst, ◌∙◌, arith}
use Rattle.std.specs.List.{AllByRecursion, flat_map, list_any}
use Rattle.std.proofs.lemmas.Bool.{eqb-true, eq-eqb, lt-ltb, leb-true, ltb-true}
use Rattle.fb_words.specs.Links.{LinkCall, Handed, Silent, Broken}
use Rattle.fb_link.specs.Memory.{Memory, MemorySteps, after_receive, fails_receive, first_of, is_spent, next_number, rest_of}
use Rattle.fb_record.specs.Records.{Entry, IsPlayable, is_within}
use Rattle.fb_model.specs.Turning.{Chain, Close, Sixteenth, Quiet, Cut, ClosesAt, Receipt, Turn, close_calls, handing, is_cut, sends}
use Rattle.fb_model.specs.System.{Device}
use Rattle.fb_model.specs.Certificates.{Certificate}
use Rattle.fb_model.specs.Devices.{Machine}
use Rattle.fb_turn.specs.declared.turning.Report.{Report}
use Rattle.fbr_notices.specs.declared.stop.Stop.{Stop}
use Rattle.fbr_notices.specs.declared.stop.Stop.TheVariants as stops
use Rattle.fbr_notices.specs.Sums.{TurnAt}
use Rattle.fbr_serve.specs.Serving.{EndsTurn, IsTaken}
use Rattle.fbr_serve.specs.Recording.{IsEnded, Retakes, entry_of, plays}

-- ---- a receive

-- a receive of a link that has not failed before, by whether it fails
abbrev does : Bool → Bool → List (List ℕ) → ℕ → LinkCall
does spent fails w room = if spent then Silent else (if fails then Broken else first_of w room)

-- it handed out the first datagram
record Hands (fails : Bool) (w : List (List ℕ)) (room : ℕ) (bytes : List ℕ) : Type 0 where
  first : List ℕ
  rest : List (List ℕ)
  whole : fails ≡ false
  waiting : w ≡ first ∷ rest
  taken : bytes ≡ take room first

handed : (spent fails : Bool) (w : List (List ℕ)) (room : ℕ) (bytes : List ℕ) → spent ≡ false → Handed room bytes ≡ does spent fails w room → Hands fails w room bytes
handed true fails w room bytes h e = absurd (cc h)
handed false true w room bytes h e = absurd cc
handed false false [] room bytes h e = absurd cc
handed false false (d ∷ ds) room bytes h e = record { first = d; rest = ds; whole = refl; waiting = refl; taken = cc }

silent : (spent fails : Bool) (w : List (List ℕ)) (room : ℕ) → spent ≡ false → Silent ≡ does spent fails w room → (fails ≡ false) × (w ≡ [])
silent true fails w room h e = absurd (cc h)
silent false true w room h e = absurd cc
silent false false [] room h e = (refl, refl)
silent false false (d ∷ ds) room h e = absurd cc

broken : (spent fails : Bool) (w : List (List ℕ)) (room : ℕ) → spent ≡ false → Broken ≡ does spent fails w room → fails ≡ true
broken true fails w room h e = absurd (cc h)
broken false true w room h e = refl
broken false false [] room h e = absurd cc
broken false false (d ∷ ds) room h e = absurd cc

-- ---- the link while it plays

-- the receive that is to fail, where one is
abbrev planned : Bool → ℕ → List ℕ
planned down n = if down then n ∷ [] else []

-- a link that still has these datagrams to hand out, and fails behind them where it is down
record Playing (down : Bool) (ds : List (List ℕ)) (l : Memory) : Type 0 where
  waiting : l.waiting ≡ ds
  whole : l.failures ≡ 0
  failing : l.failing_receives ≡ planned down (l.receives + length ds + 1)
  few : l.receives + length ds ≤ 16
  fewer : down ≡ true → l.receives + length ds < 16

unspent : (down : Bool) (ds : List (List ℕ)) (l : Memory) → Playing down ds l → is_spent l ≡ false
unspent down ds l h = ap (λ n. n == 18446744073709551615) h.whole

next_is : (n : ℕ) → n < 17 → next_number n ≡ n + 1
next_is n h = ap (λ b. if b then n + 1 else n) (lt-ltb n 18446744073709551615 (omega (arith, h)))

or_false : (b : Bool) → (b || false) ≡ true → b ≡ true
or_false true e = refl
or_false false e = e

one_fails : (down : Bool) (n k : ℕ) → list_any (λ x. x == k) (planned down n) ≡ true → (down ≡ true) × (n ≡ k)
one_fails false n k e = absurd (cc e)
one_fails true n k e = (refl, eqb-true n k (or_false (n == k) e))

same_fails : (n : ℕ) → list_any (λ x. x == n) (planned true n) ≡ true
same_fails n = rw (eq-eqb n n refl) refl

-- a receive fails just where that is planned
fails_where : (down : Bool) (ds : List (List ℕ)) (l : Memory) → Playing down ds l → fails_receive l ≡ true → (down ≡ true) × (ds ≡ [])
fails_where down ds l h e =
    let at : next_number l.receives ≡ l.receives + 1 = next_is l.receives (omega (arith, h.few)) in
    let found : list_any (λ x. x == (l.receives + 1)) (planned down (l.receives + length ds + 1)) ≡ true =
    subst (λ k. list_any (λ x. x == k) (planned down (l.receives + length ds + 1)) ≡ true) at (subst (λ f. list_any (λ x. x == next_number l.receives) f ≡ true) h.failing e) in
    let p = one_fails down (l.receives + length ds + 1) (l.receives + 1) found in (p.0, empty ds (omega (arith, p.1)))
  where
    empty : (xs : List (List ℕ)) → length xs ≡ 0 → xs ≡ []
    empty [] z = refl
    empty (x ∷ xs) z = absurd (omega (arith, z))

fails_now : (down : Bool) (ds : List (List ℕ)) (l : Memory) → Playing down ds l → down ≡ true → ds ≡ [] → fails_receive l ≡ true
fails_now down ds l h d none =
    let n : l.receives + length ds + 1 ≡ next_number l.receives = omega (arith, ap length none, next_is l.receives (omega (arith, h.few))) in
    let plan : l.failing_receives ≡ planned true (next_number l.receives) = h.failing ∙ ap₂ planned d n in
    subst (λ f. list_any (λ x. x == next_number l.receives) f ≡ true) (sym plan) (same_fails (next_number l.receives))

-- the link behind a datagram that was handed out
goes_on : (l n : Memory) → is_spent l ≡ false → fails_receive l ≡ false → n ≡ after_receive l → n ≡ record l { receives = next_number l.receives; waiting = rest_of l.waiting }
goes_on l n s f e =
    e ∙ ap₂ (λ a b. if a then l else (if b then record l { receives = next_number l.receives; failures = l.failures + 1 } else record l { receives = next_number l.receives; waiting = rest_of l.waiting })) s f

plays_on : (down : Bool) (ds : List (List ℕ)) (d : List ℕ) (rest : List (List ℕ)) (l n : Memory) → Playing down ds l → ds ≡ d ∷ rest → n ≡ record l { receives = next_number l.receives; waiting = rest_of l.waiting } → Playing down rest n
plays_on down ds d rest l n h is next =
    let at : next_number l.receives ≡ l.receives + 1 = next_is l.receives (omega (arith, h.few)) in
    let long : length ds ≡ length rest + 1 = ap length is ∙ omega arith in
    subst (Playing down rest) (sym next)
    (record {
      waiting = ap rest_of (h.waiting ∙ is);
      whole = h.whole;
      failing = h.failing ∙ ap (planned down) (omega (arith, at, long));
      few = omega (arith, h.few, at, long);
      fewer = λ e. let f = h.fewer e in omega (arith, f, at, long);
    })

-- ---- all receives

take_short : (n : ℕ) (xs : List ℕ) → length xs ≤ n → take n xs ≡ xs
take_short zero [] h = refl
take_short zero (x ∷ xs) h = absurd (omega (arith, h))
take_short (suc n) [] h = refl
take_short (suc n) (x ∷ xs) h = ap (λ ys. x ∷ ys) (take_short n xs (omega (arith, h)))

nothing : (xs : List (List ℕ)) → length xs ≡ 0 → [] ≡ xs
nothing [] e = refl
nothing (x ∷ xs) e = absurd (omega (arith, e))

not_down : (down : Bool) → (down ≡ true → ⊥) → false ≡ down
not_down false never = refl
not_down true never = absurd (never refl)

-- no datagram is left where the receives end, and they were cut off where the link is down
ends : (down : Bool) (ds : List (List ℕ)) (l : Memory) (close : Close) (calls : List LinkCall) (m : Memory) → Playing down ds l → Chain MemorySteps l (close_calls close ++ calls) m → ClosesAt close (l.receives + 0) → ([] ≡ ds) × (is_cut close ≡ down)
ends down ds l Sixteenth calls m h chain closes =
    (nothing ds (omega (arith, h.few, closes)), not_down down (λ e. let f = h.fewer e in absurd (omega (arith, f, closes))))
ends down ds l Quiet calls m h chain closes =
    let q = silent (is_spent l) (fails_receive l) l.waiting 0 (unspent down ds l h) chain.1.0 in
    let none : ds ≡ [] = sym h.waiting ∙ q.1 in
    (sym none, not_down down (λ e. let f : true ≡ false = sym (fails_now down ds l h e none) ∙ q.0 in absurd cc))
ends down ds l Cut calls m h chain closes =
    let p = fails_where down ds l h (broken (is_spent l) (fails_receive l) l.waiting 0 (unspent down ds l h) chain.1.0) in
    (sym p.1, sym p.0)

abbrev bytes_in : List Receipt → List (List ℕ)
bytes_in rs = map (λ r. r.bytes) rs

-- what comes is what there was, and the receives are cut off where the link is down
played : (down : Bool) (ds : List (List ℕ)) (l : Memory) (rs : List Receipt) (close : Close) (calls : List LinkCall) (m : Memory) → Playing down ds l → AllByRecursion (λ d. length d ≤ 160) ds
    → Chain MemorySteps l (map handing rs ++ (close_calls close ++ calls)) m → ClosesAt close (l.receives + length rs) → (bytes_in rs ≡ ds) × (is_cut close ≡ down)
played down ds l [] close calls m h short chain closes = ends down ds l close calls m h chain closes
played down ds l (r ∷ rs) close calls m h short chain closes =
    let whole = unspent down ds l h in
    let got = handed (is_spent l) (fails_receive l) l.waiting 160 r.bytes whole chain.1.0 in
    let is : ds ≡ got.first ∷ got.rest = sym h.waiting ∙ got.waiting in
    let next = goes_on l chain.0 whole got.whole chain.1.1 in
    let at : chain.0.receives ≡ l.receives + 1 = ap (λ (n : Memory). n.receives) next ∙ next_is l.receives (omega (arith, h.few)) in
    let shorter : AllByRecursion (λ d. length d ≤ 160) (got.first ∷ got.rest) = subst (AllByRecursion (λ d. length d ≤ 160)) is short in
    let closed : ClosesAt close (chain.0.receives + length rs) = subst (ClosesAt close) (omega (arith, at)) closes in
    let rest = played down got.rest chain.0 rs close calls m (plays_on down ds got.first got.rest l chain.0 h is next) shorter.1 chain.2 closed in
    (ap₂ (λ x xs. x ∷ xs) (got.taken ∙ take_short 160 got.first shorter.0) rest.0 ∙ sym is, rest.1)

-- ---- a turn

begins : (e : Entry) (room : ℕ) → IsPlayable e → Playing e.down e.datagrams (plays e room)
begins e room h =
    record {
      waiting = refl;
      whole = refl;
      failing = ap (planned e.down) (let k : length e.datagrams + 1 ≡ 0 + length e.datagrams + 1 = omega arith in k);
      few = omega (arith, within e.down (length e.datagrams) h.few);
      fewer = λ d. omega (arith, ltb-true (length e.datagrams) 16 (subst (λ b. is_within (length e.datagrams) b ≡ true) d h.few));
    }
  where
    within : (down : Bool) (n : ℕ) → is_within n down ≡ true → n ≤ 16
    within false n w = leb-true n 16 w
    within true n w = omega (arith, ltb-true n 16 w)

abbrev as_entry : ℕ → List (List ℕ) → Bool → Entry
as_entry now datagrams down = record { now = now; datagrams = datagrams; down = down }

-- a turn over a link that plays what came is a turn of that
pub plays_back : (e : Entry) (room : ℕ) (x : TurnAt) (calls : List LinkCall) (m : Memory) → IsPlayable e → x.now ≡ e.now → Chain MemorySteps (plays e room) (map handing x.turn.receipts ++ (close_calls x.turn.close ++ calls)) m
    → ClosesAt x.turn.close (length x.turn.receipts) → entry_of x ≡ e
plays_back e room x calls m h now chain closes =
    let p = played e.down e.datagrams (plays e room) x.turn.receipts x.turn.close calls m (begins e room h) h.short chain (subst (ClosesAt x.turn.close) (let k : length x.turn.receipts ≡ 0 + length x.turn.receipts = omega arith in k) closes) in
    same x.now e.now (bytes_in x.turn.receipts) e.datagrams (is_cut x.turn.close) e.down now p.0 p.1
  where
    same : (a b : ℕ) (c d : List (List ℕ)) (f g : Bool) → a ≡ b → c ≡ d → f ≡ g → as_entry a c f ≡ as_entry b d g
    same a b c d f g p q r = cc

ended : (device : Device) (turn : Turn) (end : Result Report Stop) → EndsTurn device turn end → IsEnded device turn
ended device turn (Ok report) h = inl h.0
ended device turn (Err stops.LinkDown) h = inr h
ended device turn (Err stops.Output) h = absurd h
ended device turn (Err stops.Clock) h = absurd h

pub retaken : (cert : Certificate) (device : Device) (s t : Machine) (e : Entry) (x : TurnAt) (link m : Memory) (room : ℕ) → IsPlayable e → x.now ≡ e.now → link ≡ plays e room → room ≡ length device.resources
    → IsTaken cert device MemorySteps (λ (l : Memory). l.failures) s link x t m → (end : Result Report Stop) → EndsTurn device x.turn end → Retakes cert device s e x t
retaken cert device s t e x link m room playable now is rooms taken end ends =
    let at : link ≡ plays e (length device.resources) = is ∙ ap (plays e) rooms in
    let h = subst (λ l. IsTaken cert device MemorySteps (λ (n : Memory). n.failures) s l x t m) at taken in
    record { link = m; taken = h; came = plays_back e (length device.resources) x (flat_map sends x.turn.services) m playable now h.link_run h.closes; ended = ended device x.turn end ends }
