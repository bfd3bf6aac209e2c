-- What is found at the characters of a TIME's parts is no less than those parts.
use Rattle.std.proofs.Common.{◌≡◌, ℕ, zero, suc, ◌+◌, ◌*◌, ◌<◌, ◌≤◌, ◌⊎◌, Bool, true, false, cond, List, [], ◌∷◌, ◌++◌, length, Option, Some, None, refl, sym, ap, subst, ◌∙◌, arith, inl, inr, append_assoc, length-append}
use Rattle.std.specs.Prelude.{◌==◌, ◌&&◌, not}
use Rattle.std.specs.Char.{to_ascii_uppercase}
use Rattle.std.proofs.lemmas.Bool.{eq-eqb}
use Rattle.std.proofs.lemmas.Bool.Decides.{nat_tests}
use Rattle.fb_model.specs.Spelling.{upper, is_digit_in, IsWhole, whole, IsUnit, days, hours, minutes, seconds, milliseconds, IsJoint, none, joint, IsAmount, IsSpan, last_part, more_parts}
use Rattle.fb_lex.specs.declared.span.Unit.{Unit as TimeUnit}
use Rattle.fb_lex.specs.declared.span.Unit.TheVariants as units
use Rattle.fb_lex.specs.Scanning.{whole_at, rank_of, size_of, behind_m, unit_of, unit_at, counted, with_unit, amount_at, behind_joint, and_more, from_amount, span_at}
use Rattle.fb_lex.proofs.Spans.{no_less}
use Rattle.fb_lex.proofs.Sound.{ReadsAs, span_sound}
use Rattle.fb_lex.proofs.CoversNumbers.{Covers, stops, whole_stop, digit_is_not}

-- ---- units

-- characters that make `MS` of an `M`
begins_s : List ℕ → Bool
begins_s [] = false
begins_s (c ∷ cs) = to_ascii_uppercase c == 83

letter_stops : (c x : ℕ) → to_ascii_uppercase c ≡ x → 65 ≤ x → x ≤ 90 → not (is_digit_in 10 c) && not (c == 95) ≡ true
letter_stops c x e low high = grind (arith, nat_tests)

abbrev FirstIs : ℕ → List ℕ → Type 0
FirstIs x cs = (c : ℕ) × (ds : List ℕ) × (cs ≡ c ∷ ds) × (to_ascii_uppercase c ≡ x)

first_is : (x : ℕ) (xs cs : List ℕ) → x ∷ xs ≡ upper cs → (c : ℕ) × (ds : List ℕ) × (cs ≡ c ∷ ds) × (to_ascii_uppercase c ≡ x) × (upper ds ≡ xs)
first_is x xs [] e = absurd cc
first_is x xs (c ∷ cs) e = (c, cs, refl, cc, cc)

upper_none : (cs : List ℕ) → upper cs ≡ [] → cs ≡ []
upper_none [] e = refl
upper_none (c ∷ cs) e = absurd cc

stops_at : (c x : ℕ) (cs ds rest : List ℕ) → cs ≡ c ∷ ds → to_ascii_uppercase c ≡ x → 65 ≤ x → x ≤ 90 → stops (cs ++ rest) ≡ true
unfolding stops
stops_at c x cs ds rest e f low high = ap (λ l. stops (l ++ rest)) e ∙ letter_stops c x f low high

unit_stops : {rank size : ℕ} {us : List ℕ} → IsUnit rank us size → (cs rest : List ℕ) → us ≡ upper cs → stops (cs ++ rest) ≡ true
unit_stops days cs rest e = let f = first_is 68 [] cs e in stops_at f.0 68 cs f.1 rest f.2 f.3 (omega arith) (omega arith)
unit_stops hours cs rest e = let f = first_is 72 [] cs e in stops_at f.0 72 cs f.1 rest f.2 f.3 (omega arith) (omega arith)
unit_stops minutes cs rest e = let f = first_is 77 [] cs e in stops_at f.0 77 cs f.1 rest f.2 f.3 (omega arith) (omega arith)
unit_stops seconds cs rest e = let f = first_is 83 [] cs e in stops_at f.0 83 cs f.1 rest f.2 f.3 (omega arith) (omega arith)
unit_stops milliseconds cs rest e = let f = first_is 77 (83 ∷ []) cs e in stops_at f.0 77 cs f.1 rest f.2 f.3 (omega arith) (omega arith)

pub unit_rank : {rank size : ℕ} {us : List ℕ} → IsUnit rank us size → rank ≤ 4
unit_rank days = omega arith
unit_rank hours = omega arith
unit_rank minutes = omega arith
unit_rank seconds = omega arith
unit_rank milliseconds = omega arith

-- that unit and no more, or the longer one
abbrev UnitIs : ℕ → ℕ → List ℕ → Option (TimeUnit × List ℕ) → Type 0
UnitIs rank size rest q = (u : TimeUnit) × (q ≡ Some (u, rest)) × (rank_of u ≡ rank) × (size_of u ≡ size)

abbrev UnitLonger : ℕ → List ℕ → Option (TimeUnit × List ℕ) → Type 0
UnitLonger rank rest q = (u : TimeUnit) × (left : List ℕ) × (q ≡ Some (u, left)) × (length left < length rest) × (rank ≤ rank_of u)

one_unit : (cs rest : List ℕ) (x : ℕ) → x ∷ [] ≡ upper cs → unit_at (cs ++ rest) ≡ unit_of x rest
unfolding unit_at
one_unit cs rest x e =
    let f = first_is x [] cs e in
    ap (λ l. unit_at (l ++ rest)) (f.2 ∙ ap (λ l. f.0 ∷ l) (upper_none f.1 f.4)) ∙ ap (λ z. unit_of z rest) f.3

m_shows : (rest : List ℕ) → begins_s rest ≡ false → behind_m rest ≡ (units.Minutes, rest)
unfolding begins_s
m_shows [] h = refl
m_shows (c ∷ cs) h = ap (λ b. cond {A = TimeUnit × List ℕ} b (units.Milliseconds, cs) (units.Minutes, c ∷ cs)) h

m_longer : (rest : List ℕ) → begins_s rest ≡ true → (left : List ℕ) × (behind_m rest ≡ (units.Milliseconds, left)) × (length left < length rest)
unfolding begins_s
m_longer [] h = absurd cc
m_longer (c ∷ cs) h = (cs, ap (λ b. cond {A = TimeUnit × List ℕ} b (units.Milliseconds, cs) (units.Minutes, c ∷ cs)) h, omega arith)

two_unit : (cs rest : List ℕ) → 77 ∷ 83 ∷ [] ≡ upper cs → unit_at (cs ++ rest) ≡ Some (units.Milliseconds, rest)
unfolding unit_at
two_unit cs rest e =
    let f = first_is 77 (83 ∷ []) cs e in
    let g = first_is 83 [] f.1 (sym f.4) in
    let shape : cs ≡ f.0 ∷ g.0 ∷ [] = f.2 ∙ ap (λ l. f.0 ∷ l) (g.2 ∙ ap (λ l. g.0 ∷ l) (upper_none g.1 g.4)) in
    ap (λ l. unit_at (l ++ rest)) shape ∙ ap (λ z. unit_of z (g.0 ∷ rest)) f.3
    ∙ ap (λ b. Some (cond {A = TimeUnit × List ℕ} b (units.Milliseconds, rest) (units.Minutes, g.0 ∷ rest))) (eq-eqb (to_ascii_uppercase g.0) 83 g.3)

unit_exact : {rank size : ℕ} {us : List ℕ} → IsUnit rank us size → (cs rest : List ℕ) → us ≡ upper cs → begins_s rest ≡ false → UnitIs rank size rest (unit_at (cs ++ rest))
unit_exact days cs rest e b = (units.Days, one_unit cs rest 68 e, refl, refl)
unit_exact hours cs rest e b = (units.Hours, one_unit cs rest 72 e, refl, refl)
unit_exact minutes cs rest e b = (units.Minutes, one_unit cs rest 77 e ∙ ap Some (m_shows rest b), refl, refl)
unit_exact seconds cs rest e b = (units.Seconds, one_unit cs rest 83 e, refl, refl)
unit_exact milliseconds cs rest e b = (units.Milliseconds, two_unit cs rest e, refl, refl)

unit_covers : {rank size : ℕ} {us : List ℕ} → IsUnit rank us size → (cs rest : List ℕ) → us ≡ upper cs → UnitIs rank size rest (unit_at (cs ++ rest)) ⊎ UnitLonger rank rest (unit_at (cs ++ rest))
unit_covers days cs rest e = inl (units.Days, one_unit cs rest 68 e, refl, refl)
unit_covers hours cs rest e = inl (units.Hours, one_unit cs rest 72 e, refl, refl)
unit_covers minutes cs rest e = by_next (begins_s rest) refl where
  by_next : (b : Bool) → begins_s rest ≡ b → UnitIs 2 60000 rest (unit_at (cs ++ rest)) ⊎ UnitLonger 2 rest (unit_at (cs ++ rest))
  by_next true h = let l = m_longer rest h in inr (units.Milliseconds, l.0, one_unit cs rest 77 e ∙ ap Some l.1, l.2, omega arith)
  by_next false h = inl (units.Minutes, one_unit cs rest 77 e ∙ ap Some (m_shows rest h), refl, refl)
unit_covers seconds cs rest e = inl (units.Seconds, one_unit cs rest 83 e, refl, refl)
unit_covers milliseconds cs rest e = inl (units.Milliseconds, two_unit cs rest e, refl, refl)

-- ---- amounts

abbrev AmountIs : ℕ → ℕ → List ℕ → Option (TimeUnit × ℕ × List ℕ) → Type 0
AmountIs rank n rest q = (u : TimeUnit) × (q ≡ Some (u, n, rest)) × (rank_of u ≡ rank)

abbrev AmountLonger : ℕ → List ℕ → Option (TimeUnit × ℕ × List ℕ) → Type 0
AmountLonger rank rest q = (u : TimeUnit) × (v : ℕ) × (left : List ℕ) × (q ≡ Some (u, v, left)) × (length left < length rest) × (rank ≤ rank_of u)

amount_split : {rank n : ℕ} {cs : List ℕ} → (a : IsAmount rank cs n) → (rest : List ℕ) → amount_at (cs ++ rest) ≡ counted a.count (unit_at (a.unit ++ rest))
unfolding amount_at
amount_split {cs = cs} a rest =
    ap (λ l. with_unit (whole_at 10 (l ++ rest))) a.is
    ∙ ap (λ l. with_unit (whole_at 10 l)) (append_assoc a.digits a.unit rest)
    ∙ ap with_unit (whole_stop a.number (a.unit ++ rest) (unit_stops a.unit_is a.unit rest refl))

amount_exact : {rank n : ℕ} {cs : List ℕ} → (a : IsAmount rank cs n) → (rest : List ℕ) → begins_s rest ≡ false → AmountIs rank n rest (amount_at (cs ++ rest))
amount_exact a rest b =
    let x = unit_exact a.unit_is a.unit rest refl b in
    (x.0, amount_split a rest ∙ ap (counted a.count) x.1 ∙ ap (λ s. Some (x.0, a.count * s, rest)) x.3 ∙ ap (λ k. Some (x.0, k, rest)) (sym a.value), x.2)

amount_covers : {rank n : ℕ} {cs : List ℕ} → (a : IsAmount rank cs n) → (rest : List ℕ) → AmountIs rank n rest (amount_at (cs ++ rest)) ⊎ AmountLonger rank rest (amount_at (cs ++ rest))
amount_covers {rank = rank} {n = n} {cs = cs} a rest = by_unit (unit_covers a.unit_is a.unit rest refl) where
  by_unit : UnitIs rank a.size rest (unit_at (a.unit ++ rest)) ⊎ UnitLonger rank rest (unit_at (a.unit ++ rest)) → AmountIs rank n rest (amount_at (cs ++ rest)) ⊎ AmountLonger rank rest (amount_at (cs ++ rest))
  by_unit (inl x) = inl (x.0, amount_split a rest ∙ ap (counted a.count) x.1 ∙ ap (λ s. Some (x.0, a.count * s, rest)) x.3 ∙ ap (λ k. Some (x.0, k, rest)) (sym a.value), x.2)
  by_unit (inr x) = inr (x.0, _, x.1, amount_split a rest ∙ ap (counted a.count) x.2, x.3, x.4)

-- ---- parts in order

amount_head : {rank n : ℕ} {cs : List ℕ} → IsAmount rank cs n → (c : ℕ) × (ds : List ℕ) × (cs ≡ c ∷ ds) × (is_digit_in 10 c ≡ true)
amount_head {cs = cs} a = by_number a.number a.unit a.is where
  by_number : {k : ℕ} {digits : List ℕ} → IsWhole 10 digits k → (unit : List ℕ) → cs ≡ digits ++ unit → (c : ℕ) × (ds : List ℕ) × (cs ≡ c ∷ ds) × (is_digit_in 10 c ≡ true)
  by_number (whole {c = c} {cs = ds} h t) unit e = (c, ds ++ unit, e, h)

pub span_head : {least n : ℕ} {cs : List ℕ} → IsSpan least cs n → (c : ℕ) × (ds : List ℕ) × (cs ≡ c ∷ ds) × (is_digit_in 10 c ≡ true)
span_head (last_part le a) = amount_head a
span_head (more_parts {joint = j} {ds = ds} le a i t) = let h = amount_head a in (h.0, (h.1 ++ j) ++ ds, ap (λ l. (l ++ j) ++ ds) h.2, h.3)

span_long : {least n : ℕ} {cs : List ℕ} → IsSpan least cs n → 0 < length cs
span_long s = let h = span_head s in let e = ap length h.2 in omega arith

joint_less : (bytes : List ℕ) → length (behind_joint bytes) ≤ length bytes
joint_less [] = omega arith
joint_less (c ∷ cs) = by_test (c == 95) where
  by_test : (b : Bool) → length (cond b cs (c ∷ cs)) ≤ length (c ∷ cs)
  by_test true = omega arith
  by_test false = omega arith

pub span_less : (m least : ℕ) (bytes : List ℕ) (k : ℕ) (left : List ℕ) → span_at m least bytes ≡ Some (k, left) → length left < length bytes
span_less m least bytes k left e = by_read (subst (λ q. ReadsAs (IsSpan least) bytes q) e (span_sound m least bytes)) where
  by_read : ReadsAs (IsSpan least) bytes (Some (k, left)) → length left < length bytes
  by_read r = let a = span_long r.1 in let b = ap length r.2 in let d = length-append r.0 left in omega arith

from_unit : (m least : ℕ) (bytes : List ℕ) (u : TimeUnit) (v : ℕ) (rest : List ℕ) → amount_at bytes ≡ Some (u, v, rest) → least ≤ rank_of u → span_at (suc m) least bytes ≡ and_more v rest (span_at m (rank_of u + 1) (behind_joint rest))
unfolding span_at
from_unit m least bytes u v rest a le =
    ap (from_amount (span_at m) least) a ∙ ap (λ b. cond b None (and_more v rest (span_at m (rank_of u + 1) (behind_joint rest)))) (no_less (rank_of u) least le)

-- a part that is read, and perhaps more behind it
more_covers : (m r v n : ℕ) (left rest : List ℕ) → ((left ≡ rest) × (v ≡ n)) ⊎ (length left < length rest) → Covers (and_more v left (span_at m r (behind_joint left))) n rest
more_covers m r v n left rest h = by_more (span_at m r (behind_joint left)) refl h where
  by_more : (q : Option (ℕ × List ℕ)) → span_at m r (behind_joint left) ≡ q → ((left ≡ rest) × (v ≡ n)) ⊎ (length left < length rest) → Covers (and_more v left q) n rest
  by_more None e (inl p) = let l = ap length p.0 in record { found = v; left = left; is = refl; no_less = omega arith; same = λ f. p.1 }
  by_more None e (inr lt) = record { found = v; left = left; is = refl; no_less = omega arith; same = λ f. absurd (omega arith) }
  by_more (Some (k, behind)) e (inl p) =
      let l = ap length p.0 in
      let a = span_less m r (behind_joint left) k behind e in
      let b = joint_less left in
      record { found = v + k; left = behind; is = refl; no_less = omega arith; same = λ f. absurd (omega arith) }
  by_more (Some (k, behind)) e (inr lt) =
      let a = span_less m r (behind_joint left) k behind e in
      let b = joint_less left in
      record { found = v + k; left = behind; is = refl; no_less = omega arith; same = λ f. absurd (omega arith) }

along : {A : Type 0} (p q : Option (A × List ℕ)) (k : A) (rest : List ℕ) → p ≡ q → Covers q k rest → Covers p k rest
along p q k rest e c = record { found = c.found; left = c.left; is = e ∙ c.is; no_less = c.no_less; same = c.same }

joint_shows : {front : List ℕ} → IsJoint front → (c : ℕ) (cs : List ℕ) → is_digit_in 10 c ≡ true → (begins_s (front ++ c ∷ cs) ≡ false) × (behind_joint (front ++ c ∷ cs) ≡ c ∷ cs)
unfolding begins_s
joint_shows none c cs h = (digit_no_s c h, ap (λ b. cond b cs (c ∷ cs)) (digit_is_not 10 c 95 refl h)) where
  digit_no_s : (c : ℕ) → is_digit_in 10 c ≡ true → (to_ascii_uppercase c == 83) ≡ false
  digit_no_s c h = grind (arith, nat_tests)
joint_shows joint c cs h = (refl, refl)

pub span_covers : {least n : ℕ} {cs : List ℕ} → IsSpan least cs n → (m : ℕ) → 5 ≤ m + least → (rest : List ℕ) → Covers (span_at m least (cs ++ rest)) n rest
span_covers (last_part le a) zero h rest = let r = unit_rank a.unit_is in absurd (omega arith)
span_covers (more_parts le a j t) zero h rest = let r = unit_rank a.unit_is in absurd (omega arith)
span_covers (last_part {least = least} {rank = rank} {n = n} {cs = cs} le a) (suc m) h rest = by_amount (amount_covers a rest) where
  by_amount : AmountIs rank n rest (amount_at (cs ++ rest)) ⊎ AmountLonger rank rest (amount_at (cs ++ rest)) → Covers (span_at (suc m) least (cs ++ rest)) n rest
  by_amount (inl x) = along _ _ n rest (from_unit m least (cs ++ rest) x.0 n rest x.1 (omega arith)) (more_covers m (rank_of x.0 + 1) n n rest rest (inl (refl, refl)))
  by_amount (inr x) = along _ _ n rest (from_unit m least (cs ++ rest) x.0 x.1 x.2 x.3 (omega arith)) (more_covers m (rank_of x.0 + 1) x.1 n x.2 rest (inr x.4))
span_covers (more_parts {least = least} {rank = rank} {n = n} {m = k} {cs = cs} {joint = front} {ds = ds} le a j t) (suc m) h rest =
    let head = span_head t in
    let shows = joint_shows j head.0 (head.1 ++ rest) head.3 in
    let tail : front ++ (ds ++ rest) ≡ front ++ head.0 ∷ (head.1 ++ rest) = ap (λ l. front ++ (l ++ rest)) head.2 in
    let x = amount_exact a (front ++ (ds ++ rest)) (ap begins_s tail ∙ shows.0) in
    let regroup : ((cs ++ front) ++ ds) ++ rest ≡ cs ++ (front ++ (ds ++ rest)) = append_assoc (cs ++ front) ds rest ∙ append_assoc cs front (ds ++ rest) in
    let behind : behind_joint (front ++ (ds ++ rest)) ≡ ds ++ rest = ap behind_joint tail ∙ shows.1 ∙ sym (ap (λ l. l ++ rest) head.2) in
    let c = span_covers t m (omega arith) rest in
    let whole_is = ap (span_at (suc m) least) regroup ∙ from_unit m least (cs ++ (front ++ (ds ++ rest))) x.0 n (front ++ (ds ++ rest)) x.1 (omega arith)
    ∙ ap (λ r. and_more n (front ++ (ds ++ rest)) (span_at m (r + 1) (behind_joint (front ++ (ds ++ rest))))) x.2
    ∙ ap (λ l. and_more n (front ++ (ds ++ rest)) (span_at m (rank + 1) l)) behind
    ∙ ap (and_more n (front ++ (ds ++ rest))) c.is in
    record { found = n + c.found; left = c.left; is = whole_is; no_less = c.no_less; same = λ f. ap (λ z. n + z) (c.same f) }
