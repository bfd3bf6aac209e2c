-- A datagram that is longer than any message is at fault, and where it is cut the fault is the same.
use Rattle.std.proofs.Common.{◌≡◌, ℕ, zero, suc, ◌+◌, ◌-◌, ◌*◌, ◌<◌, ◌≤◌, List, [], ◌∷◌, ◌++◌, length, take, drop, get_or, Bool, true, false, refl, sym, ◌∙◌, ap, subst, arith, append_assoc}
use Rattle.std.specs.Prelude.{Option, Some, ◌==◌, nat_le, if◌then◌else◌}
use Rattle.std.proofs.Math.ListN.{get_or-append}
use Rattle.std.proofs.lemmas.List.{take-append-drop, length-take-le, length-drop, get_or-drop, drop-append-le, drop-drop}
use Rattle.std.proofs.lemmas.Bool.{leb-true}
use Rattle.fb_model.specs.Fields.{Fault, Trailing, Field, first_fault, fault_in, fields, byte, mark, version, kind, number, stamping, stamp, count, code, value, type_of, head, before_count, values_in}
use Rattle.fb_wire.proofs.Reading.{right, wrong}

-- both are at fault, in the same way
abbrev pub Same : Option Fault → Option Fault → Type 0
Same a b = (fault : Fault) × (a ≡ Some fault) × (b ≡ Some fault)

abbrev widths : List Field → ℕ
widths [] = 0
widths (f ∷ fs) = f.width + widths fs

widths_append : (fs gs : List Field) → widths (fs ++ gs) ≡ widths fs + widths gs
widths_append [] gs = omega arith
widths_append (f ∷ fs) gs = omega (arith, widths_append fs gs)

-- ---- one field

first_part : (w : ℕ) (p rest : List ℕ) → take w p ++ (drop w p ++ rest) ≡ p ++ rest
first_part w p rest = sym (append_assoc (take w p) (drop w p) rest) ∙ ap (λ q. q ++ rest) (take-append-drop w p)

past : (f : Field) (fs : List Field) (p rest : List ℕ) → f.width ≤ length p → f.is_right (take f.width p) ≡ true → first_fault (f ∷ fs) (p ++ rest) ≡ first_fault fs (drop f.width p ++ rest)
past f fs p rest l r = subst (λ q. first_fault (f ∷ fs) q ≡ first_fault fs (drop f.width p ++ rest)) (first_part f.width p rest) (right f fs (take f.width p) (drop f.width p ++ rest) (length-take-le f.width p l) r)

past_cut : (f : Field) (fs : List Field) (p : List ℕ) → f.width ≤ length p → f.is_right (take f.width p) ≡ true → first_fault (f ∷ fs) p ≡ first_fault fs (drop f.width p)
past_cut f fs p l r = subst (λ q. first_fault (f ∷ fs) q ≡ first_fault fs (drop f.width p)) (take-append-drop f.width p) (right f fs (take f.width p) (drop f.width p) (length-take-le f.width p l) r)

at : (f : Field) (fs : List Field) (p rest : List ℕ) → f.width ≤ length p → f.is_right (take f.width p) ≡ false → first_fault (f ∷ fs) (p ++ rest) ≡ Some f.fault
at f fs p rest l r = subst (λ q. first_fault (f ∷ fs) q ≡ Some f.fault) (first_part f.width p rest) (wrong f fs (take f.width p) (drop f.width p ++ rest) (length-take-le f.width p l) r)

at_cut : (f : Field) (fs : List Field) (p : List ℕ) → f.width ≤ length p → f.is_right (take f.width p) ≡ false → first_fault (f ∷ fs) p ≡ Some f.fault
at_cut f fs p l r = subst (λ q. first_fault (f ∷ fs) q ≡ Some f.fault) (take-append-drop f.width p) (wrong f fs (take f.width p) (drop f.width p) (length-take-le f.width p l) r)

-- ---- fields that end before the cut

within : (fs : List Field) (p rest : List ℕ) → widths fs < length p → Same (first_fault fs (p ++ rest)) (first_fault fs p)
within [] [] rest l = absurd (omega (arith, l))
within [] (b ∷ bs) rest l = (Trailing, refl, refl)
within (f ∷ fs) p rest l = go (within fs (drop f.width p) rest (omega (arith, l, length-drop f.width p))) (f.is_right (take f.width p)) refl
  where
    here : f.width ≤ length p
    here = omega (arith, l)

    go : Same (first_fault fs (drop f.width p ++ rest)) (first_fault fs (drop f.width p)) → (t : Bool) → f.is_right (take f.width p) ≡ t → Same (first_fault (f ∷ fs) (p ++ rest)) (first_fault (f ∷ fs) p)
    go h true r = (h.0, past f fs p rest here r ∙ h.1, past_cut f fs p here r ∙ h.2)
    go h false r = (f.fault, at f fs p rest here r, at_cut f fs p here r)

-- a field that is not right, behind others: what comes behind it does not count
stopped : (fs : List Field) (f : Field) (gs hs : List Field) (p rest : List ℕ) → widths fs + f.width ≤ length p → f.is_right (take f.width (drop (widths fs) p)) ≡ false → Same (first_fault (fs ++ f ∷ gs) (p ++ rest)) (first_fault (fs ++ f ∷ hs) p)
stopped [] f gs hs p rest l r = (f.fault, at f gs p rest (omega (arith, l)) r, at_cut f hs p (omega (arith, l)) r)
stopped (x ∷ xs) f gs hs p rest l r =
    go
    (stopped xs f gs hs (drop x.width p) rest (omega (arith, l, length-drop x.width p)) (ap (λ q. f.is_right (take f.width q)) (drop-drop (widths xs) x.width p) ∙ r))
    (x.is_right (take x.width p)) refl
  where
    here : x.width ≤ length p
    here = omega (arith, l)

    go : Same (first_fault (xs ++ f ∷ gs) (drop x.width p ++ rest)) (first_fault (xs ++ f ∷ hs) (drop x.width p)) → (t : Bool) → x.is_right (take x.width p) ≡ t → Same (first_fault (x ∷ xs ++ f ∷ gs) (p ++ rest)) (first_fault (x ∷ xs ++ f ∷ hs) p)
    go h true s = (h.0, past x (xs ++ f ∷ gs) p rest here s ∙ h.1, past_cut x (xs ++ f ∷ hs) p here s ∙ h.2)
    go h false s = (x.fault, at x (xs ++ f ∷ gs) p rest here s, at_cut x (xs ++ f ∷ hs) p here s)

-- ---- the fields of a datagram

byte_here : (p rest : List ℕ) (k : ℕ) → k < length p → byte (p ++ rest) k ≡ byte p k
byte_here p rest k l = get_or-append p rest 0 k l

byte_taken : (q : List ℕ) → byte (take 1 q) 0 ≡ byte q 0
byte_taken [] = refl
byte_taken (b ∷ bs) = refl

values_here : (n : ℕ) (p rest : List ℕ) → 9 * n ≤ length p → values_in n (p ++ rest) ≡ values_in n p
values_here zero p rest l = refl
values_here (suc n) p rest l =
    ap (λ b. code ∷ value (type_of b) ∷ values_in n (drop 9 (p ++ rest))) (byte_here p rest 0 (omega (arith, l)))
    ∙ ap (λ vs. code ∷ value (type_of (byte p 0)) ∷ vs) (ap (values_in n) (drop-append-le 9 p rest (omega (arith, l))) ∙ values_here n (drop 9 p) rest (omega (arith, l, length-drop 9 p)))

values_wide : (n : ℕ) (p : List ℕ) → widths (values_in n p) ≡ 9 * n
values_wide zero p = omega arith
values_wide (suc n) p = omega (arith, values_wide n (drop 9 p))

-- the fields before the count
abbrev start : ℕ → List Field
start v = mark ∷ version ∷ kind v ∷ number ∷ stamp v

starts : (v : ℕ) (vs : List Field) → head v ++ vs ≡ start v ++ count ∷ vs
starts v vs = append_assoc (start v) (count ∷ []) vs

start_wide : (v : ℕ) → (widths (start v) ≡ before_count v) × (before_count v ≤ 14)
start_wide v = go (v == 2)
  where
    go : (t : Bool) → (widths (mark ∷ version ∷ kind v ∷ number ∷ (if t then stamping ∷ stamping ∷ [] else [])) ≡ (if t then 14 else 6)) × ((if t then 14 else 6) ≤ 14)
    go true = (omega arith, omega arith)
    go false = (omega arith, omega arith)

-- so it is where the cut stands behind 159 bytes or more, since no message is longer
pub long_at_fault : (p rest : List ℕ) → 160 ≤ length p → Same (fault_in (p ++ rest)) (fault_in p)
long_at_fault p rest l =
    subst (λ w. Same (first_fault (head w ++ values_in (byte (p ++ rest) (before_count w)) (drop (before_count w + 1) (p ++ rest))) (p ++ rest)) (fault_in p)) (sym (byte_here p rest 2 (omega (arith, l))))
    (subst (λ c. Same (first_fault (head v ++ values_in c (drop (before_count v + 1) (p ++ rest))) (p ++ rest)) (fault_in p)) (sym (byte_here p rest (before_count v) (omega (arith, l, w.1))))
    (go (nat_le many 16) refl))
  where
    v : ℕ
    v = byte p 2

    w : (widths (start v) ≡ before_count v) × (before_count v ≤ 14)
    w = start_wide v

    many : ℕ
    many = byte p (before_count v)

    go : (t : Bool) → nat_le many 16 ≡ t → Same (first_fault (head v ++ values_in many (drop (before_count v + 1) (p ++ rest))) (p ++ rest)) (fault_in p)
    go true few =
        let at_most : many ≤ 16 = leb-true many 16 few in
        let left = length-drop (before_count v + 1) p in
        let same : values_in many (drop (before_count v + 1) (p ++ rest)) ≡ values_in many (drop (before_count v + 1) p) =
        ap (values_in many) (drop-append-le (before_count v + 1) p rest (omega (arith, l, w.1))) ∙ values_here many (drop (before_count v + 1) p) rest (omega (arith, left, at_most, l, w.1)) in
        let wide : widths (head v ++ values_in many (drop (before_count v + 1) p)) < length p =
        (let a = ap widths (starts v (values_in many (drop (before_count v + 1) p))) in
        let b = widths_append (start v) (count ∷ values_in many (drop (before_count v + 1) p)) in
        omega (arith, a, b, values_wide many (drop (before_count v + 1) p), w.0, w.1, at_most, l)) in
        subst (λ vs. Same (first_fault (head v ++ vs) (p ++ rest)) (fault_in p)) (sym same) (within (head v ++ values_in many (drop (before_count v + 1) p)) p rest wide)
    go false above =
        let wrong_count : nat_le (byte (take 1 (drop (widths (start v)) p)) 0) 16 ≡ false =
        ap (λ b. nat_le b 16) (byte_taken (drop (widths (start v)) p) ∙ get_or-drop (widths (start v)) p 0 0 ∙ ap (λ k. get_or p k 0) (omega (arith, w.0))) ∙ above in
        let h = stopped (start v) count (values_in many (drop (before_count v + 1) (p ++ rest))) (values_in many (drop (before_count v + 1) p)) p rest (omega (arith, w.0, w.1, l)) wrong_count in (
          h.0,
          ap (λ fs. first_fault fs (p ++ rest)) (starts v (values_in many (drop (before_count v + 1) (p ++ rest)))) ∙ h.1,
          ap (λ fs. first_fault fs p) (starts v (values_in many (drop (before_count v + 1) p))) ∙ h.2,
        )
