-- Nothing is at fault with bytes that spell a message.
use Rattle.std.proofs.Common.{◌≡◌, ℕ, suc, ◌≤◌, ◌++◌, ◌/◌, ◌%◌, ℤ, true, false, List, [], ◌∷◌, length, take, drop, Option, None, Some, nat_lt, refl, sym, ◌∙◌, ap, subst, arith}
use Rattle.std.specs.List.{AllByRecursion}
use Rattle.std.proofs.lemmas.Bool.{cond-true, cond-false, le-ltb, le-leb}
use Rattle.std.proofs.lemmas.List.{length-append}
use Rattle.std.proofs.Math.Seq.{take-append_seam, drop-append_seam}
use Rattle.fb_words.specs.declared.elem_type.ElemType.{ElemType}
use Rattle.fb_words.specs.Numbers.{in_type}
use Rattle.fb_model.specs.Fields.{Fault, Field, first_fault, fault_in, type_of, is_in, is_type, number_in, mark, version, kind, number, stamping, count, code, value, values_in}
use Rattle.fb_model.specs.Messages as book
use Rattle.fb_model.specs.Messages.{Message, Typed, Purpose, To_channel, To_input, Stamp, IsStamped, Spells, spelling, purpose_code, big_endian, fields}
use Rattle.fb_model_texts.proofs.Messages.{type_of_code, in_64, eight, eight_bytes, read_again}

taken : (p rest : List ℕ) (n : ℕ) → length p ≡ n → take n (p ++ rest) ≡ p
taken p rest n h = subst (λ k. take k (p ++ rest) ≡ p) h (take-append_seam p rest)

left : (p rest : List ℕ) (n : ℕ) → length p ≡ n → drop n (p ++ rest) ≡ rest
left p rest n h = subst (λ k. drop k (p ++ rest) ≡ rest) h (drop-append_seam p rest)

long : (p rest : List ℕ) (n : ℕ) → length p ≡ n → nat_lt (length (p ++ rest)) n ≡ false
long p rest n h = le-ltb (length (p ++ rest)) n (omega (arith, h, length-append p rest))

-- a field that is whole and right
right : (f : Field) (fs : List Field) (p rest : List ℕ) → length p ≡ f.width → f.is_right p ≡ true → first_fault (f ∷ fs) (p ++ rest) ≡ first_fault fs rest
right f fs p rest h r =
    cond-false (nat_lt (length (p ++ rest)) f.width) _ _ (long p rest f.width h)
    ∙ cond-true (f.is_right (take f.width (p ++ rest))) _ _ (ap f.is_right (taken p rest f.width h) ∙ r)
    ∙ ap (first_fault fs) (left p rest f.width h)

-- a value in its type
value_right : (e : ElemType) (x : ℤ) (n : ℕ) (rest : List ℕ) → in_type e x ≡ true → first_fault (values_in (suc n) (book.code e ∷ eight x ++ rest)) (book.code e ∷ eight x ++ rest) ≡ first_fault (values_in n rest) rest
value_right e x n rest h =
    let known : type_of (book.code e) ≡ Some e = type_of_code e in
    let again : number_in (eight x) ≡ x = ap number_in (eight_bytes x (in_64 e x h)) ∙ read_again x (in_64 e x h) in
    right code (value (type_of (book.code e)) ∷ values_in n rest) (book.code e ∷ []) (eight x ++ rest) refl (ap is_type known)
    ∙ right (value (type_of (book.code e))) (values_in n rest) (eight x) rest refl (ap (λ o. is_in o (number_in (eight x))) known ∙ ap (in_type e) again ∙ h)

values_right : (vs : List Typed) → AllByRecursion (λ (v : Typed). in_type v.type v.value ≡ true) vs → first_fault (values_in (length vs) (fields vs)) (fields vs) ≡ None
values_right [] h = refl
values_right (v ∷ vs) h = value_right v.type v.value (length vs) (fields vs) h.0 ∙ values_right vs h.1

-- what stands before the values
head_right : (m : Message) → IsStamped m.purpose m.stamp → length m.values ≤ 16 → fault_in (spelling m) ≡ first_fault (values_in (length m.values) (fields m.values)) (fields m.values)
head_right m stamped few = go m.purpose m.stamp stamped
  where
    known : (p : Purpose) → (kind 1).is_right (purpose_code p ∷ []) ≡ true
    known To_channel = refl
    known To_input = refl

    high : ℕ
    high = m.number / 256

    low : ℕ
    low = m.number % 256

    many : ℕ
    many = length m.values

    rest : List ℕ
    rest = fields m.values

    fs : List Field
    fs = values_in many rest

    go : (p : Purpose) (s : Option Stamp) → IsStamped p s → fault_in (spelling (record { purpose = p; number = m.number; stamp = s; values = m.values })) ≡ first_fault (values_in (length m.values) (fields m.values)) (fields m.values)
    go p None h =
        right mark (version ∷ kind 1 ∷ number ∷ count ∷ fs) (70 ∷ 66 ∷ []) (1 ∷ purpose_code p ∷ high ∷ low ∷ many ∷ rest) refl refl
        ∙ right version (kind 1 ∷ number ∷ count ∷ fs) (1 ∷ []) (purpose_code p ∷ high ∷ low ∷ many ∷ rest) refl refl
        ∙ right (kind 1) (number ∷ count ∷ fs) (purpose_code p ∷ []) (high ∷ low ∷ many ∷ rest) refl (known p)
        ∙ right number (count ∷ fs) (high ∷ low ∷ []) (many ∷ rest) refl refl
        ∙ right count fs (many ∷ []) rest refl (le-leb many 16 few)
    go To_channel (Some s) h =
        let boot = big_endian 4 s.boot in
        let sequence = big_endian 4 s.sequence in
        right mark (version ∷ kind 2 ∷ number ∷ stamping ∷ stamping ∷ count ∷ fs) (70 ∷ 66 ∷ []) (2 ∷ 1 ∷ high ∷ low ∷ boot ++ sequence ++ many ∷ rest) refl refl
        ∙ right version (kind 2 ∷ number ∷ stamping ∷ stamping ∷ count ∷ fs) (2 ∷ []) (1 ∷ high ∷ low ∷ boot ++ sequence ++ many ∷ rest) refl refl
        ∙ right (kind 2) (number ∷ stamping ∷ stamping ∷ count ∷ fs) (1 ∷ []) (high ∷ low ∷ boot ++ sequence ++ many ∷ rest) refl refl
        ∙ right number (stamping ∷ stamping ∷ count ∷ fs) (high ∷ low ∷ []) (boot ++ sequence ++ many ∷ rest) refl refl
        ∙ right stamping (stamping ∷ count ∷ fs) boot (sequence ++ many ∷ rest) refl refl
        ∙ right stamping (count ∷ fs) sequence (many ∷ rest) refl refl
        ∙ right count fs (many ∷ []) rest refl (le-leb many 16 few)
    go To_input (Some s) h = absurd h

spells_rightly : (m : Message) (bytes : List ℕ) → Spells m bytes → fault_in bytes ≡ None
spells_rightly m bytes s = ap fault_in s.bytes_are ∙ head_right m s.stamp s.count ∙ values_right m.values s.values

-- so bytes with a fault spell none
pub faulty_spells_none : (m : Message) (bytes : List ℕ) (fault : Fault) → fault_in bytes ≡ Some fault → Spells m bytes → ⊥
faulty_spells_none m bytes fault h s = (let e = sym (spells_rightly m bytes s) ∙ h in cc)
