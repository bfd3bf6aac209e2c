-- Fields that are right, that are not, and that are not whole.
use Rattle.std.proofs.Common.{ℕ, suc, ◌≡◌, ◌<◌, ◌≤◌, ◌++◌, ◌/◌, ◌%◌, Bool, true, false, List, [], ◌∷◌, length, take, drop, None, Some, Option, refl, sym, ◌∙◌, ap, subst, arith}
use Rattle.std.specs.Prelude.{nat_lt, ℤ, slice_index_or, ◌^◌, FitsSigned}
use Rattle.std.specs.Int.{w64, cast_unsigned, from_be_bytes, to_be_bytes}
use Rattle.std.proofs.lemmas.Bool.{cond-true, cond-false, le-ltb, le-leb}
use Rattle.std.proofs.lemmas.List.{length-append}
use Rattle.std.proofs.lemmas.Int.{of_z-to_z}
use Rattle.std.proofs.lemmas.Nat.{be_bytes_8}
use Rattle.std.proofs.Math.Seq.{take-append_seam, drop-append_seam}
use Rattle.fb_words.specs.declared.elem_type.ElemType.{ElemType}
use Rattle.fb_words.specs.Numbers.{in_type}
use Rattle.fb_wire.specs.declared.message.Typed.{Typed}
use Rattle.fb_model.specs.Fields.{Value, Field, first_fault, fault_in, type_of, is_in, is_type, number_in, mark, version, kind, number, stamping, count, code, value, values_in}
use Rattle.fb_model_texts.proofs.Messages.{type_of_code, read_again}
use Rattle.fb_wire.specs.Views.{code_of, value_bytes, head_bytes}
use Rattle.fb_model.specs.Messages.{Message, Purpose, To_channel, To_input, Stamp, IsStamped, purpose_code, big_endian}

taken : (p rest : List ℕ) (n : ℕ) → length p ≡ n → take n (p ++ rest) ≡ p
taken p rest n h = subst (λ k. take k (p ++ rest) ≡ p) h (take-append_seam p rest)

left : (p rest : List ℕ) (n : ℕ) → length p ≡ n → drop n (p ++ rest) ≡ rest
left p rest n h = subst (λ k. drop k (p ++ rest) ≡ rest) h (drop-append_seam p rest)

long : (p rest : List ℕ) (n : ℕ) → length p ≡ n → nat_lt (length (p ++ rest)) n ≡ false
long p rest n h = le-ltb (length (p ++ rest)) n (omega (arith, h, length-append p rest))

-- a field that is whole and right
pub right : (f : Field) (fs : List Field) (p rest : List ℕ) → length p ≡ f.width → f.is_right p ≡ true → first_fault (f ∷ fs) (p ++ rest) ≡ first_fault fs rest
right f fs p rest h r =
    cond-false (nat_lt (length (p ++ rest)) f.width) _ _ (long p rest f.width h)
    ∙ cond-true (f.is_right (take f.width (p ++ rest))) _ _ (ap f.is_right (taken p rest f.width h) ∙ r)
    ∙ ap (first_fault fs) (left p rest f.width h)

-- a field that is whole and not right
pub wrong : (f : Field) (fs : List Field) (p rest : List ℕ) → length p ≡ f.width → f.is_right p ≡ false → first_fault (f ∷ fs) (p ++ rest) ≡ Some f.fault
wrong f fs p rest h r =
    cond-false (nat_lt (length (p ++ rest)) f.width) _ _ (long p rest f.width h)
    ∙ cond-false (f.is_right (take f.width (p ++ rest))) _ _ (ap f.is_right (taken p rest f.width h) ∙ r)

-- eight bytes, read and written again
below : (bs : List ℕ) → ((i : ℕ) → slice_index_or bs i 0 < 256) → from_be_bytes w64 bs < 2 ^ 64
below bs h = omega (arith, h 0, h 1, h 2, h 3, h 4, h 5, h 6, h 7)

pub written_again : (bs : List ℕ) (x : ℤ) → length bs ≡ 8 → ((i : ℕ) → slice_index_or bs i 0 < 256) → x ≡ number_in bs → to_be_bytes w64 (cast_unsigned w64 x) ≡ bs
written_again bs x l h e =
    let n : cast_unsigned w64 x ≡ from_be_bytes w64 bs = ap (cast_unsigned w64) e ∙ of_z-to_z w64 (from_be_bytes w64 bs) (below bs h) in
    be_bytes_8 bs (cast_unsigned w64 x) l h n

-- a value that is whole and in its type, and one that is not in its type
module _ (e : ElemType) (x : ℤ) (n : ℕ) (rest : List ℕ) (f : FitsSigned w64 x) where
  abbrev typed : Typed
  typed = record { elem = e; value = x }

  in_its_type : (b : Bool) → in_type e x ≡ b → is_in (type_of (code_of e)) (number_in (to_be_bytes w64 (cast_unsigned w64 x))) ≡ b
  in_its_type b h = ap (λ o. is_in o (number_in (to_be_bytes w64 (cast_unsigned w64 x)))) (type_of_code e) ∙ ap (in_type e) (read_again x f) ∙ h

  coded : first_fault (values_in (suc n) (value_bytes typed ++ rest)) (value_bytes typed ++ rest) ≡ first_fault (value (type_of (code_of e)) ∷ values_in n rest) (to_be_bytes w64 (cast_unsigned w64 x) ++ rest)
  coded = right code (value (type_of (code_of e)) ∷ values_in n rest) (code_of e ∷ []) (to_be_bytes w64 (cast_unsigned w64 x) ++ rest) refl (ap is_type (type_of_code e))

  pub value_right : in_type e x ≡ true → first_fault (values_in (suc n) (value_bytes (record { elem = e; value = x }) ++ rest)) (value_bytes (record { elem = e; value = x }) ++ rest) ≡ first_fault (values_in n rest) rest
  value_right h = coded ∙ right (value (type_of (code_of e))) (values_in n rest) (to_be_bytes w64 (cast_unsigned w64 x)) rest refl (in_its_type true h)

  pub value_wrong : in_type e x ≡ false → first_fault (values_in (suc n) (value_bytes (record { elem = e; value = x }) ++ rest)) (value_bytes (record { elem = e; value = x }) ++ rest) ≡ Some Value
  value_wrong h = coded ∙ wrong (value (type_of (code_of e))) (values_in n rest) (to_be_bytes w64 (cast_unsigned w64 x)) rest refl (in_its_type false h)

-- a value is spelled by the code of its type and eight bytes
pub spelled : (bytes code after value rest : List ℕ) (e : ElemType) (x : ℤ) → length code ≡ 1 → bytes ≡ code ++ after → code_of e ≡ slice_index_or code 0 0 → after ≡ value ++ rest → to_be_bytes w64 (cast_unsigned w64 x) ≡ value
    → bytes ≡ value_bytes (record { elem = e; value = x }) ++ rest
spelled bytes [] after value rest e x l b c a v = absurd (omega (arith, l))
spelled bytes (k ∷ []) after value rest e x l b c a v = b ∙ ap (λ d. d ∷ after) (sym c) ∙ ap (λ vs. code_of e ∷ vs) (a ∙ ap (λ vs. vs ++ rest) (sym v))
spelled bytes (k ∷ j ∷ ks) after value rest e x l b c a v = absurd (omega (arith, l))

-- nothing is at fault with what stands before the values
pub head_right : (m : Message) (c : ℕ) (rest : List ℕ) → IsStamped m.purpose m.stamp → c ≤ 16 → fault_in (head_bytes m c ++ rest) ≡ first_fault (values_in c rest) rest
head_right m c rest stamped few = go m.purpose m.stamp stamped
  where
    known : (p : Purpose) → (kind 1).is_right (purpose_code p ∷ []) ≡ true
    known To_channel = refl
    known To_input = refl

    high : ℕ
    high = m.number / 256

    low : ℕ
    low = m.number % 256

    fs : List Field
    fs = values_in c rest

    go : (p : Purpose) (s : Option Stamp) → IsStamped p s → fault_in (head_bytes (record { purpose = p; number = m.number; stamp = s; values = m.values }) c ++ rest) ≡ first_fault (values_in c rest) rest
    go p None h =
        right mark (version ∷ kind 1 ∷ number ∷ count ∷ fs) (70 ∷ 66 ∷ []) (1 ∷ purpose_code p ∷ high ∷ low ∷ c ∷ rest) refl refl
        ∙ right version (kind 1 ∷ number ∷ count ∷ fs) (1 ∷ []) (purpose_code p ∷ high ∷ low ∷ c ∷ rest) refl refl
        ∙ right (kind 1) (number ∷ count ∷ fs) (purpose_code p ∷ []) (high ∷ low ∷ c ∷ rest) refl (known p)
        ∙ right number (count ∷ fs) (high ∷ low ∷ []) (c ∷ rest) refl refl
        ∙ right count fs (c ∷ []) rest refl (le-leb c 16 few)
    go To_channel (Some s) h =
        let boot = big_endian 4 s.boot in
        let sequence = big_endian 4 s.sequence in
        right mark (version ∷ kind 2 ∷ number ∷ stamping ∷ stamping ∷ count ∷ fs) (70 ∷ 66 ∷ []) (2 ∷ 1 ∷ high ∷ low ∷ boot ++ sequence ++ c ∷ rest) refl refl
        ∙ right version (kind 2 ∷ number ∷ stamping ∷ stamping ∷ count ∷ fs) (2 ∷ []) (1 ∷ high ∷ low ∷ boot ++ sequence ++ c ∷ rest) refl refl
        ∙ right (kind 2) (number ∷ stamping ∷ stamping ∷ count ∷ fs) (1 ∷ []) (high ∷ low ∷ boot ++ sequence ++ c ∷ rest) refl refl
        ∙ right number (stamping ∷ stamping ∷ count ∷ fs) (high ∷ low ∷ []) (boot ++ sequence ++ c ∷ rest) refl refl
        ∙ right stamping (stamping ∷ count ∷ fs) boot (sequence ++ c ∷ rest) refl refl
        ∙ right stamping (count ∷ fs) sequence (c ∷ rest) refl refl
        ∙ right count fs (c ∷ []) rest refl (le-leb c 16 few)
    go To_input (Some s) h = absurd h
