-- Bytes spell one message at most, and no message's bytes begin those of another.
use Rattle.std.proofs.Common.{ℕ, ℤ, pos, negsuc, Bool, true, false, ◌≡◌, ◌<◌, ◌≤ℤ◌, ◌^◌, ◌/◌, ◌%◌, ◌&&◌, ◌++◌, List, [], ◌∷◌, length, take, drop, None, Some, Option, div-one, refl, sym, ◌∙◌, ap, arith}
use Rattle.std.specs.Prelude.{unsigned_abs, int_le, FitsSigned}
use Rattle.std.specs.List.{AllByRecursion}
use Rattle.std.specs.Int.{w64, cast_signed, cast_unsigned, to_be_bytes, int_rem_euclid}
use Rattle.std.proofs.Math.Nat.{mod-eq_of_lt}
use Rattle.std.proofs.Math.Facts.{Fits-of_z}
use Rattle.std.proofs.lemmas.Int.{ints, to_z-of_z}
use Rattle.std.proofs.lemmas.Nat.{from_be_bytes-to_be_bytes_8}
use Rattle.std.proofs.lemmas.List.{append_assoc}
use Rattle.fb_words.specs.declared.elem_type.ElemType.{ElemType}
use Rattle.fb_words.specs.declared.elem_type.ElemType.TheVariants as t
use Rattle.fb_words.specs.Numbers.{in_type, lowest, highest}
use Rattle.fb_words.proofs.Types.{bounded, le_is}
use Rattle.fb_model.specs.Messages.{Message, Typed, Purpose, To_channel, To_input, Stamp, IsStamp, IsStamped, Spells, spelling, version, code, fields, purpose_code, stamp_bytes, big_endian}
use Rattle.fb_model.specs.Fields.{byte, type_of, number_in}

-- ---- a value

-- the type of a code, and the code of a type
pub type_of_code : (e : ElemType) → type_of (code e) ≡ Some e
type_of_code t.Bool = refl
type_of_code t.Sint = refl
type_of_code t.Int = refl
type_of_code t.Dint = refl
type_of_code t.Lint = refl
type_of_code t.Usint = refl
type_of_code t.Uint = refl
type_of_code t.Udint = refl
type_of_code t.Time = refl

-- a value in its type has 64 bits
pub in_64 : (e : ElemType) (x : ℤ) → in_type e x ≡ true → FitsSigned w64 x
in_64 e x h = go (int_le (lowest e) x) (int_le x (highest e)) refl refl h
  where
    fits : (x : ℤ) → lowest e ≤ℤ x → x ≤ℤ highest e → FitsSigned w64 x
    fits (pos a) l m = (let b = bounded e in record { sfits = omega (arith, ints) })
    fits (negsuc a) l m = (let b = bounded e in record { sfits = omega (arith, ints) })

    go : (a b : Bool) → int_le (lowest e) x ≡ a → int_le x (highest e) ≡ b → (a && b) ≡ true → FitsSigned w64 x
    go true true l m k = fits x (le_is (lowest e) x l) (le_is x (highest e) m)
    go true false l m k = cc
    go false b l m k = cc

-- a number of 64 bits, written and read again
pub read_again : (x : ℤ) → FitsSigned w64 x → number_in (to_be_bytes w64 (cast_unsigned w64 x)) ≡ x
read_again x f = ap (cast_signed w64) (from_be_bytes-to_be_bytes_8 (cast_unsigned w64 x) (omega (arith, Fits-of_z f))) ∙ to_z-of_z w64 x f

-- its bits are its remainder
bits_of : (x : ℤ) → FitsSigned w64 x → cast_unsigned w64 x ≡ unsigned_abs (int_rem_euclid x (pos (2 ^ 64)))
bits_of (pos a) f = (let b = f.sfits in sym (mod-eq_of_lt (omega arith)))
bits_of (negsuc a) f = (let b = f.sfits in let m : a % 2 ^ 64 ≡ a = mod-eq_of_lt (omega arith) in omega arith)

last_byte : (u : ℕ) → u / 2 ^ 0 % 256 ≡ u % 256
last_byte u = ap (λ k. k % 256) (div-one u)

-- the eight bytes of a value in a message
abbrev pub eight : ℤ → List ℕ
eight x = big_endian 8 (unsigned_abs (int_rem_euclid x (pos (2 ^ 64))))

-- they are those of its bits
pub eight_bytes : (x : ℤ) → FitsSigned w64 x → eight x ≡ to_be_bytes w64 (cast_unsigned w64 x)
eight_bytes x f =
    let u = cast_unsigned w64 x in
    ap (big_endian 8) (sym (bits_of x f))
    ∙ ap (λ (b : ℕ). u / 2 ^ 56 % 256 ∷ u / 2 ^ 48 % 256 ∷ u / 2 ^ 40 % 256 ∷ u / 2 ^ 32 % 256 ∷ u / 2 ^ 24 % 256 ∷ u / 2 ^ 16 % 256 ∷ u / 2 ^ 8 % 256 ∷ b ∷ []) (last_byte u)

eight_again : (x : ℤ) → FitsSigned w64 x → number_in (eight x) ≡ x
eight_again x f = ap number_in (eight_bytes x f) ∙ read_again x f

-- ---- one of each

same_type : (e d : ElemType) → code e ≡ code d → e ≡ d
same_type e d h = some_same (sym (type_of_code e) ∙ ap type_of h ∙ type_of_code d)
  where
    some_same : Some e ≡ Some d → e ≡ d
    some_same k = cc

same_purpose : (p q : Purpose) → purpose_code p ≡ purpose_code q → p ≡ q
same_purpose To_channel To_channel h = refl
same_purpose To_input To_input h = refl
same_purpose To_channel To_input h = cc
same_purpose To_input To_channel h = cc

-- four bytes are of one number
same_part : (a b : ℕ) → a < 2 ^ 32 → b < 2 ^ 32 → big_endian 4 a ≡ big_endian 4 b → a ≡ b
same_part a b f g h = omega (arith, f, g, ap (λ bs. byte bs 0) h, ap (λ bs. byte bs 1) h, ap (λ bs. byte bs 2) h, ap (λ bs. byte bs 3) h)

is_stamp : (p : Purpose) (s : Stamp) → IsStamped p (Some s) → IsStamp s
is_stamp To_channel s h = h
is_stamp To_input s h = absurd h

-- a stamp of a version, and what follows it
same_stamp : (p q : Purpose) (s t : Option Stamp) (xs ys : List ℕ) → IsStamped p s → IsStamped q t → version s ≡ version t → stamp_bytes s ++ xs ≡ stamp_bytes t ++ ys → (s ≡ t) × (xs ≡ ys)
same_stamp p q None None xs ys f g v h = (refl, h)
same_stamp p q None (Some t) xs ys f g v h = absurd (omega (arith, v))
same_stamp p q (Some s) None xs ys f g v h = absurd (omega (arith, v))
same_stamp p q (Some s) (Some t) xs ys f g v h =
    let a = is_stamp p s f in
    let b = is_stamp q t g in
    let boot = same_part s.boot t.boot a.boot b.boot (ap (take 4) h) in
    let sequence = same_part s.sequence t.sequence a.sequence b.sequence (ap (λ bs. take 4 (drop 4 bs)) h) in
    (ap (λ k. Some (record { boot = k; sequence = s.sequence })) boot ∙ ap (λ k. Some (record { boot = t.boot; sequence = k })) sequence, ap (drop 8) h)

same_value : (v u : Typed) (vs us : List ℕ) → FitsSigned w64 v.value → FitsSigned w64 u.value → code v.type ∷ eight v.value ++ vs ≡ code u.type ∷ eight u.value ++ us → v ≡ u
same_value v u vs us f g h =
    ap (λ e. record { type = e; value = v.value }) (same_type v.type u.type (ap (λ bs. byte bs 0) h))
    ∙ ap (λ x. record { type = u.type; value = x }) (sym (eight_again v.value f) ∙ ap (λ bs. number_in (take 8 (drop 1 bs))) h ∙ eight_again u.value g)

-- each value is in its type
abbrev AreTyped : List Typed → Type 0
AreTyped vs = AllByRecursion (λ (v : Typed). in_type v.type v.value ≡ true) vs

-- as many values, one after another
same_values : (vs us : List Typed) (more : List ℕ) → AreTyped vs → AreTyped us → length vs ≡ length us → fields vs ++ more ≡ fields us → (vs ≡ us) × (more ≡ [])
same_values [] [] more f g l h = (refl, h)
same_values [] (u ∷ us) more f g l h = absurd (omega (arith, l))
same_values (v ∷ vs) [] more f g l h = absurd (omega (arith, l))
same_values (v ∷ vs) (u ∷ us) more f g l h =
    let first : v ≡ u = same_value v u (fields vs ++ more) (fields us) (in_64 v.type v.value f.0) (in_64 u.type u.value g.0) h in
    let rest = same_values vs us more f.1 g.1 (omega (arith, l)) (ap (drop 9) h) in
    (ap (λ w. w ∷ vs) first ∙ ap (λ ws. u ∷ ws) rest.0, rest.1)

-- ---- whole messages

pub begins_no_other : (m n : Message) (bytes more : List ℕ) → Spells m bytes → Spells n (bytes ++ more) → (m ≡ n) × (more ≡ [])
begins_no_other m n bytes more s t =
    let whole : spelling m ++ more ≡ spelling n = ap (λ (bs : List ℕ). bs ++ more) (sym s.bytes_are) ∙ t.bytes_are in
    let high : m.number / 256 ≡ n.number / 256 = ap (λ bs. byte bs 4) whole in
    let low : m.number % 256 ≡ n.number % 256 = ap (λ bs. byte bs 5) whole in
    let number : m.number ≡ n.number = omega (arith, high, low) in
    let purpose = same_purpose m.purpose n.purpose (ap (λ bs. byte bs 3) whole) in
    let behind = sym (append_assoc (stamp_bytes m.stamp) (length m.values ∷ fields m.values) more) ∙ ap (drop 6) whole in
    let stamps = same_stamp m.purpose n.purpose m.stamp n.stamp (length m.values ∷ fields m.values ++ more) (length n.values ∷ fields n.values) s.stamp t.stamp (ap (λ bs. byte bs 2) whole) behind in
    let values = same_values m.values n.values more s.values t.values (ap (λ bs. byte bs 0) stamps.1) (ap (drop 1) stamps.1) in (
      ap (λ p. record { purpose = p; number = m.number; stamp = m.stamp; values = m.values }) purpose
          ∙ ap (λ k. record { purpose = n.purpose; number = k; stamp = m.stamp; values = m.values }) number
          ∙ ap (λ z. record { purpose = n.purpose; number = n.number; stamp = z; values = m.values }) stamps.0
          ∙ ap (λ vs. record { purpose = n.purpose; number = n.number; stamp = n.stamp; values = vs }) values.0,
      values.1,
    )
