-- Bytes that are not at fault spell a message.
use Rattle.std.proofs.Common.{◌≡◌, ℕ, zero, suc, ◌+◌, ◌*◌, ◌/◌, ◌%◌, ◌<◌, ◌≤◌, ◌^◌, ◌++◌, ◌==◌, ◌&&◌, ◌||◌, ◌⊎◌, inl, inr, Bool, true, false, cond, List, [], ◌∷◌, length, take, drop, take-append-drop, length-take-le, Option, None, Some, nat_lt, slice_index_or, refl, sym, ◌∙◌, ap, subst, arith, eqb-true, ltb-false, leb-true}
use Rattle.std.specs.List.{AllByRecursion}
use Rattle.std.specs.Int.{w64, cast_unsigned, from_be_bytes}
use Rattle.std.proofs.lemmas.Int.{of_z-to_z}
use Rattle.std.proofs.lemmas.Nat.{be_bytes_8}
use Rattle.fb_words.specs.declared.elem_type.ElemType.{ElemType}
use Rattle.fb_words.specs.declared.elem_type.ElemType.TheVariants as t
use Rattle.fb_words.specs.Numbers.{in_type}
use Rattle.fb_model.specs.Fields.{Short, before_count, Field, first_fault, fault_in, byte, type_of, is_in, is_type, number_in, mark, version, kind, number, stamping, stamp, count, code, value, values_in}
use Rattle.fb_model.specs.Messages as book
use Rattle.fb_model.specs.Messages.{Message, Typed, Purpose, To_channel, To_input, Stamp, IsStamped, Spells, spelling, purpose_code, big_endian, fields}
use Rattle.fb_model_texts.proofs.Messages.{in_64, eight, eight_bytes}
use Rattle.fb_model_replay.proofs.Truths.{and_first, and_second, either}

-- ---- a field

-- the first field is whole and right, and so are the others
record Parted (f : Field) (fs : List Field) (bs : List ℕ) : Type 0 where
  whole : f.width ≤ length bs
  right : f.is_right (take f.width bs) ≡ true
  others : first_fault fs (drop f.width bs) ≡ None

parted : (f : Field) (fs : List Field) (bs : List ℕ) → first_fault (f ∷ fs) bs ≡ None → Parted f fs bs
parted f fs bs h = go (nat_lt (length bs) f.width) (f.is_right (take f.width bs)) refl refl h
  where
    go : (a b : Bool) → nat_lt (length bs) f.width ≡ a → f.is_right (take f.width bs) ≡ b → cond a (Some Short) (cond b (first_fault fs (drop f.width bs)) (Some f.fault)) ≡ None → Parted f fs bs
    go true b l r e = cc
    go false true l r e = record { whole = ltb-false (length bs) f.width l; right = r; others = e }
    go false false l r e = cc

-- ---- bytes are below 256

abbrev pub AreBytes : List ℕ → Type 0
AreBytes bs = AllByRecursion (λ b. b < 256) bs

below : (bs : List ℕ) → AreBytes bs → (i : ℕ) → slice_index_or bs i 0 < 256
below [] h i = omega arith
below (b ∷ bs) h zero = h.0
below (b ∷ bs) h (suc i) = below bs h.1 i

taken_below : (n : ℕ) (bs : List ℕ) → AreBytes bs → AreBytes (take n bs)
taken_below zero bs h = tt
taken_below (suc n) [] h = tt
taken_below (suc n) (b ∷ bs) h = (h.0, taken_below n bs h.1)

left_below : (n : ℕ) (bs : List ℕ) → AreBytes bs → AreBytes (drop n bs)
left_below zero bs h = h
left_below (suc n) [] h = tt
left_below (suc n) (b ∷ bs) h = left_below n bs h.1

-- ---- values

-- a code is that of its type
coded_by : (b : Bool) (n k : ℕ) (e d : ElemType) (rest : Option ElemType) → (n == k) ≡ b → book.code d ≡ k → cond b (Some d) rest ≡ Some e → (rest ≡ Some e → n ≡ book.code e) → n ≡ book.code e
coded_by true n k e d rest is c h next = (let same : d ≡ e = cc in eqb-true n k is ∙ sym c ∙ ap book.code same)
coded_by false n k e d rest is c h next = next h

code_of_type : (n : ℕ) (e : ElemType) → type_of n ≡ Some e → n ≡ book.code e
code_of_type n e h =
    coded_by (n == 0) n 0 e t.Bool _ refl refl h (λ h. coded_by (n == 1) n 1 e t.Sint _ refl refl h (λ h. coded_by (n == 2) n 2 e t.Int _ refl refl h (λ h. coded_by (n == 3) n 3 e t.Dint _ refl refl h
    (λ h. coded_by (n == 4) n 4 e t.Lint _ refl refl h (λ h. coded_by (n == 5) n 5 e t.Usint _ refl refl h (λ h. coded_by (n == 6) n 6 e t.Uint _ refl refl h (λ h. coded_by (n == 7) n 7 e t.Udint _ refl refl h
    (λ h. coded_by (n == 8) n 8 e t.Time None refl refl h (λ h. cc)))))))))

some_type : (o : Option ElemType) → is_type o ≡ true → (e : ElemType) × (o ≡ Some e)
some_type None h = cc
some_type (Some e) h = (e, refl)

-- eight bytes are those of the number in them
eight_back : (e : ElemType) (p : List ℕ) → length p ≡ 8 → AreBytes p → in_type e (number_in p) ≡ true → eight (number_in p) ≡ p
eight_back e p l small h =
    let b : (i : ℕ) → slice_index_or p i 0 < 256 = below p small in
    let fits : from_be_bytes w64 p < 2 ^ 64 = omega (arith, b 0, b 1, b 2, b 3, b 4, b 5, b 6, b 7) in
    eight_bytes (number_in p) (in_64 e (number_in p) h) ∙ be_bytes_8 p (cast_unsigned w64 (number_in p)) l b (of_z-to_z w64 (from_be_bytes w64 p) fits)

-- so many values are spelled
record AreRead (n : ℕ) (bs : List ℕ) : Type 0 where
  values : List Typed
  many : length values ≡ n
  typed : AllByRecursion (λ (v : Typed). in_type v.type v.value ≡ true) values
  spelled : bs ≡ fields values

values_read : (n : ℕ) (bs : List ℕ) → AreBytes bs → first_fault (values_in n bs) bs ≡ None → AreRead n bs
values_read zero [] small h = record { values = []; many = refl; typed = tt; spelled = refl }
values_read zero (b ∷ bs) small h = cc
values_read (suc n) [] small h = absurd (omega (arith, (parted code (value (type_of (byte [] 0)) ∷ values_in n (drop 9 [])) [] h).whole))
values_read (suc n) (c ∷ bs) small h =
    let first = parted code (value (type_of c) ∷ values_in n (drop 8 bs)) (c ∷ bs) h in
    let e = some_type (type_of c) first.right in
    let second = parted (value (type_of c)) (values_in n (drop 8 bs)) bs first.others in
    let typed : in_type e.0 (number_in (take 8 bs)) ≡ true = subst (λ o. is_in o (number_in (take 8 bs)) ≡ true) e.1 second.right in
    let rest = values_read n (drop 8 bs) (left_below 8 bs small.1) second.others in
    record {
      values = record { type = e.0; value = number_in (take 8 bs) } ∷ rest.values;
      many = ap suc rest.many;
      typed = (typed, rest.typed);
      spelled =
          ap (λ k. k ∷ bs) (code_of_type c e.0 e.1)
          ∙ ap (λ b. book.code e.0 ∷ b) (sym (take-append-drop 8 bs))
          ∙ ap (λ p. book.code e.0 ∷ p ++ drop 8 bs) (sym (eight_back e.0 (take 8 bs) (length-take-le 8 bs second.whole) (taken_below 8 bs small.1) typed))
          ∙ ap (λ r. book.code e.0 ∷ eight (number_in (take 8 bs)) ++ r) rest.spelled;
    }

-- ---- what stands before the values

none_left : (f : Field) (fs : List Field) (bs : List ℕ) → length bs < f.width → first_fault (f ∷ fs) bs ≡ None → ⊥
none_left f fs bs l h = absurd (omega (arith, l, (parted f fs bs h).whole))

marked : (fs : List Field) (bs : List ℕ) → first_fault (mark ∷ fs) bs ≡ None → (rest : List ℕ) × (bs ≡ 70 ∷ 66 ∷ rest) × (first_fault fs rest ≡ None)
marked fs [] h = absurd (none_left mark fs [] (omega arith) h)
marked fs (a ∷ []) h = absurd (none_left mark fs (a ∷ []) (omega arith) h)
marked fs (a ∷ b ∷ rest) h =
    let p = parted mark fs (a ∷ b ∷ rest) h in
    let right : ((a == 70) && (b == 66)) ≡ true = p.right in
    (rest, ap (λ k. k ∷ b ∷ rest) (eqb-true a 70 (and_first (a == 70) (b == 66) right)) ∙ ap (λ k. 70 ∷ k ∷ rest) (eqb-true b 66 (and_second (a == 70) (b == 66) right)), p.others)

versioned : (fs : List Field) (bs : List ℕ) → first_fault (version ∷ fs) bs ≡ None → (v : ℕ) × (rest : List ℕ) × (bs ≡ v ∷ rest) × ((v ≡ 1) ⊎ (v ≡ 2)) × (first_fault fs rest ≡ None)
versioned fs [] h = absurd (none_left version fs [] (omega arith) h)
versioned fs (v ∷ rest) h =
    let p = parted version fs (v ∷ rest) h in
    let right : ((v == 1) || (v == 2)) ≡ true = p.right in
    (v, rest, refl, elim (either (v == 1) (v == 2) right) [ inl e ↦ inl (eqb-true v 1 e) | inr e ↦ inr (eqb-true v 2 e) ], p.others)

aimed : (v : ℕ) (fs : List Field) (bs : List ℕ) → first_fault (kind v ∷ fs) bs ≡ None → (p : Purpose) × (rest : List ℕ) × (bs ≡ purpose_code p ∷ rest) × (v ≡ 2 → p ≡ To_channel) × (first_fault fs rest ≡ None)
aimed v fs [] h = absurd (none_left (kind v) fs [] (omega arith) h)
aimed v fs (k ∷ rest) h =
    let p = parted (kind v) fs (k ∷ rest) h in
    let right : ((k == 1) || ((k == 2) && (v == 1))) ≡ true = p.right in
    elim (either (k == 1) ((k == 2) && (v == 1)) right) [
      | inl e ↦ (To_channel, rest, ap (λ j. j ∷ rest) (eqb-true k 1 e), λ _. refl, p.others)
      | inr e ↦ (
        To_input,
        rest,
        ap (λ j. j ∷ rest) (eqb-true k 2 (and_first (k == 2) (v == 1) e)),
        λ two. absurd (omega (arith, two, eqb-true v 1 (and_second (k == 2) (v == 1) e))),
        p.others,
      )
    ]

read_number : (fs : List Field) (bs : List ℕ) → AreBytes bs → first_fault (number ∷ fs) bs ≡ None → (n : ℕ) × (rest : List ℕ) × (n < 2 ^ 16) × (bs ≡ n / 256 ∷ n % 256 ∷ rest) × AreBytes rest × (first_fault fs rest ≡ None)
read_number fs [] small h = absurd (none_left number fs [] (omega arith) h)
read_number fs (a ∷ []) small h = absurd (none_left number fs (a ∷ []) (omega arith) h)
read_number fs (a ∷ b ∷ rest) small h =
    let p = parted number fs (a ∷ b ∷ rest) h in
    let n : ℕ = a * 256 + b in
    let high : a ≡ (a * 256 + b) / 256 = omega (arith, small.1.0) in
    let low : b ≡ (a * 256 + b) % 256 = omega (arith, small.1.0) in
    (n, rest, omega (arith, small.0, small.1.0), ap (λ k. k ∷ b ∷ rest) high ∙ ap (λ k. (a * 256 + b) / 256 ∷ k ∷ rest) low, small.1.1, p.others)

-- four bytes, high byte first
read_part : (fs : List Field) (bs : List ℕ) → AreBytes bs → first_fault (stamping ∷ fs) bs ≡ None → (n : ℕ) × (rest : List ℕ) × (n < 2 ^ 32) × (bs ≡ big_endian 4 n ++ rest) × AreBytes rest × (first_fault fs rest ≡ None)
read_part fs [] small h = absurd (none_left stamping fs [] (omega arith) h)
read_part fs (a ∷ []) small h = absurd (none_left stamping fs (a ∷ []) (omega arith) h)
read_part fs (a ∷ b ∷ []) small h = absurd (none_left stamping fs (a ∷ b ∷ []) (omega arith) h)
read_part fs (a ∷ b ∷ c ∷ []) small h = absurd (none_left stamping fs (a ∷ b ∷ c ∷ []) (omega arith) h)
read_part fs (a ∷ b ∷ c ∷ d ∷ rest) small h =
    let p = parted stamping fs (a ∷ b ∷ c ∷ d ∷ rest) h in
    let n : ℕ = ((a * 256 + b) * 256 + c) * 256 + d in
    let first : a ≡ (((a * 256 + b) * 256 + c) * 256 + d) / 256 ^ 3 % 256 = omega (arith, small.0, small.1.0, small.1.1.0, small.1.1.1.0) in
    let second : b ≡ (((a * 256 + b) * 256 + c) * 256 + d) / 256 ^ 2 % 256 = omega (arith, small.0, small.1.0, small.1.1.0, small.1.1.1.0) in
    let third : c ≡ (((a * 256 + b) * 256 + c) * 256 + d) / 256 ^ 1 % 256 = omega (arith, small.0, small.1.0, small.1.1.0, small.1.1.1.0) in
    let fourth : d ≡ (((a * 256 + b) * 256 + c) * 256 + d) / 256 ^ 0 % 256 = omega (arith, small.0, small.1.0, small.1.1.0, small.1.1.1.0) in
    let all : a ∷ b ∷ c ∷ d ∷ rest ≡ big_endian 4 (((a * 256 + b) * 256 + c) * 256 + d) ++ rest =
    ap (λ k. k ∷ b ∷ c ∷ d ∷ rest) first
    ∙ ap (λ k. n / 256 ^ 3 % 256 ∷ k ∷ c ∷ d ∷ rest) second
    ∙ ap (λ k. n / 256 ^ 3 % 256 ∷ n / 256 ^ 2 % 256 ∷ k ∷ d ∷ rest) third
    ∙ ap (λ k. n / 256 ^ 3 % 256 ∷ n / 256 ^ 2 % 256 ∷ n / 256 ^ 1 % 256 ∷ k ∷ rest) fourth
    in
    (n, rest, omega (arith, small.0, small.1.0, small.1.1.0, small.1.1.1.0), all, small.1.1.1.1, p.others)

read_count : (fs : List Field) (bs : List ℕ) → AreBytes bs → first_fault (count ∷ fs) bs ≡ None → (c : ℕ) × (rest : List ℕ) × (c ≤ 16) × (bs ≡ c ∷ rest) × AreBytes rest × (first_fault fs rest ≡ None)
read_count fs [] small h = absurd (none_left count fs [] (omega arith) h)
read_count fs (c ∷ rest) small h =
    let p = parted count fs (c ∷ rest) h in
    (c, rest, leb-true c 16 p.right, refl, small.1, p.others)

-- ---- whole messages

joined : (bs r s t : List ℕ) (v k : ℕ) → bs ≡ 70 ∷ 66 ∷ r → r ≡ v ∷ s → s ≡ k ∷ t → bs ≡ 70 ∷ 66 ∷ v ∷ k ∷ t
joined bs r s t v k a b c = a ∙ ap (λ xs. 70 ∷ 66 ∷ xs) b ∙ ap (λ xs. 70 ∷ 66 ∷ v ∷ xs) c

prolonged : (bs t u : List ℕ) (v k a b : ℕ) → bs ≡ 70 ∷ 66 ∷ v ∷ k ∷ t → t ≡ a ∷ b ∷ u → bs ≡ 70 ∷ 66 ∷ v ∷ k ∷ a ∷ b ∷ u
prolonged bs t u v k a b x y = x ∙ ap (λ xs. 70 ∷ 66 ∷ v ∷ k ∷ xs) y

third : (bs r : List ℕ) (v : ℕ) → bs ≡ 70 ∷ 66 ∷ v ∷ r → byte bs 2 ≡ v
third bs r v x = ap (λ l. byte l 2) x

module _ (bs : List ℕ) where
  finished : (p : Purpose) (n : ℕ) (s : Option Stamp) (c : ℕ) (rest : List ℕ) → n < 2 ^ 16 → IsStamped p s → c ≤ 16 → AreBytes rest
      → bs ≡ 70 ∷ 66 ∷ book.version s ∷ purpose_code p ∷ n / 256 ∷ n % 256 ∷ book.stamp_bytes s ++ c ∷ rest → first_fault (values_in c rest) rest ≡ None → (m : Message) × Spells m bs
  finished p n s c rest small stamped few bytes whole h =
      let r = values_read c rest bytes h in (
        record { purpose = p; number = n; stamp = s; values = r.values },
        record {
          number = small;
          stamp = stamped;
          count = omega (arith, few, r.many);
          values = r.typed;
          bytes_are =
              whole
              ∙ ap (λ k. 70 ∷ 66 ∷ book.version s ∷ purpose_code p ∷ n / 256 ∷ n % 256 ∷ book.stamp_bytes s ++ k ∷ rest) (sym r.many)
              ∙ ap (λ b. 70 ∷ 66 ∷ book.version s ∷ purpose_code p ∷ n / 256 ∷ n % 256 ∷ book.stamp_bytes s ++ length r.values ∷ b) r.spelled;
        },
      )

  -- the fields behind the number, of a version
  abbrev Behind : ℕ → List ℕ → Type 0
  Behind v rest = first_fault ((stamp v ++ count ∷ []) ++ values_in (byte bs (before_count v)) (drop (before_count v + 1) bs)) rest ≡ None

  -- the count and the values, where these bytes stand before them
  counted : (front rest : List ℕ) (k : ℕ) → AreBytes rest → first_fault (count ∷ values_in (byte bs k) (drop (k + 1) bs)) rest ≡ None
      → ((c : ℕ) (r : List ℕ) → bs ≡ front ++ c ∷ r → (byte bs k ≡ c) × (drop (k + 1) bs ≡ r)) → bs ≡ front ++ rest → (c : ℕ) × (r : List ℕ) × (c ≤ 16) × AreBytes r × (bs ≡ front ++ c ∷ r) × (first_fault (values_in c r) r ≡ None)
  counted front rest k small h at whole =
      let e = read_count (values_in (byte bs k) (drop (k + 1) bs)) rest small h in
      let is : bs ≡ front ++ e.0 ∷ e.1 = whole ∙ ap (λ r. front ++ r) e.3 in
      let same = at e.0 e.1 is in
      (e.0, e.1, e.2, e.4, is, subst (λ r. first_fault (values_in e.0 r) e.1 ≡ None) same.1 (subst (λ c. first_fault (values_in c (drop (k + 1) bs)) e.1 ≡ None) same.0 e.5))

  first_version : (p : Purpose) (n : ℕ) (rest : List ℕ) → n < 2 ^ 16 → AreBytes rest → bs ≡ 70 ∷ 66 ∷ 1 ∷ purpose_code p ∷ n / 256 ∷ n % 256 ∷ rest → Behind 1 rest → (m : Message) × Spells m bs
  first_version p n rest low small whole h =
      let e = counted (70 ∷ 66 ∷ 1 ∷ purpose_code p ∷ n / 256 ∷ n % 256 ∷ []) rest 6 small h (λ c r is. (ap (λ l. byte l 6) is, ap (drop 7) is)) whole in
      finished p n None e.0 e.1 low tt e.2 e.3 e.4 e.5

  second_version : (p : Purpose) (n : ℕ) (rest : List ℕ) → n < 2 ^ 16 → p ≡ To_channel → AreBytes rest → bs ≡ 70 ∷ 66 ∷ 2 ∷ purpose_code p ∷ n / 256 ∷ n % 256 ∷ rest → Behind 2 rest → (m : Message) × Spells m bs
  second_version To_input n rest low q small whole h = cc
  second_version To_channel n rest low q small whole h =
      let fs : List Field = count ∷ values_in (byte bs 14) (drop 15 bs) in
      let a = read_part (stamping ∷ fs) rest small h in
      let b = read_part fs a.1 a.4 a.5 in
      let parts : rest ≡ big_endian 4 a.0 ++ big_endian 4 b.0 ++ b.1 = a.3 ∙ ap (λ r. big_endian 4 a.0 ++ r) b.3 in
      let e = counted (70 ∷ 66 ∷ 2 ∷ 1 ∷ n / 256 ∷ n % 256 ∷ big_endian 4 a.0 ++ big_endian 4 b.0) b.1 14 b.4 b.5 (λ c r is. (ap (λ l. byte l 14) is, ap (drop 15) is)) (whole ∙ ap (λ r. 70 ∷ 66 ∷ 2 ∷ 1 ∷ n / 256 ∷ n % 256 ∷ r) parts) in
      finished To_channel n (Some (record { boot = a.0; sequence = b.0 })) e.0 e.1 low (record { boot = a.2; sequence = b.2 }) e.2 e.3 e.4 e.5

  pub message_read : AreBytes bs → fault_in bs ≡ None → (m : Message) × Spells m bs
  message_read small h =
      let v : ℕ = byte bs 2 in
      let vs : List Field = values_in (byte bs (before_count (byte bs 2))) (drop (before_count (byte bs 2) + 1) bs) in
      let a = marked (version ∷ kind (byte bs 2) ∷ number ∷ (stamp (byte bs 2) ++ count ∷ []) ++ vs) bs h in
      let b = versioned (kind (byte bs 2) ∷ number ∷ (stamp (byte bs 2) ++ count ∷ []) ++ vs) a.0 a.2 in
      let c = aimed (byte bs 2) (number ∷ (stamp (byte bs 2) ++ count ∷ []) ++ vs) b.1 b.4 in
      let begun : bs ≡ 70 ∷ 66 ∷ b.0 ∷ purpose_code c.0 ∷ c.1 = joined bs a.0 b.1 c.1 b.0 (purpose_code c.0) a.1 b.2 c.2 in
      let left = subst AreBytes begun small in
      let d = read_number ((stamp (byte bs 2) ++ count ∷ []) ++ vs) c.1 left.1.1.1.1 c.4 in
      let whole : bs ≡ 70 ∷ 66 ∷ b.0 ∷ purpose_code c.0 ∷ d.0 / 256 ∷ d.0 % 256 ∷ d.1 = prolonged bs c.1 d.1 b.0 (purpose_code c.0) (d.0 / 256) (d.0 % 256) begun d.3 in
      let is : byte bs 2 ≡ b.0 = third bs (purpose_code c.0 ∷ c.1) b.0 begun in
      elim b.3 [
        | inl one ↦ first_version c.0 d.0 d.1 d.2 d.4 (subst (λ k. bs ≡ 70 ∷ 66 ∷ k ∷ purpose_code c.0 ∷ d.0 / 256 ∷ d.0 % 256 ∷ d.1) one whole) (subst (λ k. Behind k d.1) (is ∙ one) d.5)
        | inr two ↦ second_version c.0 d.0 d.1 d.2 (c.3 (is ∙ two)) d.4 (subst (λ k. bs ≡ 70 ∷ 66 ∷ k ∷ purpose_code c.0 ∷ d.0 / 256 ∷ d.0 % 256 ∷ d.1) two whole) (subst (λ k. Behind k d.1) (is ∙ two) d.5)
      ]
