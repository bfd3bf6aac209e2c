-- The message that a PUBLISH sends, value by value.
use Rattle.std.proofs.Common.{◌≡◌, ℕ, zero, suc, ◌+◌, ◌<◌, ◌≤◌, ℤ, Bool, true, List, [], ◌∷◌, ◌++◌, drop, get_or, slice_get, length, Option, Some, refl, sym, ap, subst, ◌∙◌, append_assoc, arith}
use Rattle.std.specs.Prelude.{nat_lt, ◌&&◌, if◌then◌else◌}
use Rattle.std.specs.List.{AllByRecursion}
use Rattle.std.proofs.lemmas.Bool.{cond-true}
use Rattle.std.proofs.lemmas.List.{drop_all, length-append}
use Rattle.std.proofs.lemmas.Bool.Decides.{nat_tests}
use Rattle.fb_words.specs.declared.elem_type.ElemType.{ElemType}
use Rattle.fb_model.specs.Values.{Values, in_type, number_of}
use Rattle.fb_model.specs.Services.{sent, numbered}
use Rattle.fb_model.specs.Messages.{Message, Stamp, Typed, To_channel}
use Rattle.fb_model.specs.Serving.{typed_values}
use Rattle.st_exec.specs.Forms.{Form, plain_slot}
use Rattle.fb_lists.proofs.Lists.{drop_at}
use Rattle.fb_chart.specs.Ports.{slots_of}

-- the slot of a value that is sent, by its place
pub sent_slot : (forms : List Form) (types : List ElemType) (n i d : ℕ) → i < length types → plain_slot forms (sent (n + i)) ≡ get_or (slots_of forms (numbered sent n types)) i d
sent_slot forms [] n i d l = absurd (omega (arith, l))
sent_slot forms (t ∷ ts) n zero d l = let e : n + 0 ≡ n = omega arith in ap (λ k. plain_slot forms (sent k)) e
sent_slot forms (t ∷ ts) n (suc i) d l = let e : n + suc i ≡ n + 1 + i = omega arith in ap (λ k. plain_slot forms (sent k)) e ∙ sent_slot forms ts (n + 1) i d (omega (arith, l))

-- a value that stands between others is as all are
between : (P : Typed → Type 0) (xs ys : List Typed) (y : Typed) → AllByRecursion P (xs ++ y ∷ ys) → P y
between P [] ys y h = h.0
between P (x ∷ xs) ys y h = between P xs ys y h.1

fewer : (n : ℕ) → n < 16 → nat_lt n 16 ≡ true
fewer n h = grind (arith, nat_tests)

-- a message to a channel has its first values, and the others are still to come
pub record IsFilled (m : Message) (number : ℕ) (stamp : Option Stamp) (types : List ElemType) (own : Values) (i : ℕ) : Type 0 where
  pub is : m ≡ record { purpose = To_channel; number = number; stamp = stamp; values = m.values }
  pub count : length m.values ≡ i
  pub rest : m.values ++ typed_values (i + 1) (drop i types) own ≡ typed_values 1 types own

module _ (number : ℕ) (stamp : Option Stamp) (types : List ElemType) (own : Values) where
  pub none_filled : (m : Message) → m ≡ record { purpose = To_channel; number = number; stamp = stamp; values = [] } → IsFilled m number stamp types own 0
  none_filled m e = subst (λ (m : Message). IsFilled m number stamp types own 0) (sym e) (record { is = refl; count = refl; rest = refl })

  pub all_filled : (m : Message) (i : ℕ) → IsFilled m number stamp types own i → length types ≤ i → m ≡ record { purpose = To_channel; number = number; stamp = stamp; values = typed_values 1 types own }
  all_filled m i h l =
      let none = drop_all i types l in
      h.is ∙ ap (λ (vs : List Typed). record { purpose = To_channel; number = number; stamp = stamp; values = vs })
      (sym (append_none m.values) ∙ ap (λ ts. m.values ++ typed_values (i + 1) ts own) (sym none) ∙ h.rest)
    where
      append_none : (vs : List Typed) → vs ++ [] ≡ vs
      append_none [] = refl
      append_none (v ∷ vs) = ap (λ us. v ∷ us) (append_none vs)

  -- the next value is not refused
  module _ (fit : AllByRecursion (λ v. in_type v.type v.value ≡ true) (typed_values 1 types own)) (m : Message) (i : ℕ) (h : IsFilled m number stamp types own i) (type : ElemType) (at : slice_get types i ≡ Some type) (v : ℤ) (value : v ≡ number_of (own (sent (1 + i)))) where
    abbrev next : Typed
    next = record { type = type; value = number_of (own (sent (i + 1))) }

    next_is : v ≡ number_of (own (sent (i + 1)))
    next_is = let e : 1 + i ≡ i + 1 = omega arith in value ∙ ap (λ k. number_of (own (sent k))) e

    split : m.values ++ next ∷ typed_values (i + 1 + 1) (drop (i + 1) types) own ≡ typed_values 1 types own
    split = ap (λ ts. m.values ++ typed_values (i + 1) ts own) (sym (drop_at types i type at)) ∙ h.rest

    pub next_fits : i < 16 → (nat_lt (length m.values) 16 && in_type type v) ≡ true
    next_fits few =
        let fits : in_type type v ≡ true = ap (in_type type) next_is ∙ between (λ v. in_type v.type v.value ≡ true) m.values (typed_values (i + 1 + 1) (drop (i + 1) types) own) next (subst (AllByRecursion (λ v. in_type v.type v.value ≡ true)) (sym split) fit) in
        ap (λ n. nat_lt n 16 && in_type type v) h.count ∙ ap (λ b. b && in_type type v) (fewer i few) ∙ fits

    pub next_filled : (added : Bool) (new : Message) → added ≡ true
        → new ≡ (if added then record { purpose = m.purpose; number = m.number; stamp = m.stamp; values = m.values ++ record { type = type; value = v } ∷ [] } else m)
        → IsFilled new number stamp types own (i + 1)
    next_filled added new is_added e = subst (λ (n : Message). IsFilled n number stamp types own (i + 1)) (sym (e ∙ cond-true added (record { purpose = m.purpose; number = m.number; stamp = m.stamp; values = m.values ++ record { type = type; value = v } ∷ [] }) m is_added)) (record {
      is = ap (λ (n : Message). record { purpose = n.purpose; number = n.number; stamp = n.stamp; values = m.values ++ record { type = type; value = v } ∷ [] }) h.is;
      count = omega (arith, h.count, length-append m.values (record { type = type; value = v } ∷ []));
      rest = ap (λ z. (m.values ++ record { type = type; value = z } ∷ []) ++ typed_values (i + 1 + 1) (drop (i + 1) types) own) next_is ∙ append_assoc m.values (next ∷ []) (typed_values (i + 1 + 1) (drop (i + 1) types) own) ∙ split;
    })
