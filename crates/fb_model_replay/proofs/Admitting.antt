-- What is admitted is admitted in one way, and is not denied; and denials for one reason agree.
use Rattle.std.proofs.Common.{◌≡◌, ℕ, zero, suc, ◌≤◌, ◌^◌, ℤ, true, List, [], ◌∷◌, length, slice_get, Option, None, Some, refl, sym, ◌∙◌, ap, subst, arith}
use Rattle.std.proofs.lemmas.List.{append-nil}
use Rattle.fb_words.specs.declared.elem_type.ElemType.{ElemType}
use Rattle.fb_model.specs.Values.{in_type, all_in}
use Rattle.fb_model.specs.System.{Device}
use Rattle.fb_model.specs.Wires.{Leaf}
use Rattle.fb_model.specs.Store.{Condition}
use Rattle.fb_model.specs.Messages.{Message, Stamp, Spells}
use Rattle.fb_model.specs.Ranges.{types_of}
use Rattle.fb_model.specs.Certificates.{Certificate}
use Rattle.fb_model.specs.Devices.{Machine, Offer, Deliver, Denial, UnknownInput, BadCount, BadValue, NoCredit, Spent, NotAMessage, NoSubscriber, Shape, NotReady, Stale, HasRoom, admitted, input_of, addressed, arriving, numbers_in, is_later, is_after, IsReady, IsShaped, IsFresh, IsStale, with_stamp, Offers, Delivers, LacksCredit, IsBad, IsDenied}
use Rattle.fb_model.specs.Fields.{fault_in}
use Rattle.fb_model_replay.specs.Alike.{Agree}
use Rattle.fb_model_texts.proofs.Messages.{begins_no_other}
use Rattle.fb_model_replay.proofs.Truths.{and_first, and_second}
use Rattle.fb_model_replay.proofs.Faults.{faulty_spells_none}

-- ---- one of each

pub same_some : {A : Type 0} (a b : A) (o : Option A) → o ≡ Some a → o ≡ Some b → a ≡ b
same_some a b o p q = (let e = sym p ∙ q in cc)

not_none : {A : Type 0} (a : A) (o : Option A) → o ≡ None → o ≡ Some a → ⊥
not_none a o p q = (let e = sym p ∙ q in cc)

-- bytes spell one message
spells_one : (bytes : List ℕ) (m n : Message) → Spells m bytes → Spells n bytes → m ≡ n
spells_one bytes m n s t = (begins_no_other m n bytes [] s (subst (Spells n) (sym (append-nil bytes)) t)).0

-- as many values as types, each in its type
fit_count : (types : List ElemType) (values : List ℤ) → all_in types values ≡ true → length values ≡ length types
fit_count [] [] h = refl
fit_count [] (v ∷ vs) h = cc
fit_count (t ∷ ts) [] h = cc
fit_count (t ∷ ts) (v ∷ vs) h = ap suc (fit_count ts vs (and_second (in_type t v) (all_in ts vs) h))

none_bad : (types : List ElemType) (values : List ℤ) (k : ℕ) → all_in types values ≡ true → IsBad (slice_get types k) (slice_get values k) → ⊥
none_bad [] [] k h b = b
none_bad [] (v ∷ vs) k h b = cc
none_bad (t ∷ ts) [] k h b = cc
none_bad (t ∷ ts) (v ∷ vs) zero h b = (let e = sym b ∙ and_first (in_type t v) (all_in ts vs) h in cc)
none_bad (t ∷ ts) (v ∷ vs) (suc k) h b = none_bad ts vs k (and_second (in_type t v) (all_in ts vs) h) b

module _ (cert : Certificate) (device : Device) (old : Machine) where
  pub offers_once : (input : ℕ) (values : List ℤ) (cause count : ℕ) (new other : Machine) → Offers cert device old input values cause new → Offers cert device old input values count other → (cause ≡ count) × (new ≡ other)
  offers_once input values cause count new other x y = (
    x.cause_is ∙ sym y.cause_is,
    x.new_is ∙ ap (λ leaf. admitted old (arriving leaf values)) (same_some x.leaf y.leaf (input_of device input) x.known y.known) ∙ sym y.new_is,
  )

  -- what is so of a message and its leaf is so of any that the same bytes lead to
  at_one : (bytes : List ℕ) (m n : Message) (leaf other : Leaf) → Spells m bytes → addressed device m ≡ Some leaf → Spells n bytes → addressed device n ≡ Some other → (P : Message → Leaf → Type 0) → P m leaf → P n other
  at_one bytes m n leaf other s k t l P h =
      let same : m ≡ n = spells_one bytes m n s t in
      let leaf_is : leaf ≡ other = same_some leaf other (addressed device n) (subst (λ x. addressed device x ≡ Some leaf) same k) l in
      subst (P n) leaf_is (subst (λ x. P x leaf) same h)

  pub delivers_once : (bytes : List ℕ) (cause count : ℕ) (new other : Machine) → Delivers cert device old bytes cause new → Delivers cert device old bytes count other → (cause ≡ count) × (new ≡ other)
  delivers_once bytes cause count new other x y = (
    x.cause_is ∙ sym y.cause_is,
    at_one bytes x.message y.message x.leaf y.leaf x.spelled x.known y.spelled y.known (λ m leaf. new ≡ admitted (with_stamp old leaf m.stamp) (arriving leaf (numbers_in m.values))) x.new_is ∙ sym y.new_is,
  )

  -- ---- no denial of what is admitted

  has_credit : (leaf : Leaf) (values : List ℤ) (needs free : ℕ) → HasRoom cert device old (arriving leaf values) → LacksCredit cert device old leaf needs free → ⊥
  has_credit leaf values needs free r l = absurd (omega (arith, r.credit, l.0, l.1, l.2))

  has_number : (leaf : Leaf) (values : List ℤ) → HasRoom cert device old (arriving leaf values) → 2 ^ 64 ≤ old.next → ⊥
  has_number leaf values r l = absurd (omega (arith, r.number, l))

  pub offer_not_denied : (input : ℕ) (values : List ℤ) (cause : ℕ) (new : Machine) (why : Denial) → Offers cert device old input values cause new → IsDenied cert device old (Offer input values) why → ⊥
  offer_not_denied input values cause new UnknownInput x d = not_none x.leaf (input_of device input) d x.known
  offer_not_denied input values cause new BadCount x d =
      let is : d.0 ≡ x.leaf = same_some d.0 x.leaf (input_of device input) d.1 x.known in
      d.2 (subst (λ (leaf : Leaf). length values ≡ length (types_of leaf.kind)) (sym is) (fit_count (types_of x.leaf.kind) values x.fit))
  offer_not_denied input values cause new (BadValue number) x d =
      let is : d.0 ≡ x.leaf = same_some d.0 x.leaf (input_of device input) d.2 x.known in
      none_bad (types_of x.leaf.kind) values d.1 x.fit (subst (λ (leaf : Leaf). IsBad (slice_get (types_of leaf.kind) d.1) (slice_get values d.1)) is d.4)
  offer_not_denied input values cause new (NoCredit needs free) x d =
      let is : d.0 ≡ x.leaf = same_some d.0 x.leaf (input_of device input) d.1 x.known in
      has_credit x.leaf values needs free x.room (subst (λ leaf. LacksCredit cert device old leaf needs free) is d.2)
  offer_not_denied input values cause new Spent x d = has_number x.leaf values x.room d
  offer_not_denied input values cause new (NotAMessage fault) x d = d
  offer_not_denied input values cause new NoSubscriber x d = d
  offer_not_denied input values cause new Shape x d = d
  offer_not_denied input values cause new NotReady x d = d
  offer_not_denied input values cause new (Stale boot sequence) x d = d

  -- a stamp that is fresh is not stale
  fresh_not_stale : (c : Condition) (o : Option Stamp) (last : Stamp) → IsFresh c o → IsStale c o last → ⊥
  fresh_not_stale c None last f s = s
  fresh_not_stale c (Some stamp) last f s = (let e : is_later stamp last ≡ true = subst (λ kept. is_after stamp kept ≡ true) s.0 f in let no = sym s.1 ∙ e in cc)

  pub delivery_not_denied : (bytes : List ℕ) (cause : ℕ) (new : Machine) (why : Denial) → Delivers cert device old bytes cause new → IsDenied cert device old (Deliver bytes) why → ⊥
  delivery_not_denied bytes cause new why x d = go why d
    where
      about : (P : Message → Leaf → Type 0) → P x.message x.leaf → (m : Message) (leaf : Leaf) → Spells m bytes → addressed device m ≡ Some leaf → P m leaf
      about P h m leaf s k = at_one bytes x.message m x.leaf leaf x.spelled x.known s k P h

      nowhere : (m : Message) → Spells m bytes → addressed device m ≡ None → ⊥
      nowhere m s k = not_none x.leaf (addressed device m) k (subst (λ n. addressed device n ≡ Some x.leaf) (spells_one bytes x.message m x.spelled s) x.known)

      go : (why : Denial) → IsDenied cert device old (Deliver bytes) why → ⊥
      go (NotAMessage fault) d = faulty_spells_none x.message bytes fault d x.spelled
      go UnknownInput d = nowhere d.0 d.1 d.3
      go NoSubscriber d = nowhere d.0 d.1 d.3
      go Shape d = d.4 (about (λ m leaf. IsShaped leaf.kind m) x.shape d.0 d.1 d.2 d.3)
      go NotReady d = d.4 (about (λ m leaf. IsReady old leaf m.purpose) x.ready d.0 d.1 d.2 d.3)
      go (Stale boot sequence) d =
          fresh_not_stale (old.store d.1.path).condition d.0.stamp (record { boot = boot; sequence = sequence })
          (about (λ m leaf. IsFresh (old.store leaf.path).condition m.stamp) x.fresh d.0 d.1 d.2 d.3) d.4
      go (NoCredit needs free) d =
          has_credit d.1 (numbers_in d.0.values) needs free (about (λ m leaf. HasRoom cert device old (arriving leaf (numbers_in m.values))) x.room d.0 d.1 d.2 d.3) d.4
      go Spent d = has_number x.leaf (numbers_in x.message.values) x.room d
      go BadCount d = d
      go (BadValue number) d = d

  -- ---- two denials

  credit_agrees : (leaf : Leaf) (needs free more left : ℕ) → LacksCredit cert device old leaf needs free → LacksCredit cert device old leaf more left → (needs ≡ more) × (free ≡ left)
  credit_agrees leaf needs free more left x y = (x.0 ∙ sym y.0, x.1 ∙ sym y.1)

  stale_agrees : (c : Condition) (o : Option Stamp) (last later : Stamp) → IsStale c o last → IsStale c o later → last ≡ later
  stale_agrees c None last later x y = absurd x
  stale_agrees c (Some stamp) last later x y = (let e = sym x.0 ∙ y.0 in cc)

  pub offer_denials_agree : (input : ℕ) (values : List ℤ) (why other : Denial) → IsDenied cert device old (Offer input values) why → IsDenied cert device old (Offer input values) other → Agree why other
  offer_denials_agree input values (NoCredit needs free) (NoCredit more left) x y =
      let is : x.0 ≡ y.0 = same_some x.0 y.0 (input_of device input) x.1 y.1 in
      credit_agrees y.0 needs free more left (subst (λ leaf. LacksCredit cert device old leaf needs free) is x.2) y.2
  offer_denials_agree input values (NotAMessage fault) (NotAMessage other) x y = absurd x
  offer_denials_agree input values (Stale boot sequence) (Stale later last) x y = absurd x
  offer_denials_agree input values why other x y = tt

  pub delivery_denials_agree : (bytes : List ℕ) (why other : Denial) → IsDenied cert device old (Deliver bytes) why → IsDenied cert device old (Deliver bytes) other → Agree why other
  delivery_denials_agree bytes (NoCredit needs free) (NoCredit more left) x y =
      credit_agrees y.1 needs free more left (at_one bytes x.0 y.0 x.1 y.1 x.2 x.3 y.2 y.3 (λ m leaf. LacksCredit cert device old leaf needs free) x.4) y.4
  delivery_denials_agree bytes (NotAMessage fault) (NotAMessage other) x y = same_some fault other (fault_in bytes) x y
  delivery_denials_agree bytes (Stale boot sequence) (Stale later last) x y =
      let s = at_one bytes x.0 y.0 x.1 y.1 x.2 x.3 y.2 y.3 (λ m leaf. IsStale (old.store leaf.path).condition m.stamp (record { boot = boot; sequence = sequence })) x.4 in
      let same = stale_agrees (old.store y.1.path).condition y.0.stamp (record { boot = boot; sequence = sequence }) (record { boot = later; sequence = last }) s y.4 in
      (ap (λ (t : Stamp). t.boot) same, ap (λ (t : Stamp). t.sequence) same)
  delivery_denials_agree bytes why other x y = tt
