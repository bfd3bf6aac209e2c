-- Messages of which all is read, and how far reading has come.
use Rattle.std.proofs.Common.{ℕ, zero, suc, ◌≡◌, ◌<◌, ◌≤◌, ◌-◌, ◌+◌, ◌*◌, ◌^◌, ◌++◌, true, List, [], ◌∷◌, length, map, take, get_or, Some, None, refl, sym, ◌∙◌, ap, subst, arith}
use Rattle.std.specs.List.{AllByRecursion}
use Rattle.std.proofs.lemmas.List.{length-map, length-append, length-take, map-append, append-nil, append_assoc}
use Rattle.fb_words.specs.Numbers.{in_type}
use Rattle.fb_model.specs.Messages as book
use Rattle.fb_model.specs.Messages.{Message, Spells, IsStamped}
use Rattle.fb_wire.specs.declared.message.Typed.{Typed}
use Rattle.fb_model.specs.Fields.{Fault, Trailing, first_fault, values_in, fault_in}
use Rattle.fb_model_texts.proofs.Messages.{in_64}
use Rattle.fb_wire.specs.Views.{typed_of, value_bytes, all_bytes, head_bytes, IsBegun}
use Rattle.fb_wire.proofs.Reading.{head_right, value_right}
use Rattle.fb_wire.proofs.Spelled.{spelled}

abbrev pub AreFitting : List Typed → Type 0
AreFitting vs = AllByRecursion (λ (v : Typed). in_type v.elem v.value ≡ true) vs

-- ---- nothing is at fault with a spelling

all_right : (vs : List Typed) → AreFitting vs → first_fault (values_in (length vs) (all_bytes vs)) (all_bytes vs) ≡ None
all_right [] h = refl
all_right (v ∷ vs) h = value_right v.elem v.value (length vs) (all_bytes vs) (in_64 v.elem v.value h.0) h.0 ∙ all_right vs h.1

abbrev pub untyped : book.Typed → Typed
untyped v = record { elem = v.type; value = v.value }

pub typed_again : (vs : List book.Typed) → map typed_of (map untyped vs) ≡ vs
typed_again [] = refl
typed_again (v ∷ vs) = ap (λ us. v ∷ us) (typed_again vs)

pub still_fitting : (vs : List book.Typed) → AllByRecursion (λ (v : book.Typed). in_type v.type v.value ≡ true) vs → AreFitting (map untyped vs)
still_fitting [] h = tt
still_fitting (v ∷ vs) h = (h.0, still_fitting vs h.1)

pub spells_rightly : (m : Message) (bytes : List ℕ) → Spells m bytes → fault_in bytes ≡ None
spells_rightly m bytes s =
    let vs = map untyped m.values in
    let fitting = still_fitting m.values s.values in
    ap fault_in (s.bytes_are ∙ sym (spelled m vs (typed_again m.values) fitting))
    ∙ head_right m (length vs) (all_bytes vs) s.stamp (omega (arith, s.count, length-map m.values untyped))
    ∙ all_right vs fitting

typed_fitting : (vs : List Typed) → AreFitting vs → AllByRecursion (λ (v : book.Typed). in_type v.type v.value ≡ true) (map typed_of vs)
typed_fitting [] h = tt
typed_fitting (v ∷ vs) h = (h.0, typed_fitting vs h.1)

-- ---- how far reading has come

-- k of count values are read, and what is left is at fault as the whole is
pub record Coming (bytes : List ℕ) (count k : ℕ) (message : Message) (rest : List ℕ) : Type 0 where
  pub values : List Typed
  pub values_are : map typed_of values ≡ message.values
  pub bytes_are : bytes ≡ head_bytes message count ++ (all_bytes values ++ rest)
  pub small : message.number < 2 ^ 16
  pub stamped : IsStamped message.purpose message.stamp
  pub few : count ≤ 16
  pub many : length values ≡ k
  pub fitting : AllByRecursion (λ (v : Typed). in_type v.elem v.value ≡ true) values
  pub goes_on : fault_in bytes ≡ first_fault (values_in (count - k) rest) rest

pub begins : (bytes rest : List ℕ) (m : Message) (count : ℕ) → bytes ≡ head_bytes m count ++ rest → count ≤ 16 → IsBegun m → Coming bytes count 0 m rest
begins bytes rest m count is few begun =
    record {
      values = [];
      values_are = sym begun.2;
      bytes_are = is;
      small = begun.0;
      stamped = begun.1;
      few = few;
      many = refl;
      fitting = tt;
      goes_on = ap fault_in is ∙ head_right m count rest begun.1 few ∙ ap (λ n. first_fault (values_in n rest) rest) (let e : count ≡ count - 0 = omega arith in e);
    }

one_more : (vs : List Typed) (v : Typed) (rest : List ℕ) → all_bytes vs ++ (value_bytes v ++ rest) ≡ all_bytes (vs ++ v ∷ []) ++ rest
one_more [] v rest = refl
one_more (u ∷ vs) v rest = ap (λ bs. value_bytes u ++ bs) (one_more vs v rest)

fitting_more : (vs : List Typed) (v : Typed) → AreFitting vs → in_type v.elem v.value ≡ true → AreFitting (vs ++ v ∷ [])
fitting_more [] v h f = (f, tt)
fitting_more (u ∷ vs) v h f = (h.0, fitting_more vs v h.1 f)

module _ (bytes rest : List ℕ) (count k : ℕ) (m : Message) (more : k < count) (c : Coming bytes count k m rest) where
  left : count - k ≡ suc (count - (k + 1))
  left = omega (arith, more)

  -- the next value is at fault
  pub at_fault : (fault : Fault) → ((n : ℕ) → first_fault (values_in (suc n) rest) rest ≡ Some fault) → fault_in bytes ≡ Some fault
  at_fault fault h = c.goes_on ∙ ap (λ n. first_fault (values_in n rest) rest) left ∙ h (count - (k + 1))

  pub room : length m.values < 16
  room = omega (arith, more, c.few, c.many, ap length c.values_are, length-map c.values typed_of)

  -- it is read
  pub next : (behind : List ℕ) (v : Typed) (after : Message) → rest ≡ value_bytes v ++ behind → in_type v.elem v.value ≡ true → after ≡ record { purpose = m.purpose; number = m.number; stamp = m.stamp; values = m.values ++ typed_of v ∷ [] } → Coming bytes count (k + 1) after behind
  next behind v after is f e =
      subst (λ (x : Message). Coming bytes count (k + 1) x behind) (sym e) record {
        values = c.values ++ v ∷ [];
        values_are = map-append typed_of c.values (v ∷ []) ∙ ap (λ vs. vs ++ typed_of v ∷ []) c.values_are;
        bytes_are = c.bytes_are ∙ ap (λ bs. head_bytes m count ++ bs) (ap (λ bs. all_bytes c.values ++ bs) is ∙ one_more c.values v behind);
        small = c.small;
        stamped = c.stamped;
        few = c.few;
        many = length-append c.values (v ∷ []) ∙ ap (λ n. n + 1) c.many;
        fitting = fitting_more c.values v c.fitting f;
        goes_on =
            c.goes_on ∙ ap (λ n. first_fault (values_in n rest) rest) left ∙ ap (λ bs. first_fault (values_in (suc (count - (k + 1))) bs) bs) is
            ∙ value_right v.elem v.value (count - (k + 1)) behind (in_64 v.elem v.value f) f;
      }

-- all are read, and something follows
pub follows : (bytes : List ℕ) (count k : ℕ) (m : Message) (rest : List ℕ) → Coming bytes count k m rest → count ≤ k → k ≤ count → (rest ≡ [] → ⊥) → fault_in bytes ≡ Some Trailing
follows bytes count k m rest c a b some = c.goes_on ∙ ap (λ n. first_fault (values_in n rest) rest) (let e : count - k ≡ 0 = omega (arith, a, b) in e) ∙ trailing rest some
  where
    trailing : (bs : List ℕ) → (bs ≡ [] → ⊥) → first_fault [] bs ≡ Some Trailing
    trailing [] h = absurd (h refl)
    trailing (b ∷ bs) h = refl

-- all are read, and nothing follows
pub ends : (bytes : List ℕ) (count k : ℕ) (m : Message) (rest : List ℕ) → Coming bytes count k m rest → count ≤ k → k ≤ count → length rest ≡ 0 → Spells m bytes
ends bytes count k m rest c a b none =
    let same : length c.values ≡ count = omega (arith, c.many, a, b) in
    let all : all_bytes c.values ++ rest ≡ all_bytes c.values = ap (λ bs. all_bytes c.values ++ bs) (nothing rest none) ∙ append-nil (all_bytes c.values) in
    record {
      number = c.small;
      stamp = c.stamped;
      count = omega (arith, same, c.few, length-map c.values typed_of, ap length c.values_are);
      values = subst (AllByRecursion (λ (v : book.Typed). in_type v.type v.value ≡ true)) c.values_are (typed_fitting c.values c.fitting);
      bytes_are = c.bytes_are ∙ ap (λ bs. head_bytes m count ++ bs) all ∙ ap (λ n. head_bytes m n ++ all_bytes c.values) (sym same) ∙ spelled m c.values c.values_are c.fitting;
    }
  where
    nothing : (bs : List ℕ) → length bs ≡ 0 → bs ≡ []
    nothing [] h = refl
    nothing (b ∷ bs) h = absurd (omega (arith, h))

-- ---- a message as bytes

pub all_bytes_long : (vs : List Typed) → length (all_bytes vs) ≡ 9 * length vs
all_bytes_long [] = refl
all_bytes_long (v ∷ vs) = omega (arith, all_bytes_long vs)

bytes_more : (vs : List Typed) (k : ℕ) (d : Typed) → k < length vs → all_bytes (take k vs) ++ value_bytes (get_or vs k d) ≡ all_bytes (take (k + 1) vs)
bytes_more vs k d h = go vs k h ∙ ap (λ n. all_bytes (take n vs)) (let e : suc k ≡ k + 1 = omega arith in e)
  where
    go : (us : List Typed) (k : ℕ) → k < length us → all_bytes (take k us) ++ value_bytes (get_or us k d) ≡ all_bytes (take (suc k) us)
    go [] k h = absurd (omega (arith, h))
    go (u ∷ us) zero h = refl
    go (u ∷ us) (suc k) h = ap (λ bs. value_bytes u ++ bs) (go us k (omega (arith, h)))

pub one_written : (d : Typed) (bytes new start : List ℕ) (vs : List Typed) (k : ℕ) → new ≡ bytes ++ value_bytes (get_or vs k d) → bytes ≡ start ++ all_bytes (take k vs) → k < length vs → new ≡ start ++ all_bytes (take (k + 1) vs)
one_written d bytes new start vs k is so_far h =
    is ∙ ap (λ (bs : List ℕ). bs ++ value_bytes (get_or vs k d)) so_far ∙ append_assoc start (all_bytes (take k vs)) (value_bytes (get_or vs k d)) ∙ ap (λ (bs : List ℕ). start ++ bs) (bytes_more vs k d h)

pub encoded : (m : Message) (vs : List Typed) → map typed_of vs ≡ m.values → m.number < 2 ^ 16 → IsStamped m.purpose m.stamp → length vs ≤ 16 → AllByRecursion (λ (v : Typed). in_type v.elem v.value ≡ true) vs → Spells m (head_bytes m (length vs) ++ all_bytes vs)
encoded m vs values small stamped few h =
    record {
      number = small;
      stamp = stamped;
      count = omega (arith, few, length-map vs typed_of, ap length values);
      values = subst (AllByRecursion (λ (v : book.Typed). in_type v.type v.value ≡ true)) values (typed_fitting vs h);
      bytes_are = spelled m vs values h;
    }

pub room_left : (bytes start : List ℕ) (vs : List Typed) (k : ℕ) → bytes ≡ start ++ all_bytes (take k vs) → length start ≤ 15 → length vs ≤ 16 → k < length vs → length bytes + 9 ≤ 160
room_left bytes start vs k is fifteen few more = omega (arith, ap length is, length-append start (all_bytes (take k vs)), fifteen, all_bytes_long (take k vs), length-take k vs, few, more)
