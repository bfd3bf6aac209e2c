-- Lists of names that are apart, and their places.
use Rattle.std.specs.Prelude.{◌||◌}
use Rattle.std.proofs.Common.{ℕ, zero, suc, ◌≡◌, ◌<◌, ◌==◌, Bool, true, false, List, [], ◌∷◌, ◌++◌, length, slice_index_or, refl, ◌∙◌, arith}
use Rattle.std.specs.List.{flat_map, IsDistinct, AllByRecursion}
use Rattle.std.specs.Str.{bytes_eq}
use Rattle.std.proofs.lemmas.List.Sums.{position_or_len_is}
use Rattle.fb_lists.proofs.Lists.{all_at}
use Rattle.fb_model.specs.Names.{Name, is_in}
use Rattle.fb_model.specs.System.{State}
use Rattle.fb_model.specs.Certificates.{names}
use Rattle.fb_model.proofs.Names.{eq_turned}
use Rattle.fb_model.proofs.Placed.{name_same}
use Rattle.fb_model.proofs.Networks.{AreRising, number_same}
use Rattle.fb_find_laws.specs.Nodes.{index_in, rank_in}

-- two that are apart differ
pub differ : (xs : List Name) (j k : ℕ) → IsDistinct bytes_eq xs → j < k → k < length xs → bytes_eq (slice_index_or xs j []) (slice_index_or xs k []) ≡ false
unfolding IsDistinct
differ [] j k d h l = absurd (omega (arith, l))
differ (x ∷ xs) j zero d h l = absurd (omega (arith, h))
differ (x ∷ xs) zero (suc k) d h l = all_at (λ y. bytes_eq x y ≡ false) xs k [] (omega (arith, l)) d.0
differ (x ∷ xs) (suc j) (suc k) d h l = differ xs j k d.1 (omega (arith, h)) (omega (arith, l))

-- each stands at its own place first
pub first_at : (xs : List Name) (k : ℕ) → IsDistinct bytes_eq xs → k < length xs → index_in xs (slice_index_or xs k []) ≡ k
first_at xs k d h =
    position_or_len_is (bytes_eq (slice_index_or xs k [])) xs k [] (omega (arith, h))
    (λ j l. eq_turned (slice_index_or xs k []) (slice_index_or xs j []) ∙ differ xs j k d l h)
    (λ l. name_same (slice_index_or xs k []))

-- numbers that go upwards differ
rise : (xs : List ℕ) (j k : ℕ) → AreRising xs → j < k → k < length xs → slice_index_or xs j 0 < slice_index_or xs k 0
rise [] j k d h l = absurd (omega (arith, l))
rise (x ∷ xs) j zero d h l = absurd (omega (arith, h))
rise (x ∷ xs) zero (suc k) d h l = all_at (λ y. x < y) xs k 0 (omega (arith, l)) d.0
rise (x ∷ xs) (suc j) (suc k) d h l = rise xs j k d.1 (omega (arith, h)) (omega (arith, l))

number_above : (m n : ℕ) → m < n → (n == m) ≡ false
number_above m n h = grind arith

-- each stands at its own place first
pub first_rank : (xs : List ℕ) (k : ℕ) → AreRising xs → k < length xs → rank_in xs (slice_index_or xs k 0) ≡ k
first_rank xs k d h =
    position_or_len_is (λ m. slice_index_or xs k 0 == m) xs k 0 (omega (arith, h))
    (λ j l. number_above (slice_index_or xs j 0) (slice_index_or xs k 0) (rise xs j k d l h))
    (λ l. number_same (slice_index_or xs k 0))

-- ---- all of many

pub each_flat : {X Y : Type 0} (P : Y → Type 0) (Q : X → Type 0) (f : X → List Y) (xs : List X) → ((x : X) → Q x → AllByRecursion P (f x)) → AllByRecursion Q xs → AllByRecursion P (flat_map f xs)
each_flat P Q f [] h a = tt
each_flat P Q f (x ∷ xs) h a = joined (f x) (flat_map f xs) (h x a.0) (each_flat P Q f xs h a.1) where
  joined : (ys zs : List _) → AllByRecursion P ys → AllByRecursion P zs → AllByRecursion P (ys ++ zs)
  joined [] zs g k = k
  joined (y ∷ ys) zs g k = (g.0, joined ys zs g.1 k)

pub or_more : (a b : Bool) → b ≡ true → (a || b) ≡ true
or_more true b h = refl
or_more false b h = h

pub or_here : (a b : Bool) → a ≡ true → (a || b) ≡ true
or_here true b h = refl
or_here false b h = absurd cc

-- ---- names in their own list

pub all_self : (ns : List Name) → AllByRecursion (λ n. is_in n ns ≡ true) ns
all_self [] = tt
all_self (x ∷ xs) = (or_here (bytes_eq x x) (is_in x xs) (name_same x), more xs (all_self xs)) where
  more : (ys : List Name) → AllByRecursion (λ y. is_in y xs ≡ true) ys → AllByRecursion (λ y. is_in y (x ∷ xs) ≡ true) ys
  more [] h = tt
  more (y ∷ ys) h = (or_more (bytes_eq y x) (is_in y xs) h.0, more ys h.1)

pub on_names : (P : Name → Type 0) (xs : List State) → AllByRecursion P (names xs) → AllByRecursion (λ (s : State). P s.name) xs
on_names P [] h = tt
on_names P (x ∷ xs) h = (h.0, on_names P xs h.1)

pub units : {X : Type 0} (xs : List X) → AllByRecursion (λ (x : X). Unit {0}) xs
units [] = tt
units (x ∷ xs) = (tt, units xs)
