-- Names that are all different, by their numbers.
use Rattle.std.proofs.Common.{◌≡◌, ℕ, zero, suc, ◌<◌, Bool, true, false, List, [], ◌∷◌, length, slice_get, Some, eqb, eq-eqb, refl, sym, ◌∙◌, ap, arith, inl, inr}
use Rattle.std.specs.Str.{bytes_eq}
use Rattle.std.proofs.lemmas.Bool.{cases_eq, ne_eqb}
use Rattle.fb_model.specs.Names.{Name}
use Rattle.fb_model.specs.Typing.{AreDistinct}
use Rattle.fb_model.proofs.Lists.{same_name}
use Rattle.fb_model.proofs.Placed.{Apart, apart, name_same}
use Rattle.fb_chart.specs.Views.{named}
use Rattle.fb_lists.proofs.Lists.{all_got}

-- a number within the names stands for one of them
pub named_stands : (xs : List Name) (a : ℕ) → a < length xs → slice_get xs a ≡ Some (named xs a)
named_stands [] a h = absurd (omega (arith, h))
named_stands (x ∷ xs) zero h = refl
named_stands (x ∷ xs) (suc a) h = named_stands xs a (omega (arith, h))

pub named_is : (xs : List Name) (a : ℕ) (x : Name) → slice_get xs a ≡ Some x → named xs a ≡ x
named_is [] a x h = absurd cc
named_is (y ∷ xs) zero x h = cc
named_is (y ∷ xs) (suc a) x h = named_is xs a x h

pub eq_turned : (m n : Name) → bytes_eq m n ≡ false → bytes_eq n m ≡ false
eq_turned m n h = go (bytes_eq n m) refl
  where
    go : (b : Bool) → bytes_eq n m ≡ b → b ≡ false
    go false e = refl
    go true e = (let f : bytes_eq m n ≡ true = ap (λ k. bytes_eq m k) (same_name n m e) ∙ name_same m in let g : true ≡ false = sym f ∙ h in absurd cc)

-- different numbers stand for different names
pub names_differ : (xs : List Name) (a b : ℕ) → Apart xs → a < length xs → b < length xs → (a ≡ b → ⊥) → bytes_eq (named xs a) (named xs b) ≡ false
names_differ [] a b h l m n = absurd (omega (arith, l))
names_differ (x ∷ xs) zero zero h l m n = absurd (n refl)
names_differ (x ∷ xs) zero (suc b) h l m n = all_got (λ (y : Name). bytes_eq x y ≡ false) xs b (named xs b) h.0 (named_stands xs b (omega (arith, m)))
names_differ (x ∷ xs) (suc a) zero h l m n = eq_turned x (named xs a) (all_got (λ (y : Name). bytes_eq x y ≡ false) xs a (named xs a) h.0 (named_stands xs a (omega (arith, l))))
names_differ (x ∷ xs) (suc a) (suc b) h l m n = names_differ xs a b h.1 (omega (arith, l)) (omega (arith, m)) (λ e. n (ap suc e))

-- names are the same just where their numbers are
pub names_eq : (xs : List Name) (a b : ℕ) → AreDistinct xs → a < length xs → b < length xs → bytes_eq (named xs a) (named xs b) ≡ eqb a b
names_eq xs a b h l m =
    elim (cases_eq a b) [
      | inl e ↦ ap (λ k. bytes_eq (named xs a) (named xs k)) (sym e) ∙ name_same (named xs a) ∙ sym (eq-eqb a b e)
      | inr n ↦ names_differ xs a b (apart xs h) l m n ∙ sym (ne_eqb a b n)
    ]

pub turned : (a b : ℕ) → eqb a b ≡ eqb b a
turned a b = elim (cases_eq a b) [
  | inl e ↦ eq-eqb a b e ∙ sym (eq-eqb b a (sym e))
  | inr n ↦ ne_eqb a b n ∙ sym (ne_eqb b a (λ e. n (sym e)))
]
