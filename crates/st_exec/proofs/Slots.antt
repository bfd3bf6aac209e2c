-- Slots of a layout: those of two variables lie apart, and those of a declared variable before the end.
use Rattle.std.proofs.Common.{◌≡◌, ℕ, ◌+◌, ◌<◌, ◌≤◌, ℤ, Bool, true, false, ◌||◌, ◌⊎◌, inl, inr, List, [], ◌∷◌, Option, None, Some, refl, sym, ap, subst, ◌∙◌, arith}
use Rattle.std.specs.Prelude.{if◌then◌else◌}
use Rattle.std.specs.Option.{option_map}
use Rattle.std.specs.Str.{bytes_eq}
use Rattle.fb_model.specs.Names.{Name, is_in}
use Rattle.fb_model.specs.BlockTyping.{extent}
use Rattle.fb_model.proofs.Lists.{same_name}
use Rattle.st_exec.specs.Forms.{Form, slot_count, size_of, slot_in, bounds_in, plain_slot, names_in, IsDeclaredIn}
use Rattle.st_exec.specs.Cells.{shape_in}

pub shape_is : (fs : List Form) (x : Name) → shape_in fs x ≡ bounds_in fs x
shape_is [] x = refl
shape_is (f ∷ fs) x = ap (λ b. if bytes_eq x f.0 then f.1 else b) (shape_is fs x)

pub slots_some : (b : Option (ℤ × ℤ)) → 1 ≤ slot_count b
slots_some None = omega arith
slots_some (Some b) = omega arith

-- the slots of a declared variable end before all slots end
pub declared_within : (fs : List Form) (x : Name) → IsDeclaredIn fs x → slot_in fs x + slot_count (bounds_in fs x) ≤ size_of fs
declared_within [] x h = absurd (cc)
declared_within (f ∷ fs) x h = by (bytes_eq x f.0) h (declared_within fs x) where
  by : (b : Bool) → (b || is_in x (names_in fs)) ≡ true → (IsDeclaredIn fs x → slot_in fs x + slot_count (bounds_in fs x) ≤ size_of fs)
      → (if b then 0 else slot_count f.1 + slot_in fs x) + slot_count (if b then f.1 else bounds_in fs x) ≤ slot_count f.1 + size_of fs
  by true h again = omega arith
  by false h again = omega (arith, again h)

-- an array is declared
pub array_within : (fs : List Form) (x : Name) (b : ℤ × ℤ) → bounds_in fs x ≡ Some b → slot_in fs x + extent b ≤ size_of fs
array_within [] x b h = absurd (cc)
array_within (f ∷ fs) x b h = by (bytes_eq x f.0) h (array_within fs x b) where
  first : (d : Option (ℤ × ℤ)) → d ≡ Some b → slot_count d ≡ extent b
  first d e = ap slot_count e

  by : (c : Bool) → (if c then f.1 else bounds_in fs x) ≡ Some b → (bounds_in fs x ≡ Some b → slot_in fs x + extent b ≤ size_of fs)
      → (if c then 0 else slot_count f.1 + slot_in fs x) + extent b ≤ slot_count f.1 + size_of fs
  by true h again = omega (arith, first f.1 h)
  by false h again = omega (arith, again h)

-- an array of so many elements
pub length_within : (fs : List Form) (x : Name) (n j : ℕ) → option_map extent (shape_in fs x) ≡ Some n → j < n → slot_in fs x + j < size_of fs
length_within fs x n j e h = by (bounds_in fs x) refl (ap (option_map extent) (sym (shape_is fs x)) ∙ e) where
  by : (b : Option (ℤ × ℤ)) → bounds_in fs x ≡ b → option_map extent b ≡ Some n → slot_in fs x + j < size_of fs
  by None f g = absurd (cc)
  by (Some b) f g =
      let same : extent b ≡ n = cc in
      omega (arith, array_within fs x b f, same)

-- the slots of two variables of different names
pub apart : (fs : List Form) (x y : Name) → bytes_eq x y ≡ false → slot_in fs x + slot_count (bounds_in fs x) ≤ size_of fs
    → (slot_in fs y + slot_count (bounds_in fs y) ≤ slot_in fs x) ⊎ (slot_in fs x + slot_count (bounds_in fs x) ≤ slot_in fs y)
apart [] x y n h = absurd (omega (arith, h))
apart (f ∷ fs) x y n h = by (bytes_eq x f.0) (bytes_eq y f.0) refl refl h (apart fs x y n) where
  here : Bool → Name → ℕ
  here b z = if b then 0 else slot_count f.1 + slot_in fs z

  has : Bool → Name → Option (ℤ × ℤ)
  has b z = if b then f.1 else bounds_in fs z

  by : (b c : Bool) → bytes_eq x f.0 ≡ b → bytes_eq y f.0 ≡ c → here b x + slot_count (has b x) ≤ slot_count f.1 + size_of fs
      → (slot_in fs x + slot_count (bounds_in fs x) ≤ size_of fs → (slot_in fs y + slot_count (bounds_in fs y) ≤ slot_in fs x) ⊎ (slot_in fs x + slot_count (bounds_in fs x) ≤ slot_in fs y))
      → (here c y + slot_count (has c y) ≤ here b x) ⊎ (here b x + slot_count (has b x) ≤ here c y)
  by true true d e h again =
      let u : x ≡ f.0 = same_name x f.0 d in
      let v : y ≡ f.0 = same_name y f.0 e in
      let w : bytes_eq x f.0 ≡ false = subst (λ z. bytes_eq x z ≡ false) v n in
      absurd (cc)
  by true false d e h again = inr (omega arith)
  by false true d e h again = inl (omega arith)
  by false false d e h again = elim (again (omega (arith, h))) [ inl l ↦ inl (omega (arith, l)) | inr l ↦ inr (omega (arith, l)) ]

-- the place of a variable ends before all slots end
pub place_within : (fs forms : List Form) (x : Name) (first n : ℕ) (b : Option (ℤ × ℤ)) → fs ≡ forms → first ≡ slot_in fs x → b ≡ bounds_in fs x → IsDeclaredIn fs x → n ≡ slot_count b → first + n ≤ size_of forms
place_within fs forms x first n b same f e d c =
    let w = declared_within fs x d in
    let k : n ≡ slot_count (bounds_in fs x) = c ∙ ap slot_count e in
    omega (arith, w, k, f, ap size_of same)

-- ---- the slot of one number

-- the slot of one number, else the end
abbrev pub one_slot : Option (ℤ × ℤ) → ℕ → ℕ → ℕ
one_slot None first end = first
one_slot (Some b) first end = end

pub plain_is : (fs : List Form) (x : Name) → plain_slot fs x ≡ one_slot (bounds_in fs x) (slot_in fs x) (size_of fs)
plain_is fs x = by (bounds_in fs x) where
  by : (b : Option (ℤ × ℤ)) → (elim b [ None ↦ slot_in fs x | Some c ↦ size_of fs ]) ≡ one_slot b (slot_in fs x) (size_of fs)
  by None = refl
  by (Some b) = refl

-- a declared variable that is one number has a slot
pub plain_within : (fs : List Form) (x : Name) → IsDeclaredIn fs x → shape_in fs x ≡ None → plain_slot fs x < size_of fs
plain_within fs x h n =
    let none : bounds_in fs x ≡ None = sym (shape_is fs x) ∙ n in
    let at : plain_slot fs x ≡ slot_in fs x = plain_is fs x ∙ ap (λ b. one_slot b (slot_in fs x) (size_of fs)) none in
    let w = declared_within fs x h in
    omega (arith, at, w, slots_some (bounds_in fs x))
