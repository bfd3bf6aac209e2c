-- The transitions that leave a state.
use Rattle.std.proofs.Common.{◌≡◌, ℕ, ◌+◌, ◌<◌, Bool, true, false, cond, List, [], ◌∷◌, ◌++◌, map, take, length, get_or, string_bytes, refl, sym, ap, subst, ◌∙◌}
use Rattle.std.specs.List.{AllByRecursion}
use Rattle.std.specs.Str.{bytes_eq}
use Rattle.std.proofs.lemmas.List.{take_more, append-nil}
use Rattle.fb_model.specs.Names.{Name}
use Rattle.fb_types_blocks.specs.declared.typed.Transition.{Transition}
use Rattle.fb_types_blocks.specs.Views.{transition_of}
use Rattle.fb_chart.specs.Tables.{Each, leaving}
use Rattle.fb_device_tables.specs.Filling.{leaving_from}
use Rattle.fb_device_tables.proofs.Lists.{each_push}

pub leaving_map : (x : Name) (ts : List Transition) → leaving x (map transition_of ts) ≡ map transition_of (leaving_from x ts)
leaving_map x [] = refl
leaving_map x (t ∷ ts) = by (bytes_eq (string_bytes t.source) x) (leaving_map x ts) where
  by : (c : Bool) → leaving x (map transition_of ts) ≡ map transition_of (leaving_from x ts) → cond c (transition_of t ∷ leaving x (map transition_of ts)) (leaving x (map transition_of ts)) ≡ map transition_of (cond c (t ∷ leaving_from x ts) (leaving_from x ts))
  by true h = ap (λ us. transition_of t ∷ us) h
  by false h = h

-- what is so of all is so of those that leave a state
pub all_leaving : (P : Transition → Type 0) (x : Name) (ts : List Transition) → AllByRecursion P ts → AllByRecursion P (leaving_from x ts)
all_leaving P x [] h = tt
all_leaving P x (t ∷ ts) h = by (bytes_eq (string_bytes t.source) x) (all_leaving P x ts h.1) where
  by : (c : Bool) → AllByRecursion P (leaving_from x ts) → AllByRecursion P (cond c (t ∷ leaving_from x ts) (leaving_from x ts))
  by true again = (h.0, again)
  by false again = again

leaving_push : (x : Name) (ts : List Transition) (t : Transition) → leaving_from x (ts ++ t ∷ []) ≡ leaving_from x ts ++ cond (bytes_eq (string_bytes t.source) x) (t ∷ []) []
leaving_push x [] t = refl
leaving_push x (u ∷ ts) t = by (bytes_eq (string_bytes u.source) x) (leaving_push x ts t) where
  by : (c : Bool) → leaving_from x (ts ++ t ∷ []) ≡ leaving_from x ts ++ cond (bytes_eq (string_bytes t.source) x) (t ∷ []) []
      → cond c (u ∷ leaving_from x (ts ++ t ∷ [])) (leaving_from x (ts ++ t ∷ [])) ≡ cond c (u ∷ leaving_from x ts) (leaving_from x ts) ++ cond (bytes_eq (string_bytes t.source) x) (t ∷ []) []
  by true h = ap (λ us. u ∷ us) h
  by false h = h

leaving_next : (x : Name) (ts : List Transition) (i : ℕ) (t : Transition) (b : Bool) → i < length ts → t ≡ get_or ts i t → bytes_eq (string_bytes t.source) x ≡ b → leaving_from x (take (i + 1) ts) ≡ leaving_from x (take i ts) ++ cond b (t ∷ []) []
leaving_next x ts i t b l e c = ap (leaving_from x) (take_more ts i t l ∙ ap (λ z. take i ts ++ z ∷ []) (sym e)) ∙ leaving_push x (take i ts) t ∙ ap (λ d. leaving_from x (take i ts) ++ cond d (t ∷ []) []) c

-- one more that leaves the state
pub each_leaving : {Y : Type 0} (R : Transition → Y → Type 0) (x : Name) (ts : List Transition) (i : ℕ) (t : Transition) (ys new : List Y) (y : Y) → i < length ts → t ≡ get_or ts i t → bytes_eq (string_bytes t.source) x ≡ true
    → new ≡ ys ++ y ∷ [] → Each R (leaving_from x (take i ts)) ys → R t y → Each R (leaving_from x (take (i + 1) ts)) new
each_leaving R x ts i t ys new y l e c n h r =
    subst (Each R (leaving_from x (take (i + 1) ts))) (sym n) (subst (λ zs. Each R zs (ys ++ y ∷ [])) (sym (leaving_next x ts i t true l e c)) (each_push R (leaving_from x (take i ts)) ys t y h r))

-- one that does not
pub each_staying : {Y : Type 0} (R : Transition → Y → Type 0) (x : Name) (ts : List Transition) (i : ℕ) (t : Transition) (ys : List Y) → i < length ts → t ≡ get_or ts i t → bytes_eq (string_bytes t.source) x ≡ false
    → Each R (leaving_from x (take i ts)) ys → Each R (leaving_from x (take (i + 1) ts)) ys
each_staying R x ts i t ys l e c h = subst (λ zs. Each R zs ys) (sym (leaving_next x ts i t false l e c ∙ append-nil (leaving_from x (take i ts)))) h
