-- Variables of a block and what expressions see of them: the same names with the same lengths.
use Rattle.std.proofs.Common.{◌≡◌, ℕ, sym, subst, refl, Bool, true, false, ◌||◌, List, [], ◌∷◌, ◌++◌, map, Option, None, Some, append_assoc}
use Rattle.std.specs.Prelude.{if◌then◌else◌}
use Rattle.std.specs.Option.{option_map}
use Rattle.std.specs.Str.{bytes_eq}
use Rattle.fb_model.specs.Names.{Name, is_in}
use Rattle.fb_model.specs.Language.{given}
use Rattle.fb_model.specs.System.{Variable}
use Rattle.fb_model.specs.TextTyping.{Symbol, found}
use Rattle.fb_model.specs.BlockTyping.{Declared, extent, variable_of, symbol_of, scope}
use Rattle.fb_model.specs.NetworkTyping.{variable_named}
use Rattle.fb_model.specs.Store.{variable_names}
use Rattle.fb_model.specs.Shapes.{shape_of}
use Rattle.fb_model.specs.Ranges.{length_in}
use Rattle.fb_model_laws.proofs.Writing.{IsWritable}

abbrev entry_length : Symbol → Option ℕ
entry_length e = option_map extent e.bounds

abbrev own_length : Variable → Option ℕ
own_length v = v.length

-- names are known to both, with the same lengths
abbrev AreAlike : List Symbol → List Variable → Type 0
AreAlike es vs = (x : Name) → option_map entry_length (found es x) ≡ option_map own_length (variable_named vs x)

alike_all : (w : Bool) (ds : List Declared) → AreAlike (map (symbol_of w) ds) (map variable_of ds)
alike_all w [] x = refl
alike_all w (d ∷ ds) x = by (bytes_eq x d.name) (alike_all w ds x) where
  by : (b : Bool) → option_map entry_length (found (map (symbol_of w) ds) x) ≡ option_map own_length (variable_named (map variable_of ds) x)
      → option_map entry_length (if b then Some (symbol_of w d) else found (map (symbol_of w) ds) x) ≡ option_map own_length (if b then Some (variable_of d) else variable_named (map variable_of ds) x)
  by true e = refl
  by false e = e

alike_before : (w : Bool) (ds : List Declared) (es : List Symbol) (vs : List Variable) → AreAlike es vs → AreAlike (map (symbol_of w) ds ++ es) (map variable_of ds ++ vs)
alike_before w [] es vs h x = h x
alike_before w (d ∷ ds) es vs h x = by (bytes_eq x d.name) (alike_before w ds es vs h x) where
  by : (b : Bool) → option_map entry_length (found (map (symbol_of w) ds ++ es) x) ≡ option_map own_length (variable_named (map variable_of ds ++ vs) x)
      → option_map entry_length (if b then Some (symbol_of w d) else found (map (symbol_of w) ds ++ es) x) ≡ option_map own_length (if b then Some (variable_of d) else variable_named (map variable_of ds ++ vs) x)
  by true e = refl
  by false e = e

-- the scope, grouped as the variables of a block are
regrouped : (ins outs inner : List Declared) → scope ins outs inner ≡ map (symbol_of false) ins ++ (map (symbol_of true) outs ++ map (symbol_of true) inner)
regrouped ins outs inner = append_assoc (map (symbol_of false) ins) (map (symbol_of true) outs) (map (symbol_of true) inner)

length_of : (o : Option Symbol) (p : Option Variable) → option_map entry_length o ≡ option_map own_length p → given p own_length ≡ option_map extent (given o (λ (e : Symbol). e.bounds))
length_of None None h = refl
length_of None (Some v) h = absurd cc
length_of (Some e) None h = absurd cc
length_of (Some e) (Some v) h = cc

pub scope_lengths : (ins outs inner : List Declared) (x : Name) → length_in (map variable_of ins ++ (map variable_of outs ++ map variable_of inner)) x ≡ option_map extent (shape_of (scope ins outs inner) x)
scope_lengths ins outs inner x =
    length_of (found (scope ins outs inner) x) (variable_named (map variable_of ins ++ (map variable_of outs ++ map variable_of inner)) x)
    (subst (λ (es : List Symbol). option_map entry_length (found es x) ≡ option_map own_length (variable_named (map variable_of ins ++ (map variable_of outs ++ map variable_of inner)) x)) (sym (regrouped ins outs inner))
    (alike_before false ins _ _ (alike_before true outs _ _ (alike_all true inner)) x))

-- ---- variables that may be assigned

-- no input is
beyond_inputs : (ds : List Declared) (es : List Symbol) (x : Name) (v : Symbol) → v.writable ≡ true → found (map (symbol_of false) ds ++ es) x ≡ Some v → found es x ≡ Some v
beyond_inputs [] es x v w h = h
beyond_inputs (d ∷ ds) es x v w h = by (bytes_eq x d.name) h (beyond_inputs ds es x v w) where
  by : (b : Bool) → (if b then Some (symbol_of false d) else found (map (symbol_of false) ds ++ es) x) ≡ Some v → (found (map (symbol_of false) ds ++ es) x ≡ Some v → found es x ≡ Some v) → found es x ≡ Some v
  by true e next = absurd (let s : symbol_of false d ≡ v = cc in let t : false ≡ true = subst (λ (e : Symbol). e.writable ≡ true) (sym s) w in cc)
  by false e next = next e

found_in : (ds : List Declared) (x : Name) (v : Symbol) → found (map (symbol_of true) ds) x ≡ Some v → is_in x (variable_names (map variable_of ds)) ≡ true
found_in [] x v h = absurd cc
found_in (d ∷ ds) x v h = by (bytes_eq x d.name) h (found_in ds x v) where
  by : (b : Bool) → (if b then Some (symbol_of true d) else found (map (symbol_of true) ds) x) ≡ Some v
      → (found (map (symbol_of true) ds) x ≡ Some v → is_in x (variable_names (map variable_of ds)) ≡ true) → (b || is_in x (variable_names (map variable_of ds))) ≡ true
  by true e next = refl
  by false e next = next e

found_before : (ds : List Declared) (es : List Symbol) (vs : List Variable) (x : Name) (v : Symbol) → (found es x ≡ Some v → is_in x (variable_names vs) ≡ true)
    → found (map (symbol_of true) ds ++ es) x ≡ Some v → is_in x (variable_names (map variable_of ds ++ vs)) ≡ true
found_before [] es vs x v k h = k h
found_before (d ∷ ds) es vs x v k h = by (bytes_eq x d.name) h (found_before ds es vs x v k) where
  by : (b : Bool) → (if b then Some (symbol_of true d) else found (map (symbol_of true) ds ++ es) x) ≡ Some v
      → (found (map (symbol_of true) ds ++ es) x ≡ Some v → is_in x (variable_names (map variable_of ds ++ vs)) ≡ true) → (b || is_in x (variable_names (map variable_of ds ++ vs))) ≡ true
  by true e next = refl
  by false e next = next e

pub writable_own : (ins outs inner : List Declared) (x : Name) → IsWritable (scope ins outs inner) x → is_in x (variable_names (map variable_of outs ++ map variable_of inner)) ≡ true
writable_own ins outs inner x h =
    let e = subst (λ (es : List Symbol). found es x ≡ Some h.0) (regrouped ins outs inner) h.1 in
    found_before outs (map (symbol_of true) inner) (map variable_of inner) x h.0 (found_in inner x h.0)
    (beyond_inputs ins (map (symbol_of true) outs ++ map (symbol_of true) inner) x h.0 h.2 e)
