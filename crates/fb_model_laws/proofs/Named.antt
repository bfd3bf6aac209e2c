-- Variables by their names.
use Rattle.std.proofs.Common.{◌≡◌, sym, ap, subst, refl, Bool, true, false, ◌||◌, pos, List, [], ◌∷◌, ◌++◌, Option, None, Some}
use Rattle.std.specs.Prelude.{if◌then◌else◌}
use Rattle.std.specs.List.{AllByRecursion}
use Rattle.std.specs.Str.{bytes_eq}
use Rattle.fb_model.specs.Names.{Name, is_in}
use Rattle.fb_model.specs.Values.{One}
use Rattle.fb_model.specs.System.{Variable, start_of, start_in}
use Rattle.fb_model.specs.NetworkTyping.{variable_named}
use Rattle.fb_model.specs.Store.{variable_names}
use Rattle.fb_model.proofs.Lists.{same_name}
use Rattle.fb_model_laws.proofs.Typed.{eq_sym}

-- what is so of each variable is so of the one of a name
pub named_one : (P : Variable → Type 0) (vs : List Variable) (x : Name) (v : Variable) → AllByRecursion P vs → variable_named vs x ≡ Some v → P v × (x ≡ v.name)
named_one P [] x v h e = absurd cc
named_one P (u ∷ vs) x v h e = by (bytes_eq x u.name) refl e (named_one P vs x v h.1) where
  by : (b : Bool) → bytes_eq x u.name ≡ b → (if b then Some u else variable_named vs x) ≡ Some v → (variable_named vs x ≡ Some v → P v × (x ≡ v.name)) → P v × (x ≡ v.name)
  by true t f next = let same : u ≡ v = cc in (subst P same h.0, subst (λ (w : Variable). x ≡ w.name) same (same_name x u.name t))
  by false t f next = next f

pub named_left : (vs ws : List Variable) (x : Name) (v : Variable) → variable_named vs x ≡ Some v → variable_named (vs ++ ws) x ≡ Some v
named_left [] ws x v e = absurd cc
named_left (u ∷ vs) ws x v e = by (bytes_eq x u.name) e (named_left vs ws x v) where
  by : (b : Bool) → (if b then Some u else variable_named vs x) ≡ Some v → (variable_named vs x ≡ Some v → variable_named (vs ++ ws) x ≡ Some v) → (if b then Some u else variable_named (vs ++ ws) x) ≡ Some v
  by true e next = e
  by false e next = next e

pub named_right : (vs ws : List Variable) (x : Name) → variable_named vs x ≡ None → variable_named (vs ++ ws) x ≡ variable_named ws x
named_right [] ws x e = refl
named_right (u ∷ vs) ws x e = by (bytes_eq x u.name) e (named_right vs ws x) where
  by : (b : Bool) → (if b then Some u else variable_named vs x) ≡ None → (variable_named vs x ≡ None → variable_named (vs ++ ws) x ≡ variable_named ws x) → (if b then Some u else variable_named (vs ++ ws) x) ≡ variable_named ws x
  by true e next = absurd cc
  by false e next = next e

pub is_listed : (vs : List Variable) (x : Name) (v : Variable) → variable_named vs x ≡ Some v → is_in x (variable_names vs) ≡ true
is_listed [] x v e = absurd cc
is_listed (u ∷ vs) x v e = by (bytes_eq x u.name) e (is_listed vs x v) where
  by : (b : Bool) → (if b then Some u else variable_named vs x) ≡ Some v → (variable_named vs x ≡ Some v → is_in x (variable_names vs) ≡ true) → (b || is_in x (variable_names vs)) ≡ true
  by true e next = refl
  by false e next = next e

not_listed : (vs : List Variable) (x : Name) → variable_named vs x ≡ None → is_in x (variable_names vs) ≡ false
not_listed [] x e = refl
not_listed (u ∷ vs) x e = by (bytes_eq x u.name) e (not_listed vs x) where
  by : (b : Bool) → (if b then Some u else variable_named vs x) ≡ None → (variable_named vs x ≡ None → is_in x (variable_names vs) ≡ false) → (b || is_in x (variable_names vs)) ≡ false
  by true e next = absurd cc
  by false e next = next e

-- a name is that of a variable, or of none
pub data Finds (vs : List Variable) (x : Name) : Type 0 where
  one : (v : Variable) → variable_named vs x ≡ Some v → is_in x (variable_names vs) ≡ true → Finds vs x
  none : variable_named vs x ≡ None → is_in x (variable_names vs) ≡ false → Finds vs x

pub finds : (vs : List Variable) (x : Name) → Finds vs x
finds vs x = by (variable_named vs x) refl where
  by : (o : Option Variable) → variable_named vs x ≡ o → Finds vs x
  by None e = none e (not_listed vs x e)
  by (Some v) e = one v e (is_listed vs x v e)

pub found_listed : (vs : List Variable) (x : Name) → is_in x (variable_names vs) ≡ true → (v : Variable) × (variable_named vs x ≡ Some v)
found_listed vs x h = by (finds vs x) where
  by : Finds vs x → (v : Variable) × (variable_named vs x ≡ Some v)
  by (one v e i) = (v, e)
  by (none e i) = absurd cc

-- ---- start values

pub start_named : (vs : List Variable) (x : Name) (v : Variable) → variable_named vs x ≡ Some v → start_in vs x ≡ start_of v
start_named [] x v e = absurd cc
start_named (u ∷ vs) x v e = by (bytes_eq x u.name) refl e (start_named vs x v) where
  by : (b : Bool) → bytes_eq x u.name ≡ b → (if b then Some u else variable_named vs x) ≡ Some v → (variable_named vs x ≡ Some v → start_in vs x ≡ start_of v) → (if bytes_eq u.name x then start_of u else start_in vs x) ≡ start_of v
  by true t f next = subst (λ b. (if b then start_of u else start_in vs x) ≡ start_of v) (sym (eq_sym x u.name true t)) (let same : u ≡ v = cc in ap start_of same)
  by false t f next = subst (λ b. (if b then start_of u else start_in vs x) ≡ start_of v) (sym (eq_sym x u.name false t)) (next f)

pub start_unnamed : (vs : List Variable) (x : Name) → variable_named vs x ≡ None → start_in vs x ≡ One (pos 0)
start_unnamed [] x e = refl
start_unnamed (u ∷ vs) x e = by (bytes_eq x u.name) refl e (start_unnamed vs x) where
  by : (b : Bool) → bytes_eq x u.name ≡ b → (if b then Some u else variable_named vs x) ≡ None → (variable_named vs x ≡ None → start_in vs x ≡ One (pos 0)) → (if bytes_eq u.name x then start_of u else start_in vs x) ≡ One (pos 0)
  by true t f next = absurd cc
  by false t f next = subst (λ b. (if b then start_of u else start_in vs x) ≡ One (pos 0)) (sym (eq_sym x u.name false t)) (next f)
