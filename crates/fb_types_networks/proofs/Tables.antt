-- Looking up events and variables by their names.
use Rattle.std.proofs.Common.{◌≡◌, Bool, true, false, cond, ◌||◌, ◌∙◌, List, [], ◌∷◌, ◌++◌, map, Option, Some, is_some, refl, sym, ap, string_bytes}
use Rattle.std.specs.Option.{option_map}
use Rattle.std.specs.Map.{lookup}
use Rattle.std.specs.Str.{bytes_eq}
use Rattle.std.specs.declared.string.String.{String}
use Rattle.std.specs.declared.vec.Vec.{Vec}
use Rattle.std.specs.declared.alloc.Global.{Global}
use Rattle.fb_model.specs.Names.{Name, is_in}
use Rattle.fb_model.specs.System.{Event}
use Rattle.fb_model.specs.Typing.{names_of}
use Rattle.fb_model.specs.Store.{variable_names}
use Rattle.fb_model.specs.BlockTyping.{variable_of}
use Rattle.fb_model.specs.NetworkTyping.{variable_named}
use Rattle.fb_types_blocks.specs.declared.typed.Variable.{Variable}
use Rattle.fb_types_blocks.specs.Views.{event_of, declared_of}

or_assoc : (a b c : Bool) → (a || b) || c ≡ a || (b || c)
or_assoc true b c = refl
or_assoc false b c = refl

abbrev events : List (String Global × Vec (String Global) Global) → List Event
events es = map (λ p. event_of (string_bytes p.0) p.1.items) es

step : {V : Type 0} (b : Bool) (v : V) (rest : Option V) (later : Bool) → is_some rest ≡ later → is_some (cond b (Some v) rest) ≡ b || later
step true v rest later h = refl
step false v rest later h = h

pub event_found : (x : Name) (es : List (String Global × Vec (String Global) Global)) → is_some (lookup (λ k. bytes_eq x (string_bytes k)) es) ≡ is_in x (names_of (events es))
event_found x [] = refl
event_found x (e ∷ es) = step (bytes_eq x (string_bytes e.0)) e.1 (lookup (λ k. bytes_eq x (string_bytes k)) es) (is_in x (names_of (events es))) (event_found x es)

pub type_found : (x : Name) (es : List (String Global × Variable))
    → option_map (λ v. v.of_type) (lookup (λ k. bytes_eq x (string_bytes k)) es) ≡ option_map (λ v. v.type) (variable_named (map variable_of (map (λ p. declared_of (string_bytes p.0) p.1) es)) x)
type_found x [] = refl
type_found x (e ∷ es) = by (bytes_eq x (string_bytes e.0)) (type_found x es) where
  by : (b : Bool)
      → option_map (λ v. v.of_type) (lookup (λ k. bytes_eq x (string_bytes k)) es) ≡ option_map (λ v. v.type) (variable_named (map variable_of (map (λ p. declared_of (string_bytes p.0) p.1) es)) x)
      → option_map (λ v. v.of_type) (cond b (Some e.1) (lookup (λ k. bytes_eq x (string_bytes k)) es))
      ≡ option_map (λ v. v.type) (cond b (Some (variable_of (declared_of (string_bytes e.0) e.1))) (variable_named (map variable_of (map (λ p. declared_of (string_bytes p.0) p.1) es)) x))
  by true h = refl
  by false h = h

pub variable_found : (x : Name) (es : List (String Global × Variable)) → is_some (lookup (λ k. bytes_eq x (string_bytes k)) es) ≡ is_in x (variable_names (map variable_of (map (λ p. declared_of (string_bytes p.0) p.1) es)))
variable_found x [] = refl
variable_found x (e ∷ es) = step (bytes_eq x (string_bytes e.0)) e.1 (lookup (λ k. bytes_eq x (string_bytes k)) es) (is_in x (variable_names (map variable_of (map (λ p. declared_of (string_bytes p.0) p.1) es)))) (variable_found x es)

-- a name in two lists, one behind the other
pub is_in_both : (x : Name) (xs ys : List Name) → is_in x (xs ++ ys) ≡ is_in x xs || is_in x ys
is_in_both x [] ys = refl
is_in_both x (y ∷ xs) ys = ap (λ b. bytes_eq x y || b) (is_in_both x xs ys) ∙ sym (or_assoc (bytes_eq x y) (is_in x xs) (is_in x ys))
