-- Looking up a variable by its name.
use Rattle.std.proofs.Common.{◌≡◌, Bool, true, false, ◌||◌, cond, List, [], ◌∷◌, map, Some, refl, ap, ◌∙◌, string_bytes}
use Rattle.std.specs.List.{list_any}
use Rattle.std.specs.String.{string_eq, string_eq_equiv}
use Rattle.std.specs.Option.{option_map}
use Rattle.std.specs.Map.{lookup}
use Rattle.std.specs.Str.{bytes_eq}
use Rattle.std.proofs.lemmas.Slice.Eq.{bytes_eq-Decides}
use Rattle.std.specs.declared.string.String.{String}
use Rattle.std.specs.declared.alloc.Global.{Global}
use Rattle.fb_model.specs.Names.{Name, is_in}
use Rattle.fb_model.specs.TextTyping.{found}
use Rattle.st_types.specs.declared.scope.Variable.{Variable}
use Rattle.st_types.specs.Views.{symbol_of}

pub found_by : (x : Name) (es : List (String Global × Variable)) → option_map (symbol_of x) (lookup (λ k. bytes_eq x (string_bytes k)) es) ≡ found (map (λ p. symbol_of (string_bytes p.0) p.1) es) x
found_by x [] = refl
found_by x (e ∷ es) = by (bytes_eq x (string_bytes e.0)) refl (found_by x es) where
  by : (b : Bool) → bytes_eq x (string_bytes e.0) ≡ b → option_map (symbol_of x) (lookup (λ k. bytes_eq x (string_bytes k)) es) ≡ found (map (λ p. symbol_of (string_bytes p.0) p.1) es) x
      → option_map (symbol_of x) (cond b (Some e.1) (lookup (λ k. bytes_eq x (string_bytes k)) es)) ≡ cond b (Some (symbol_of (string_bytes e.0) e.1)) (found (map (λ p. symbol_of (string_bytes p.0) p.1) es) x)
  by true h again = let same : x ≡ string_bytes e.0 = (bytes_eq-Decides x (string_bytes e.0)).0 h in ap (λ n. Some (symbol_of n e.1)) same
  by false h again = again

-- `contains` tells whether a variable counts
pub counts_by : (x : String Global) (busy : List (String Global)) → list_any (λ y. string_eq y x) busy ≡ is_in (string_bytes x) (map string_bytes busy)
counts_by x [] = refl
counts_by x (y ∷ busy) = ap (λ b. b || list_any (λ y. string_eq y x) busy) (string_eq_equiv.symm y x) ∙ ap (λ b. string_eq x y || b) (counts_by x busy)
