-- What the event of a name carries, by its place in a table.
use Rattle.std.proofs.Common.{◌≡◌, Bool, true, false, cond, List, [], ◌∷◌, map, Option, None, Some, string_bytes, Global, refl, ap, ◌∙◌}
use Rattle.std.specs.Map.{lookup}
use Rattle.std.specs.Str.{bytes_eq}
use Rattle.std.specs.declared.string.String.{String}
use Rattle.std.specs.declared.vec.Vec.{Vec}
use Rattle.fb_model.specs.Names.{Name}
use Rattle.fb_model.specs.Store.{carried}
use Rattle.fb_model.proofs.Names.{eq_turned}
use Rattle.fb_types_blocks.specs.Views.{event_of}

abbrev pub carried_at : Option (Vec (String Global) Global) → List Name
carried_at None = []
carried_at (Some names) = map string_bytes names.items

pub carried_found : (x : Name) (es : List (String Global × Vec (String Global) Global)) → carried (map (λ p. event_of (string_bytes p.0) p.1.items) es) x ≡ carried_at (lookup (λ k. bytes_eq x (string_bytes k)) es)
carried_found x [] = refl
carried_found x (e ∷ es) =
    ap (λ t. cond t (map string_bytes e.1.items) (carried (map (λ p. event_of (string_bytes p.0) p.1.items) es) x)) (eq_turned (string_bytes e.0) x) ∙ by (bytes_eq x (string_bytes e.0)) (carried_found x es)
  where
    by : (t : Bool) → carried (map (λ p. event_of (string_bytes p.0) p.1.items) es) x ≡ carried_at (lookup (λ k. bytes_eq x (string_bytes k)) es)
        → cond t (map string_bytes e.1.items) (carried (map (λ p. event_of (string_bytes p.0) p.1.items) es) x) ≡ carried_at (cond t (Some e.1) (lookup (λ k. bytes_eq x (string_bytes k)) es))
    by true h = refl
    by false h = h
