-- Rows by their paths, in which the case of the letters A to Z has no meaning.
use Rattle.std.specs.Prelude.{ℕ, Bool, List, [], ◌∷◌, map, Option, None, Some, if◌then◌else◌}
use Rattle.std.specs.Char.{to_ascii_lowercase}
use Rattle.std.specs.Str.{bytes_eq}
use Rattle.fb_cert.specs.Views.{Table}

abbrev pub is_same_path : List ℕ → List ℕ → Bool
is_same_path a b = bytes_eq (map to_ascii_lowercase a) (map to_ascii_lowercase b)

-- what the first row of a path says
abbrev pub row_at : {V : Type 0} → List ℕ → Table V → Option V
row_at path [] = None
row_at path (r ∷ rs) = if is_same_path r.0 path then Some r.1 else row_at path rs
