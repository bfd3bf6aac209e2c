-- Networks with indexes: the positions of names, the connections of ends, and the networks inside.
use Rattle.std.specs.Prelude.{ℕ, suc, ◌≡◌, List, [], ◌∷◌, Option, None, Some, string_bytes, if◌then◌else◌}
use Rattle.std.specs.Option.{option_map}
use Rattle.std.specs.HashMap.{get_by_text}
use Rattle.std.specs.Str.{bytes_eq}
use Rattle.std.specs.declared.string.String.{String}
use Rattle.std.specs.declared.alloc.Global.{Global}
use Rattle.indexmap.specs.IndexMap.{IndexMap}
use Rattle.fb_model.specs.Names.{Name}
use Rattle.fb_types_networks.specs.declared.typed.Instance.{Instance}

-- ---- names

-- the position of the first instance of a name
abbrev pub position_named : List Instance → Name → Option ℕ
position_named [] x = None
position_named (i ∷ is) x = if bytes_eq (string_bytes i.name) x then Some 0 else option_map suc (position_named is x)

-- the first instance of a name
abbrev pub first_named : List Instance → Name → Option Instance
first_named [] x = None
first_named (i ∷ is) x = if bytes_eq (string_bytes i.name) x then Some i else first_named is x

-- a table has the positions of names
abbrev pub AreNames : {S : Type 0} → List Instance → IndexMap (String Global) ℕ S → Type 0
AreNames is t = (x : Name) → get_by_text t x ≡ position_named is x
