-- Connections by the texts of their ends.
use Rattle.std.specs.Prelude.{◌≡◌, List, [], ◌∷◌, ◌++◌, Option, None, Some, map, if◌then◌else◌}
use Rattle.std.specs.Option.{option_map_or}
use Rattle.std.specs.HashMap.{get_by_text}
use Rattle.std.specs.declared.string.String.{String}
use Rattle.std.specs.declared.vec.Vec.{Vec}
use Rattle.std.specs.declared.alloc.Global.{Global}
use denote.Ref.{Bor}
use Rattle.indexmap.specs.IndexMap.{IndexMap}
use Rattle.fb_model.specs.Names.{Name}
use Rattle.fb_model.specs.System as book
use Rattle.fb_model.specs.Wires.{is_end}
use Rattle.fb_types_networks.specs.declared.typed.Connection.{Connection}
use Rattle.fb_types_networks.specs.Views.{connection_of}

-- the text of an end: its instance, a dot and its port
abbrev pub key_of : Option Name → Name → Name
key_of None port = 46 ∷ port
key_of (Some i) port = i ++ 46 ∷ port

abbrev pub seen : Bor Connection → book.Connection
seen c = connection_of c.now

abbrev pub Bundles : Type 0 → Type 0
Bundles S = IndexMap (String Global) (Vec (Bor Connection) Global) S

-- the connections that a table has under a text
abbrev pub under : {S : Type 0} → Bundles S → Name → List (Bor Connection)
under t k = option_map_or (λ v. v.items) (get_by_text t k) []

abbrev pub source_of : book.Connection → book.End
source_of c = c.source

abbrev pub target_of : book.Connection → book.End
target_of c = c.target

-- of connections those with this end on this side, in order
abbrev pub ending : (book.Connection → book.End) → Option Name → Name → List book.Connection → List book.Connection
ending side i port [] = []
ending side i port (c ∷ cs) = if is_end i port (side c) then c ∷ ending side i port cs else ending side i port cs

-- a table has the connections of each end under its text, in order; others may stand there too
abbrev pub IsBundled : {S : Type 0} → (book.Connection → book.End) → List book.Connection → Bundles S → Type 0
IsBundled side cs t = (i : Option Name) (port : Name) → ending side i port (map seen (under t (key_of i port))) ≡ ending side i port cs
