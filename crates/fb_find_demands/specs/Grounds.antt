-- What is reckoned with at a leaf of the tables.
-- This project's profile.
use Rattle.std.specs.Prelude.{ℕ, Bool, List, [], ◌∷◌, Option, None, Some, map, string_bytes, if◌then◌else◌}
use Rattle.std.specs.Str.{bytes_eq}
use Rattle.std.specs.declared.string.String.{String}
use Rattle.std.specs.declared.vec.Vec.{Vec}
use Rattle.std.specs.Borrow.{Bor}
use Rattle.std.specs.declared.alloc.Global.{Global}
use Rattle.indexmap.specs.IndexMap.{IndexMap}
use Rattle.fb_model.specs.Names.{Name, at_place}
use Rattle.fb_model.specs.System as book
use Rattle.fb_model.specs.CertificateText.{names_in}
use Rattle.fb_model.specs.Demands.{Node, channel, Ground}
use Rattle.fb_flat.specs.Tables.{targets_of}
use Rattle.fb_flat.specs.declared.flat.Output.{Output}
use Rattle.fb_flat.specs.declared.flat.Leaf.{Leaf}
use Rattle.fb_flat.specs.declared.flat.Body.{Body}
use Rattle.fb_flat.specs.declared.flat.Body.TheVariants.{Basic, Served}
use Rattle.st_types.specs.declared.whole.Algo.{Algo}
use Rattle.fb_types_blocks.specs.declared.typed.Action.{Action}
use Rattle.fb_types_blocks.specs.Views.{action_of}
use Rattle.fb_find_demands.specs.declared.scene.Scene.{Scene}

-- the names of a table, in order
abbrev pub table_names : {V S : Type 0} → IndexMap (String Global) V S → List Name
table_names m = map (λ p. string_bytes p.0) m.entries

-- what stands at the place that a name has among the names, 0 where it has none
abbrev pub value_at : List Name → List ℕ → Name → ℕ
value_at [] xs x = 0
value_at (n ∷ ns) [] x = 0
value_at (n ∷ ns) (y ∷ ys) x = if bytes_eq x n then y else value_at ns ys x

-- the price of an algorithm, where the algorithms of these names have these prices
abbrev pub priced : List Name → List ℕ → Option Name → ℕ
priced names prices None = 0
priced names prices (Some x) = value_at names prices x

-- what a datagram asks for, where datagrams are followed or not
abbrev pub datagram_of : Bool → ℕ → List Node
datagram_of follows c = if follows then channel c ∷ [] else []

-- the ground of a leaf at a path with these outputs, whose algorithms have these prices, where datagrams are followed or not
abbrev pub ground : ℕ → Bool → List Name → List ℕ → Name → List Output → Ground
ground unit follows names prices path outputs = record { unit = unit; price = priced names prices; own = at_place (names_in path); targets = targets_of outputs; datagram = datagram_of follows }

-- the names of the algorithms of a block, if it is one
abbrev pub names_among : {S : Type 0} → Option (Bor (IndexMap (String Global) Algo S)) → List Name
names_among None = []
names_among (Some m) = table_names m.now

abbrev pub ground_in : Scene → Ground
ground_in s = ground s.unit s.follows (names_among s.procedures) s.prices.now s.path.now s.outputs.now

-- that of a leaf
abbrev pub algorithms_of : Body → List Name
algorithms_of (Basic block) = table_names block.value.procedures
algorithms_of (Served service) = []

abbrev pub leaf_ground : ℕ → Bool → List ℕ → Leaf → Ground
leaf_ground unit follows prices leaf = ground unit follows (algorithms_of leaf.body) prices (string_bytes leaf.path) leaf.outputs.items

-- the actions of the state of a name, none where there is no such state
abbrev pub actions_in : List (String Global × Vec Action Global) → Name → List book.Action
actions_in [] x = []
actions_in (s ∷ ss) x = if bytes_eq x (string_bytes s.0) then map action_of s.1.items else actions_in ss x
