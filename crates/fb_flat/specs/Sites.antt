-- Where networks stand: the names from outside in, and where the outputs of a body lead through what is around it.
use Rattle.std.specs.Prelude.{ℕ, List, [], ◌∷◌, ◌++◌, Some, string_bytes}
use Rattle.fb_model.specs.Names.{Name, Path, Place}
use Rattle.fb_model.specs.System as book
use Rattle.fb_model.specs.Wires.{followed, entered_in, follow_count, enter_count_in}
use Rattle.fb_types_networks.specs.Views.{wired_of}
use Rattle.fb_model.specs.NetworkFaults.{placed_in}
use Rattle.fb_types_networks.specs.declared.typed.Network.{Network}
use Rattle.fb_flat.specs.declared.site.Trail.{Trail, Resource, Inside'}
use Rattle.fb_flat.specs.declared.site.Around.{Around, Nothing, Level'}

-- ---- paths in one text

abbrev pub dotted : Name → Name → Name
dotted path name = path ++ 46 ∷ name

-- a text and names behind it, joined by dots
abbrev pub dotted_on : Name → List Name → Name
dotted_on text [] = text
dotted_on text (n ∷ ns) = dotted_on (dotted text n) ns

-- the names of a path, joined by dots
abbrev pub text_of : Path → Name
text_of [] = []
text_of (n ∷ ns) = dotted_on n ns

-- ---- places

-- the names from outside in
abbrev pub path_of : Trail → Path
path_of (Resource device name) = device.now ∷ name.now ∷ []
path_of (Inside' name p outer) = path_of outer ++ name.now ∷ []

abbrev pub inner_of : Network → book.Instances
inner_of n = placed_in ((wired_of n).0)

abbrev pub events_in : Network → List book.Connection
events_in n = (wired_of n).1

-- the leaf event inputs that an event output of a body reaches
abbrev pub left_by : Around → Name → List Place
left_by Nothing o = []
left_by (Level' network instance trail p outer) o = followed (events_in network.now) (Some (string_bytes instance.now.name)) o (entered_in (inner_of network.now) (path_of trail.now)) (left_by outer)

-- and how many connections are followed there
abbrev pub left_count : Around → Name → ℕ
left_count Nothing o = 0
left_count (Level' network instance trail p outer) o = follow_count (events_in network.now) (Some (string_bytes instance.now.name)) o (enter_count_in (inner_of network.now)) (left_count outer)
