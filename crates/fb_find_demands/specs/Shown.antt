-- Places that are shown, and their numbers.
use Rattle.std.specs.Prelude.{ℕ, ◌≡◌, ◌+◌, List, Option, None, Some, map, length, nat_lt, string_bytes, if◌then◌else◌}
use Rattle.fb_model.specs.Names.{Name}
use Rattle.fb_model.specs.Spelling.{upper}
use Rattle.fb_model.specs.System.{System}
use Rattle.fb_model.specs.Certificates.{all_leaves}
use Rattle.fb_model.specs.CertificateText.{place_of}
use Rattle.fb_model.specs.Demands.{Node, state, event, channel, Demand, bare_demands, bare_network}
use Rattle.fb_find_laws.specs.Nodes.{written, index_in, rank_in, nodes_of, AreRowsOf}
use Rattle.fb_faults.specs.declared.place.Place.{Place}
use Rattle.fb_faults.specs.declared.place.Place.TheVariants.{State, Event, Channel}
use Rattle.fb_types_blocks.specs.Views.{names_of}
use Rattle.fb_model.specs.Written.{IsWritten}
use Rattle.fb_flat.specs.declared.flat.FlatDevice.{FlatDevice}
use Rattle.fb_flat.specs.Leaves.{flat_device, written_device}
use Rattle.fb_find_demands.specs.declared.numbered.Numbering.{Numbering}

-- the node of a place, by its path in upper case, or by the number of a channel
abbrev pub shown_node : Place → Node
shown_node (State path) = state (place_of (upper (string_bytes path)))
shown_node (Event path) = event (place_of (upper (string_bytes path)))
shown_node (Channel number) = channel number

-- where a text stands in a list, or this number where it does not
abbrev pub index_or : ℕ → List Name → Name → ℕ
index_or k texts text = if nat_lt (index_in texts text) (length texts) then index_in texts text else k

-- how many nodes have numbers
abbrev pub count_of : List Name → List Name → List ℕ → ℕ
count_of states events channels = length states + (length events + length channels)

-- the number of a node that has one, and else the first that none has, where states and events have these rows, and behind these there are channels
abbrev pub number_or_end : List Name → List Name → List ℕ → Node → ℕ
number_or_end states events channels (state p) = index_or (count_of states events channels) states (written p)
number_or_end states events channels (event p) = length states + index_or (length events + length channels) events (written p)
number_or_end states events channels (channel c) = length states + (length events + rank_in channels c)

abbrev pub sought : Numbering → Node → ℕ
sought n x = number_or_end (names_of n.states) (names_of n.events) n.channels.items x

-- what is asked of a system whatever algorithms cost: of each device alone, or of the network where datagrams are followed
abbrev pub asked : Option ℕ → System → List Demand
asked None s = bare_demands (all_leaves s.devices)
asked (Some r) s = bare_network (all_leaves s.devices)

-- the tables of a system that stands in a text
pub record AreTables (devices : List FlatDevice) (s : System) : Type 0 where
  pub written : IsWritten s
  pub tables : map flat_device devices ≡ map written_device s.devices

-- and all its nodes have numbers, and its channels where datagrams are followed
pub record IsNumbered (repeats : Option ℕ) (devices : List FlatDevice) (n : Numbering) (s : System) : Type 0 where
  pub given : AreTables devices s
  pub rows : AreRowsOf repeats (all_leaves s.devices) (names_of n.states) (names_of n.events) n.channels.items

-- the nodes that have numbers, in their order
abbrev pub nodes_in : Numbering → List Node
nodes_in n = nodes_of (names_of n.states) (names_of n.events) n.channels.items
