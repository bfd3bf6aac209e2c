-- What is known of tables when a certificate is looked for: they are those of a system that stands in texts.
use Rattle.std.specs.Prelude.{ℕ, List, Option}
use Rattle.std.specs.List.{AllByRecursion}
use Rattle.fb_model.specs.Declarations.{BlockTree, SourceTree}
use Rattle.fb_model.specs.NetworkTyping.{ElaboratesWith}
use Rattle.fb_model.specs.System.{System}
use Rattle.fb_model.specs.Certificates.{all_leaves, FollowsFew}
use Rattle.fb_model_laws.specs.Words.{IsWordyDevice, IsCapitalDevice}
use Rattle.fb_model.specs.Demands.{Node}
use Rattle.fb_find_laws.specs.Nodes.{nodes_of, AreInOrder, AreRowsOf}
use Rattle.fb_types_blocks.specs.Views.{names_of}
use Rattle.fb_flat.specs.declared.flat.FlatDevice.{FlatDevice}
use Rattle.fb_flat.specs.Tables.{AreDevices}
use Rattle.fb_find_demands.specs.declared.numbered.Numbering.{Numbering}

-- the tables of a system that is well typed, whose names are words in capitals, and that follows few connections
pub record IsGiven (devices : List FlatDevice) (s : System) : Type 0 where
  pub library : List BlockTree
  pub source : SourceTree
  pub typed : ElaboratesWith library source s
  pub tables : AreDevices devices s.devices
  pub words : AllByRecursion IsWordyDevice s.devices
  pub capitals : AllByRecursion IsCapitalDevice s.devices
  pub followed : AllByRecursion FollowsFew s.devices

-- the nodes that have numbers, in their order
abbrev pub nodes_in : Numbering → List Node
nodes_in n = nodes_of (names_of n.states) (names_of n.events) n.channels.items

-- and all its nodes have numbers, in the order of their rows, and the channels where datagrams are followed
pub record IsNumbered (repeats : Option ℕ) (devices : List FlatDevice) (n : Numbering) (s : System) : Type 0 where
  pub given : IsGiven devices s
  pub rows : AreRowsOf repeats (all_leaves s.devices) (names_of n.states) (names_of n.events) n.channels.items
  pub ordered : AreInOrder (all_leaves s.devices) (names_of n.states) (names_of n.events)
