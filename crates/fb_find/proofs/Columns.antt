-- Columns of a system whose nodes have numbers.
use Rattle.std.proofs.Common.{ℕ, ◌≡◌, ◌∙◌, refl, sym, List, [], Option, None, Some}
use Rattle.fb_model.specs.System.{System}
use Rattle.fb_model.specs.Ranges.{Range}
use Rattle.fb_model.specs.Certificates.{all_leaves, channels_of}
use Rattle.fb_model_laws.proofs.Closed.{all_charts_closed}
use Rattle.fb_model.specs.Demands.{bare_demands}
use Rattle.fb_model.specs.Columns.{demands, network_demands}
use Rattle.fb_find_laws.specs.Numbered.{AreNumbers, AreOf}
use Rattle.fb_find_laws.specs.Nodes.{Numbered, number, nodes_of, AreRowsOf, AskForAll}
use Rattle.fb_find_laws.proofs.Nodes.{rows_numbered}
use Rattle.fb_find_laws.proofs.Laws.{of_nodes, network_nodes}
use Rattle.fb_find_laws.proofs.Orders.{columns_alike, like_asks, network_asks, network_asks_devices}
use Rattle.fb_types_blocks.specs.Views.{names_of}
use Rattle.fb_flat.specs.declared.flat.FlatDevice.{FlatDevice}
use Rattle.fb_find_demands.specs.declared.numbered.Numbering.{Numbering}
use Rattle.fb_find_demands.specs.Rights.{numbered, numbers_of}
use Rattle.fb_find_demands.specs.Leaves.{AreClosed}
use Rattle.fb_find.specs.Given.{nodes_in}
use Rattle.fb_find.specs.Columns.{IsColumn}
use Rattle.fb_model.specs.Finding.{asked}
use Rattle.fb_find.specs.Parts.{events_in, states_in, IsReady}

-- what a column of a device asks is asked whatever algorithms cost
asks : (repeats : Option ℕ) (s : System) (unit : ℕ) (ranges : List Range) → AskForAll (asked repeats s) (demands unit ranges (all_leaves s.devices))
asks None s unit ranges = like_asks (bare_demands (all_leaves s.devices)) (demands unit ranges (all_leaves s.devices)) (columns_alike unit ranges (all_leaves s.devices))
asks (Some r) s unit ranges = network_asks_devices unit ranges (all_leaves s.devices)

module _ (repeats : Option ℕ) (devices : List FlatDevice) (n : Numbering) (order : List ℕ) (s : System) (ready : IsReady repeats devices n order s) where
  pub closed : AreClosed s.devices
  closed = all_charts_closed ready.numbering.numbered.given.library ready.numbering.numbered.given.source s ready.numbering.numbered.given.typed

  pub nodes_have : AreNumbers (nodes_in n) (numbers_of n)
  nodes_have = rows_numbered repeats (all_leaves s.devices) (names_of n.states) (names_of n.events) n.channels.items ready.numbering.numbered.rows

  of_column : (unit : ℕ) (ranges : List Range) → AreOf (nodes_in n) (demands unit ranges (all_leaves s.devices))
  of_column = (of_nodes ready.numbering.numbered.given.library ready.numbering.numbered.given.source s repeats (names_of n.states) (names_of n.events) n.channels.items ready.numbering.numbered.given.typed ready.numbering.numbered.rows).1

  pub column_of : (unit : ℕ) (ranges : List Range) (rights : List Numbered) → rights ≡ numbered n (demands unit ranges (all_leaves s.devices)) → IsColumn n order rights (demands unit ranges (all_leaves s.devices))
  column_of unit ranges rights e = record {
    are = e;
    nodes_have = nodes_have;
    of_nodes = of_column unit ranges;
    serves = ready.serves (demands unit ranges (all_leaves s.devices)) (asks repeats s unit ranges);
  }

  -- ---- states and events alone

  own_rows : AreRowsOf None (all_leaves s.devices) (states_in n) (events_in n) []
  own_rows =
      let rows = ready.numbering.numbered.rows in
      record { states_are = rows.states_are; events_are = rows.events_are; states_apart = rows.states_apart; events_apart = rows.events_apart; channels_are = refl }

  pub own_have : AreNumbers (nodes_of (states_in n) (events_in n) []) (number (states_in n) (events_in n) [])
  own_have = rows_numbered None (all_leaves s.devices) (states_in n) (events_in n) [] own_rows

  pub of_own : (unit : ℕ) (ranges : List Range) → AreOf (nodes_of (states_in n) (events_in n) []) (demands unit ranges (all_leaves s.devices))
  of_own = (of_nodes ready.numbering.numbered.given.library ready.numbering.numbered.given.source s None (states_in n) (events_in n) [] ready.numbering.numbered.given.typed own_rows).1

-- over the network
module _ (r : ℕ) (devices : List FlatDevice) (n : Numbering) (order : List ℕ) (s : System) (ready : IsReady (Some r) devices n order s) where
  pub channels_are : n.channels.items ≡ channels_of (all_leaves s.devices)
  channels_are = ready.numbering.numbered.rows.channels_are

  pub of_network : (ranges : List Range) → AreOf (nodes_in n) (network_demands r ranges (all_leaves s.devices))
  of_network = (network_nodes ready.numbering.numbered.given.library ready.numbering.numbered.given.source s r (names_of n.states) (names_of n.events) n.channels.items ready.numbering.numbered.given.typed ready.numbering.numbered.rows).1

  pub network_of : (ranges : List Range) (rights : List Numbered) → rights ≡ numbered n (network_demands r ranges (all_leaves s.devices)) → IsColumn n order rights (network_demands r ranges (all_leaves s.devices))
  network_of ranges rights e = record {
    are = e;
    nodes_have = nodes_have (Some r) devices n order s ready;
    of_nodes = of_network ranges;
    serves = ready.serves (network_demands r ranges (all_leaves s.devices)) (network_asks r ranges (all_leaves s.devices));
  }
