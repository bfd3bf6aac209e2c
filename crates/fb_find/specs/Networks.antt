-- Rows of the network, with the numbers of nodes.
use Rattle.std.specs.Prelude.{ℕ, ◌≡◌, List, [], Option, None, Some, drop, length}
use Rattle.fb_model.specs.Names.{Name}
use Rattle.fb_model.specs.Ranges.{Range}
use Rattle.fb_model.specs.System.{System}
use Rattle.fb_model.specs.Certificates.{all_leaves}
use Rattle.fb_model.specs.CertificateText.{most_steps}
use Rattle.fb_cert.specs.Views.{Rows}
use Rattle.fb_model.specs.Columns.{network_demands}
use Rattle.fb_find_demands.specs.declared.numbered.Numbering.{Numbering}
use Rattle.fb_find_rows.specs.Numbers.{counts, CanBeCounted, ChannelsCanBeCounted, with_channels, with_far_states, with_fars}
use Rattle.fb_find.specs.Columns.{AreSmallest}
use Rattle.fb_find.specs.Parts.{events_in, states_in}

-- ---- the numbers of each kind of nodes

abbrev pub behind_states : Numbering → List ℕ → List ℕ
behind_states n numbers = drop (length (states_in n)) numbers

abbrev pub behind_events : Numbering → List ℕ → List ℕ
behind_events n numbers = drop (length (events_in n)) (behind_states n numbers)

-- ---- rows

abbrev pub with_repeat : ℕ → Rows → Rows
with_repeat r rows = record rows { repeats = Some r }

-- the rows FARSTATE and FAR of nodes
abbrev pub with_places : Numbering → List ℕ → Rows → Rows
with_places n numbers rows = with_fars (counts (events_in n) (behind_states n numbers)) (with_far_states (counts (states_in n) numbers) rows)

-- with these all rows of the network
abbrev pub with_network : ℕ → Numbering → List ℕ → Rows → Rows
with_network r n numbers rows = with_channels (counts n.channels.items (behind_events n numbers)) (with_places n numbers (with_repeat r rows))

-- there are none yet
pub record HasNoNetwork (rows : Rows) : Type 0 where
  pub no_repeats : rows.repeats ≡ None
  pub no_far : rows.fars ≡ []
  pub no_far_state : rows.far_states ≡ []
  pub no_channel : rows.channels ≡ []

-- those of places can be said
pub record CanBePlaced (n : Numbering) (numbers : List ℕ) (rows : Rows) : Type 0 where
  pub states_can : CanBeCounted (states_in n) numbers
  pub events_can : CanBeCounted (events_in n) (behind_states n numbers)
  pub no_far : rows.fars ≡ []
  pub no_far_state : rows.far_states ≡ []

-- all can be said
pub record CanBeFar (n : Numbering) (numbers : List ℕ) (rows : Rows) : Type 0 where
  pub places_can : CanBePlaced n numbers rows
  pub channels_can : ChannelsCanBeCounted n.channels.items (behind_events n numbers)
  pub no_repeats : rows.repeats ≡ None
  pub no_channel : rows.channels ≡ []

-- where datagrams are followed, the rows of the network are added with the least numbers, and else none
abbrev pub HasNetwork : Option ℕ → Numbering → System → List Range → Rows → Rows → Type 0
HasNetwork None n s ranges old new = new ≡ old
HasNetwork (Some r) n s ranges old new = (numbers : List ℕ) × AreSmallest n (network_demands r ranges (all_leaves s.devices)) most_steps numbers × (new ≡ with_network r n numbers old)
