-- Stamps of messages by numbers, and what is kept of them.
use Rattle.std.specs.Prelude.{ℕ, ◌≡◌, Bool, List, Option, None, Some, slice_get, if◌then◌else◌}
use Rattle.fb_model.specs.Wires.{Leaf}
use Rattle.fb_model.specs.Messages as book
use Rattle.fb_model.specs.Messages.{Purpose, IsStamped}
use Rattle.fb_model.specs.Devices.{Machine, IsReady, format_in, format_of, is_later}
use Rattle.fb_wire.specs.declared.message.Stamp.{Stamp}
use Rattle.fb_wire.specs.Views.{stamped_of}
use Rattle.fb_chart.specs.declared.standing.Stamps.TheVariants as k
use Rattle.fb_chart.specs.declared.standing.Standing.TheVariants as s
use Rattle.fb_chart.specs.declared.memory.Condition.{Condition}
use Rattle.fb_chart.specs.declared.memory.Condition.TheVariants as c

-- a stamp is later than another
abbrev pub is_later_than : Stamp → Stamp → Bool
is_later_than one other = is_later (stamped_of one) (stamped_of other)

-- the stamp of the message that an open SUBSCRIBE admitted last
abbrev pub latest_in : Condition → Option Stamp
latest_in (c.Service (s.Ready (k.Latest stamp))) = Some stamp
latest_in (c.Service (s.Ready k.Unstamped)) = None
latest_in (c.Service (s.Ready (k.Upcoming stamp))) = None
latest_in (c.Service (s.Ready k.Exhausted)) = None
latest_in (c.Service (s.Closed stamps)) = None
latest_in (c.Service s.Quiet) = None
latest_in (c.Service (s.Armed due)) = None
latest_in (c.Service s.Fired) = None
latest_in (c.Service s.Plain) = None
latest_in (c.State n) = None

-- the stamp that is kept, where one that comes is not later
abbrev pub unless_later : Option Stamp → Option Stamp → Option Stamp
unless_later (Some stamp) (Some last) = if is_later_than stamp last then None else Some last
unless_later (Some stamp) None = None
unless_later None last = None

abbrev pub stale_in : Condition → Option Stamp → Option Stamp
stale_in x stamp = unless_later stamp (latest_in x)

-- the leaf of a number is ready for a message of this stamp, if it has one, and takes such messages
pub record CanKeep (all : List Leaf) (m : Machine) (block : ℕ) (stamp : Option book.Stamp) : Type 0 where
  pub leaf : Leaf
  pub purpose : Purpose
  pub stands : slice_get all block ≡ Some leaf
  pub stamped : IsStamped purpose stamp
  pub format : format_in stamp ≡ format_of leaf.kind
  pub ready : IsReady m leaf purpose
