-- Datagrams by numbers.
use Rattle.std.specs.Prelude.{ℕ, ℤ, ◌≡◌, Bool, true, false, List, map}
use Rattle.fb_words.specs.declared.elem_type.ElemType.{ElemType}
use Rattle.fb_wire.specs.declared.message.Purpose.{Purpose}
use Rattle.fb_wire.specs.declared.message.Purpose.TheVariants.{ToChannel, ToInput}
use Rattle.fb_wire.specs.declared.message.Typed.{Typed}
use Rattle.fb_chart.specs.declared.standing.Standing.TheVariants as s
use Rattle.fb_chart.specs.declared.memory.Condition.{Condition}
use Rattle.fb_chart.specs.declared.memory.Condition.TheVariants as c
use Rattle.fb_model.specs.Wires.{Kind}
use Rattle.fb_model.specs.Messages.{Message, To_channel, To_input}
use Rattle.fb_model.specs.Values.{all_in}
use Rattle.fb_model.specs.Ranges.{types_of}
use Rattle.fb_model.specs.Devices.{is_subscriber, is_input_numbered, numbers_in, IsShaped}

-- a leaf of this kind is meant: a SUBSCRIBE of the channel, or the INPUT of the number
abbrev pub is_meant : Message → Kind → Bool
is_meant m = elim m.purpose [ To_channel ↦ is_subscriber m.number | To_input ↦ is_input_numbered m.number ]

abbrev pub types_taken : List Typed → List ElemType
types_taken vs = map (λ v. v.elem) vs

abbrev pub numbers_taken : List Typed → List ℤ
numbers_taken vs = map (λ v. v.value) vs

-- a message is of the format and of the types that a leaf takes, and these are its numbers
pub record IsReceived (kind : Kind) (m : Message) (numbers : List ℤ) : Type 0 where
  pub shape : IsShaped kind m
  pub same : numbers ≡ numbers_in m.values
  pub fit : all_in (types_of kind) numbers ≡ true

-- the number of ARRIVE among the events of a block that takes such messages
abbrev pub arrival_number : Purpose → ℕ
arrival_number ToChannel = 2
arrival_number ToInput = 0

-- a SUBSCRIBE is not ready; an INPUT always is
abbrev pub is_shut : Purpose → Condition → Bool
is_shut ToInput x = false
is_shut ToChannel (c.State n) = true
is_shut ToChannel (c.Service s.Plain) = true
is_shut ToChannel (c.Service (s.Closed stamps)) = true
is_shut ToChannel (c.Service (s.Ready stamps)) = false
is_shut ToChannel (c.Service s.Quiet) = true
is_shut ToChannel (c.Service (s.Armed due)) = true
is_shut ToChannel (c.Service s.Fired) = true
