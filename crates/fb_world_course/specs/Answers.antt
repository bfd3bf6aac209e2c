-- What events and answers of a world are in the book.
use Rattle.std.specs.Prelude.{ℕ, List, [], ◌∷◌}
use Rattle.fb_model.specs.System.{System}
use Rattle.fb_model.specs.Wires.{Leaf, leaves}
use Rattle.fb_model.specs.World as book
use Rattle.fb_model.specs.World.{An_offer, A_tick, A_dispatch, At_device, Deliver_datagram}
use Rattle.fb_device.specs.Answers as devices
use Rattle.fb_device_state.specs.Machines.{device_at}
use Rattle.fb_world_course.specs.declared.answer.WorldEvent.{WorldEvent}
use Rattle.fb_world_course.specs.declared.answer.WorldEvent.TheVariants.{Offer, Tick, Dispatch, Deliver}
use Rattle.fb_world_course.specs.declared.answer.WorldAnswer.{WorldAnswer}
use Rattle.fb_world_course.specs.declared.answer.WorldAnswer.TheVariants.{Answered, Unknown}

abbrev pub event_of : WorldEvent → book.WorldEvent
event_of (Offer device input values) = At_device device (An_offer input values.items)
event_of (Tick device now) = At_device device (A_tick now)
event_of (Dispatch device resource) = At_device device (A_dispatch resource)
event_of (Deliver number device) = Deliver_datagram number device

-- the device at which an event is
abbrev pub device_of : WorldEvent → ℕ
device_of (Offer device input values) = device
device_of (Tick device now) = device
device_of (Dispatch device resource) = device
device_of (Deliver number device) = device

-- the leaves of the device of a number
abbrev pub leaves_at : System → ℕ → List Leaf
leaves_at system d = leaves (device_at system.devices d)

-- an answer at a device of these leaves
abbrev pub answer_of : List Leaf → WorldAnswer → book.WorldAnswer
answer_of all (Answered answer sent) = book.Answered (devices.answer_of all answer) sent
answer_of all Unknown = book.Unknown

-- a dispatch answers the numbers of an event
abbrev pub HasWorldPlace : List Leaf → WorldAnswer → Type 0
HasWorldPlace all (Answered answer sent) = devices.HasPlace all answer
HasWorldPlace all Unknown = Unit {0}

-- so do the answers to events, each at its device
abbrev pub HaveWorldPlaces : System → List WorldEvent → List WorldAnswer → Type 0
HaveWorldPlaces system [] [] = Unit {0}
HaveWorldPlaces system (e ∷ es) (a ∷ as') = HasWorldPlace (leaves_at system (device_of e)) a × HaveWorldPlaces system es as'
HaveWorldPlaces system [] (a ∷ as') = ⊥
HaveWorldPlaces system (e ∷ es) [] = ⊥

-- the answers to events, each with the leaves of its device
abbrev pub answers_of : System → List WorldEvent → List WorldAnswer → List book.WorldAnswer
answers_of system events [] = []
answers_of system [] (a ∷ as') = answer_of [] a ∷ answers_of system [] as'
answers_of system (e ∷ es) (a ∷ as') = answer_of (leaves_at system (device_of e)) a ∷ answers_of system es as'
