-- What services are in the book, without where they lie in memory.
use denote.Ref.{Bor}
use Rattle.std.specs.Prelude.{ℕ, ◌≡◌, List, [], ◌∷◌, Option, None, Some}
use Rattle.std.specs.Option.{option_map}
use Rattle.fb_words.specs.declared.elem_type.ElemType.{ElemType}
use Rattle.fb_model.specs.Names.{Name}
use Rattle.fb_model.specs.System as book
use Rattle.fb_types_services.specs.declared.service.Channel.{Channel}
use Rattle.fb_types_services.specs.declared.service.Service.{Service}
use Rattle.fb_types_services.specs.declared.service.Service.TheVariants as s

abbrev pub channel_of : Channel → book.Channel
channel_of c = record { number = c.number; format = c.format }

abbrev pub service_of : Service → book.Service
service_of (s.Input n types) = book.Input n types.items
service_of (s.Output n types) = book.Output n types.items
service_of (s.Publish channel types) = book.Publish (channel_of channel) types.items
service_of (s.Subscribe channel types) = book.Subscribe (channel_of channel) types.items
service_of s.Delay = book.Delay
service_of s.Cycle = book.Cycle
service_of s.Restart = book.Restart

-- the type is that of the variable, and there is none where that is none
abbrev pub typed_as : Option ElemType → Option book.Variable → Type 0
typed_as o v = o ≡ option_map (λ v. v.type) v

-- a text that there may be, as a list
abbrev pub listed : Option (Bor (List ℕ)) → List Name
listed None = []
listed (Some x) = x.now ∷ []

-- the types of a service's values
abbrev pub values_of : book.Service → List ElemType
values_of (book.Input n types) = types
values_of (book.Output n types) = types
values_of (book.Publish channel types) = types
values_of (book.Subscribe channel types) = types
values_of book.Delay = []
values_of book.Cycle = []
values_of book.Restart = []
