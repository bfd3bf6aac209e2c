-- What is at fault in the declaration of a service, and where.
use Rattle.std.specs.Prelude.{◌≡◌, ◌<◌, ℕ, Bool, true, ◌||◌, List, length, codes, Some}
use Rattle.std.specs.Str.{bytes_eq}
use Rattle.fb_model.specs.Names.{Name}
use Rattle.fb_words.specs.declared.elem_type.ElemType.{ElemType}
use Rattle.fb_words.specs.declared.format.Format.{Format}
use Rattle.fb_model.specs.Declarations.{InstanceTree}
use Rattle.fb_model.specs.Typing.{IsId}
use Rattle.fb_model.specs.NetworkTyping.{IsFormat, having, id, format, value_types, most_types}
use Rattle.fb_faults.specs.declared.typing.TypeFault.{TypeFault}
use Rattle.fb_faults.specs.declared.typing.TypeFault.TheVariants.{OutOfMemory, BadService, Limit}

-- ID is not given once as a number from 0 to 65535, at the instance's name
abbrev pub IsNumberFault : InstanceTree → TypeFault → Type 0
IsNumberFault i f = (f ≡ BadService i.name.at) × ((n : ℕ) → IsId (having id i.parameters) n → ⊥)

-- FORMAT is given, and not once as 1 or 2
abbrev pub IsFormatFault : InstanceTree → TypeFault → Type 0
IsFormatFault i f = (f ≡ BadService i.name.at) × ((k : Format) → IsFormat (having format i.parameters) k → ⊥)

-- there are too many value types
pub data IsTypesFault (i : InstanceTree) (f : TypeFault) : Type 0 where
  no_memory_for_types : f ≡ OutOfMemory → IsTypesFault i f
  excess_types : f ≡ Limit i.name.at → most_types < length (value_types i.types) → IsTypesFault i f

-- there are square brackets where none may be
abbrev pub IsBareFault : InstanceTree → TypeFault → Type 0
IsBareFault i f = (f ≡ BadService i.name.at) × (types : List ElemType) × (i.types ≡ Some types)

-- its number or its value types are at fault
pub data IsNumberedFault (i : InstanceTree) (f : TypeFault) : Type 0 where
  wrong_number : IsNumberFault i f → IsNumberedFault i f
  wrong_types : IsTypesFault i f → IsNumberedFault i f

-- and of a service that has a channel, its format
pub data IsChannelledFault (i : InstanceTree) (f : TypeFault) : Type 0 where
  wrong_format : IsFormatFault i f → IsChannelledFault i f
  wrong_channel : IsNumberedFault i f → IsChannelledFault i f

-- the services that have a number and values, those that have a channel, and those that have neither
abbrev pub has_number : Name → Bool
has_number x = bytes_eq x (codes "INPUT") || bytes_eq x (codes "OUTPUT")

abbrev pub has_channel : Name → Bool
has_channel x = bytes_eq x (codes "PUBLISH") || bytes_eq x (codes "SUBSCRIBE")

abbrev pub has_values : Name → Bool
has_values x = has_number x || has_channel x

abbrev pub is_timer : Name → Bool
is_timer x = bytes_eq x (codes "E_DELAY") || (bytes_eq x (codes "E_CYCLE") || bytes_eq x (codes "E_RESTART"))

-- what is at fault in the declaration of a service
pub data IsServiceFault (i : InstanceTree) (f : TypeFault) : Type 0 where
  faulty_number : has_number i.type.text ≡ true → IsNumberedFault i f → IsServiceFault i f
  faulty_channel : has_channel i.type.text ≡ true → IsChannelledFault i f → IsServiceFault i f
  with_brackets : is_timer i.type.text ≡ true → IsBareFault i f → IsServiceFault i f
