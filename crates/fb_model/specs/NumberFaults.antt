-- What is at fault in the numbers of services and in the ends of channels: this project's profile of IEC 61499-1 edition 2, 6.1.
use Rattle.std.specs.Prelude.{ℕ, nat_eq, ◌≡◌, true, List, [], ◌∷◌, ◌++◌, Option, None, Some}
use Rattle.std.specs.List.{list_any}
use Rattle.fb_words.specs.declared.format.Format.TheVariants.{First, Second}
use Rattle.fb_model.specs.System.{Service}
use Rattle.fb_model.specs.System as book
use Rattle.fb_faults.specs.declared.typing.TypeFault.{TypeFault}
use Rattle.fb_faults.specs.declared.typing.TypeFault.TheVariants.{OutOfMemory, BadService, ChannelShape}
use Rattle.fb_words.specs.declared.number.NumberKind.{NumberKind}
use Rattle.fb_words.specs.declared.number.NumberKind.TheVariants as k
use Rattle.fb_model.specs.Nesting.{Used}
use Rattle.fb_words.specs.declared.elem_type.ElemType.{ElemType}
use Rattle.fb_words.specs.declared.format.Format.{Format}

-- the number of a channel of format 2
abbrev pub second_number : book.Channel → Option ℕ
second_number channel = elim channel.format [ First ↦ None | Second ↦ Some channel.number ]

-- the number that a service has of a kind
abbrev pub number_of : NumberKind → Service → Option ℕ
number_of k.Input (book.Input n types) = Some n
number_of k.Input other = None
number_of k.Output (book.Output n types) = Some n
number_of k.Output other = None
number_of k.Subscriber (book.Subscribe channel types) = Some channel.number
number_of k.Subscriber other = None
number_of k.Sender (book.Publish channel types) = second_number channel
number_of k.Sender other = None

abbrev pub given : Option ℕ → List ℕ
given None = []
given (Some n) = n ∷ []

-- the numbers of a kind, in order
abbrev pub numbers_in : NumberKind → List Used → List ℕ
numbers_in kind [] = []
numbers_in kind (u ∷ us) = given (number_of kind (u.1)) ++ numbers_in kind us

-- how a number that is taken is refused
abbrev pub taken_fault : NumberKind → ℕ → TypeFault
taken_fault k.Input at = BadService at
taken_fault k.Output at = BadService at
taken_fault k.Subscriber at = ChannelShape at
taken_fault k.Sender at = ChannelShape at

-- a service has a number that is taken, at the name of its instance
pub data IsTaken (kind : NumberKind) (taken : List ℕ) (u : Used) (f : TypeFault) : Type 0 where
  no_memory_for_number : f ≡ OutOfMemory → IsTaken kind taken u f
  number_taken : {n : ℕ} → number_of kind (u.1) ≡ Some n → list_any (nat_eq n) taken ≡ true → f ≡ taken_fault kind (u.0) → IsTaken kind taken u f

-- one of these has a number that is taken, or that of one before it
pub data IsRepeated (kind : NumberKind) : List ℕ → List Used → TypeFault → Type 0 where
  this_use : {taken : List ℕ} {u : Used} {us : List Used} {f : TypeFault} → IsTaken kind taken u f → IsRepeated kind taken (u ∷ us) f
  later_use : {taken : List ℕ} {u : Used} {us : List Used} {f : TypeFault} → IsRepeated kind (taken ++ given (number_of kind (u.1))) us f → IsRepeated kind taken (u ∷ us) f

-- what the ends of a channel have in common: its format, and the types of its values
abbrev pub Shape : Type 0
Shape = Format × List ElemType

-- a channel with its shape
abbrev pub Shaped : Type 0
Shaped = ℕ × Shape

-- the channel of which a service is an end
abbrev pub end_of : Service → Option Shaped
end_of (book.Publish channel types) = Some (channel.number, (channel.format, types))
end_of (book.Subscribe channel types) = Some (channel.number, (channel.format, types))
end_of other = None

-- one of these is an end of a channel, with this shape
pub record HasEnd (us : List Used) (n : ℕ) (shape : Shape) : Type 0 where
  pub front : List Used
  pub back : List Used
  pub one : Used
  pub parts : us ≡ front ++ one ∷ back
  pub end : end_of (one.1) ≡ Some (n, shape)

-- two of these are ends of one channel, with other types or another format, at the name of the later one's instance
pub data IsUnlike (us : List Used) (f : TypeFault) : Type 0 where
  no_memory_for_channels : f ≡ OutOfMemory → IsUnlike us f
  unlike_ends : (before after : List Used) (u : Used) {n : ℕ} {shape first : Shape} → us ≡ before ++ u ∷ after → HasEnd before n first → end_of (u.1) ≡ Some (n, shape) → (first ≡ shape → ⊥) → f ≡ ChannelShape (u.0) → IsUnlike us f

pub data IsNumberFault (us : List Used) (f : TypeFault) : Type 0 where
  no_memory_for_numbers : f ≡ OutOfMemory → IsNumberFault us f
  repeated_input : IsRepeated k.Input [] us f → IsNumberFault us f
  repeated_output : IsRepeated k.Output [] us f → IsNumberFault us f
  repeated_channel : IsRepeated k.Subscriber [] us f → IsNumberFault us f

pub data IsChannelFault (us : List Used) (f : TypeFault) : Type 0 where
  unlike : IsUnlike us f → IsChannelFault us f
  repeated_sender : IsRepeated k.Sender [] us f → IsChannelFault us f
