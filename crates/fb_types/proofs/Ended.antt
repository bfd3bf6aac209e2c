-- The services of devices and of systems together.
use Rattle.std.proofs.Common.{◌≡◌, List, [], ◌∷◌, ◌++◌, map, None, Some, Result, Ok, Err, IfErr, refl, ap, ◌∙◌}
use Rattle.fb_words.specs.declared.format.Format.{Format}
use Rattle.fb_words.specs.declared.format.Format.TheVariants.{First, Second}
use Rattle.fb_model.specs.System.{Service}
use Rattle.fb_model.specs.System as book
use Rattle.fb_model.specs.Typing.{AreNewNumbers}
use Rattle.fb_model.specs.NetworkTyping.{services_in, inputs, outputs, subscribed, alone, senders, device_services, AreAlike}
use Rattle.fb_types_networks.specs.Views.{instances_of}
use Rattle.fb_model.specs.NetworkFaults.{placed_in}
use Rattle.fb_types_networks.specs.declared.typed.Network.{out-Network}
use Rattle.fb_types_networks.proofs.Instances.{view_network}
use Rattle.fb_faults.specs.declared.typing.TypeFault.{TypeFault}
use Rattle.fb_faults.specs.declared.typing.TypeFault.TheVariants.{OutOfMemory}
use Rattle.fb_words.specs.declared.number.NumberKind.TheVariants as k
use Rattle.fb_types.specs.declared.uses.Use.{Use}
use Rattle.fb_types.specs.declared.typed.Resource.{Resource}
use Rattle.fb_types.specs.Uses.{use_of, service_in, services_at}
use Rattle.fb_model.specs.Nesting.{Used}
use Rattle.fb_model.specs.NumberFaults.{given, second_number, numbers_in}
use Rattle.fb_types.specs.Views.{resource_of}
use Rattle.fb_model.specs.NumberFaults.{IsNumberFault, no_memory_for_numbers, repeated_input, repeated_output, repeated_channel, IsChannelFault, unlike, repeated_sender}
use Rattle.fb_types.proofs.Numbered.{no_repeated}
use Rattle.fb_types.proofs.Shaped.{no_unlike}

-- the services of the next resource
pub resource_services : (r : Resource) (rs : List Resource) → device_services (map resource_of (r ∷ rs)) ≡ services_in (instances_of (out-Network r.network).instances.items) ++ device_services (map resource_of rs)
resource_services r rs = ap (λ w. services_in (placed_in (w.0)) ++ device_services (map resource_of rs)) (view_network r.network)

pub services_are : (us : List Use) → services_at (map use_of us) ≡ map service_in us
services_are [] = refl
services_are (u ∷ us) = ap (λ l. service_in u ∷ l) (services_are us)

pub inputs_are : (us : List Used) → numbers_in k.Input us ≡ inputs (services_at us)
inputs_are [] = refl
inputs_are ((at, book.Input n t) ∷ us) = ap (λ l. n ∷ l) (inputs_are us)
inputs_are ((at, book.Output n t) ∷ us) = inputs_are us
inputs_are ((at, book.Publish n t) ∷ us) = inputs_are us
inputs_are ((at, book.Subscribe n t) ∷ us) = inputs_are us
inputs_are ((at, book.Delay) ∷ us) = inputs_are us
inputs_are ((at, book.Cycle) ∷ us) = inputs_are us
inputs_are ((at, book.Restart) ∷ us) = inputs_are us

pub outputs_are : (us : List Used) → numbers_in k.Output us ≡ outputs (services_at us)
outputs_are [] = refl
outputs_are ((at, book.Input n t) ∷ us) = outputs_are us
outputs_are ((at, book.Output n t) ∷ us) = ap (λ l. n ∷ l) (outputs_are us)
outputs_are ((at, book.Publish n t) ∷ us) = outputs_are us
outputs_are ((at, book.Subscribe n t) ∷ us) = outputs_are us
outputs_are ((at, book.Delay) ∷ us) = outputs_are us
outputs_are ((at, book.Cycle) ∷ us) = outputs_are us
outputs_are ((at, book.Restart) ∷ us) = outputs_are us

pub channels_are : (us : List Used) → numbers_in k.Subscriber us ≡ subscribed (services_at us)
channels_are [] = refl
channels_are ((at, book.Input n t) ∷ us) = channels_are us
channels_are ((at, book.Output n t) ∷ us) = channels_are us
channels_are ((at, book.Publish n t) ∷ us) = channels_are us
channels_are ((at, book.Subscribe c t) ∷ us) = ap (λ l. c.number ∷ l) (channels_are us)
channels_are ((at, book.Delay) ∷ us) = channels_are us
channels_are ((at, book.Cycle) ∷ us) = channels_are us
channels_are ((at, book.Restart) ∷ us) = channels_are us

alone_is : (c : book.Channel) → given (second_number c) ≡ alone c
alone_is c = by c.format where
  by : (f : Format) → given (elim f [ First ↦ None | Second ↦ Some c.number ]) ≡ elim f [ First ↦ [] | Second ↦ c.number ∷ [] ]
  by First = refl
  by Second = refl

pub senders_are : (us : List Used) → numbers_in k.Sender us ≡ senders (services_at us)
senders_are [] = refl
senders_are ((at, book.Input n t) ∷ us) = senders_are us
senders_are ((at, book.Output n t) ∷ us) = senders_are us
senders_are ((at, book.Publish c t) ∷ us) = ap (λ l. l ++ numbers_in k.Sender us) (alone_is c) ∙ ap (λ l. alone c ++ l) (senders_are us)
senders_are ((at, book.Subscribe n t) ∷ us) = senders_are us
senders_are ((at, book.Delay) ∷ us) = senders_are us
senders_are ((at, book.Cycle) ∷ us) = senders_are us
senders_are ((at, book.Restart) ∷ us) = senders_are us

-- numbers of services, by the services alone
module _ (us : List Use) (ss : List Service) (are : map service_in us ≡ ss) where
  pub services_same : services_at (map use_of us) ≡ ss
  services_same = services_are us ∙ are

  pub inputs_same : numbers_in k.Input (map use_of us) ≡ inputs ss
  inputs_same = inputs_are (map use_of us) ∙ ap inputs services_same

  pub outputs_same : numbers_in k.Output (map use_of us) ≡ outputs ss
  outputs_same = outputs_are (map use_of us) ∙ ap outputs services_same

  pub channels_same : numbers_in k.Subscriber (map use_of us) ≡ subscribed ss
  channels_same = channels_are (map use_of us) ∙ ap subscribed services_same

  pub senders_same : numbers_in k.Sender (map use_of us) ≡ senders ss
  senders_same = senders_are (map use_of us) ∙ ap senders services_same

-- numbers that differ have no fault
pub no_number_fault : (us : List Used) (f : TypeFault) → AreNewNumbers [] (numbers_in k.Input us) → AreNewNumbers [] (numbers_in k.Output us) → AreNewNumbers [] (numbers_in k.Subscriber us) → IsNumberFault us f → f ≡ OutOfMemory
no_number_fault us f a b c (no_memory_for_numbers e) = e
no_number_fault us f a b c (repeated_input x) = no_repeated k.Input [] us f a x
no_number_fault us f a b c (repeated_output x) = no_repeated k.Output [] us f b x
no_number_fault us f a b c (repeated_channel x) = no_repeated k.Subscriber [] us f c x

pub only_number_memory : {T : Type 0} (us : List Used) (r : Result T TypeFault) → IfErr r (IsNumberFault us) → AreNewNumbers [] (numbers_in k.Input us) → AreNewNumbers [] (numbers_in k.Output us) → AreNewNumbers [] (numbers_in k.Subscriber us) → IfErr r (λ f. f ≡ OutOfMemory)
only_number_memory us (Ok x) h a b c = h
only_number_memory us (Err f) h a b c = no_number_fault us f a b c h

-- channels whose ends are alike, with one sender of each that may have no other, have no fault
pub no_channel_fault : (us : List Used) (f : TypeFault) → AreAlike (services_at us) → AreNewNumbers [] (numbers_in k.Sender us) → IsChannelFault us f → f ≡ OutOfMemory
no_channel_fault us f a n (unlike x) = no_unlike us f a x
no_channel_fault us f a n (repeated_sender x) = no_repeated k.Sender [] us f n x

pub only_channel_memory : {T : Type 0} (us : List Used) (r : Result T TypeFault) → IfErr r (IsChannelFault us) → AreAlike (services_at us) → AreNewNumbers [] (numbers_in k.Sender us) → IfErr r (λ f. f ≡ OutOfMemory)
only_channel_memory us (Ok x) h a n = h
only_channel_memory us (Err f) h a n = no_channel_fault us f a n h
