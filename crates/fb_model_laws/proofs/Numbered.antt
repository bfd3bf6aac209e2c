-- The services of well typed systems have numbers of two bytes and few value types.
use Rattle.std.proofs.Common.{◌≤◌, ◌<◌, ◌^◌, ℕ, List, length, arith}
use Rattle.std.specs.List.{AllByRecursion}
use Rattle.fb_words.specs.declared.elem_type.ElemType.{ElemType}
use Rattle.fb_model.specs.Trees.{ParameterTree}
use Rattle.fb_model.specs.Declarations.{InstanceTree, BlockTree, SourceTree}
use Rattle.fb_model.specs.System.{Service, Parameter, Device, System}
use Rattle.fb_model.specs.Typing.{IsId, an_id}
use Rattle.fb_model.specs.NetworkTyping.{value_types, IsService, an_input, an_output, a_publisher, a_subscriber, a_delay, a_cycle, a_restart, IsServed, a_service, ElaboratesWith}
use Rattle.fb_model.specs.Wires.{Serviced, Leaf, leaves}
use Rattle.fb_model.specs.Certificates.{HasNumber, IsNumbered}
use Rattle.fb_model_laws.proofs.Charts.{on_kinds}

small : (ps : List ParameterTree) (n : ℕ) → IsId ps n → n < 2 ^ 16
small _ n (an_id e w l) = omega (arith, l)

has_number : (ps : List ParameterTree) (n : ℕ) (types : List ElemType) → IsId ps n → length types ≤ 16 → HasNumber n types
has_number ps n types h l = record { number = small ps n h; few = l }

service_numbered : (i : InstanceTree) (s : Service) → IsService i s → IsNumbered (Serviced s)
service_numbered i _ (an_input {n = n} e l h) = has_number _ n (value_types i.types) h l
service_numbered i _ (an_output {n = n} e l h) = has_number _ n (value_types i.types) h l
service_numbered i _ (a_publisher {c = c} e l h f) = has_number _ c.number (value_types i.types) h l
service_numbered i _ (a_subscriber {c = c} e l h f) = has_number _ c.number (value_types i.types) h l
service_numbered i _ (a_delay e f) = tt
service_numbered i _ (a_cycle e f) = tt
service_numbered i _ (a_restart e f) = tt

served_numbered : (i : InstanceTree) (s : Service) (qs : List Parameter) → IsServed i s qs → IsNumbered (Serviced s)
served_numbered i s qs (a_service h ps) = service_numbered i s h

pub all_numbered : (library : List BlockTree) (source : SourceTree) (system : System) → ElaboratesWith library source system → AllByRecursion (λ (d : Device). AllByRecursion (λ (leaf : Leaf). IsNumbered leaf.kind) (leaves d)) system.devices
all_numbered library source system h = on_kinds IsNumbered (λ b c k basic. tt) served_numbered library source system h
