-- One dispatch of a service by slots and numbers, and the book's.
-- This project's profile of IEC 61499-1 edition 2, 6.
use Rattle.std.specs.Prelude.{ℕ, ℤ, ◌≡◌, ◌≤◌, ◌<◌, ◌++◌, true, List, length, string_bytes, Option}
use Rattle.std.specs.List.{AllByRecursion}
use Rattle.fb_model.specs.Names.{Name, is_in}
use Rattle.fb_model.specs.System.{Service, Publish}
use Rattle.fb_model.specs.Values.{Values, in_type}
use Rattle.fb_model.specs.Typing.{AreDistinct}
use Rattle.fb_model.specs.Services.{qo, service_event_outputs, service_gives, service_outputs}
use Rattle.fb_model.specs.Wires.{Serviced}
use Rattle.fb_model.specs.Store.{LeafState, variable_names}
use Rattle.fb_model.specs.Serving.{Effect, Replied, typed_values}
use Rattle.fb_types_services.specs.Views.{values_of}
use Rattle.st_exec.specs.Forms.{Form, size_of}
use Rattle.fb_chart.specs.declared.table.Output.{Output}
use Rattle.fb_chart.specs.Views.{names_of, given_by}
use Rattle.fb_chart.specs.Tables.{most_values, IsPlacedOutput}
use Rattle.fb_chart.specs.Sending.{Points, sent_to}
use Rattle.fb_chart.specs.Sampling.{AreStores}
use Rattle.fb_chart.specs.declared.standing.Ports.{Ports}
use Rattle.fb_chart.specs.Ports.{ArePorts, receives}

-- the numbers that a PUBLISH sends are in their types
abbrev pub SendsFit : Service → Values → Type 0
SendsFit (Publish channel types) own = AllByRecursion (λ v. in_type v.type v.value ≡ true) (typed_values 1 types own)
SendsFit _ own = Unit {0}

-- a service with its slots, its outputs and its stores
pub record CanServe (service : Service) (p : Ports) (outputs : List Output) (own issued : List Form) : Type 0 where
  pub few : length (values_of service) ≤ most_values
  pub stores : AreStores (Serviced service) own issued
  pub ports : ArePorts service own p
  pub names : names_of outputs ≡ service_event_outputs service
  pub apart : AreDistinct (names_of outputs)
  pub gives : AllByRecursion (λ (o : Output). given_by o ≡ service_gives service (string_bytes o.name)) outputs
  pub placed : AllByRecursion (IsPlacedOutput own issued) outputs

-- a service with its slots, which the values of its data outputs fit in
pub record CanReply (service : Service) (p : Ports) (own : List Form) (values : List ℤ) : Type 0 where
  pub few : length (values_of service) ≤ most_values
  pub ports : ArePorts service own p
  pub quality_out : is_in qo (variable_names (service_outputs service)) ≡ true → p.quality_out < size_of own
  pub received : AllByRecursion (λ (n : ℕ). n < size_of own) p.received.items
  pub message : length values ≤ length (receives service)

-- it replied as the book says, and what its outputs reach was sent
pub record HasServed (service : Service) (outputs : List Output) (clock : ℕ) (event : Name) (values : List ℤ) (before after : LeafState) (effect : Option Effect) (old new : Points) : Type 0 where
  pub outs : List Name
  pub replied : Replied service clock event values before after 1 outs effect
  pub sent : new ≡ old ++ sent_to outputs outs
