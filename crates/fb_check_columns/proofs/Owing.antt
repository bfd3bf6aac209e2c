-- Refusals of a block.
use Rattle.std.proofs.Common.{Result, Ok, Err, inl, inr, string_bytes}
use Rattle.std.specs.Prelude.{MatchResult}
use Rattle.std.specs.List.{AllByRecursion}
use Rattle.fb_model.specs.Names.{Name}
use Rattle.fb_cert.specs.declared.certificate.Certificate as cert
use Rattle.fb_types_blocks.specs.declared.typed.Block.{Block}
use Rattle.fb_check_columns.specs.declared.column.Column.{Column}
use Rattle.fb_faults.specs.declared.shortfall.Shortfall.{Shortfall}
use Rattle.fb_faults.specs.declared.shortfall.Shortfall.TheVariants.{OutOfMemory, Charge, Weight, Channel}
use Rattle.fb_check_columns.specs.Reckoning.{Costs}
use Rattle.fb_check_columns.specs.Paying.{IsCharge, IsWeight, NamesOne, StatePays, SourcePays, InputPays, EventPays, event_named, inputs_in, costs_in, most_in, ChartPays, StateOwes, EventOwes, IsOwing}
use Rattle.fb_check_columns.proofs.Each.{charge_weaker, weight_weaker}

module _ (c : Column) (rows : cert.Certificate) (path : Name) (block : Block) (loads : Costs) where
  owed_charge : (e : Shortfall) → IsCharge path (StateOwes c rows path block loads) e → IsOwing c rows path block loads e
  owed_charge OutOfMemory h = tt
  owed_charge (Charge row) h = h
  owed_charge (Weight row) h = absurd h
  owed_charge (Channel number) h = absurd h

  owed_weight : (e : Shortfall) → IsWeight path (EventOwes c rows path block) e → IsOwing c rows path block loads e
  owed_weight OutOfMemory h = tt
  owed_weight (Weight row) h = h
  owed_weight (Charge row) h = absurd h
  owed_weight (Channel number) h = absurd h

  pub state_owes : (e : Shortfall) → NamesOne (IsCharge path) (λ s. string_bytes s.0) (StatePays c rows path block loads) block.states.entries (Err e) → IsOwing c rows path block loads e
  state_owes e h = owed_charge e (charge_weaker path _ _ e (λ y p. inl p) h)

  pub source_owes : (e : Shortfall) → NamesOne (IsCharge path) (λ t. string_bytes t.source) (SourcePays c rows path (costs_in block loads)) block.transitions.items (Err e) → IsOwing c rows path block loads e
  source_owes e h = owed_charge e (charge_weaker path _ _ e (λ y p. inr p) h)

  pub all_pay : (r : Result (Unit {0}) Shortfall) → AllByRecursion (StatePays c rows path block loads) block.states.entries → AllByRecursion (SourcePays c rows path (costs_in block loads)) block.transitions.items
      → AllByRecursion (InputPays c rows path (most_in c rows path block)) (inputs_in block) → NamesOne (IsWeight path) event_named (EventPays c rows path) block.transitions.items r
      → MatchResult r (λ u. ChartPays c rows path block loads) (IsOwing c rows path block loads)
  all_pay (Ok u) s t i h = record { states = s; sources = t; inputs = i; events = h }
  all_pay (Err e) s t i h = owed_weight e (weight_weaker path _ _ e (λ y p. inr p) h)
