-- A refusal that is true of a system denies that its rows pay.
use Rattle.std.proofs.Common.{◌≡◌, ℕ, List, inl, inr, refl, arith}
use Rattle.fb_model.specs.System as system
use Rattle.fb_model.specs.Wires as wires
use Rattle.fb_model.specs.Wires.{Kind, Charted, Serviced, leaves}
use Rattle.fb_model.specs.Ranges.{Range, rows}
use Rattle.fb_model.specs.Clear.{Spans}
use Rattle.fb_model.specs.Certificates as book
use Rattle.fb_model.specs.Certificates.{KindWeighs, InputFits, EventFits, event_names, ColumnFits}
use Rattle.fb_model.specs.Services.{service_events}
use Rattle.fb_model.proofs.Lists.{at_listed}
use Rattle.fb_faults.specs.declared.shortfall.Shortfall.{Shortfall}
use Rattle.fb_faults.specs.declared.shortfall.Shortfall.TheVariants.{OutOfMemory, Charge, Weight, Channel}
use Rattle.fb_check_columns.specs.Fitting.{AllPay}
use Rattle.fb_model.specs.Misfits.{IsLeafFault, ChargeFails, WeightFails, IsUnpaid, IsShortChannel, ChannelsPay}
use Rattle.fb_model.specs.Misfits.{OneOf}
use Rattle.fb_check_columns.proofs.Lists.{some_of, none_lacks}

leaf_denied : (col : book.Column) (ranges : List Range) (leaf : wires.Leaf) (f : Shortfall) → (f ≡ OutOfMemory → ⊥) → IsLeafFault col ranges leaf f → KindWeighs col (rows ranges leaf.path leaf.kind) leaf.targets leaf.path leaf.kind → ⊥
leaf_denied col ranges leaf OutOfMemory n h w = n refl
leaf_denied col ranges leaf (Channel number) n h w = h
leaf_denied col ranges leaf (Charge path) n h w = by (rows ranges leaf.path leaf.kind) leaf.kind h.2 w where
  by : (spans : Spans) (kind : Kind) → ChargeFails col spans leaf.targets leaf.path kind h.0 → KindWeighs col spans leaf.targets leaf.path kind → ⊥
  by spans (Charted block) (inl s) fits = none_lacks (book.StateFits col spans leaf.targets leaf.path block) (λ x. (x.name ≡ h.0) × (book.StateFits col spans leaf.targets leaf.path block x → ⊥)) block.states (λ x p q. q.1 p) fits.states (some_of _ block.states s)
  by spans (Charted block) (inr s) fits = none_lacks (book.FreeFits col spans leaf.targets leaf.path block) (λ t. (t.source ≡ h.0) × (book.FreeFits col spans leaf.targets leaf.path block t → ⊥)) block.transitions (λ x p q. q.1 p) fits.free (some_of _ block.transitions s)
  by spans (Serviced service) s fits = s
leaf_denied col ranges leaf (Weight path) n h w = by (rows ranges leaf.path leaf.kind) leaf.kind h.2 w where
  by : (spans : Spans) (kind : Kind) → WeightFails col leaf.targets leaf.path kind h.0 → KindWeighs col spans leaf.targets leaf.path kind → ⊥
  by spans (Charted block) s fits = s.1 (at_listed (InputFits col leaf.path block) (event_names block.event_inputs) h.0 fits.weights s.0)
  by spans (Serviced service) s fits = s.1 (at_listed (EventFits col leaf.targets leaf.path service) (service_events service) h.0 fits s.0)

unpaid_denied : (col : book.Column) (ranges : List Range) (s : system.System) (f : Shortfall) → (f ≡ OutOfMemory → ⊥) → IsUnpaid col ranges s f → AllPay col ranges s → ⊥
unpaid_denied col ranges s f n u fits =
    none_lacks (λ (d : system.Device). ColumnFits col ranges (leaves d)) (λ (d : system.Device). OneOf (λ (leaf : wires.Leaf). IsLeafFault col ranges leaf f) (leaves d)) s.devices
    (λ d p q. none_lacks (λ (leaf : wires.Leaf). KindWeighs col (rows ranges leaf.path leaf.kind) leaf.targets leaf.path leaf.kind) (λ (leaf : wires.Leaf). IsLeafFault col ranges leaf f) (leaves d)
    (λ leaf w h. leaf_denied col ranges leaf f n h w) p q) fits u

-- a true refusal denies that the rows pay, unless memory ran out
pub denied : (col : book.Column) (ranges : List Range) (s : system.System) (f : Shortfall) → IsUnpaid col ranges s f → AllPay col ranges s → f ≡ OutOfMemory
denied col ranges s OutOfMemory u fits = refl
denied col ranges s (Charge path) u fits = absurd (unpaid_denied col ranges s (Charge path) (λ e. absurd cc) u fits)
denied col ranges s (Weight path) u fits = absurd (unpaid_denied col ranges s (Weight path) (λ e. absurd cc) u fits)
denied col ranges s (Channel number) u fits = absurd (unpaid_denied col ranges s (Channel number) (λ e. absurd cc) u fits)

-- a true refusal of a channel denies that the rows of all channels pay, unless memory ran out
pub channel_denied : (cert : book.Certificate) (repeats : ℕ) (s : system.System) (f : Shortfall) → IsShortChannel cert repeats s f → ChannelsPay cert repeats s → f ≡ OutOfMemory
channel_denied cert repeats s OutOfMemory h pays = refl
channel_denied cert repeats s (Charge path) h pays = absurd h
channel_denied cert repeats s (Weight path) h pays = absurd h
channel_denied cert repeats s (Channel c) h pays = absurd (omega (arith, h, pays c))
