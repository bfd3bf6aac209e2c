-- What fits as a sum fits as a largest number, and the steps of a certificate fit as a sum.
use Rattle.std.proofs.Common.{◌≡◌, ◌≤◌, List, [], ◌∷◌, arith}
use Rattle.std.proofs.lemmas.List.Sums.{sum_by-cons}
use Rattle.fb_model.specs.Names.{Name, Path, Place}
use Rattle.fb_model.specs.System.{Action, Block}
use Rattle.fb_model.specs.Services.{service_events, can_emit}
use Rattle.fb_model.specs.Wires.{Kind, Charted, Serviced, Leaf}
use Rattle.fb_model.specs.Charts.{actions_of, emission}
use Rattle.fb_model.specs.Clear.{Spans}
use Rattle.fb_model.specs.Ranges.{Range, rows}
use Rattle.fb_model.specs.Certificates.{Certificate, steps_of, reached, own, action_load, sent_weight, StateFits, FreeFits, CrossingFits, InputFits, EventFits, KindWeighs, ColumnFits, event_names}
use Rattle.fb_model.proofs.Lists.{all_weaker}
use Rattle.fb_model.proofs.Charting.{sent-append}
use Rattle.fb_model_turns.specs.Turns.{Counts, added, largest, caused, outputs_of, counts_of, StateCounts, FreeCounts, CrossingCounts, InputCounts, ServiceCounts, KindCounts, DispatchesFit}
use Rattle.fb_model_turns.proofs.Joins.{added_sum, largest_le}

-- ---- the longest chain is within all dispatches

module _ (counts : Counts) where
  chain_le : (targets : Name → List Place) (outs : List Name) → caused largest counts targets outs ≤ caused added counts targets outs
  chain_le targets outs = largest_le counts.weight (reached targets outs)

  chain_kind : (targets : Name → List Place) (path : Path) (kind : Kind) → KindCounts added counts targets path kind → KindCounts largest counts targets path kind
  chain_kind targets path (Charted block) h =
      record {
        states = all_weaker (StateCounts added counts targets path) (StateCounts largest counts targets path) block.states (λ x k. omega (arith, k, chain_le targets (outputs_of x.actions))) h.states;
        free = all_weaker (FreeCounts added counts targets path block) (FreeCounts largest counts targets path block) block.transitions (λ t k e. omega (arith, k e, chain_le targets (outputs_of (actions_of block.states t.source)))) h.free;
        weights = h.weights;
      }
  chain_kind targets path (Serviced service) h =
      all_weaker (ServiceCounts added counts targets path service) (ServiceCounts largest counts targets path service) (service_events service) (λ e k. omega (arith, k, chain_le targets (can_emit service e))) h

  pub chains_fit : (all : List Leaf) → DispatchesFit added counts all → DispatchesFit largest counts all
  chains_fit all h = all_weaker (λ leaf. KindCounts added counts leaf.targets leaf.path leaf.kind) (λ leaf. KindCounts largest counts leaf.targets leaf.path leaf.kind) all (λ leaf k. chain_kind leaf.targets leaf.path leaf.kind k) h

-- ---- dispatches are within steps

module _ (cert : Certificate) where
  caused_is : (targets : Name → List Place) (outs : List Name) → caused added (counts_of cert) targets outs ≡ sent_weight (steps_of cert) targets outs
  caused_is targets outs = added_sum (steps_of cert).weight (reached targets outs)

  outputs_le : (lim : Spans) (targets : Name → List Place) (block : Block) (actions : List Action) → sent_weight (steps_of cert) targets (outputs_of actions) ≤ own (steps_of cert) lim targets block actions
  outputs_le lim targets block [] = omega arith
  outputs_le lim targets block (a ∷ rest) =
      omega (arith, outputs_le lim targets block rest, sent-append (steps_of cert) targets (emission a.output) (outputs_of rest), sum_by-cons (action_load (steps_of cert) lim targets block) a rest)

  steps_kind : (lim : Spans) (targets : Name → List Place) (path : Path) (kind : Kind) → KindWeighs (steps_of cert) lim targets path kind → KindCounts added (counts_of cert) targets path kind
  steps_kind lim targets path (Charted block) h =
      record {
        states = all_weaker (StateFits (steps_of cert) lim targets path block) (StateCounts added (counts_of cert) targets path) block.states
            (λ x k. omega (arith, k, caused_is targets (outputs_of x.actions), outputs_le lim targets block x.actions)) h.states;
        free = all_weaker (FreeFits (steps_of cert) lim targets path block) (FreeCounts added (counts_of cert) targets path block) block.transitions
            (λ t k e. omega (arith, k e, caused_is targets (outputs_of (actions_of block.states t.source)), outputs_le lim targets block (actions_of block.states t.source))) h.free;
        weights = all_weaker (InputFits (steps_of cert) path block) (InputCounts (counts_of cert) path block) (event_names block.event_inputs)
            (λ e k. record { least = k.least; crossings = all_weaker (CrossingFits (steps_of cert) path e) (CrossingCounts (counts_of cert) path e) block.transitions (λ t f o. omega (arith, f o)) k.crossings }) h.weights;
      }
  steps_kind lim targets path (Serviced service) h =
      all_weaker (EventFits (steps_of cert) targets path service) (ServiceCounts added (counts_of cert) targets path service) (service_events service)
      (λ e k. omega (arith, k.emissions, caused_is targets (can_emit service e))) h

  pub steps_fit : (ranges : List Range) (all : List Leaf) → ColumnFits (steps_of cert) ranges all → DispatchesFit added (counts_of cert) all
  steps_fit ranges all h =
      all_weaker (λ leaf. KindWeighs (steps_of cert) (rows ranges leaf.path leaf.kind) leaf.targets leaf.path leaf.kind) (λ leaf. KindCounts added (counts_of cert) leaf.targets leaf.path leaf.kind) all
      (λ leaf k. steps_kind (rows ranges leaf.path leaf.kind) leaf.targets leaf.path leaf.kind k) h
