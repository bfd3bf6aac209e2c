-- Dispatches of charts, as blocks.
use Rattle.std.proofs.Common.{◌≡◌, ℕ, ◌<◌, ℤ, true, List, length, None, refl, sym, ap, subst, ◌∙◌}
use Rattle.std.specs.List.{AllByRecursion}
use Rattle.fb_model.specs.Names.{Name, is_in}
use Rattle.fb_model.specs.Wires.{Kind, Charted}
use Rattle.fb_model.specs.Serving.{Serves}
use Rattle.fb_model.specs.Certificates.{events_of}
use Rattle.fb_model_laws.specs.Leaves.{IsClosed}
use Rattle.st_exec.specs.Cells.{Cell, forms_of}
use Rattle.fb_chart.specs.declared.table.Chart.{Chart}
use Rattle.fb_chart.specs.declared.table.Body.TheVariants as b
use Rattle.fb_chart.specs.declared.table.Block.{Block}
use Rattle.fb_chart.specs.Views.{named, event_names, output_names, body_kind, kind_of, outputs_of}
use Rattle.fb_chart.specs.Sending.{Points}
use Rattle.fb_chart.specs.Charting.{block_in, states_in, events_in, outputs_in, IsReady, IsStateNumber, cells_of, begun, FineFrom, HasRested}
use Rattle.fb_chart.proofs.Coming.{outs_known}
use Rattle.fb_chart.proofs.Invoking.{chart_ready, chart_event}
use Rattle.fb_chart.specs.declared.standing.Ports.{Ports}
use Rattle.fb_chart.specs.declared.standing.Standing.{Standing}
use Rattle.fb_chart.specs.declared.memory.Condition.{Condition}
use Rattle.fb_chart.specs.declared.memory.Condition.TheVariants as has
use Rattle.fb_chart.specs.Conditions.{IsConditionOf, leaf_state}
use Rattle.fb_chart.specs.Dispatching.{CanRun, HasRun, HasRoom}

module _ (x : Block) (p : Ports) (own issued : List Cell) (condition : Condition) (event : ℕ) (values : List ℤ) (most room : ℕ) (can : CanRun x p own issued condition event values most room) (c : Chart) (body : x.body ≡ b.Chart c) where
  kind : kind_of x ≡ Charted (block_in c)
  kind = ap body_kind body

  events_are : event_names x ≡ events_in c
  events_are = can.table.events ∙ ap events_of kind

  outputs_are : output_names x ≡ outputs_in c
  outputs_are = can.table.outputs ∙ ap outputs_of kind

  fits : IsConditionOf (Charted (block_in c)) condition
  fits = subst (λ k. IsConditionOf k condition) kind can.condition

  -- a chart remembers nothing of a service
  pub chart_alone : (standing : Standing) → condition ≡ has.Service standing → ⊥
  chart_alone standing at = subst (IsConditionOf (Charted (block_in c))) at fits

  pub ready : IsReady c x.outputs.items (forms_of own) (forms_of issued)
  ready = chart_ready (forms_of own) (forms_of issued) x can.table can.closed can.shaped can.stores c body

  pub known_event : event < length (events_in c)
  known_event = chart_event (forms_of own) (forms_of issued) x can.table can.closed can.shaped can.stores c body event can.event

  pub condition_after : (state' : ℕ) → IsStateNumber state' (block_in c) → IsConditionOf (kind_of x) (has.State state')
  condition_after state' h = subst (λ k. IsConditionOf k (has.State state')) (sym kind) h

  module _ (state : ℕ) (at : condition ≡ has.State state) where
    pub known_state : IsStateNumber state (block_in c)
    known_state = subst (IsConditionOf (Charted (block_in c))) at fits

    pub fine : FineFrom (block_in c) x.outputs.items most room (begun c state (cells_of own issued) event)
    fine =
        subst (λ (es : List Name). HasRoom (Charted (block_in c)) x.outputs.items (leaf_state (Charted (block_in c)) own issued (has.State state)) (named es event) most room) events_are
        (subst (λ (d : Condition). HasRoom (Charted (block_in c)) x.outputs.items (leaf_state (Charted (block_in c)) own issued d) (named (event_names x) event) most room) at
        (subst (λ (k : Kind). HasRoom k x.outputs.items (leaf_state k own issued condition) (named (event_names x) event) most room) kind can.fine))

    pub chart_ran : (own' issued' : List Cell) (clock state' steps : ℕ) (old new : Points)
        → HasRested (block_in c) x.outputs.items (begun c state (cells_of own issued) event) (named (states_in c) state') (cells_of own' issued') steps old new
        → HasRun x event values clock (leaf_state (kind_of x) own issued condition) (leaf_state (kind_of x) own' issued' (has.State state')) steps None old new
    chart_ran own' issued' clock state' steps old new h = record {
      outs = h.come.outs;
      served = subst (λ (k : Kind). Serves k clock (named (event_names x) event) values (leaf_state k own issued condition) (leaf_state k own' issued' (has.State state')) steps h.come.outs None) (sym kind)
          (subst (λ (d : Condition). Serves (Charted (block_in c)) clock (named (event_names x) event) values (leaf_state (Charted (block_in c)) own issued d) (leaf_state (Charted (block_in c)) own' issued' (has.State state')) steps h.come.outs None) (sym at)
          (subst (λ (es : List Name). Serves (Charted (block_in c)) clock (named es event) values (leaf_state (Charted (block_in c)) own issued (has.State state)) (leaf_state (Charted (block_in c)) own' issued' (has.State state')) steps h.come.outs None) (sym events_are)
          (record { end = named (states_in c) state'; phase = h.phase; run = h.come.run; rest = h.rest; state = refl }, refl)));
      sent = h.come.sent;
      known = subst (λ (ns : List Name). AllByRecursion (λ (o : Name). is_in o ns ≡ true) h.come.outs) (sym outputs_are)
          (outs_known (block_in c) (outputs_in c) (named (states_in c) state) (cells_of own issued) (named (events_in c) event) 1 (named (states_in c) state') (cells_of own' issued') h.phase steps h.come.outs (subst IsClosed kind can.closed).actions h.come.run);
    }
