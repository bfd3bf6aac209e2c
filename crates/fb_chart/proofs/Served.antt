-- Dispatches of services, as blocks.
use Rattle.std.proofs.Common.{◌≡◌, ◌≤◌, ℕ, ℤ, Bool, true, false, ◌⊎◌, inl, inr, List, [], ◌∷◌, length, Option, refl, sym, ap, subst, ◌∙◌, string_bytes}
use Rattle.std.specs.Prelude.{if◌then◌else◌}
use Rattle.std.specs.List.{AllByRecursion}
use Rattle.std.specs.Str.{bytes_eq}
use Rattle.fb_model.specs.Names.{Name, is_in}
use Rattle.fb_model.specs.System as book
use Rattle.fb_model.specs.Services.{ind, rsp, init, inito, cnf, eo, expire, service_event_outputs, service_events, can_emit}
use Rattle.fb_model.specs.Wires.{Kind, Serviced}
use Rattle.fb_model.specs.Store as st
use Rattle.fb_model.specs.Ranges.{IsMessage}
use Rattle.fb_model.specs.Serving.{Serves, reply}
use Rattle.fb_model.specs.Certificates.{events_of}
use Rattle.fb_types_services.specs.declared.service.Service.{Service}
use Rattle.fb_types_services.specs.Views.{service_of}
use Rattle.st_exec.specs.Cells.{Cell, values_of, forms_of}
use Rattle.fb_chart.specs.declared.table.Output.{Output}
use Rattle.fb_chart.specs.declared.table.Body.{Body}
use Rattle.fb_chart.specs.declared.table.Body.TheVariants as b
use Rattle.fb_chart.specs.declared.table.Block.{Block}
use Rattle.fb_chart.specs.Views.{named, event_names, output_names, given_by, body_kind, kind_of, outputs_of}
use Rattle.fb_chart.specs.Tables.{IsBody}
use Rattle.fb_chart.specs.Sending.{Points, sent_to}
use Rattle.fb_chart.specs.Sampling.{AreStores}
use Rattle.fb_chart.specs.declared.standing.Effect.{Effect}
use Rattle.fb_chart.specs.declared.standing.Ports.{Ports}
use Rattle.fb_chart.specs.declared.standing.Standing.{Standing}
use Rattle.fb_chart.specs.Ports.{ServesPorts}
use Rattle.fb_chart.specs.Responses.{event_at, leaf_of, effect_of}
use Rattle.fb_chart.specs.Serving.{SendsFit, CanServe, HasServed}
use Rattle.fb_chart.proofs.Serving.{reply_outs}
use Rattle.fb_chart.specs.declared.memory.Condition.{Condition}
use Rattle.fb_chart.specs.declared.memory.Condition.TheVariants as has
use Rattle.fb_chart.specs.Conditions.{IsConditionOf, leaf_state}
use Rattle.fb_chart.specs.Dispatching.{CanRun, HasRun, HasRoom, SendsWell}

abbrev AreKnown : List Name → List Name → Type 0
AreKnown names os = AllByRecursion (λ (o : Name). is_in o names ≡ true) os

either : (c : Bool) (names os ps : List Name) → AreKnown names os → AreKnown names ps → AreKnown names (if c then os else ps)
either true names os ps h k = h
either false names os ps h k = k

-- what a service can emit is an event output of its own
emits_own : (service : book.Service) (e : Name) → AreKnown (service_event_outputs service) (can_emit service e)
emits_own (book.Input n types) e = (refl, tt)
emits_own (book.Output n types) e = tt
emits_own (book.Publish channel types) e = either (bytes_eq e init) (inito ∷ cnf ∷ []) (inito ∷ []) (cnf ∷ []) (refl, tt) (refl, tt)
emits_own (book.Subscribe channel types) e =
    either (bytes_eq e init) (inito ∷ ind ∷ []) (inito ∷ []) (if bytes_eq e rsp then [] else ind ∷ []) (refl, tt) (either (bytes_eq e rsp) (inito ∷ ind ∷ []) [] (ind ∷ []) tt (refl, tt))
emits_own book.Delay e = either (bytes_eq e expire) (eo ∷ []) (eo ∷ []) [] (refl, tt) tt
emits_own book.Cycle e = either (bytes_eq e expire) (eo ∷ []) (eo ∷ []) [] (refl, tt) tt
emits_own book.Restart e = (refl, tt)

reply_known : (service : book.Service) (clock : ℕ) (e : Name) (values : List ℤ) (s : st.LeafState) → AreKnown (service_event_outputs service) (reply service clock e values s).outs
reply_known service clock e values s = by (reply_outs service clock e values s) where
  by : ((reply service clock e values s).outs ≡ []) ⊎ ((reply service clock e values s).outs ≡ can_emit service e) → AreKnown (service_event_outputs service) (reply service clock e values s).outs
  by (inl none) = subst (AreKnown (service_event_outputs service)) (sym none) tt
  by (inr all) = subst (AreKnown (service_event_outputs service)) (sym all) (emits_own service e)

module _ (x : Block) (p : Ports) (own issued : List Cell) (condition : Condition) (event : ℕ) (values : List ℤ) (most room : ℕ) (can : CanRun x p own issued condition event values most room) (s : Service) (body : x.body ≡ b.Served s) where
  kind : kind_of x ≡ Serviced (service_of s)
  kind = ap body_kind body

  events_are : event_names x ≡ service_events (service_of s)
  events_are = can.table.events ∙ ap events_of kind

  outputs_are : output_names x ≡ service_event_outputs (service_of s)
  outputs_are = can.table.outputs ∙ ap outputs_of kind

  -- a service remembers no state of a chart
  pub service_alone : (state : ℕ) → condition ≡ has.State state → ⊥
  service_alone state at = subst (IsConditionOf (Serviced (service_of s))) at (subst (λ k. IsConditionOf k condition) kind can.condition)

  pub can_serve : CanServe (service_of s) p x.outputs.items (forms_of own) (forms_of issued)
  can_serve = record {
    few = subst (λ (y : Body). IsBody (forms_of own) (event_names x) (output_names x) y) body can.table.body;
    stores = subst (λ (k : Kind). AreStores k (forms_of own) (forms_of issued)) kind can.stores;
    ports = subst (λ (k : Kind). ServesPorts k (forms_of own) p) kind can.ports;
    names = outputs_are;
    apart = can.table.outputs_apart;
    gives = subst (λ (k : Kind). AllByRecursion (λ (o : Output). given_by o ≡ st.gives k (string_bytes o.name)) x.outputs.items) kind can.table.gives;
    placed = can.table.placed;
  }

  pub can_receive : IsMessage (Serviced (service_of s)) values
  can_receive = subst (λ (k : Kind). IsMessage k values) kind can.message

  pub sends_fit : SendsFit (service_of s) (values_of own)
  sends_fit = subst (λ (k : Kind). SendsWell k (values_of own)) kind can.sends

  pub can_send : length (sent_to x.outputs.items (can_emit (service_of s) (event_at (service_of s) event))) ≤ room
  can_send =
      subst (λ (es : List Name). length (sent_to x.outputs.items (can_emit (service_of s) (named es event))) ≤ room) events_are
      (subst (λ (k : Kind). HasRoom k x.outputs.items (leaf_state k own issued condition) (named (event_names x) event) most room) kind can.fine)

  pub service_after : (standing' : Standing) → IsConditionOf (kind_of x) (has.Service standing')
  service_after standing' = subst (λ k. IsConditionOf k (has.Service standing')) (sym kind) tt

  pub service_ran : (standing : Standing) → condition ≡ has.Service standing → (own' issued' : List Cell) (clock : ℕ) (standing' : Standing) (effect : Option Effect) (old new : Points)
      → HasServed (service_of s) x.outputs.items clock (event_at (service_of s) event) values (leaf_of (values_of own) (values_of issued) standing) (leaf_of (values_of own') (values_of issued') standing') (effect_of effect) old new
      → HasRun x event values clock (leaf_state (kind_of x) own issued condition) (leaf_state (kind_of x) own' issued' (has.Service standing')) 1 effect old new
  service_ran standing at own' issued' clock standing' effect old new h =
      let as_served = Serviced (service_of s) in
      let after = leaf_state as_served own' issued' (has.Service standing') in
      record {
        outs = h.outs;
        served = subst (λ (k : Kind). Serves k clock (named (event_names x) event) values (leaf_state k own issued condition) (leaf_state k own' issued' (has.Service standing')) 1 h.outs (effect_of effect)) (sym kind)
            (subst (λ (d : Condition). Serves as_served clock (named (event_names x) event) values (leaf_state as_served own issued d) after 1 h.outs (effect_of effect)) (sym at)
            (subst (λ (es : List Name). Serves as_served clock (named es event) values (leaf_state as_served own issued (has.Service standing)) after 1 h.outs (effect_of effect)) (sym events_are) h.replied));
        sent = h.sent;
        known = subst (λ (ns : List Name). AreKnown ns h.outs) (sym outputs_are)
            (subst (AreKnown (service_event_outputs (service_of s))) (sym h.replied.outs_are)
            (reply_known (service_of s) clock (event_at (service_of s) event) values (leaf_of (values_of own) (values_of issued) standing)));
      }
