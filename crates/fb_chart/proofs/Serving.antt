-- Dispatches of services with their emissions.
use Rattle.std.proofs.Common.{◌≡◌, ℕ, ◌<◌, ◌≤◌, ℤ, Bool, true, false, ◌⊎◌, inl, inr, List, [], ◌∷◌, ◌++◌, length, slice_get, Option, Some, None, refl, sym, ap, subst, ◌∙◌, arith, string_bytes}
use Rattle.std.specs.Prelude.{IfSome, max, if◌then◌else◌}
use Rattle.std.specs.List.{AllByRecursion}
use Rattle.std.specs.Str.{bytes_eq}
use Rattle.fb_model.specs.Names.{Name, is_in}
use Rattle.fb_model.specs.Values.{Values}
use Rattle.fb_model.specs.System as book
use Rattle.fb_model.specs.Services.{ind, rsp, init, inito, cnf, qo, dt, eo, start, stop, expire, service_inputs, service_outputs, service_gives, service_event_outputs, can_emit}
use Rattle.fb_model.specs.Wires.{Serviced}
use Rattle.fb_model.specs.Store as st
use Rattle.fb_model.specs.Store.{LeafState, variable_names}
use Rattle.fb_model.specs.Ranges.{IsMessage}
use Rattle.fb_model.specs.Charts.{issue_all, emission}
use Rattle.fb_model.specs.Serving.{Reply, reply, emits, opened, published, subscribed, started, expires, wait, due_after, set_own, set_condition, set_value, receive, bit, is_ready, is_fired}
use Rattle.fb_model.proofs.Lists.{all_both}
use Rattle.st_exec.specs.Forms.{Form, size_of}
use Rattle.fb_chart.specs.declared.table.Give.{Give}
use Rattle.fb_chart.specs.declared.table.Output.{Output}
use Rattle.fb_chart.specs.Views.{named, names_of, given_by}
use Rattle.fb_chart.specs.Tables.{IsOptional, IsPlacedOutput}
use Rattle.fb_chart.specs.Sending.{Points, sent_to}
use Rattle.fb_chart.specs.Sampling.{IsPlacedGive, CanGive, CanGiveAll}
use Rattle.fb_chart.specs.Charting.{sent_by, issued_by}
use Rattle.fb_chart.proofs.Lists.{all_mapped}
use Rattle.fb_chart.proofs.Naming.{named_stands}
use Rattle.fb_chart.proofs.Acting.{in_front, in_back, sent_emission, issued_emission, output_in}
use Rattle.fb_chart.specs.declared.standing.Ports.{Ports}
use Rattle.fb_chart.specs.declared.standing.Standing.{Standing}
use Rattle.fb_chart.specs.declared.standing.Response.{Response}
use Rattle.fb_chart.specs.Ports.{receives}
use Rattle.fb_chart.specs.Responses.{Replies, event_at, outs_at, leaf_of, effect_of, condition_of}
use Rattle.fb_chart.specs.Serving.{CanServe, CanReply, HasServed}
use Rattle.fb_chart.proofs.Placing.{few_values, output_within, received_within, gives_out}

-- a reply emits nothing, or all of these
abbrev Emits : Reply → List Name → Type 0
Emits r os = (r.outs ≡ []) ⊎ (r.outs ≡ os)

either : (b : Bool) (x y : Reply) (os : List Name) → Emits x os → Emits y os → Emits (if b then x else y) os
either true x y os h k = h
either false x y os h k = k

opens : (b : Bool) (x y : Reply) (os ps : List Name) → Emits x os → Emits y ps → Emits (if b then x else y) (if b then os else ps)
opens true x y os ps h k = h
opens false x y os ps h k = k

timer_outs : (service : book.Service) (e : Name) (first : Reply) (second : LeafState) (then_is : st.Condition) (s : LeafState) → first.outs ≡ []
    → Emits (if bytes_eq e start then first else if bytes_eq e stop then emits service [] None second else if bytes_eq e expire then expires service then_is s else emits service [] None s) (if bytes_eq e expire then eo ∷ [] else [])
timer_outs service e first second then_is s h = go (bytes_eq e expire) where
  go : (c : Bool) → Emits (if bytes_eq e start then first else if bytes_eq e stop then emits service [] None second else if c then expires service then_is s else emits service [] None s) (if c then eo ∷ [] else [])
  go c =
      let os = if c then eo ∷ [] else [] in
      either (bytes_eq e start) first (if bytes_eq e stop then emits service [] None second else if c then expires service then_is s else emits service [] None s) os (inl h)
      (either (bytes_eq e stop) (emits service [] None second) (if c then expires service then_is s else emits service [] None s) os (inl refl)
      (opens c (expires service then_is s) (emits service [] None s) (eo ∷ []) [] (either (is_fired s.condition) (emits service (eo ∷ []) None (set_condition then_is s)) (emits service [] None s) (eo ∷ []) (inr refl) (inl refl)) (inl refl)))

-- what a service emits is nothing, or all that the event can emit
pub reply_outs : (service : book.Service) (clock : ℕ) (e : Name) (values : List ℤ) (s : LeafState) → Emits (reply service clock e values s) (can_emit service e)
reply_outs (book.Input n types) clock e values s = inr refl
reply_outs (book.Output n types) clock e values s = inl refl
reply_outs (book.Publish channel types) clock e values s = opens (bytes_eq e init) (opened (book.Publish channel types) s) (published channel types s) (inito ∷ []) (cnf ∷ []) (inr refl) (inr refl)
reply_outs (book.Subscribe channel types) clock e values s =
    let service = book.Subscribe channel types in
    let nothing = emits service [] None s in
    let arrived = emits service (ind ∷ []) None (set_own (λ v. receive 1 values (set_value qo (bit true) v)) s) in
    let later = subscribed channel types values s in
    opens (bytes_eq e init) (opened service s) (if bytes_eq e rsp then nothing else later) (inito ∷ []) (if bytes_eq e rsp then [] else ind ∷ []) (inr refl)
    (opens (bytes_eq e rsp) nothing later [] (ind ∷ []) (inl refl) (either (is_ready s.condition) arrived nothing (ind ∷ []) (inr refl) (inl refl)))
reply_outs book.Delay clock e values s = timer_outs book.Delay e (started book.Delay clock (wait (s.cells.own dt)) s) (set_condition st.Quiet s) st.Quiet s refl
reply_outs book.Cycle clock e values s = timer_outs book.Cycle e (started book.Cycle clock (max (wait (s.cells.own dt)) 1) s) (set_condition st.Quiet s) (due_after clock (max (wait (s.cells.own dt)) 1)) s refl
reply_outs book.Restart clock e values s = inr refl

-- ---- a service with its outputs and its stores

module _ (service : book.Service) (p : Ports) (outputs : List Output) (own issued : List Form) (can : CanServe service p outputs own issued) where
  pub can_reply : (values : List ℤ) → IsMessage (Serviced service) values → CanReply service p own values
  can_reply values h = record {
    few = can.few;
    ports = can.ports;
    quality_out = λ e. subst (λ (n : ℕ). n < size_of own) (sym can.ports.quality_out) (output_within service own issued can.stores qo e);
    received = subst (AllByRecursion (λ (n : ℕ). n < size_of own)) (sym can.ports.received) (received_within service own issued can.stores);
    message = few_values (receives service) values h;
  }

  one_gives : (g : Give) → is_in (string_bytes g.output) (variable_names (service_outputs service)) ≡ true → IsPlacedGive own issued g → CanGive own issued g
  one_gives g h placed =
      let x = string_bytes g.output in
      record {
        declared = can.stores.own_names x ∙ in_back x (service_inputs service) (service_outputs service ++ []) (in_front x (service_outputs service) [] h);
        like = record { declared = can.stores.issued_names x ∙ h; length = sym (can.stores.issued_lengths x h ∙ sym (can.stores.own_lengths x)) };
        placed = placed;
      }

  pub all_give : AllByRecursion (CanGiveAll own issued) outputs
  all_give = all_both (λ (o : Output). given_by o ≡ service_gives service (string_bytes o.name)) (IsPlacedOutput own issued) (CanGiveAll own issued) outputs one can.gives can.placed where
    one : (o : Output) → given_by o ≡ service_gives service (string_bytes o.name) → IsPlacedOutput own issued o → CanGiveAll own issued o
    one o e placed =
        all_both (λ (g : Give). is_in (string_bytes g.output) (variable_names (service_outputs service)) ≡ true) (IsPlacedGive own issued) (CanGive own issued) o.gives.items one_gives
        (all_mapped (λ (x : Name). is_in x (variable_names (service_outputs service)) ≡ true) (λ (g : Give). string_bytes g.output) o.gives.items
        (subst (AllByRecursion (λ (x : Name). is_in x (variable_names (service_outputs service)) ≡ true)) (sym e) (gives_out service (string_bytes o.name)))) placed

  -- the name of the output of a number
  abbrev name_at : Option ℕ → Option Name
  name_at None = None
  name_at (Some n) = Some (named (service_event_outputs service) n)

  outs_are : (k : Option ℕ) → outs_at service k ≡ emission (name_at k)
  outs_are None = refl
  outs_are (Some n) = refl

  optional : (k : Option ℕ) → IfSome k (λ n. n < length (service_event_outputs service)) → IsOptional (names_of outputs) (name_at k) k
  optional None h = tt
  optional (Some n) h = ap (λ ns. slice_get ns n) can.names ∙ named_stands (service_event_outputs service) n h

  module _ (k : Option ℕ) (known : IfSome k (λ n. n < length (service_event_outputs service))) where
    pub output_there : IfSome k (λ j. j < length outputs)
    output_there = output_in outputs (name_at k) k (optional k known)

    pub sends_are : sent_to outputs (outs_at service k) ≡ sent_by outputs k
    sends_are = ap (sent_to outputs) (outs_are k) ∙ sent_emission outputs (name_at k) k can.apart (optional k known)

    issued_are : (own issued : Values) → issue_all (Serviced service) (outs_at service k) (record { own = own; issued = issued }) ≡ record { own = own; issued = issued_by outputs k own issued }
    issued_are own issued = ap (λ os. issue_all (Serviced service) os (record { own = own; issued = issued })) (outs_are k) ∙ issued_emission (Serviced service) outputs (name_at k) k own issued can.gives (optional k known)

  module _ (clock event : ℕ) (values : List ℤ) (before after issued' : Values) (standing : Standing) (t : Response) (is : Replies service clock event values before after issued' standing t) (known : IfSome t.output (λ n. n < length (service_event_outputs service))) where
    outs_is : (reply service clock (event_at service event) values (leaf_of before issued' standing)).outs ≡ outs_at service t.output
    outs_is = ap (λ (r : Reply). r.outs) is

    -- there is room for what is emitted
    pub room_left : (room : ℕ) → length (sent_to outputs (can_emit service (event_at service event))) ≤ room → length (sent_by outputs t.output) ≤ room
    room_left room h = by (reply_outs service clock (event_at service event) values (leaf_of before issued' standing)) where
      by : Emits (reply service clock (event_at service event) values (leaf_of before issued' standing)) (can_emit service (event_at service event)) → length (sent_by outputs t.output) ≤ room
      by (inl e) = omega (arith, ap length (sym (sends_are t.output known) ∙ ap (sent_to outputs) (sym outs_is ∙ e)))
      by (inr e) = omega (arith, h, ap length (sym (sends_are t.output known) ∙ ap (sent_to outputs) (sym outs_is ∙ e)))

    pub has_served : (new : Values) (old sent : Points) → new ≡ issued_by outputs t.output after issued' → sent ≡ old ++ sent_by outputs t.output
        → HasServed service outputs clock (event_at service event) values (leaf_of before issued' standing) (leaf_of after new t.standing) (effect_of t.effect) old sent
    has_served new old sent e s = record {
      outs = outs_at service t.output;
      replied = record {
        after_is = ap (λ (c : st.Cells). record { cells = c; condition = condition_of t.standing }) (ap (λ (v : Values). record { own = after; issued = v }) e ∙ sym (issued_are t.output known after issued')) ∙ sym (ap (λ (r : Reply). r.after) is);
        steps_are = refl;
        outs_are = sym outs_is;
        effect_is = sym (ap (λ (r : Reply). r.effect) is);
      };
      sent = s ∙ ap (λ ps. old ++ ps) (sym (sends_are t.output known));
    }
