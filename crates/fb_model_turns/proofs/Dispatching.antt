-- A dispatch counts itself and what follows from all that it emits.
use Rattle.std.proofs.Common.{◌≡◌, ℕ, ◌+◌, ◌≤◌, Bool, true, false, cond, ◌&&◌, ◌⊎◌, ℤ, max, List, [], ◌∷◌, ◌++◌, Option, Some, None, refl, sym, ◌∙◌, ap, subst, arith, inl, inr}
use Rattle.std.specs.List.{AllByRecursion}
use Rattle.std.specs.Str.{bytes_eq}
use Rattle.std.proofs.lemmas.Bool.{cond_both, and_parts}
use Rattle.std.proofs.lemmas.List.{append_assoc, append-nil}
use Rattle.fb_model.specs.Names.{Name, Path, Place, at_place, is_in}
use Rattle.fb_model.specs.Values.{Values}
use Rattle.fb_model.specs.System.{State, Transition, Block, Service, Device, Input, Output, Publish, Subscribe, Delay, Cycle, Restart}
use Rattle.fb_model.specs.Services.{ind, rsp, init, inito, cnf, qo, start, stop, eo, dt, expire, service_events, can_emit}
use Rattle.fb_model.specs.Wires.{Kind, Charted, Serviced, Leaf, leaves, leaf_at}
use Rattle.fb_model.specs.Store.{Condition, Quiet, LeafState, sampled}
use Rattle.fb_model.specs.Charts.{actions_of, is_open, Choice, Cross, guarded, tested, choice, emission, Phase, Waiting, Acting, Settling, Moment, At, Moves, with_event, freely, acts, settles, Reaches, here, then, Rests, dispatched, Invoked}
use Rattle.fb_model.specs.Serving.{Effect, Reply, receive, set_own, set_value, bit, set_condition, emits, is_ready, is_fired, wait, due_after, opened, published, subscribed, started, expires, reply, Serves}
use Rattle.fb_model.specs.Certificates.{Certificate, reached, event_names, events_of, has_event, is_input}
use Rattle.fb_model.specs.Devices.{Ended, Machine, Runs}
use Rattle.fb_model.specs.Headline.{IsKnown, IsSound}
use Rattle.fb_model.proofs.Lists.{same_name, at_listed}
use Rattle.fb_model.proofs.Running.{at_leaf, some_leaf}
use Rattle.fb_model_turns.specs.Turns.{Counts, Join, joined, caused, outputs_of, StateCounts, FreeCounts, CrossingCounts, InputCounts, ChartCounts, ServiceCounts, KindCounts, DispatchesFit}
use Rattle.fb_model_turns.proofs.Joins.{IsJoin, caused-append}

-- ---- transitions

free_open : (o : Option Name) → is_open o None ≡ true → o ≡ None
free_open None h = refl
free_open (Some n) h = cc

-- a guard that lets cross, or the transitions after it do
guard_cross : (g : Option Bool) (t u : Name) (rest : Choice) → guarded g t rest ≡ Cross u → (t ≡ u) ⊎ (rest ≡ Cross u)
guard_cross None t u rest h = cc
guard_cross (Some true) t u rest h = inl (cc)
guard_cross (Some false) t u rest h = inr h

-- a transition that is crossed: its source, that its event lets it, and its target
record Crossed (P : Transition → Type 0) (s u : Name) (waiting : Option Name) : Type 0 where
  transition : Transition
  holds : P transition
  source : transition.source ≡ s
  is_open_now : is_open transition.event waiting ≡ true
  target : transition.target ≡ u

crossed : (P : Transition → Type 0) (ts : List Transition) (s u : Name) (waiting : Option Name) (values : Values) → AllByRecursion P ts → choice ts s waiting values ≡ Cross u → Crossed P s u waiting
crossed P [] s u waiting values h e = cc
crossed P (t ∷ ts) s u waiting values h e =
    cond_both (bytes_eq t.source s && is_open t.event waiting) (guarded (tested t.guard values) t.target (choice ts s waiting values)) (choice ts s waiting values) (λ r. r ≡ Cross u → Crossed P s u waiting)
    (λ d f.
    let p = and_parts (bytes_eq t.source s) (is_open t.event waiting) d in
    elim (guard_cross (tested t.guard values) t.target u (choice ts s waiting values) f) [
      | inl to_u ↦ record { transition = t; holds = h.0; source = same_name t.source s p.0; is_open_now = p.1; target = to_u }
      | inr r ↦ crossed P ts s u waiting values h.1 r
    ])
    (λ d f. crossed P ts s u waiting values h.1 f) e

-- ---- charts

module _ (join : Join) (is : IsJoin join) (counts : Counts) (targets : Name → List Place) (path : Path) (block : Block) (fits : ChartCounts join counts targets path block) where
  abbrev emitted : Name → List Name
  emitted s = outputs_of (actions_of block.states s)

  state_le : (xs : List State) (s : Name) → AllByRecursion (StateCounts join counts targets path) xs → caused join counts targets (outputs_of (actions_of xs s)) ≤ counts.charge (at_place path s)
  state_le [] s h = omega arith
  state_le (x ∷ xs) s h =
      cond_both (bytes_eq x.name s) x.actions (actions_of xs s) (λ es. caused join counts targets (outputs_of es) ≤ counts.charge (at_place path s))
      (λ e. subst (λ (n : Name). caused join counts targets (outputs_of x.actions) ≤ counts.charge (at_place path n)) (same_name x.name s e) h.0)
      (λ e. state_le xs s h.1)

  -- a free crossing is paid for by the charge
  free_le : (s u : Name) (values : Values) → choice block.transitions s None values ≡ Cross u → join (caused join counts targets (emitted s)) (counts.charge (at_place path u)) ≤ counts.charge (at_place path s)
  free_le s u values e =
      let k = crossed (FreeCounts join counts targets path block) block.transitions s u None values fits.free e in
      subst (λ (v : Name). join (caused join counts targets (emitted s)) (counts.charge (at_place path v)) ≤ counts.charge (at_place path s)) k.target
      (subst (λ (v : Name). join (caused join counts targets (emitted v)) (counts.charge (at_place path k.transition.target)) ≤ counts.charge (at_place path v)) k.source (k.holds (free_open k.transition.event k.is_open_now)))

  module _ (event : Name) (listed : InputCounts counts path block event) where
    -- the first crossing is paid for by the weight
    crossing_le : (s u : Name) (values : Values) → choice block.transitions s (Some event) values ≡ Cross u → 1 + counts.charge (at_place path u) ≤ counts.weight (at_place path event)
    crossing_le s u values e =
        let k = crossed (CrossingCounts counts path event) block.transitions s u (Some event) values listed.crossings e in
        subst (λ (v : Name). 1 + counts.charge (at_place path v) ≤ counts.weight (at_place path event)) k.target (k.holds k.is_open_now)

    -- what was emitted before the state was entered, and the charge of the state, are within
    abbrev Entered : List Name → Name → Type 0
    Entered past s = 1 + join (caused join counts targets past) (counts.charge (at_place path s)) ≤ counts.weight (at_place path event)

    abbrev Within : Moment → Type 0
    Within (At s c (Waiting e) n out) = (out ≡ []) × (e ≡ event)
    Within (At s c (Acting left) n out) = (past : List Name) × (out ++ outputs_of left ≡ past ++ emitted s) × Entered past s
    Within (At s c Settling n out) = (past : List Name) × (out ≡ past ++ emitted s) × Entered past s

    stays_within : (c d : Moment) → Moves block c d → Within c → Within d
    stays_within c d (with_event s u e k n out p) (out_is, e_is) =
        let q : 1 + counts.charge (at_place path u) ≤ counts.weight (at_place path event) = crossing_le s u k.own (subst (λ (v : Name). choice block.transitions s (Some v) k.own ≡ Cross u) e_is p) in
        ([], ap (λ o. o ++ emitted u) out_is, omega (arith, q, is.none (counts.charge (at_place path u))))
    stays_within c d (freely s u k n out p) (past, out_is, paid) =
        let all_is : caused join counts targets out ≡ join (caused join counts targets past) (caused join counts targets (emitted s)) = ap (caused join counts targets) out_is ∙ caused-append join is counts targets past (emitted s) in
        let apart : join (caused join counts targets out) (counts.charge (at_place path u)) ≡ join (caused join counts targets past) (join (caused join counts targets (emitted s)) (counts.charge (at_place path u))) =
        ap (λ n. join n (counts.charge (at_place path u))) all_is ∙ is.assoc (caused join counts targets past) (caused join counts targets (emitted s)) (counts.charge (at_place path u)) in
        let less : join (caused join counts targets past) (join (caused join counts targets (emitted s)) (counts.charge (at_place path u))) ≤ join (caused join counts targets past) (counts.charge (at_place path s)) =
        is.more _ _ _ _ (omega arith) (free_le s u k.own p) in
        (out, refl, omega (arith, apart, less, paid))
    stays_within c d (acts s a left k n m out values p) (past, out_is, paid) = (past, append_assoc out (emission a.output) (outputs_of left) ∙ out_is, paid)
    stays_within c d (settles s k n out) (past, out_is, paid) = (past, sym (append-nil out) ∙ out_is, paid)

    within_all : (c d : Moment) → Reaches block c d → Within c → Within d
    within_all c d here w = w
    within_all c d (then m e r s) w = stays_within m d s (within_all c m r w)

    rests_within : (phase : Phase) (s : Name) (c : Rattle.fb_model.specs.Store.Cells) (n : ℕ) (out : List Name) → Rests block s c phase → Within (At s c phase n out) → 1 + caused join counts targets out ≤ counts.weight (at_place path event)
    rests_within (Waiting e) s c n out r w = let none : caused join counts targets out ≡ 0 = ap (caused join counts targets) w.0 in omega (arith, none, listed.least)
    rests_within (Acting left) s c n out r w = absurd r
    rests_within Settling s c n out r (past, out_is, paid) =
        let all_is : caused join counts targets out ≡ join (caused join counts targets past) (caused join counts targets (emitted s)) = ap (caused join counts targets) out_is ∙ caused-append join is counts targets past (emitted s) in
        let less : join (caused join counts targets past) (caused join counts targets (emitted s)) ≤ join (caused join counts targets past) (counts.charge (at_place path s)) =
        is.more _ _ _ _ (omega arith) (state_le block.states s fits.states) in
        omega (arith, all_is, less, paid)

    invoked_le : (before after : LeafState) (steps : ℕ) (outs : List Name) → Invoked block before event after steps outs → 1 + caused join counts targets outs ≤ counts.weight (at_place path event)
    invoked_le before after steps outs i = rests_within i.phase i.end after.cells steps outs i.rest (within_all (dispatched before event) (At i.end after.cells i.phase steps outs) i.run (refl, refl))

-- ---- services

-- a service emits what it can emit, or nothing
module _ (P : List Name → Type 0) (nothing : P []) where
  expires_emits : (service : Service) (c : Condition) (s : LeafState) → P (eo ∷ []) → P (expires service c s).outs
  expires_emits service c s h = go (is_fired s.condition)
    where
      go : (q : Bool) → P (cond q (emits service (eo ∷ []) None (set_condition c s)) (emits service [] None s)).outs
      go true = h
      go false = nothing

  timer_emits : (a b x d : Reply) (t u v : Bool) → P a.outs → P b.outs → (P (eo ∷ []) → P x.outs) → P d.outs → P (cond v (eo ∷ []) []) → P (cond t a (cond u b (cond v x d))).outs
  timer_emits a b x d true u v ha hb hx hd h = ha
  timer_emits a b x d false true v ha hb hx hd h = hb
  timer_emits a b x d false false true ha hb hx hd h = hx h
  timer_emits a b x d false false false ha hb hx hd h = hd

  pub reply_emits : (service : Service) (clock : ℕ) (e : Name) (values : List ℤ) (s : LeafState) → P (can_emit service e) → P (reply service clock e values s).outs
  reply_emits (Input number types) clock e values s h = h
  reply_emits (Output number types) clock e values s h = h
  reply_emits (Publish channel types) clock e values s h = go (bytes_eq e init) h
    where
      go : (t : Bool) → P (cond t (inito ∷ []) (cnf ∷ [])) → P (cond t (opened (Publish channel types) s) (published channel types s)).outs
      go true h = h
      go false h = h
  reply_emits (Subscribe channel types) clock e values s h = go (bytes_eq e init) (bytes_eq e rsp) h
    where
      subscribed_emits : P (ind ∷ []) → P (subscribed channel types values s).outs
      subscribed_emits h = by (is_ready s.condition)
        where
          by : (q : Bool) → P (cond q (emits (Subscribe channel types) (ind ∷ []) None (set_own (λ v. receive 1 values (set_value qo (bit true) v)) s)) (emits (Subscribe channel types) [] None s)).outs
          by true = h
          by false = nothing

      go : (t u : Bool) → P (cond t (inito ∷ []) (cond u [] (ind ∷ []))) → P (cond t (opened (Subscribe channel types) s) (cond u (emits (Subscribe channel types) [] None s) (subscribed channel types values s))).outs
      go true u h = h
      go false true h = nothing
      go false false h = subscribed_emits h
  reply_emits Delay clock e values s h =
      timer_emits (started Delay clock (wait (s.cells.own dt)) s) (emits Delay [] None (set_condition Quiet s)) (expires Delay Quiet s) (emits Delay [] None s)
      (bytes_eq e start) (bytes_eq e stop) (bytes_eq e expire) nothing nothing (expires_emits Delay Quiet s) nothing h
  reply_emits Cycle clock e values s h =
      timer_emits (started Cycle clock (max (wait (s.cells.own dt)) 1) s) (emits Cycle [] None (set_condition Quiet s)) (expires Cycle (due_after clock (max (wait (s.cells.own dt)) 1)) s) (emits Cycle [] None s)
      (bytes_eq e start) (bytes_eq e stop) (bytes_eq e expire) nothing nothing (expires_emits Cycle (due_after clock (max (wait (s.cells.own dt)) 1)) s) nothing h
  reply_emits Restart clock e values s h = h

-- ---- leaves

module _ (join : Join) (is : IsJoin join) (counts : Counts) where
  served_le : (targets : Name → List Place) (path : Path) (kind : Kind) (clock : ℕ) (e : Name) (values : List ℤ) (before after : LeafState) (steps : ℕ) (outs : List Name) (effect : Option Effect)
      → KindCounts join counts targets path kind → is_in e (events_of kind) ≡ true → Serves kind clock e values before after steps outs effect → 1 + caused join counts targets outs ≤ counts.weight (at_place path e)
  served_le targets path (Charted block) clock e values before after steps outs effect fits listed s =
      invoked_le join is counts targets path block fits e (at_listed (InputCounts counts path block) (event_names block.event_inputs) e fits.weights listed) before after steps outs s.0
  served_le targets path (Serviced service) clock e values before after steps outs effect fits listed s =
      let f : ServiceCounts join counts targets path service e = at_listed (ServiceCounts join counts targets path service) (service_events service) e fits listed in
      subst (λ (os : List Name). 1 + caused join counts targets os ≤ counts.weight (at_place path e)) (sym s.outs_are)
      (reply_emits (λ os. 1 + caused join counts targets os ≤ counts.weight (at_place path e)) (omega (arith, f)) service clock e values before f)

  kind_least : (targets : Name → List Place) (path : Path) (kind : Kind) (e : Name) → KindCounts join counts targets path kind → is_in e (events_of kind) ≡ true → 1 ≤ counts.weight (at_place path e)
  kind_least targets path (Charted block) e fits listed = (at_listed (InputCounts counts path block) (event_names block.event_inputs) e fits.weights listed).least
  kind_least targets path (Serviced service) e fits listed =
      let f : ServiceCounts join counts targets path service e = at_listed (ServiceCounts join counts targets path service) (service_events service) e fits listed in omega (arith, f)

  -- an event input counts at least 1
  pub input_least : (all : List Leaf) (p : Place) → DispatchesFit join counts all → is_input all p ≡ true → 1 ≤ counts.weight p
  input_least all p fits i =
      let (leaf, found) = some_leaf (leaf_at all p.path) p.event i in
      let at : KindCounts join counts leaf.targets leaf.path leaf.kind × (leaf.path ≡ p.path) = at_leaf (λ leaf. KindCounts join counts leaf.targets leaf.path leaf.kind) all p.path leaf fits found in
      let l : is_in p.event (events_of leaf.kind) ≡ true = subst (λ o. has_event o p.event ≡ true) found i in
      subst (λ path. 1 ≤ counts.weight (at_place path p.event)) at.1 (kind_least leaf.targets leaf.path leaf.kind p.event at.0 l)

  -- a dispatch counts itself, and what follows from what it emits
  pub dispatch_le : (cert : Certificate) (device : Device) (fits : DispatchesFit join counts (leaves device)) (old : Machine) (sound : IsSound cert device old) (q cause : ℕ) (place : Place) (steps : ℕ) (effect : Option Effect) (ended : Option Ended) (new : Machine)
      → (r : Runs cert device old q cause place steps effect ended new) → 1 + joined join counts.weight (reached r.leaf.targets r.outs) ≤ counts.weight r.first.place
  dispatch_le cert device fits old sound q cause place steps effect ended new r =
      let known : AllByRecursion (IsKnown device sound.opening_of sound.home_of old.next q) (r.first ∷ r.rest) = subst (AllByRecursion (IsKnown device sound.opening_of sound.home_of old.next q)) r.was (sound.entries q) in
      let listed : is_in r.first.place.event (events_of r.leaf.kind) ≡ true = subst (λ o. has_event o r.first.place.event ≡ true) r.found known.0.input in
      let at : KindCounts join counts r.leaf.targets r.leaf.path r.leaf.kind × (r.leaf.path ≡ r.first.place.path) = at_leaf (λ leaf. KindCounts join counts leaf.targets leaf.path leaf.kind) (leaves device) r.first.place.path r.leaf fits r.found in
      subst (λ (p : Path). 1 + caused join counts r.leaf.targets r.outs ≤ counts.weight (at_place p r.first.place.event)) at.1
      (served_le r.leaf.targets r.leaf.path r.leaf.kind old.clock r.first.place.event r.first.values (sampled old.store r.leaf r.first.place.event) r.after steps r.outs effect at.0 listed r.served)
