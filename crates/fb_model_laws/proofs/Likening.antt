-- On grounds that are alike demands are alike.
use Rattle.std.proofs.Common.{ℕ, ◌≡◌, ◌+◌, ◌*◌, ◌≤◌, Bool, true, false, List, [], ◌∷◌, ◌++◌, map, Option, Some, None, refl, ◌∙◌, ap, subst, arith, if◌then◌else◌}
use Rattle.std.specs.List.{sum_by, flat_map, AllByRecursion}
use Rattle.std.specs.Str.{bytes_eq}
use Rattle.fb_model.specs.Names.{Name}
use Rattle.fb_model.specs.System.{Action, State, Block, Service}
use Rattle.fb_model.specs.System as system
use Rattle.fb_model.specs.Services.{service_events, can_emit, init}
use Rattle.fb_model.specs.Wires.{Kind, Charted, Serviced}
use Rattle.fb_model.specs.Charts.{actions_of, is_open, emission}
use Rattle.fb_model.specs.Certificates.{reached, event_names}
use Rattle.fb_model.specs.Demands.{Node, state, event, Demand, IsMet, Ground, emitted, of_state, free_demand, of_free, crossing_demand, of_crossing, of_input, sent, of_dispatch, of_kind}
use Rattle.fb_model_laws.specs.Likeness.{AreLike, LeadAlike, AreGroundsAlike}

pub like_append : (P : ℕ → ℕ → Type 0) (ds es fs gs : List Demand) → AreLike P ds es → AreLike P fs gs → AreLike P (ds ++ fs) (es ++ gs)
like_append P [] [] fs gs a b = b
like_append P (d ∷ ds) (e ∷ es) fs gs a b = (a.0, a.1, a.2, like_append P ds es fs gs a.3 b)
like_append P [] (e ∷ es) fs gs a b = absurd a
like_append P (d ∷ ds) [] fs gs a b = absurd a

pub like_flat : {X : Type 0} (P : ℕ → ℕ → Type 0) (f k : X → List Demand) → ((x : X) → AreLike P (f x) (k x)) → (xs : List X) → AreLike P (flat_map f xs) (flat_map k xs)
like_flat P f k h [] = tt
like_flat P f k h (x ∷ xs) = like_append P (f x) (k x) (flat_map f xs) (flat_map k xs) (h x) (like_flat P f k h xs)

like_where : {X : Type 0} (P : ℕ → ℕ → Type 0) (Q : X → Type 0) (f k : X → List Demand) → ((x : X) → Q x → AreLike P (f x) (k x)) → (xs : List X) → AllByRecursion Q xs → AreLike P (flat_map f xs) (flat_map k xs)
like_where P Q f k h [] a = tt
like_where P Q f k h (x ∷ xs) a = like_append P (f x) (k x) (flat_map f xs) (flat_map k xs) (h x a.0) (like_where P Q f k h xs a.1)

emitted_alike : (g h : Ground) (actions : List Action) → LeadAlike g h actions → emitted g actions ≡ emitted h actions
emitted_alike g h [] a = refl
emitted_alike g h (x ∷ xs) a = ap (λ ps. map event ps ++ emitted g xs) a.0 ∙ ap (λ ns. map event (reached h.targets (emission x.output)) ++ ns) (emitted_alike g h xs a.1)

leads_at : (g h : Ground) (states : List State) (s : Name) → AllByRecursion (λ (x : State). LeadAlike g h x.actions) states → LeadAlike g h (actions_of states s)
leads_at g h [] s a = tt
leads_at g h (x ∷ xs) s a = by (bytes_eq x.name s) a.0 (leads_at g h xs s a.1) where
  by : (b : Bool) → LeadAlike g h x.actions → LeadAlike g h (actions_of xs s) → LeadAlike g h (if b then x.actions else actions_of xs s)
  by true here rest = here
  by false here rest = rest

states_alike : (P : ℕ → ℕ → Type 0) (g h : Ground) (kind : Kind) → AreGroundsAlike P g h kind → (states : List State) → AllByRecursion (λ (x : State). LeadAlike g h x.actions) states → AreLike P (map (of_state g) states) (map (of_state h) states)
states_alike P g h kind k [] a = tt
states_alike P g h kind k (x ∷ xs) a = (ap state (k.own x.name), emitted_alike g h x.actions a.0, k.works x.actions, states_alike P g h kind k xs a.1)

free_alike : (P : ℕ → ℕ → Type 0) (g h : Ground) (kind : Kind) → AreGroundsAlike P g h kind → (states : List State) → AllByRecursion (λ (x : State). LeadAlike g h x.actions) states → (source target : Name) (e : Option Name)
    → AreLike P (elim e [ None ↦ free_demand g (actions_of states source) source target ∷ [] | Some n ↦ [] ]) (elim e [ None ↦ free_demand h (actions_of states source) source target ∷ [] | Some n ↦ [] ])
free_alike P g h kind k states a source target None =
    let actions = actions_of states source in
    let out = emitted_alike g h actions (leads_at g h states source a) in
    (ap state (k.own source), ap (λ ns. ns ++ state (g.own target) ∷ []) out ∙ ap (λ p. emitted h actions ++ state p ∷ []) (k.own target), k.crosses actions, tt)
free_alike P g h kind k states a source target (Some n) = tt

crossing_alike : (P : ℕ → ℕ → Type 0) (g h : Ground) (kind : Kind) → AreGroundsAlike P g h kind → (e target : Name) (b : Bool) → AreLike P (if b then crossing_demand g e target ∷ [] else []) (if b then crossing_demand h e target ∷ [] else [])
crossing_alike P g h kind k e target true = (ap event (k.own e), ap (λ p. state p ∷ []) (k.own target), subst (λ (u : ℕ). P (2 * g.unit) (2 * u)) k.unit (k.same (2 * g.unit)), tt)
crossing_alike P g h kind k e target false = tt

input_alike : (P : ℕ → ℕ → Type 0) (g h : Ground) (kind : Kind) → AreGroundsAlike P g h kind → (block : Block) (e : Name) → AreLike P (of_input g block e) (of_input h block e)
input_alike P g h kind k block e =
    (ap event (k.own e), refl, k.same 1, like_flat P (of_crossing g e) (of_crossing h e) (λ t. crossing_alike P g h kind k e t.target (is_open t.event (Some e))) block.transitions)

sent_alike : (g h : Ground) → ((c : ℕ) → g.datagram c ≡ h.datagram c) → (service : Service) (e : Name) → sent g service e ≡ sent h service e
sent_alike g h same (system.Publish c types) e = ap (λ (ns : List Node). if bytes_eq e init then [] else ns) (same c.number)
sent_alike g h same (system.Input number types) e = refl
sent_alike g h same (system.Output number types) e = refl
sent_alike g h same (system.Subscribe c types) e = refl
sent_alike g h same system.Delay e = refl
sent_alike g h same system.Cycle e = refl
sent_alike g h same system.Restart e = refl

dispatch_alike : (P : ℕ → ℕ → Type 0) (g h : Ground) (kind : Kind) → AreGroundsAlike P g h kind → (service : Service) (e : Name) → reached g.targets (can_emit service e) ≡ reached h.targets (can_emit service e) → AreLike P (of_dispatch g service e) (of_dispatch h service e)
dispatch_alike P g h kind k service e out =
    (ap event (k.own e), refl, k.same 1, (ap event (k.own e), ap (λ ns. ns ++ map event (reached g.targets (can_emit service e))) (sent_alike g h k.datagram service e) ∙ ap (λ ps. sent h service e ++ map event ps) out, subst (λ (u : ℕ). P g.unit u) k.unit (k.same g.unit), tt))

pub kind_alike : (P : ℕ → ℕ → Type 0) (g h : Ground) (kind : Kind) → AreGroundsAlike P g h kind → AreLike P (of_kind g kind) (of_kind h kind)
kind_alike P g h (Charted block) k =
    like_append P (map (of_state g) block.states) (map (of_state h) block.states) _ _ (states_alike P g h (Charted block) k block.states k.leads)
    (like_append P (flat_map (of_free g block) block.transitions) (flat_map (of_free h block) block.transitions) _ _
    (like_flat P (of_free g block) (of_free h block) (λ t. free_alike P g h (Charted block) k block.states k.leads t.source t.target t.event) block.transitions)
    (like_flat P (of_input g block) (of_input h block) (input_alike P g h (Charted block) k block) (event_names block.event_inputs)))
kind_alike P g h (Serviced service) k =
    like_where P (λ (e : Name). reached g.targets (can_emit service e) ≡ reached h.targets (can_emit service e)) (of_dispatch g service) (of_dispatch h service) (dispatch_alike P g h (Serviced service) k service) (service_events service) k.leads

-- smaller constants are met with the larger ones
pub met_alike : (x : Node → ℕ) (ds es : List Demand) → AreLike (λ m n. n ≤ m) ds es → AllByRecursion (IsMet x) ds → AllByRecursion (IsMet x) es
met_alike x [] [] a h = tt
met_alike x (d ∷ ds) (e ∷ es) a h =
    let here : e.constant + sum_by x e.terms ≤ x e.node = omega (arith, h.0, a.2, ap (sum_by x) a.1, ap x a.0) in
    (here, met_alike x ds es a.3 h.1)
met_alike x [] (e ∷ es) a h = absurd a
met_alike x (d ∷ ds) [] a h = absurd a
