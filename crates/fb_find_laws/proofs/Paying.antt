-- Of two demands in a row one has a constant of 1 or more.
use Rattle.std.proofs.Common.{ℕ, zero, suc, ◌≡◌, ◌+◌, ◌≤◌, Bool, true, false, List, [], ◌∷◌, ◌++◌, map, replicate, Option, Some, None, refl, sym, ◌∙◌, ap, subst, arith, Contains, if◌then◌else◌, ◌⊎◌, inl, inr}
use Rattle.std.specs.List.{flat_map, AllByRecursion}
use Rattle.std.proofs.lemmas.List.Elements.{All-contains, All-from_recursion}
use Rattle.fb_model.specs.Names.{Name, Place, at_place}
use Rattle.fb_model.specs.System.{Action, State, Block}
use Rattle.fb_model.specs.Services.{service_events, arrive}
use Rattle.fb_model.specs.Wires.{Kind, Charted, Serviced, Leaf}
use Rattle.fb_model.specs.Charts.{actions_of, is_open, emission}
use Rattle.fb_model.specs.Certificates.{reached, event_names, admissions, channels_of}
use Rattle.fb_model.specs.Demands.{Node, state, event, channel, Demand, Ground, emitted, of_state, free_demand, of_free, crossing_demand, of_crossing, of_input, of_dispatch, of_kind, linked, heard, of_channel, channel_demands, bare, bare_demands, bare_network, node_in}
use Rattle.fb_model_laws.proofs.Lists.{all_append}
use Rattle.fb_find_graph.specs.Systems.{Inequality, System, IsPaying}
use Rattle.fb_find_laws.specs.Numbered.{AreNumbers, SaysSame, AreOf}
use Rattle.fb_find_laws.proofs.Numbering.{term_of}

abbrev IsEvent : Node → Type 0
IsEvent (state p) = ⊥
IsEvent (event p) = Unit {0}
IsEvent (channel c) = ⊥

-- an event's constant is 1 or more, and so is another's that asks for what is no event
abbrev Pays : Node → Demand → Type 0
Pays (event p) d = 1 ≤ d.constant
Pays (state p) d = (y : Node) → Contains d.terms y → IsEvent y ⊎ (1 ≤ d.constant)
Pays (channel c) d = (y : Node) → Contains d.terms y → IsEvent y ⊎ (1 ≤ d.constant)

abbrev IsPaid : Demand → Type 0
IsPaid d = Pays d.node d

each_flat : {X Y : Type 0} (P : Y → Type 0) (f : X → List Y) → ((x : X) → AllByRecursion P (f x)) → (xs : List X) → AllByRecursion P (flat_map f xs)
each_flat P f h [] = tt
each_flat P f h (x ∷ xs) = (all_append P (f x) (flat_map f xs)).0 (h x, each_flat P f h xs)

each_map : {X Y : Type 0} (P : Y → Type 0) (f : X → Y) → ((x : X) → P (f x)) → (xs : List X) → AllByRecursion P (map f xs)
each_map P f h [] = tt
each_map P f h (x ∷ xs) = (h x, each_map P f h xs)

only_events : (ts : List Node) → AllByRecursion IsEvent ts → (k : ℕ) (y : Node) → Contains ts y → IsEvent y ⊎ (1 ≤ k)
only_events ts h k y c = inl (All-contains IsEvent ts y (All-from_recursion IsEvent ts h) c)

-- what actions emit are events
events_emitted : (g : Ground) (actions : List Action) → AllByRecursion IsEvent (emitted g actions)
events_emitted g actions = each_flat IsEvent (λ (a : Action). map event (reached g.targets (emission a.output))) (λ a. each_map IsEvent event (λ p. tt) (reached g.targets (emission a.output))) actions

states_pay : (g : Ground) (xs : List State) → AllByRecursion IsPaid (map (of_state g) xs)
states_pay g xs = each_map IsPaid (of_state g) (λ x. only_events (emitted g x.actions) (events_emitted g x.actions) (of_state g x).constant) xs

free_pays : (g : Ground) (actions : List Action) (source target : Name) (e : Option Name) → 1 ≤ g.unit → AllByRecursion IsPaid (elim e [ None ↦ free_demand g actions source target ∷ [] | Some n ↦ [] ])
free_pays g actions source target None u = (λ y h. inr (omega (arith, u)), tt)
free_pays g actions source target (Some n) u = tt

crossing_pays : (g : Ground) (e target : Name) (b : Bool) → 1 ≤ g.unit → AllByRecursion IsPaid (if b then crossing_demand g e target ∷ [] else [])
crossing_pays g e target true u = (omega (arith, u), tt)
crossing_pays g e target false u = tt

input_pays : (g : Ground) (block : Block) → 1 ≤ g.unit → (e : Name) → AllByRecursion IsPaid (of_input g block e)
input_pays g block u e = (omega arith, each_flat IsPaid (of_crossing g e) (λ t. crossing_pays g e t.target (is_open t.event (Some e)) u) block.transitions)

kind_pays : (g : Ground) (kind : Kind) → 1 ≤ g.unit → AllByRecursion IsPaid (of_kind g kind)
kind_pays g (Charted block) u =
    let ys = flat_map (of_free g block) block.transitions in
    let zs = flat_map (of_input g block) (event_names block.event_inputs) in
    (all_append IsPaid (map (of_state g) block.states) (ys ++ zs)).0 (
      states_pay g block.states,
      (all_append IsPaid ys zs).0
          (each_flat IsPaid (of_free g block) (λ t. free_pays g (actions_of block.states t.source) t.source t.target t.event u) block.transitions, each_flat IsPaid (of_input g block) (input_pays g block u) (event_names block.event_inputs)),
    )
kind_pays g (Serviced service) u = each_flat IsPaid (of_dispatch g service) (λ e. (omega arith, (u, tt))) (service_events service)

leaves_pay : (g : Leaf → Ground) → ((leaf : Leaf) → 1 ≤ (g leaf).unit) → (all : List Leaf) → AllByRecursion IsPaid (flat_map (λ (leaf : Leaf). of_kind (g leaf) leaf.kind) all)
leaves_pay g u all = each_flat IsPaid (λ (leaf : Leaf). of_kind (g leaf) leaf.kind) (λ leaf. kind_pays (g leaf) leaf.kind (u leaf)) all

arrivals_only : (n : ℕ) (p : Place) → AllByRecursion IsEvent (replicate n (event p))
arrivals_only zero p = tt
arrivals_only (suc n) p = (tt, arrivals_only n p)

channels_pay : (r : ℕ) (all : List Leaf) → AllByRecursion IsPaid (channel_demands r all)
channels_pay r all =
    each_map IsPaid (of_channel r all)
    (λ c. only_events (flat_map (heard r c) all) (each_flat IsEvent (heard r c) (λ leaf. arrivals_only (admissions r c leaf.kind) (at_place leaf.path arrive)) all) 0)
    (channels_of all)

all_pay : (all : List Leaf) → AllByRecursion IsPaid (bare_demands all)
all_pay all = leaves_pay bare (λ leaf. omega arith) all

network_pays : (all : List Leaf) → AllByRecursion IsPaid (bare_network all)
network_pays all = (all_append IsPaid (flat_map (λ (leaf : Leaf). of_kind (linked (bare leaf)) leaf.kind) all) (channel_demands 1 all)).0 (leaves_pay (λ leaf. linked (bare leaf)) (λ leaf. omega arith) all, channels_pay 1 all)

other_pays : (c : Demand) (x y : Node) → c.node ≡ x → Contains c.terms y → (IsEvent y → ⊥) → IsPaid c → 1 ≤ c.constant
other_pays c (event p) y e h n a = let g : Pays (event p) c = subst (λ (z : Node). Pays z c) e a in g
other_pays c (state p) y e h n a = let g : Pays (state p) c = subst (λ (z : Node). Pays z c) e a in elim (g y h) [ inl i ↦ absurd (n i) | inr l ↦ l ]
other_pays c (channel k) y e h n a = let g : Pays (channel k) c = subst (λ (z : Node). Pays z c) e a in elim (g y h) [ inl i ↦ absurd (n i) | inr l ↦ l ]

two_pay : (c d : Demand) (x y : Node) → c.node ≡ x → d.node ≡ y → Contains c.terms y → IsPaid c → IsPaid d → 1 ≤ c.constant + d.constant
two_pay c d x (event q) e f h a b = let g : Pays (event q) d = subst (λ (z : Node). Pays z d) f b in omega (arith, g)
two_pay c d x (state q) e f h a b = let l = other_pays c x (state q) e h (λ z. z) a in omega (arith, l)
two_pay c d x (channel k) e f h a b = let l = other_pays c x (channel k) e h (λ z. z) a in omega (arith, l)

paid_numbers : (nodes : List Node) (ds : List Demand) (number : Node → ℕ) (system : System) → AllByRecursion IsPaid ds → AreNumbers nodes number → AreOf nodes ds → SaysSame ds number system → IsPaying system
paid_numbers nodes ds number system pays n o s p q r j k d e =
    let f = s.from p d.0 d.1 in
    let g = s.from q e.0 e.1 in
    let t = term_of number f.0.terms q (subst (λ (a : Inequality). Contains a.terms q) f.3 d.2) in
    let same : t.0 ≡ g.0.node = sym (n.at t.0 (o.terms f.0 t.0 f.1 t.1)).1 ∙ (ap (node_in nodes) (t.2 ∙ sym g.2) ∙ (n.at g.0.node (o.node g.0 g.1)).1) in
    let paid = All-from_recursion IsPaid ds pays in
    let two = two_pay f.0 g.0 f.0.node t.0 refl (sym same) t.1 (All-contains IsPaid ds f.0 paid f.1) (All-contains IsPaid ds g.0 paid g.1) in
    omega (arith, two, d.3, e.3, ap (λ (a : Inequality). a.constant) f.3, ap (λ (a : Inequality). a.constant) g.3)

pub numbered_pays : (nodes : List Node) (all : List Leaf) (number : Node → ℕ) (system : System) → AreNumbers nodes number → AreOf nodes (bare_demands all) → SaysSame (bare_demands all) number system → IsPaying system
numbered_pays nodes all number system n o s = paid_numbers nodes (bare_demands all) number system (all_pay all) n o s

pub numbered_network_pays : (nodes : List Node) (all : List Leaf) (number : Node → ℕ) (system : System) → AreNumbers nodes number → AreOf nodes (bare_network all) → SaysSame (bare_network all) number system → IsPaying system
numbered_network_pays nodes all number system n o s = paid_numbers nodes (bare_network all) number system (network_pays all) n o s
