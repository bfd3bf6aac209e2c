-- Demands without what algorithms cost have small constants, so that they are told apart whole.
use Rattle.std.proofs.Common.{ℕ, ◌≡◌, ◌≤◌, Bool, true, false, List, [], ◌∷◌, ◌++◌, length, map, Option, Some, None, refl, ◌∙◌, ap, subst, arith, if◌then◌else◌}
use Rattle.std.specs.List.{flat_map, AllByRecursion}
use Rattle.std.proofs.lemmas.List.Sums.{sum_by-cons}
use Rattle.fb_model.specs.Names.{Name}
use Rattle.fb_model.specs.System.{Action, State, Transition}
use Rattle.fb_model.specs.Services.{service_events}
use Rattle.fb_model.specs.Wires.{Kind, Charted, Serviced, Leaf}
use Rattle.fb_model.specs.Charts.{actions_of, is_open}
use Rattle.fb_model.specs.Certificates.{event_names, channels_of}
use Rattle.fb_model.proofs.Lists.{all_append}
use Rattle.fb_model.specs.Demands.{Node, Demand, Ground, work, of_state, free_demand, of_free, crossing_demand, of_crossing, of_input, of_dispatch, of_kind, linked, of_channel, channel_demands, bare, bare_demands, bare_network}
use Rattle.fb_find_graph.specs.Systems.{System}
use Rattle.fb_find_laws.specs.Numbered.{AreNumbers, SaysSame, AreOf}
use Rattle.fb_find_laws.specs.Nodes.{by_number, capped, capped_demand, AreGrouped}
use Rattle.fb_lists.proofs.Lists.{all_image}
use Rattle.fb_find_laws.proofs.Lists.{each_flat, units}
use Rattle.fb_find_laws.proofs.Same.{says_same}

abbrev IsSmall : Demand → Type 0
IsSmall d = d.constant ≤ 2

nothing_worked : (leaf : Leaf) (actions : List Action) → work (bare leaf) actions ≡ 0
nothing_worked leaf [] = refl
nothing_worked leaf (a ∷ as') = omega (arith, sum_by-cons (λ (b : Action). (bare leaf).price b.algorithm) a as', nothing_worked leaf as')

-- on a ground on which a dispatch or a crossing counts 1, and algorithms nothing
module _ (g : Ground) (one : g.unit ≡ 1) (free : (actions : List Action) → work g actions ≡ 0) where
  free_small : (actions : List Action) (source target : Name) (e : Option Name) → AllByRecursion IsSmall (elim e [ None ↦ free_demand g actions source target ∷ [] | Some n ↦ [] ])
  free_small actions source target None = (omega (arith, free actions, one), tt)
  free_small actions source target (Some n) = tt

  crossing_small : (e target : Name) (b : Bool) → AllByRecursion IsSmall (if b then crossing_demand g e target ∷ [] else [])
  crossing_small e target true = (omega (arith, one), tt)
  crossing_small e target false = tt

  kind_small : (kind : Kind) → AllByRecursion IsSmall (of_kind g kind)
  kind_small (Charted block) =
      let xs = map (of_state g) block.states in
      let ys = flat_map (of_free g block) block.transitions in
      let zs = flat_map (of_input g block) (event_names block.event_inputs) in
      all_append IsSmall xs (ys ++ zs) (all_image (λ (s : State). Unit {0}) IsSmall (of_state g) block.states (λ s u. omega (arith, free s.actions)) (units block.states))
      (
      all_append IsSmall ys zs (each_flat IsSmall (λ (t : Transition). Unit {0}) (of_free g block) block.transitions (λ t u. free_small (actions_of block.states t.source) t.source t.target t.event) (units block.transitions))
      (
      each_flat IsSmall (λ (e : Name). Unit {0}) (of_input g block) (event_names block.event_inputs)
      (λ e u. (omega arith, each_flat IsSmall (λ (t : Transition). Unit {0}) (of_crossing g e) block.transitions (λ t v. crossing_small e t.target (is_open t.event (Some e))) (units block.transitions))) (units (event_names block.event_inputs))
      )
      )
  kind_small (Serviced service) = each_flat IsSmall (λ (e : Name). Unit {0}) (of_dispatch g service) (service_events service) (λ e u. (omega arith, (omega (arith, one), tt))) (units (service_events service))

all_small : (all : List Leaf) → AllByRecursion IsSmall (bare_demands all)
all_small all = each_flat IsSmall (λ (leaf : Leaf). Unit {0}) (λ leaf. of_kind (bare leaf) leaf.kind) all (λ leaf u. kind_small (bare leaf) refl (nothing_worked leaf) leaf.kind) (units all)

network_small : (all : List Leaf) → AllByRecursion IsSmall (bare_network all)
network_small all =
    all_append IsSmall (flat_map (λ (leaf : Leaf). of_kind (linked (bare leaf)) leaf.kind) all) (channel_demands 1 all)
    (each_flat IsSmall (λ (leaf : Leaf). Unit {0}) (λ (leaf : Leaf). of_kind (linked (bare leaf)) leaf.kind) all (λ leaf u. kind_small (linked (bare leaf)) refl (nothing_worked leaf) leaf.kind) (units all))
    (all_image (λ (c : ℕ). Unit {0}) IsSmall (of_channel 1 all) (channels_of all) (λ c u. omega arith) (units (channels_of all)))

capped_same : (n : ℕ) → n ≤ 2 → capped n ≡ n
capped_same n h = grind arith

small_same : (ds : List Demand) → AllByRecursion IsSmall ds → map capped_demand ds ≡ ds
small_same [] h = refl
small_same (d ∷ ds) h = ap (λ n. record { node = d.node; constant = n; terms = d.terms } ∷ map capped_demand ds) (capped_same d.constant h.0) ∙ ap (λ es. d ∷ es) (small_same ds h.1)

pub bare_same : (nodes : List Node) (all : List Leaf) (number : Node → ℕ) (system : System) → AreNumbers nodes number → AreOf nodes (bare_demands all) → AreGrouped (length nodes) (map (by_number number) (bare_demands all)) system → SaysSame (bare_demands all) number system
bare_same nodes all number system n o g = subst (λ (ds : List Demand). SaysSame ds number system) (small_same (bare_demands all) (all_small all)) (says_same nodes (bare_demands all) number system n o g)

pub network_same : (nodes : List Node) (all : List Leaf) (number : Node → ℕ) (system : System) → AreNumbers nodes number → AreOf nodes (bare_network all) → AreGrouped (length nodes) (map (by_number number) (bare_network all)) system → SaysSame (bare_network all) number system
network_same nodes all number system n o g = subst (λ (ds : List Demand). SaysSame ds number system) (small_same (bare_network all) (network_small all)) (says_same nodes (bare_network all) number system n o g)
