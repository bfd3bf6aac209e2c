-- What nodes count by themselves, and demands in which they do.
use Rattle.std.proofs.Common.{◌≡◌, ℕ, zero, suc, ◌+◌, ◌<◌, ◌≤◌, Bool, true, false, cond, List, [], ◌∷◌, ◌++◌, map, length, Option, Some, None, refl, sym, subst, arith, Contains}
use Rattle.std.specs.Prelude.{nat_lt}
use Rattle.std.specs.List.{AllByRecursion, flat_map}
use Rattle.std.proofs.lemmas.Bool.{le-ltb, lt-ltb, ltb-true, ltb-false}
use Rattle.fb_model.specs.Names.{Name, Place}
use Rattle.fb_model.specs.System.{Transition, Block}
use Rattle.fb_model.specs.Services.{service_events}
use Rattle.fb_model.specs.Wires.{Kind, Charted, Serviced, Leaf}
use Rattle.fb_model.specs.Charts.{actions_of, is_open}
use Rattle.fb_model.specs.Certificates.{event_names}
use Rattle.fb_model.specs.CertificateText.{place_of}
use Rattle.fb_model.specs.Demands.{Node, state, event, channel, Demand, node_in, of_state, of_free, free_demand, of_crossing, crossing_demand, of_input, of_dispatch, of_kind, bare, bare_demands}
use Rattle.fb_find_laws.specs.Numbered.{AreNumbers}
use Rattle.fb_find_laws.specs.Nodes.{nodes_of, index_in, written}
use Rattle.fb_types_blocks.specs.Views.{names_of}
use Rattle.fb_find_demands.specs.declared.numbered.Numbering.{Numbering}
use Rattle.fb_find_demands.specs.Rights.{numbers_of}
use Rattle.fb_find.specs.Given.{nodes_in}
use Rattle.fb_turns.specs.Counting.{own_of}
use Rattle.fb_model.proofs.Lists.{all_append}
use Rattle.fb_turns.proofs.Demanding.{own_node}

-- ---- lists

all_from_flat : {X Y : Type 0} (P : Y → Type 0) (f : X → List Y) (xs : List X) → ((x : X) → AllByRecursion P (f x)) → AllByRecursion P (flat_map f xs)
all_from_flat P f [] h = tt
all_from_flat P f (x ∷ xs) h = all_append P (f x) (flat_map f xs) (h x) (all_from_flat P f xs h)

all_from_map : {X Y : Type 0} (P : Y → Type 0) (f : X → Y) (xs : List X) → ((x : X) → P (f x)) → AllByRecursion P (map f xs)
all_from_map P f [] h = tt
all_from_map P f (x ∷ xs) h = (h x, all_from_map P f xs h)

-- ---- constants pay for what a node counts by itself

abbrev pub Owns : Node → ℕ → Type 0
Owns (state p) k = Unit {0}
Owns (event p) k = 1 ≤ k
Owns (channel c) k = ⊥

abbrev pub IsOwned : Demand → Type 0
IsOwned d = Owns d.node d.constant

free_owned : (leaf : Leaf) (block : Block) (t : Transition) → AllByRecursion IsOwned (of_free (bare leaf) block t)
free_owned leaf block t = by t.event where
  by : (o : Option Name) → AllByRecursion IsOwned (elim o [ None ↦ free_demand (bare leaf) (actions_of block.states t.source) t.source t.target ∷ [] | Some e ↦ [] ])
  by None = (tt, tt)
  by (Some e) = tt

crossing_owned : (leaf : Leaf) (e : Name) (t : Transition) → AllByRecursion IsOwned (of_crossing (bare leaf) e t)
crossing_owned leaf e t = by (is_open t.event (Some e)) where
  by : (b : Bool) → AllByRecursion IsOwned (cond b (crossing_demand (bare leaf) e t.target ∷ []) [])
  by true = (omega arith, tt)
  by false = tt

input_owned : (leaf : Leaf) (block : Block) (e : Name) → AllByRecursion IsOwned (of_input (bare leaf) block e)
input_owned leaf block e = (omega arith, all_from_flat IsOwned (of_crossing (bare leaf) e) block.transitions (crossing_owned leaf e))

kind_owned : (leaf : Leaf) (kind : Kind) → AllByRecursion IsOwned (of_kind (bare leaf) kind)
kind_owned leaf (Charted block) =
    all_append IsOwned (map (of_state (bare leaf)) block.states) (flat_map (of_free (bare leaf) block) block.transitions ++ flat_map (of_input (bare leaf) block) (event_names block.event_inputs))
    (all_from_map IsOwned (of_state (bare leaf)) block.states (λ s. tt))
    (all_append IsOwned (flat_map (of_free (bare leaf) block) block.transitions) (flat_map (of_input (bare leaf) block) (event_names block.event_inputs))
    (all_from_flat IsOwned (of_free (bare leaf) block) block.transitions (free_owned leaf block)) (all_from_flat IsOwned (of_input (bare leaf) block) (event_names block.event_inputs) (input_owned leaf block)))
kind_owned leaf (Serviced service) = all_from_flat IsOwned (of_dispatch (bare leaf) service) (service_events service) (λ e. (omega arith, (omega arith, tt)))

pub bare_owned : (all : List Leaf) → AllByRecursion IsOwned (bare_demands all)
bare_owned all = all_from_flat IsOwned (λ leaf. of_kind (bare leaf) leaf.kind) all (λ leaf. kind_owned leaf leaf.kind)

-- ---- nodes that have numbers: states before all others

abbrev IsNoState : Node → Type 0
IsNoState (state p) = ⊥
IsNoState (event p) = Unit {0}
IsNoState (channel c) = Unit {0}

no_states : (us : List Name) (cs : List ℕ) → AllByRecursion IsNoState (map (λ t. event (place_of t)) us ++ map channel cs)
no_states [] [] = tt
no_states [] (c ∷ cs) = (tt, no_states [] cs)
no_states (u ∷ us) cs = (tt, no_states us cs)

no_state_at : (xs : List Node) (k : ℕ) → AllByRecursion IsNoState xs → k < length xs → IsNoState (node_in xs k)
no_state_at [] k h l = absurd (omega (arith, l))
no_state_at (x ∷ xs) zero h l = h.0
no_state_at (x ∷ xs) (suc k) h l = no_state_at xs k h.1 (omega (arith, l))

behind_states : (ts us : List Name) (cs : List ℕ) (k : ℕ) → length ts ≤ k → k < length (nodes_of ts us cs) → IsNoState (node_in (nodes_of ts us cs) k)
behind_states [] us cs k h l = no_state_at (map (λ t. event (place_of t)) us ++ map channel cs) k (no_states us cs) l
behind_states (t ∷ ts) us cs zero h l = absurd (omega (arith, h))
behind_states (t ∷ ts) us cs (suc k) h l = behind_states ts us cs k (omega (arith, h)) (omega (arith, l))

module _ (n : Numbering) (stand : AreNumbers (nodes_in n) (numbers_of n)) where
  abbrev states : ℕ
  states = length (names_of n.states)

  -- a state that has a number has one before those of events
  state_before : (p : Place) → Contains (nodes_in n) (state p) → numbers_of n (state p) < states
  state_before p known = by (nat_lt (numbers_of n (state p)) states) refl where
    by : (b : Bool) → nat_lt (numbers_of n (state p)) states ≡ b → numbers_of n (state p) < states
    by true e = ltb-true (numbers_of n (state p)) states e
    by false e = absurd (subst IsNoState (stand.at (state p) known).1 (behind_states (names_of n.states) (names_of n.events) n.channels.items (numbers_of n (state p)) (ltb-false (numbers_of n (state p)) states e) (stand.at (state p) known).0))

  -- what is counted by its number is what it counts by itself, or less than the constant
  pub own_known : (d : Demand) → Contains (nodes_in n) d.node → IsOwned d → own_of states (numbers_of n d.node) ≤ d.constant
  own_known d known h = by d.node known h where
    one : (k : ℕ) → own_of states k ≤ 1
    one k = of (nat_lt k states) where
      of : (b : Bool) → cond b 0 1 ≤ 1
      of true = omega arith
      of false = omega arith

    by : (x : Node) → Contains (nodes_in n) x → Owns x d.constant → own_of states (numbers_of n x) ≤ d.constant
    by (state p) k o = subst (λ b. cond b 0 1 ≤ d.constant) (sym (lt-ltb (numbers_of n (state p)) states (state_before p k))) (omega arith)
    by (event p) k o = omega (arith, o, one (numbers_of n (event p)))
    by (channel c) k o = absurd o

  -- it is no more than what the node counts
  pub own_most : (d : Demand) → Contains (nodes_in n) d.node → IsOwned d → own_of states (numbers_of n d.node) ≤ own_node d.node
  own_most d known h = by d.node known h where
    by : (x : Node) → Contains (nodes_in n) x → Owns x d.constant → own_of states (numbers_of n x) ≤ own_node x
    by (state p) k o = subst (λ b. cond b 0 1 ≤ 0) (sym (lt-ltb (numbers_of n (state p)) states (state_before p k))) (omega arith)
    by (event p) k o = of (nat_lt (numbers_of n (event p)) states) where
      of : (b : Bool) → cond b 0 1 ≤ 1
      of true = omega arith
      of false = omega arith
    by (channel c) k o = absurd o

  -- and it is no less than that
  pub own_least : (v : Node) → own_node v ≤ own_of states (numbers_of n v)
  own_least (state p) = omega arith
  own_least (channel c) = omega arith
  own_least (event p) =
      let behind : nat_lt (states + index_in (names_of n.events) (written p)) states ≡ false = le-ltb (states + index_in (names_of n.events) (written p)) states (omega arith) in
      subst (λ b. 1 ≤ cond b 0 1) (sym behind) (omega arith)
