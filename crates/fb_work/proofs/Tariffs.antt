-- What is reckoned with at a leaf of the tables makes the works of the book's.
use Rattle.std.proofs.Common.{◌≡◌, ℕ, ◌+◌, ◌*◌, Bool, true, false, List, [], ◌∷◌, ◌++◌, map, length, Option, Some, None, refl, sym, ◌∙◌, ap, ap₂, subst, arith, string_bytes, if◌then◌else◌}
use Rattle.std.specs.List.{AllByRecursion, flat_map, sum_by}
use Rattle.std.specs.Str.{bytes_eq}
use Rattle.std.specs.declared.string.String.{String}
use Rattle.std.specs.declared.alloc.Global.{Global}
use Rattle.std.proofs.lemmas.List.Sums.{sum_by-cons}
use Rattle.std.proofs.lemmas.Slice.Eq.{bytes_eq-Decides}
use Rattle.fb_prices.specs.declared.primitive.Primitive.TheVariants as p
use Rattle.fb_model.specs.Names.{Name, Place, is_in}
use Rattle.fb_model.specs.System.{Event, Action, State, Transition, Block, Procedure, Service, Input, Output, Publish, Subscribe, Delay, Cycle, Restart}
use Rattle.fb_model.specs.Typing.{names_of}
use Rattle.fb_model.specs.Services.{service_events, service_event_outputs, can_emit, init, rsp, expire, ind, inito, cnf, eo}
use Rattle.fb_model.specs.Wires as wires
use Rattle.fb_model.specs.Wires.{Kind, Charted, Serviced}
use Rattle.fb_model.specs.Store.{gives}
use Rattle.fb_model.specs.Charts.{actions_of, emission, named}
use Rattle.fb_model.specs.Clear.{Spans}
use Rattle.fb_model.specs.Ranges.{Range, rows}
use Rattle.fb_model.specs.Certificates.{event_names}
use Rattle.fb_model_laws.specs.Leaves.{IsListed, IsClosed}
use Rattle.st_types.specs.declared.whole.Algo.{Algo}
use Rattle.fb_flat.specs.declared.flat.Leaf.{Leaf}
use Rattle.fb_flat.specs.declared.flat.Body.{Body}
use Rattle.fb_flat.specs.declared.flat.Body.TheVariants.{Basic, Served}
use Rattle.fb_flat.specs.Leaves.{kind_of, outputs_of}
use Rattle.fb_flat.specs.Tables.{IsLeaf, targets_of}
use Rattle.fb_find_demands.specs.Grounds.{algorithms_of, priced, value_at}
use Rattle.fb_model_work.specs.Spending.{Prices, in_dispatch, in_outputs}
use Rattle.fb_model_work.specs.Most.{most_of}
use Rattle.fb_model_work.specs.Work.{of_crossing, trials}
use Rattle.fb_work_charts.specs.Charges.{Tariff, action_work, actions_work, state_work, free_work, frees, input_works, chart_works, event_works, kind_works}
use Rattle.fb_work.specs.Algorithms.{called, costs_of, cost_named}
use Rattle.fb_work.specs.Demands.{leaf_works}
use Rattle.fb_work.proofs.Lists.{procedure}

-- ---- lists

mapped_same : {X Y : Type 0} (f g : X → Y) (xs : List X) → AllByRecursion (λ x. f x ≡ g x) xs → map f xs ≡ map g xs
mapped_same f g [] h = refl
mapped_same f g (x ∷ xs) h = ap₂ (λ a as'. a ∷ as') h.0 (mapped_same f g xs h.1)

flat_same : {X Y : Type 0} (f g : X → List Y) (xs : List X) → ((x : X) → f x ≡ g x) → flat_map f xs ≡ flat_map g xs
flat_same f g [] h = refl
flat_same f g (x ∷ xs) h = ap₂ (λ a b. a ++ b) (h x) (flat_same f g xs h)

sum_same : {X : Type 0} (f g : X → ℕ) (xs : List X) → AllByRecursion (λ x. f x ≡ g x) xs → sum_by f xs ≡ sum_by g xs
sum_same f g [] h = refl
sum_same f g (x ∷ xs) h = omega (arith, sum_by-cons f x xs, sum_by-cons g x xs, h.0, sum_same f g xs h.1)

-- ---- where outputs lead

-- two ways lead alike from all of these outputs
abbrev pub AgreeOn : List Name → (Name → List Place) → (Name → List Place) → Type 0
AgreeOn outs f g = (o : Name) → is_in o outs ≡ true → f o ≡ g o

-- all of these outputs are among those
abbrev AreAmong : List Name → List Name → Type 0
AreAmong outs os = AllByRecursion (λ (o : Name). is_in o outs ≡ true) os

outputs_same : (prices : Prices) (kind : Kind) (outs : List Name) (f g : Name → List Place) → AgreeOn outs f g → (os : List Name) → AreAmong outs os
    → in_outputs prices kind f os ≡ in_outputs prices kind g os
outputs_same prices kind outs f g a [] h = refl
outputs_same prices kind outs f g a (o ∷ os) h =
    ap₂ (λ ts n. (prices p.Issue + (prices p.Give * length (gives kind o) + prices p.Put * length ts)) + n) (a o h.0) (outputs_same prices kind outs f g a os h.1)

emitted_among : (outs : List Name) (o : Option Name) → IsListed outs o → AreAmong outs (emission o)
emitted_among outs None h = tt
emitted_among outs (Some o) h = (h, tt)

-- ---- charts

module _ (prices : Prices) (m n : Option Name → ℕ) (same : (a : Option Name) → m a ≡ n a) (f g : Name → List Place) where
  abbrev one : Tariff
  one = record { prices = prices; algorithm = m; targets = f }

  abbrev other : Tariff
  other = record { prices = prices; algorithm = n; targets = g }

  module _ (block : Block) (outs : List Name) (agree : AgreeOn outs f g) where
    abbrev AreListed : List Action → Type 0
    AreListed actions = AllByRecursion (λ (a : Action). IsListed outs a.output) actions

    action_same : (a : Action) → IsListed outs a.output → action_work one block a ≡ action_work other block a
    action_same a h =
        ap₂ (λ u v. prices p.Act + (u + v)) (same a.algorithm) (outputs_same prices (Charted block) outs f g agree (emission a.output) (emitted_among outs a.output h))

    each_same : (actions : List Action) → AreListed actions → AllByRecursion (λ (a : Action). action_work one block a ≡ action_work other block a) actions
    each_same [] h = tt
    each_same (a ∷ rest) h = (action_same a h.0, each_same rest h.1)

    actions_same : (actions : List Action) → AreListed actions → actions_work one block actions ≡ actions_work other block actions
    actions_same actions h = sum_same (action_work one block) (action_work other block) actions (each_same actions h)

    states_same : (xs : List State) → AllByRecursion (λ (s : State). AreListed s.actions) xs
        → AllByRecursion (λ (s : State). state_work one block s ≡ state_work other block s) xs
    states_same [] h = tt
    states_same (s ∷ xs) h = (ap (λ k. k + trials prices block.transitions s.name None) (actions_same s.actions h.0), states_same xs h.1)

    -- those of the state of a name
    listed_of : (xs : List State) (s : Name) → AllByRecursion (λ (x : State). AreListed x.actions) xs → AreListed (actions_of xs s)
    listed_of [] s h = tt
    listed_of (x ∷ xs) s h = by (bytes_eq x.name s) h.0 (listed_of xs s h.1) where
      by : (b : Bool) → AreListed x.actions → AreListed (actions_of xs s) → AreListed (if b then x.actions else actions_of xs s)
      by true k l = k
      by false k l = l

    module _ (listed : AllByRecursion (λ (s : State). AreListed s.actions) block.states) where
      free_same : (upto : List Transition) (t : Transition) → free_work one block upto t ≡ free_work other block upto t
      free_same upto t = ap (λ k. (k + trials prices upto t.source None) + of_crossing prices) (actions_same (actions_of block.states t.source) (listed_of block.states t.source listed))

      free_of_same : (upto : List Transition) (t : Transition) (o : Option Name)
          → elim o as (λ x. List ℕ) [ None ↦ free_work one block upto t ∷ [] | Some e ↦ [] ] ≡ elim o as (λ x. List ℕ) [ None ↦ free_work other block upto t ∷ [] | Some e ↦ [] ]
      free_of_same upto t None = ap (λ k. k ∷ []) (free_same upto t)
      free_of_same upto t (Some e) = refl

      frees_same : (before ts : List Transition) → frees one block before ts ≡ frees other block before ts
      frees_same before [] = refl
      frees_same before (t ∷ ts) = ap₂ (λ a b. a ++ b) (free_of_same (before ++ t ∷ []) t t.event) (frees_same (before ++ t ∷ []) ts)

      chart_same : chart_works one block ≡ chart_works other block
      chart_same =
          ap₂ (λ a b. a ++ (b ++ flat_map (input_works one block) (event_names block.event_inputs)))
          (mapped_same (state_work one block) (state_work other block) block.states (states_same block.states listed)) (frees_same [] block.transitions)

  -- ---- services

  own_where : (s : Service) (b : Bool) (os ps : List Name) → AreAmong (service_event_outputs s) os → AreAmong (service_event_outputs s) ps
      → AreAmong (service_event_outputs s) (if b then os else ps)
  own_where s true os ps h k = h
  own_where s false os ps h k = k

  own_emitted : (s : Service) (e : Name) → AreAmong (service_event_outputs s) (can_emit s e)
  own_emitted (Input number types) e = (refl, tt)
  own_emitted (Output number types) e = tt
  own_emitted (Publish channel types) e = own_where (Publish channel types) (bytes_eq e init) (inito ∷ []) (cnf ∷ []) (refl, tt) (refl, tt)
  own_emitted (Subscribe channel types) e =
      own_where (Subscribe channel types) (bytes_eq e init) (inito ∷ []) (if bytes_eq e rsp then [] else ind ∷ []) (refl, tt) (own_where (Subscribe channel types) (bytes_eq e rsp) [] (ind ∷ []) tt (refl, tt))
  own_emitted Delay e = own_where Delay (bytes_eq e expire) (eo ∷ []) [] (refl, tt) tt
  own_emitted Cycle e = own_where Cycle (bytes_eq e expire) (eo ∷ []) [] (refl, tt) tt
  own_emitted Restart e = (refl, tt)

  service_same : (s : Service) → AgreeOn (service_event_outputs s) f g → (e : Name) → event_works one s e ≡ event_works other s e
  service_same s agree e = ap (λ k. 0 ∷ (in_dispatch prices (Serviced s) e + k) ∷ []) (outputs_same prices (Serviced s) (service_event_outputs s) f g agree (can_emit s e) (own_emitted s e))

  names_same : (es : List Event) → event_names es ≡ names_of es
  names_same [] = refl
  names_same (e ∷ es) = ap (λ ns. e.name ∷ ns) (names_same es)

  kind_same : (kind : Kind) → AgreeOn (outputs_of kind) f g → IsClosed kind → kind_works one kind ≡ kind_works other kind
  kind_same (Charted block) agree closed = chart_same block (event_names block.event_outputs) (λ o i. agree o (ap (is_in o) (sym (names_same block.event_outputs)) ∙ i)) closed.actions
  kind_same (Serviced service) agree closed = flat_same (event_works one service) (event_works other service) (service_events service) (service_same service agree)

-- ---- algorithms

turned : (a b : Name) → bytes_eq a b ≡ bytes_eq b a
turned a b = by (bytes_eq a b) (bytes_eq b a) refl refl where
  by : (c d : Bool) → bytes_eq a b ≡ c → bytes_eq b a ≡ d → c ≡ d
  by true true e h = refl
  by false false e h = refl
  by true false e h = (let same : a ≡ b = (bytes_eq-Decides a b).0 e in let t : bytes_eq b a ≡ true = (bytes_eq-Decides b a).1 (sym same) in absurd cc)
  by false true e h = (let same : b ≡ a = (bytes_eq-Decides b a).0 h in let t : bytes_eq a b ≡ true = (bytes_eq-Decides a b).1 (sym same) in absurd cc)

module _ (prices : Prices) (spans : Spans) where
  value_same : (es : List (String Global × Algo)) (x : Name)
      → value_at (map (λ e. string_bytes e.0) es) (map (λ (q : Procedure). called prices spans q.algorithm) (map procedure es)) x ≡ most_of prices spans (named (map procedure es) x)
  value_same [] x = refl
  value_same (e ∷ es) x = by (bytes_eq x (string_bytes e.0)) (bytes_eq (string_bytes e.0) x) (turned x (string_bytes e.0)) (value_same es x) where
    by : (b c : Bool) → b ≡ c
        → value_at (map (λ e. string_bytes e.0) es) (map (λ (q : Procedure). called prices spans q.algorithm) (map procedure es)) x ≡ most_of prices spans (named (map procedure es) x)
        → (if b then called prices spans (procedure e).algorithm else value_at (map (λ e. string_bytes e.0) es) (map (λ (q : Procedure). called prices spans q.algorithm) (map procedure es)) x)
        ≡ most_of prices spans (if c then Some (procedure e).algorithm else named (map procedure es) x)
    by true true k rest = refl
    by false false k rest = rest
    by true false k rest = absurd cc
    by false true k rest = absurd cc

  price_same : (body : Body) (a : Option Name) → priced (algorithms_of body) (costs_of prices spans (kind_of body)) a ≡ cost_named prices spans (kind_of body) a
  price_same (Basic block) None = refl
  price_same (Basic block) (Some x) = value_same block.value.procedures.entries x
  price_same (Served service) None = refl
  price_same (Served service) (Some x) = refl

-- ---- leaves

-- what is reckoned with at a leaf of the tables
abbrev pub tariff_in : Prices → Leaf → List ℕ → Tariff
tariff_in prices l costs = record { prices = prices; algorithm = priced (algorithms_of l.body) costs; targets = targets_of l.outputs.items }

pub leaf_same : (prices : Prices) (ranges : List Range) (l : Leaf) (leaf : wires.Leaf) (costs : List ℕ) → IsLeaf l leaf → IsClosed leaf.kind
    → costs ≡ costs_of prices (rows ranges leaf.path leaf.kind) leaf.kind
    → kind_works (tariff_in prices l costs) (kind_of l.body) ≡ leaf_works prices ranges leaf
leaf_same prices ranges l leaf costs is closed e =
    let spans = rows ranges leaf.path leaf.kind in
    let P : Kind → Type 0 = λ k. (a : Option Name) → priced (algorithms_of l.body) (costs_of prices spans k) a ≡ cost_named prices spans k a in
    let priced_so : P leaf.kind = subst P is.kind (price_same prices spans l.body) in
    ap (kind_works (tariff_in prices l costs)) is.kind ∙ ap (λ cs. kind_works (tariff_in prices l cs) leaf.kind) e
    ∙ kind_same prices (priced (algorithms_of l.body) (costs_of prices spans leaf.kind)) (cost_named prices spans leaf.kind) priced_so (targets_of l.outputs.items) leaf.targets leaf.kind is.targets closed
