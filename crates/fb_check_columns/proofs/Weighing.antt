-- What pays in the tables of a block fits in the book, and what owes does not.
use Rattle.std.proofs.Common.{◌≡◌, ◌≤◌, ◌+◌, ◌*◌, inl, inr, ℕ, Bool, true, false, cond, List, [], ◌∷◌, map, Option, None, Some, refl, sym, ap, subst, ◌∙◌, string_bytes, arith}
use Rattle.std.specs.List.{sum_by, AllByRecursion}
use Rattle.std.specs.Str.{bytes_eq}
use Rattle.std.proofs.lemmas.List.{append-nil}
use Rattle.std.proofs.lemmas.List.Sums.{sum_by-cons}
use Rattle.std.specs.declared.string.String.{String}
use Rattle.std.specs.declared.alloc.Global.{Global}
use Rattle.fb_model.specs.Names.{Name, Place, at_place, is_in}
use Rattle.fb_model.specs.Spelling.{IsWord}
use Rattle.fb_model.specs.Clear.{Spans}
use Rattle.fb_model.specs.System as book
use Rattle.fb_model.specs.Charts.{actions_of, emission, algorithm_of, named, is_open}
use Rattle.fb_model.specs.Ranges.{cost_of}
use Rattle.fb_model.specs.Certificates as cert
use Rattle.fb_model.specs.Certificates.{own, action_load, sent_weight, StateFits, FreeFits, CrossingFits, InputFits, ChartFits, event_names}
use Rattle.fb_model.specs.CertificateText.{names_in}
use Rattle.fb_model.specs.Wires.{Charted}
use Rattle.fb_model.proofs.Lists.{same_name, at_listed, all_weaker, all_both}
use Rattle.fb_cert.specs.declared.certificate.Certificate.{Certificate}
use Rattle.fb_types_blocks.specs.declared.typed.Action.{Action}
use Rattle.fb_types_blocks.specs.declared.typed.Transition.{Transition}
use Rattle.fb_types_blocks.specs.declared.typed.Block.{Block}
use Rattle.fb_types_blocks.specs.Views.{name_of, action_of, transition_of, block_of}
use Rattle.fb_model_laws.specs.Leaves.{IsListed}
use Rattle.fb_check_columns.specs.declared.column.Column.{Column}
use Rattle.fb_check_columns.specs.Columns.{unit_of, crossing_need}
use Rattle.fb_check_columns.specs.Reckoning.{weight_of, charge_of, value_at, table_names, Costs, NamedActions, acted, own_of, cost_at}
use Rattle.fb_check_columns.specs.Paying.{StatePays, SourcePays, Pays, InputPays, EventPays, outputs_in, inputs_in, costs_in, most_in, ChartPays, StateOwes, EventOwes}
use Rattle.fb_model.specs.Misfits.{ChargeFails, WeightFails}
use Rattle.fb_lists.proofs.Lists.{all_image, all_source, all_here, any_image}
use Rattle.fb_check_columns.proofs.Lists.{is_text, bytes_turned, in_at, each_in, all_image_at}
use Rattle.fb_check_columns.proofs.Known.{state_of, event_names_are, states_in, IsEmitting, IsCrossing, IsTabled}
use Rattle.fb_check_columns.proofs.Crossings.{PaysFree, each_within, most_within}

-- ---- numbers and names

pub le_along : (a b m n : ℕ) → a ≡ b → m ≡ n → a ≤ m → b ≤ n
le_along a b m n e f h = omega arith

nothing : (u : ℕ) → 0 ≡ u * 0
nothing u = omega arith

two : (a b m n : ℕ) → a ≡ b → m ≡ n → a + m ≡ b + n
two a b m n e f = omega arith

three : (a b m n x y : ℕ) → a ≡ b → m ≡ n → x ≡ y → a + m + x ≡ b + n + y
three a b m n x y e f g = omega arith

doubled : (u v m n : ℕ) → u ≡ v → m ≡ n → u + u + m ≡ 2 * v + n
doubled u v m n e f = omega arith

un_named : (o : Option (String Global)) → name_of o ≡ None → o ≡ None
un_named None e = refl
un_named (Some x) e = absurd cc

re_named : (o : Option (String Global)) → o ≡ None → name_of o ≡ None
re_named o e = ap name_of e

-- ---- a block, in a column of the book whose numbers are those of the tables

module _ (c : Column) (rows : Certificate) (path : Name) (col : cert.Column) (spans : Spans) (targets : Name → List Place) (k : Block) (ns : Costs)
    (unit_same : col.unit ≡ unit_of c)
    (charge_same : (x : Name) → IsWord x → col.charge (at_place (names_in path) x) ≡ charge_of c rows path x)
    (weight_same : (x : Name) → IsWord x → col.weight (at_place (names_in path) x) ≡ weight_of c rows path x)
    (loads_same : (o : Name) → is_in o (outputs_in k) ≡ true → value_at (outputs_in k) ns.outputs 0 o ≡ sum_by col.weight (targets o))
    (algorithms_same : (x : Name) → value_at (table_names k.procedures) ns.algorithms 0 x ≡ col.unit * cost_of spans (named (block_of k).procedures x))
    (tables : IsTabled k) where
  ran : (a : Option (String Global)) → (elim a [ None ↦ 0 | Some x ↦ value_at (table_names k.procedures) ns.algorithms 0 (string_bytes x) ]) ≡ col.unit * cost_of spans (algorithm_of (block_of k) (name_of a))
  ran None = nothing col.unit
  ran (Some x) = algorithms_same (string_bytes x)

  sent : (output : Option (String Global)) → IsListed (outputs_in k) (name_of output)
      → (elim output [ None ↦ 0 | Some o ↦ value_at (outputs_in k) ns.outputs 0 (string_bytes o) ]) ≡ sent_weight col targets (emission (name_of output))
  sent None h = refl
  sent (Some o) h = loads_same (string_bytes o) h ∙ ap (sum_by col.weight) (sym (append-nil (targets (string_bytes o))))

  acts : (a : Action) → IsEmitting (outputs_in k) (action_of a) → acted k ns a ≡ action_load col spans targets (block_of k) (action_of a)
  acts a h = two _ _ _ _ (ran a.algorithm) (sent a.output h)

  own_same : (xs : List Action) → AllByRecursion (IsEmitting (outputs_in k)) (map action_of xs) → sum_by (acted k ns) xs ≡ own col spans targets (block_of k) (map action_of xs)
  own_same [] h = refl
  own_same (a ∷ xs) h =
      let f = acted k ns in
      let g = action_load col spans targets (block_of k) in
      let one : f a ≡ g (action_of a) = acts a h.0 in
      sum_by-cons f a xs ∙ ap (λ n. n + sum_by f xs) one ∙ ap (λ n. g (action_of a) + n) (own_same xs h.1) ∙ sym (sum_by-cons g (action_of a) (map action_of xs))

  costs_same : (ss : List NamedActions) → AllByRecursion (λ (s : NamedActions). AllByRecursion (IsEmitting (outputs_in k)) (map action_of s.1.items)) ss → (x : Name)
      → cost_at k ns ss x ≡ own col spans targets (block_of k) (actions_of (map state_of ss) x)
  costs_same [] h x = refl
  costs_same (s ∷ ss) h x = by (bytes_eq x (string_bytes s.0)) refl (costs_same ss h.1 x) where
    by : (b : Bool) → bytes_eq x (string_bytes s.0) ≡ b → cost_at k ns ss x ≡ own col spans targets (block_of k) (actions_of (map state_of ss) x)
        → cond b (own_of k ns s) (cost_at k ns ss x)
        ≡ own col spans targets (block_of k) (cond (bytes_eq (string_bytes s.0) x) (map action_of s.1.items) (actions_of (map state_of ss) x))
    by true e others =
        own_same s.1.items h.0 ∙ ap (λ t. own col spans targets (block_of k) (cond t (map action_of s.1.items) (actions_of (map state_of ss) x))) (sym (bytes_turned x (string_bytes s.0) true e))
    by false e others = others ∙ ap (λ t. own col spans targets (block_of k) (cond t (map action_of s.1.items) (actions_of (map state_of ss) x))) (sym (bytes_turned x (string_bytes s.0) false e))

  state_word : (x : Name) → is_in x (states_in k) ≡ true → IsWord x
  state_word x h = at_listed IsWord (states_in k) x tables.states h

  input_word : (x : Name) → is_in x (inputs_in k) ≡ true → IsWord x
  input_word x h = at_listed IsWord (inputs_in k) x tables.inputs h

  -- ---- states

  abbrev Acting : NamedActions → Type 0
  Acting s = IsWord (string_bytes s.0) × AllByRecursion (IsEmitting (outputs_in k)) (map action_of s.1.items)

  state_fits : (s : NamedActions) → Acting s → StatePays c rows path k ns s → StateFits col spans targets (names_in path) (block_of k) (state_of s)
  state_fits s a p = le_along _ _ _ _ (own_same s.1.items a.1) (sym (charge_same (string_bytes s.0) a.0)) p

  state_pays : (s : NamedActions) → Acting s → StateFits col spans targets (names_in path) (block_of k) (state_of s) → StatePays c rows path k ns s
  state_pays s a p = le_along _ _ _ _ (sym (own_same s.1.items a.1)) (charge_same (string_bytes s.0) a.0) p

  -- ---- free transitions

  abbrev Crossing : Transition → Type 0
  Crossing t = IsCrossing (states_in k) (inputs_in k) (transition_of t)

  need_same : (t : Transition) → Crossing t → costs_in k ns (string_bytes t.source) + unit_of c + charge_of c rows path (string_bytes t.target)
      ≡ own col spans targets (block_of k) (actions_of (map state_of k.states.entries) (string_bytes t.source)) + col.unit + col.charge (at_place (names_in path) (string_bytes t.target))
  need_same t a = three _ _ _ _ _ _ (costs_same k.states.entries tables.actions (string_bytes t.source)) (sym unit_same) (sym (charge_same (string_bytes t.target) (state_word (string_bytes t.target) a.1)))

  free_fits : (t : Transition) → Crossing t → SourcePays c rows path (costs_in k ns) t → FreeFits col spans targets (names_in path) (block_of k) (transition_of t)
  free_fits t a p = λ none. le_along _ _ _ _ (need_same t a) (sym (charge_same (string_bytes t.source) (state_word (string_bytes t.source) a.0))) (p (un_named t.event none))

  free_pays : (t : Transition) → Crossing t → FreeFits col spans targets (names_in path) (block_of k) (transition_of t) → SourcePays c rows path (costs_in k ns) t
  free_pays t a p = λ none. le_along _ _ _ _ (sym (need_same t a)) (charge_same (string_bytes t.source) (state_word (string_bytes t.source) a.0)) (p (re_named t.event none))

  -- ---- event inputs

  crossing_same : (t : Transition) → Crossing t → crossing_need c (Some (charge_of c rows path (string_bytes t.target))) ≡ 2 * col.unit + col.charge (at_place (names_in path) (string_bytes t.target))
  crossing_same t a = doubled _ _ _ _ (sym unit_same) (sym (charge_same (string_bytes t.target) (state_word (string_bytes t.target) a.1)))

  -- what a transition without an event, and one with this event, pays
  abbrev Passing : Name → Transition → Type 0
  Passing e t = Crossing t × PaysFree c (charge_of c rows path) (weight_of c rows path e) t × EventPays c rows path t

  abbrev Paid : ℕ → Option (String Global) → Type 0
  Paid need o = elim o [ None ↦ Unit {0} | Some x ↦ Pays (weight_of c rows path (string_bytes x)) need ]

  named_within : (e : Name) (need : ℕ) (o : Option (String Global)) → is_open (name_of o) (Some e) ≡ true → (o ≡ None → need ≤ weight_of c rows path e)
      → Paid need o → need ≤ weight_of c rows path e
  named_within e need None opens free paid = free refl
  named_within e need (Some x) opens free paid = subst (λ y. need ≤ weight_of c rows path y) (same_name (string_bytes x) e opens) paid.1

  crossing_fits : (e : Name) → IsWord e → (t : Transition) → Passing e t → CrossingFits col (names_in path) e (transition_of t)
  crossing_fits e w t p = λ opens.
      le_along _ _ _ _ (crossing_same t p.0) (sym (weight_same e w)) (named_within e (crossing_need c (Some (charge_of c rows path (string_bytes t.target)))) t.event opens p.1 p.2)

  both : (e : Name) (ts : List Transition) → AllByRecursion Crossing ts → AllByRecursion (PaysFree c (charge_of c rows path) (weight_of c rows path e)) ts → AllByRecursion (EventPays c rows path) ts → AllByRecursion (Passing e) ts
  both e [] h f g = tt
  both e (t ∷ ts) h f g = ((h.0, f.0, g.0), both e ts h.1 f.1 g.1)

  input_fits : AllByRecursion (EventPays c rows path) k.transitions.items → (e : Name) → is_in e (inputs_in k) ≡ true → InputPays c rows path (most_in c rows path k) e → InputFits col (names_in path) (block_of k) e
  input_fits events e h p =
      let w = input_word e h in
      record {
        least = subst (λ n. 1 ≤ n) (sym (weight_same e w)) p.0;
        crossings =
            all_image (Passing e) (CrossingFits col (names_in path) e) transition_of k.transitions.items (λ t q. crossing_fits e w t q)
            (both e k.transitions.items tables.transitions (each_within c (charge_of c rows path) (weight_of c rows path e) k.transitions.items p.1) events);
      }

  abbrev Fitting : Name → Transition → Type 0
  Fitting e t = Crossing t × CrossingFits col (names_in path) e (transition_of t)

  fitted : (e : Name) (ts : List Transition) → AllByRecursion Crossing ts → AllByRecursion (CrossingFits col (names_in path) e) (map transition_of ts) → AllByRecursion (Fitting e) ts
  fitted e [] h f = tt
  fitted e (t ∷ ts) h f = ((h.0, f.0), fitted e ts h.1 f.1)

  open_is : (o : Option (String Global)) (e : Name) → o ≡ None → is_open (name_of o) (Some e) ≡ true
  open_is None e h = refl
  open_is (Some x) e h = absurd cc

  crossing_paid : (e : Name) → IsWord e → (t : Transition) → Crossing t → CrossingFits col (names_in path) e (transition_of t) → is_open (name_of t.event) (Some e) ≡ true → crossing_need c (Some (charge_of c rows path (string_bytes t.target))) ≤ weight_of c rows path e
  crossing_paid e w t a f opens = le_along _ _ _ _ (sym (crossing_same t a)) (weight_same e w) (f opens)

  input_pays : (e : Name) → is_in e (inputs_in k) ≡ true → InputFits col (names_in path) (block_of k) e → InputPays c rows path (most_in c rows path k) e
  input_pays e h f =
      let w = input_word e h in (
        subst (λ n. 1 ≤ n) (weight_same e w) f.least,
        most_within c (charge_of c rows path) (weight_of c rows path e) k.transitions.items
            (all_weaker (Fitting e) (PaysFree c (charge_of c rows path) (weight_of c rows path e)) k.transitions.items (λ t q. λ none. crossing_paid e w t q.0 q.1 (open_is t.event e none)) (fitted e k.transitions.items tables.transitions f.crossings)),
      )

  -- ---- the whole block

  acting : AllByRecursion Acting k.states.entries
  acting =
      all_both (λ (s : NamedActions). IsWord (string_bytes s.0)) (λ (s : NamedActions). AllByRecursion (IsEmitting (outputs_in k)) (map action_of s.1.items)) Acting k.states.entries (λ s w a. (w, a))
      (all_source (λ (s : NamedActions). IsWord (string_bytes s.0)) IsWord (λ (s : NamedActions). string_bytes s.0) k.states.entries (λ s w. w) tables.states) tables.actions

  inputs_are : event_names (block_of k).event_inputs ≡ inputs_in k
  inputs_are = event_names_are k.face.event_inputs.entries

  pub chart_weighs : ChartPays c rows path k ns → ChartFits col spans targets (names_in path) (block_of k)
  chart_weighs p =
      record {
        states =
            all_image (λ (s : NamedActions). Acting s × StatePays c rows path k ns s) (StateFits col spans targets (names_in path) (block_of k)) state_of k.states.entries (λ s q. state_fits s q.0 q.1)
            (all_both Acting (StatePays c rows path k ns) (λ (s : NamedActions). Acting s × StatePays c rows path k ns s) k.states.entries (λ s a q. (a, q)) acting p.states);
        free =
            all_image (λ (t : Transition). Crossing t × SourcePays c rows path (costs_in k ns) t) (FreeFits col spans targets (names_in path) (block_of k)) transition_of k.transitions.items (λ t q. free_fits t q.0 q.1)
            (all_both Crossing (SourcePays c rows path (costs_in k ns)) (λ (t : Transition). Crossing t × SourcePays c rows path (costs_in k ns) t) k.transitions.items (λ t a q. (a, q)) tables.transitions p.sources);
        weights =
            subst (λ (es : List Name). AllByRecursion (InputFits col (names_in path) (block_of k)) es) (sym inputs_are)
            (all_both (λ (e : Name). is_in e (inputs_in k) ≡ true) (InputPays c rows path (most_in c rows path k)) (InputFits col (names_in path) (block_of k)) (inputs_in k) (λ e h q. input_fits p.events e h q)
            (each_in (λ (e : Name). is_in e (inputs_in k) ≡ true) (inputs_in k) (λ e h. h)) p.inputs);
      }

  pub state_named : (x : Name) → StateOwes c rows path k ns x → IsWord x
  state_named x (inl a) = subst IsWord a.4.0 (all_here Acting k.states.entries a.0 a.1 acting a.2 a.3).0
  state_named x (inr a) = subst IsWord a.4.0 (state_word (string_bytes a.1.source) (all_here Crossing k.transitions.items a.0 a.1 tables.transitions a.2 a.3).0)

  pub state_fails : (x : Name) → StateOwes c rows path k ns x → ChargeFails col spans targets (names_in path) (Charted (block_of k)) x
  state_fails x (inl a) =
      inl
      (any_image Acting (λ (s : NamedActions). (string_bytes s.0 ≡ x) × (StatePays c rows path k ns s → ⊥)) (λ (s : book.State). (s.name ≡ x) × (StateFits col spans targets (names_in path) (block_of k) s → ⊥)) state_of k.states.entries acting
      (λ s t p. (p.0, λ f. p.1 (state_pays s t f))) a)
  state_fails x (inr a) =
      inr
      (any_image Crossing (λ (t : Transition). (string_bytes t.source ≡ x) × (SourcePays c rows path (costs_in k ns) t → ⊥)) (λ (t : book.Transition). (t.source ≡ x) × (FreeFits col spans targets (names_in path) (block_of k) t → ⊥)) transition_of k.transitions.items
      tables.transitions (λ t h p. (p.0, λ f. p.1 (free_pays t h f))) a)

  abbrev Fails : Name → Type 0
  Fails e = (is_in e (inputs_in k) ≡ true) × (InputFits col (names_in path) (block_of k) e → ⊥)

  named_fails : (t : Transition) → Crossing t → ((e : Name) → InputFits col (names_in path) (block_of k) e → CrossingFits col (names_in path) e (transition_of t)) → (o : Option (String Global)) → t.event ≡ o
      → (Paid (crossing_need c (Some (charge_of c rows path (string_bytes t.target)))) o → ⊥) → Fails (elim o [ None ↦ [] | Some x ↦ string_bytes x ])
  named_fails t a crossings None e p = absurd (p tt)
  named_fails t a crossings (Some x) e p =
      let h : is_in (string_bytes x) (inputs_in k) ≡ true = subst (λ (o : Option (String Global)). IsListed (inputs_in k) (name_of o)) e a.2 in
      let w = input_word (string_bytes x) h in (
        h,
        λ f. p (
          subst (λ n. 1 ≤ n) (weight_same (string_bytes x) w) f.least,
          crossing_paid (string_bytes x) w t a (crossings (string_bytes x) f) (subst (λ (o : Option (String Global)). is_open (name_of o) (Some (string_bytes x)) ≡ true) (sym e) (is_text (string_bytes x))),
        ),
      )

  fails : (e : Name) → EventOwes c rows path k e → Fails e
  fails e (inl a) = subst Fails a.4.0 (in_at (inputs_in k) a.0 a.1 a.2 a.3, λ f. a.4.1 (input_pays a.1 (in_at (inputs_in k) a.0 a.1 a.2 a.3) f))
  fails e (inr a) =
      subst Fails a.4.0
      (named_fails a.1 (all_here Crossing k.transitions.items a.0 a.1 tables.transitions a.2 a.3) (λ x f. all_image_at (CrossingFits col (names_in path) x) transition_of k.transitions.items a.0 a.1 f.crossings a.2 (sym a.3)) a.1.event refl a.4.1)

  pub event_owing : (e : Name) → EventOwes c rows path k e → IsWord e
  event_owing e h = input_word e (fails e h).0

  pub event_fails : (e : Name) → EventOwes c rows path k e → WeightFails col targets (names_in path) (Charted (block_of k)) e
  event_fails e h = let g = fails e h in (ap (is_in e) inputs_are ∙ g.0, g.1)
