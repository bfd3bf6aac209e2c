-- A leaf of the tables and its leaf of the book, in one column.
use Rattle.std.proofs.Common.{◌≡◌, ◌≤◌, ◌+◌, ◌*◌, ℕ, Bool, true, false, cond, ◌||◌, List, [], ◌∷◌, ◌++◌, map, Result, Ok, Err, OnOk, IfErr, refl, sym, ap, subst, ◌∙◌, string_bytes, arith}
use Rattle.std.specs.Prelude.{MatchResult}
use Rattle.std.specs.List.{sum_by, AllByRecursion}
use Rattle.std.specs.Str.{bytes_eq}
use Rattle.fb_model.specs.Names.{Name, Path, Place, is_in}
use Rattle.fb_model.specs.Spelling.{IsWord, AreWords}
use Rattle.fb_model.specs.Clear.{Spans, cost}
use Rattle.fb_model.specs.Charts.{named}
use Rattle.fb_model.specs.Ranges.{Range, cost_of}
use Rattle.fb_model.specs.Ranges as book_ranges
use Rattle.fb_model.specs.System as book
use Rattle.fb_model.specs.Services.{service_events, service_event_outputs, can_emit}
use Rattle.fb_model.specs.Typing.{names_of}
use Rattle.fb_model.specs.Wires as wires
use Rattle.fb_model.specs.Wires.{Kind, Charted, Serviced}
use Rattle.fb_model.specs.Certificates.{EventFits, KindWeighs, sent_weight, sending_of, state_names, events_of}
use Rattle.fb_model.specs.CertificateText.{names_in}
use Rattle.fb_model.proofs.Lists.{all_weaker, all_both, at_listed}
use Rattle.fb_model_laws.specs.Leaves.{IsClosed}
use Rattle.fb_cert.specs.declared.certificate.Certificate as tables
use Rattle.fb_cert.specs.Views.{certificate_of}
use Rattle.fb_types_blocks.specs.declared.typed.Block.{Block}
use Rattle.fb_types_blocks.specs.Views.{block_of}
use Rattle.fb_flat.specs.declared.flat.Output.{Output}
use Rattle.fb_flat.specs.Tables.{target_place, output_names, targets_of}
use Rattle.fb_flat.specs.Sites.{dotted}
use Rattle.fb_flat.proofs.Dotted.{names_dotted}
use Rattle.fb_check_columns.specs.declared.column.Column.{Column}
use Rattle.fb_faults.specs.declared.shortfall.Shortfall.{Shortfall}
use Rattle.fb_faults.specs.declared.shortfall.Shortfall.TheVariants.{OutOfMemory, Charge, Weight, Channel}
use Rattle.fb_check_columns.specs.Columns.{unit_of, column_of}
use Rattle.fb_check_columns.specs.Reckoning.{load_of, load_at, value_at, table_names, Costs}
use Rattle.fb_check_columns.specs.Paying.{IsWeight, outputs_in, ChartPays, IsOwing, DispatchPays, OneOwes}
use Rattle.fb_model_texts.specs.Small.{AreSmall}
use Rattle.fb_check_columns.specs.Fitting.{IsKnownLeaf}
use Rattle.fb_model.specs.Misfits.{ChargeFails, WeightFails, IsLeafFault}
use Rattle.fb_check_columns.proofs.Lists.{each_in}
use Rattle.fb_check_columns.proofs.Amounts.{charge_is, weight_is, unit_is, load_is}
use Rattle.fb_check_columns.proofs.Known.{IsTabled, tabled, typed_names_are}
use Rattle.fb_check_columns.proofs.Weighing.{le_along, chart_weighs, state_named, state_fails, event_owing, event_fails}
use Rattle.fb_check_columns.proofs.Costing.{named_cost}
use Rattle.fb_check_columns.proofs.Serving.{events_words, emits_outputs, loads_reached}

abbrev IsNamed : Place → Type 0
IsNamed p = IsWord p.event

-- the load of an output is the weights of its targets
loads_are : (c : Column) (rows : tables.Certificate) (small : AreSmall (certificate_of rows)) (xs : List Output) (o : Name) → is_in o (output_names xs) ≡ true → AllByRecursion IsNamed (targets_of xs o)
    → load_at c rows xs o ≡ sum_by (column_of c (certificate_of rows)).weight (targets_of xs o)
loads_are c rows small [] o h w = absurd cc
loads_are c rows small (x ∷ xs) o h w = by (bytes_eq o (string_bytes x.name)) h w (loads_are c rows small xs o) where
  by : (b : Bool) → (b || is_in o (output_names xs)) ≡ true → AllByRecursion IsNamed (cond b (map target_place x.targets.items) (targets_of xs o))
      → (is_in o (output_names xs) ≡ true → AllByRecursion IsNamed (targets_of xs o) → load_at c rows xs o ≡ sum_by (column_of c (certificate_of rows)).weight (targets_of xs o))
      → cond b (load_of c rows x.targets.items) (load_at c rows xs o) ≡ sum_by (column_of c (certificate_of rows)).weight (cond b (map target_place x.targets.items) (targets_of xs o))
  by true h w others = load_is c rows small x.targets.items w
  by false h w others = others h w

-- the same by its place among the outputs
loads_at : (c : Column) (rows : tables.Certificate) (xs : List Output) (o : Name) → value_at (output_names xs) (map (λ (x : Output). load_of c rows x.targets.items) xs) 0 o ≡ load_at c rows xs o
loads_at c rows [] o = refl
loads_at c rows (x ∷ xs) o = ap (cond (bytes_eq o (string_bytes x.name)) (load_of c rows x.targets.items)) (loads_at c rows xs o)

-- ---- basic blocks

module _ (c : Column) (rows : tables.Certificate) (small : AreSmall (certificate_of rows)) (ranges : List Range) (path : Name) (outputs : List Output) (b : wires.Leaf) (k : Block)
    (path_is : names_in path ≡ b.path)
    (kind_is : Charted (block_of k) ≡ b.kind)
    (outputs_are : output_names outputs ≡ names_of (block_of k).event_outputs)
    (targets_are : (o : Name) → is_in o (names_of (block_of k).event_outputs) ≡ true → targets_of outputs o ≡ b.targets o)
    (known : IsKnownLeaf ranges b) where
  tables_of : IsTabled k
  tables_of =
      tabled k (subst IsClosed (sym kind_is) known.closed) (subst (λ (q : Kind). AreWords (state_names q)) (sym kind_is) known.words.states)
      (subst (λ (q : Kind). AreWords (events_of q)) (sym kind_is) known.words.events)

  abbrev pub spans : Spans
  spans = book_ranges.rows ranges b.path b.kind

  abbrev pub costs : Costs
  costs = record { algorithms = map (λ (p : book.Procedure). unit_of c * cost spans p.algorithm) (block_of k).procedures; outputs = map (λ (x : Output). load_of c rows x.targets.items) outputs }

  algorithms_same : (x : Name) → value_at (table_names k.procedures) costs.algorithms 0 x ≡ (column_of c (certificate_of rows)).unit * cost_of spans (named (block_of k).procedures x)
  algorithms_same x = named_cost (unit_of c) spans k.procedures.entries x ∙ ap (λ u. u * cost_of spans (named (block_of k).procedures x)) (sym (unit_is c rows))

  names_same : names_of (block_of k).event_outputs ≡ outputs_in k
  names_same = typed_names_are k.face.event_outputs.entries

  named_targets : (o : Name) → AllByRecursion IsNamed (b.targets o)
  named_targets o = all_weaker _ IsNamed (b.targets o) (λ p h. h.1) (known.words.targets o)

  loads_same : (o : Name) → is_in o (outputs_in k) ≡ true
      → value_at (outputs_in k) (map (λ (x : Output). load_of c rows x.targets.items) outputs) 0 o ≡ sum_by (column_of c (certificate_of rows)).weight (b.targets o)
  loads_same o h =
      let ns = map (λ (x : Output). load_of c rows x.targets.items) outputs in
      let listed : is_in o (output_names outputs) ≡ true = ap (is_in o) (outputs_are ∙ names_same) ∙ h in
      let same : targets_of outputs o ≡ b.targets o = targets_are o (ap (is_in o) names_same ∙ h) in
      ap (λ names. value_at names ns 0 o) (sym (outputs_are ∙ names_same)) ∙ loads_at c rows outputs o ∙ loads_are c rows small outputs o listed (subst (AllByRecursion IsNamed) (sym same) (named_targets o))
      ∙ ap (sum_by (column_of c (certificate_of rows)).weight) same

  pub chart_fits : ChartPays c rows path k costs → KindWeighs (column_of c (certificate_of rows)) spans b.targets b.path b.kind
  chart_fits p =
      subst (λ (q : Path). KindWeighs (column_of c (certificate_of rows)) spans b.targets q b.kind) path_is
      (subst (λ (q : Kind). KindWeighs (column_of c (certificate_of rows)) spans b.targets (names_in path) q) kind_is
      (chart_weighs c rows path (column_of c (certificate_of rows)) spans b.targets k costs (unit_is c rows) (charge_is c rows small path) (weight_is c rows small path) loads_same algorithms_same tables_of p))

  row_named : (row : List ℕ) (x : Name) → row ≡ dotted path x → IsWord x → names_in row ≡ b.path ++ x ∷ []
  row_named row x e w = ap names_in e ∙ names_dotted path x w ∙ ap (λ p. p ++ x ∷ []) path_is

  pub chart_fails : (e : Shortfall) → IsOwing c rows path k costs e → IsLeafFault (column_of c (certificate_of rows)) ranges b e
  chart_fails OutOfMemory h = tt
  chart_fails (Channel number) h = absurd h
  chart_fails (Charge row) h =
      let col = column_of c (certificate_of rows) in
      let w : IsWord h.0 = state_named c rows path col spans b.targets k costs (unit_is c rows) (charge_is c rows small path) (weight_is c rows small path) loads_same algorithms_same tables_of h.0 h.2 in (
        h.0,
        row_named (string_bytes row) h.0 h.1 w,
        subst (λ (q : Path). ChargeFails col spans b.targets q b.kind h.0) path_is
            (subst (λ (q : Kind). ChargeFails col spans b.targets (names_in path) q h.0) kind_is
            (state_fails c rows path col spans b.targets k costs (unit_is c rows) (charge_is c rows small path) (weight_is c rows small path) loads_same algorithms_same tables_of h.0 h.2)),
      )
  chart_fails (Weight row) h =
      let col = column_of c (certificate_of rows) in
      let w : IsWord h.0 = event_owing c rows path col spans b.targets k costs (unit_is c rows) (charge_is c rows small path) (weight_is c rows small path) loads_same algorithms_same tables_of h.0 h.2 in (
        h.0,
        row_named (string_bytes row) h.0 h.1 w,
        subst (λ (q : Path). WeightFails col b.targets q b.kind h.0) path_is
            (subst (λ (q : Kind). WeightFails col b.targets (names_in path) q h.0) kind_is
            (event_fails c rows path col spans b.targets k costs (unit_is c rows) (charge_is c rows small path) (weight_is c rows small path) loads_same algorithms_same tables_of h.0 h.2)),
      )

-- ---- services

summed : (u v m n z : ℕ) → u ≡ v → m ≡ n → u + m + z ≡ v + n + z
summed u v m n z e f = omega arith

module _ (c : Column) (rows : tables.Certificate) (small : AreSmall (certificate_of rows)) (ranges : List Range) (path : Name) (outputs : List Output) (b : wires.Leaf) (service : book.Service)
    (path_is : names_in path ≡ b.path)
    (kind_is : Serviced service ≡ b.kind)
    (outputs_are : output_names outputs ≡ service_event_outputs service)
    (targets_are : (o : Name) → is_in o (service_event_outputs service) ≡ true → targets_of outputs o ≡ b.targets o)
    (known : IsKnownLeaf ranges b) where
  load_same : (o : Name) → is_in o (service_event_outputs service) ≡ true → load_at c rows outputs o ≡ sum_by (column_of c (certificate_of rows)).weight (b.targets o)
  load_same o h =
      let same : targets_of outputs o ≡ b.targets o = targets_are o h in
      loads_are c rows small outputs o (ap (is_in o) outputs_are ∙ h) (subst (AllByRecursion IsNamed) (sym same) (all_weaker _ IsNamed (b.targets o) (λ p w. w.1) (known.words.targets o)))
      ∙ ap (sum_by (column_of c (certificate_of rows)).weight) same

  need_same : (e : Name) → unit_of c + sum_by (load_at c rows outputs) (can_emit service e) + sending_of (column_of c (certificate_of rows)) service e
      ≡ (column_of c (certificate_of rows)).unit + sent_weight (column_of c (certificate_of rows)) b.targets (can_emit service e) + sending_of (column_of c (certificate_of rows)) service e
  need_same e =
      summed _ _ _ _ (sending_of (column_of c (certificate_of rows)) service e) (sym (unit_is c rows))
      (loads_reached (load_at c rows outputs) (column_of c (certificate_of rows)).weight b.targets (service_event_outputs service) (can_emit service e) load_same (emits_outputs service e))

  event_word : (e : Name) → is_in e (service_events service) ≡ true → IsWord e
  event_word e h = at_listed IsWord (service_events service) e (events_words service) h

  event_fitting : (e : Name) → is_in e (service_events service) ≡ true → DispatchPays c rows path service outputs e → EventFits (column_of c (certificate_of rows)) b.targets (names_in path) service e
  event_fitting e h p =
      record {
        least = subst (λ n. 1 ≤ n) (sym (weight_is c rows small path e (event_word e h))) p.0;
        emissions = le_along _ _ _ _ (need_same e) (sym (weight_is c rows small path e (event_word e h))) p.1;
      }

  event_paying : (e : Name) → is_in e (service_events service) ≡ true → EventFits (column_of c (certificate_of rows)) b.targets (names_in path) service e → DispatchPays c rows path service outputs e
  event_paying e h f = (subst (λ n. 1 ≤ n) (weight_is c rows small path e (event_word e h)) f.least, le_along _ _ _ _ (sym (need_same e)) (weight_is c rows small path e (event_word e h)) f.emissions)

  pub service_fits : AllByRecursion (DispatchPays c rows path service outputs) (service_events service) → KindWeighs (column_of c (certificate_of rows)) (book_ranges.rows ranges b.path b.kind) b.targets b.path b.kind
  service_fits p =
      subst (λ (q : Path). KindWeighs (column_of c (certificate_of rows)) (book_ranges.rows ranges b.path b.kind) b.targets q b.kind) path_is
      (subst (λ (q : Kind). KindWeighs (column_of c (certificate_of rows)) (book_ranges.rows ranges b.path b.kind) b.targets (names_in path) q) kind_is
      (all_both (λ (e : Name). is_in e (service_events service) ≡ true) (DispatchPays c rows path service outputs) (EventFits (column_of c (certificate_of rows)) b.targets (names_in path) service) (service_events service) event_fitting
      (each_in (λ (e : Name). is_in e (service_events service) ≡ true) (service_events service) (λ e h. h)) p))

  pub service_fails : (e : Shortfall) → IsWeight path (OneOwes c rows path service outputs (service_events service)) e → IsLeafFault (column_of c (certificate_of rows)) ranges b e
  service_fails OutOfMemory h = tt
  service_fails (Weight row) h =
      let col = column_of c (certificate_of rows) in (
        h.0,
        ap names_in h.1 ∙ names_dotted path h.0 (event_word h.0 h.2.0) ∙ ap (λ p. p ++ h.0 ∷ []) path_is,
        subst (λ (q : Path). WeightFails col b.targets q b.kind h.0) path_is
            (subst (λ (q : Kind). WeightFails col b.targets (names_in path) q h.0) kind_is (h.2.0, λ f. h.2.1 (event_paying h.0 h.2.0 f))),
      )
  service_fails (Charge row) h = absurd h
  service_fails (Channel number) h = absurd h

-- ---- results

pub accepted : (P : Type 0) (Q : Shortfall → Type 0) (R : Type 0) (r : Result (Unit {0}) Shortfall) → MatchResult r (λ u. P) Q → (P → R) → OnOk r R
accepted P Q R (Ok u) h f = f h
accepted P Q R (Err e) h f = tt

pub refused : (P : Type 0) (Q S : Shortfall → Type 0) (r : Result (Unit {0}) Shortfall) → MatchResult r (λ u. P) Q → ((e : Shortfall) → Q e → S e) → IfErr r S
refused P Q S (Ok u) h f = tt
refused P Q S (Err e) h f = f e h
