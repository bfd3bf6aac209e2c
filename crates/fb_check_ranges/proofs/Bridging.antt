-- Rows of a block's tables that are clear are clear in the book, and what fails there fails in the book.
use Rattle.std.proofs.Common.{◌≡◌, ◌↔◌, true, false, Bool, ◌||◌, inl, inr, List, [], ◌∷◌, ◌++◌, map, Option, None, Some, refl, sym, ap, subst, ◌∙◌, string_bytes}
use Rattle.std.specs.List.{AllByRecursion, Any}
use Rattle.std.specs.Str.{bytes_eq}
use Rattle.fb_model.specs.Names.{Name, Path, is_in}
use Rattle.fb_model.specs.Language.{Guard}
use Rattle.fb_model.specs.Spelling.{IsWord, AreWords}
use Rattle.fb_model.specs.System as book
use Rattle.fb_model.specs.System.{start_of}
use Rattle.fb_model.specs.Store.{variable_names, first_input}
use Rattle.fb_model.specs.BlockTyping.{variable_of}
use Rattle.fb_model.specs.Wires as wires
use Rattle.fb_model.specs.Wires.{Kind, Charted}
use Rattle.fb_model.specs.Spans.{Span, within, whole}
use Rattle.fb_model.specs.Clear.{Spans, Leaves, Traps, examined}
use Rattle.fb_model.specs.Ranges.{Range, variables, rows, row_at, SourceFits, IsClearGuard, IsClearAlgorithm, ChartClears}
use Rattle.fb_model.specs.Certificates.{names}
use Rattle.fb_model.specs.CertificateText.{names_in}
use Rattle.fb_model.proofs.Lists.{all_append, at_listed}
use Rattle.fb_model.proofs.Placed.{name_same}
use Rattle.fb_model_laws.specs.Words.{declared_names, algorithm_names}
use Rattle.fb_model_laws.specs.Leaves.{IsClosed}
use Rattle.fb_cert.specs.declared.certificate.Certificate.{Certificate}
use Rattle.fb_cert.specs.Views.{certificate_of}
use Rattle.fb_flat.specs.declared.flat.Leaf.{Leaf}
use Rattle.fb_flat.specs.declared.flat.Input.{Input}
use Rattle.fb_flat.specs.Tables.{source_at, AreLeaves}
use Rattle.fb_types_blocks.specs.declared.typed.Transition.{Transition}
use Rattle.fb_types_blocks.specs.declared.typed.Block.{Block}
use Rattle.fb_types_blocks.specs.Views.{declared_of, transition_of, block_of}
use Rattle.st_types.specs.CommandViews.{commands_of}
use Rattle.fb_check_ranges.specs.Rows.{row_for}
use Rattle.fb_check_ranges.specs.Reasons.{OneFails}
use Rattle.fb_model.specs.Misfits.{Reason, Starts, Links, Keeps, Divides}
use Rattle.fb_check_ranges.specs.Beginning.{NamedVariable, entry_name, shown, InputBegins, OtherBegins, LinkLies}
use Rattle.fb_model.specs.Misfits.{Begins}
use Rattle.fb_check_ranges.specs.Places.{SourceLies}
use Rattle.fb_check_ranges.specs.Clearing.{Procedure, procedure_name, procedure_text, guard_in, rows_of_block, AlgorithmFails, InputFails, OtherFails, LinkFails, ChartLies, BlockFails}
use Rattle.fb_model.specs.Misfits.{GuardFails}
use Rattle.fb_check_ranges.specs.Fitting.{IsKnownLeaf}
use Rattle.fb_model.specs.Misfits.{ChartFails}
use Rattle.fb_check_ranges.specs.Tables.{AreKnownLeaves}
use Rattle.fb_lists.proofs.Lists.{any_image, all_source}
use Rattle.fb_check_ranges.proofs.Lists.{any_with, all_image_where, all_both, all_parts, same}
use Rattle.fb_check_ranges.proofs.Rowing.{row_is, rows_are}
use Rattle.fb_check_ranges.proofs.Matching.{source_both}

-- ---- entries and variables

abbrev booked : List NamedVariable → List book.Variable
booked es = map variable_of (map (λ p. declared_of (string_bytes p.0) p.1) es)

all_booked : (T P : NamedVariable → Type 0) (Q : book.Variable → Type 0) (es : List NamedVariable) → AllByRecursion T es → ((e : NamedVariable) → T e → P e → Q (shown e)) → AllByRecursion P es → AllByRecursion Q (booked es)
all_booked T P Q [] t g h = tt
all_booked T P Q (e ∷ es) t g h = (g e t.0 h.0, all_booked T P Q es t.1 g h.1)

booked_are : (es : List NamedVariable) → map shown es ≡ booked es
booked_are [] = refl
booked_are (e ∷ es) = ap (λ vs. shown e ∷ vs) (booked_are es)

any_booked : (T P : NamedVariable → Type 0) (Q : book.Variable → Type 0) (es : List NamedVariable) → AllByRecursion T es → ((e : NamedVariable) → T e → P e → Q (shown e)) → Any P es → Any Q (booked es)
any_booked T P Q es t g h = subst (Any Q) (booked_are es) (any_image T P Q shown es t g h)

worded : (vs : List book.Variable) → AreWords (variable_names vs) → AllByRecursion (λ (v : book.Variable). IsWord v.name) vs
worded [] h = tt
worded (v ∷ vs) h = (h.0, worded vs h.1)

entries_worded : (es : List NamedVariable) → AllByRecursion (λ (v : book.Variable). IsWord v.name) (booked es) → AllByRecursion (λ (e : NamedVariable). IsWord (entry_name e)) es
entries_worded [] h = tt
entries_worded (e ∷ es) h = (h.0, entries_worded es h.1)

or_true : (b : Bool) → (b || true) ≡ true
or_true true = refl
or_true false = refl

listed : (all : List Name) (es : List NamedVariable) → ((x : Name) → is_in x (variable_names (booked es)) ≡ true → is_in x all ≡ true) → AllByRecursion (λ (e : NamedVariable). is_in (entry_name e) all ≡ true) es
listed all [] f = tt
listed all (e ∷ es) f = (
  f (entry_name e) (ap (λ c. c || is_in (entry_name e) (variable_names (booked es))) (name_same (entry_name e))),
  listed all es (λ x h. f x (ap (λ c. bytes_eq x (entry_name e) || c) h ∙ or_true (bytes_eq x (entry_name e)))),
)

both_ways : {P Q R : Type 0} → P ↔ Q → Q ↔ R → P ↔ R
both_ways f g = ((λ p. g.0 (f.0 p)), (λ r. f.1 (g.1 r)))

procedures_worded : (ps : List Procedure) → AreWords (map (λ (p : book.Procedure). p.name) (map (λ p. record { name = string_bytes p.0; algorithm = commands_of p.1.statements.items }) ps)) → AllByRecursion (λ (p : Procedure). IsWord (procedure_name p)) ps
procedures_worded [] h = tt
procedures_worded (p ∷ ps) h = (h.0, procedures_worded ps h.1)

guard_reason : (r : Spans) (g : Option Guard) (reason : Reason) → GuardFails r g reason → reason ≡ Divides
guard_reason r None reason h = absurd h
guard_reason r (Some g) reason h = h.0

-- ---- one block

module _ (cert : Certificate) (path : Name) (ls : List Leaf) (is : List Input) (k : Block) (bs : List wires.Leaf) (b : wires.Leaf)
    (kind_is : Charted (block_of k) ≡ b.kind)
    (sources_are : (x : Name) → is_in x (variable_names (block_of k).inputs) ≡ true → source_at is x ≡ b.source x)
    (leaves_are : AreLeaves ls bs)
    (all_known : AreKnownLeaves bs)
    (known : IsKnownLeaf b) where
  abbrev pub ranges : List Range
  ranges = (certificate_of cert).ranges

  abbrev pub here : Path
  here = names_in path

  -- ---- names

  variable_words : AreWords (declared_names (Charted (block_of k)))
  variable_words = subst (λ (q : Kind). AreWords (declared_names q)) (sym kind_is) known.words.variables

  words_apart : AllByRecursion (λ (v : book.Variable). IsWord v.name) (booked k.face.inputs.entries) × AllByRecursion (λ (v : book.Variable). IsWord v.name) (booked k.face.outputs.entries ++ booked k.internals.entries)
  words_apart = all_parts (λ (v : book.Variable). IsWord v.name) (booked k.face.inputs.entries) (booked k.face.outputs.entries ++ booked k.internals.entries) (worded (variables (Charted (block_of k))) variable_words)

  others_apart : AllByRecursion (λ (v : book.Variable). IsWord v.name) (booked k.face.outputs.entries) × AllByRecursion (λ (v : book.Variable). IsWord v.name) (booked k.internals.entries)
  others_apart = all_parts (λ (v : book.Variable). IsWord v.name) (booked k.face.outputs.entries) (booked k.internals.entries) words_apart.1

  abbrev pub IsInput : NamedVariable → Type 0
  IsInput e = IsWord (entry_name e) × (is_in (entry_name e) (variable_names (block_of k).inputs) ≡ true)

  abbrev pub IsNamed : NamedVariable → Type 0
  IsNamed e = IsWord (entry_name e)

  inputs_known : AllByRecursion IsInput k.face.inputs.entries
  inputs_known = all_both IsNamed (λ (e : NamedVariable). is_in (entry_name e) (variable_names (block_of k).inputs) ≡ true) k.face.inputs.entries (entries_worded k.face.inputs.entries words_apart.0) (listed (variable_names (block_of k).inputs) k.face.inputs.entries (λ x h. h))

  outputs_known : AllByRecursion IsNamed k.face.outputs.entries
  outputs_known = entries_worded k.face.outputs.entries others_apart.0

  internals_known : AllByRecursion IsNamed k.internals.entries
  internals_known = entries_worded k.internals.entries others_apart.1

  algorithms_known : AllByRecursion (λ (p : Procedure). IsWord (procedure_name p)) k.procedures.entries
  algorithms_known = procedures_worded k.procedures.entries (subst (λ (q : Kind). AreWords (algorithm_names q)) (sym kind_is) known.words.algorithms)

  sources_known : AllByRecursion (λ (t : Transition). IsWord (string_bytes t.source)) k.transitions.items
  sources_known =
      let closed : IsClosed (Charted (block_of k)) = subst IsClosed (sym kind_is) known.closed in
      let states : AreWords (names (block_of k).states) = subst (λ (q : Kind). AreWords (Rattle.fb_model.specs.Certificates.state_names q)) (sym kind_is) known.words.states in
      all_source (λ (t : Transition). IsWord (string_bytes t.source)) (λ (t : book.Transition). is_in t.source (names (block_of k).states) ≡ true) transition_of k.transitions.items
      (λ t h. at_listed IsWord (names (block_of k).states) (string_bytes t.source) states h) closed.sources

  -- ---- what is so of one

  input_both : (e : NamedVariable) → IsInput e → InputBegins cert path (source_at is) (shown e) ↔ Begins (row_at ranges here (shown e)) (shown e).type (first_input (b.source (shown e).name) (start_of (shown e)))
  input_both e t =
      let v = shown e in
      both_ways (same (λ (r : Span). Begins r v.type (first_input (source_at is v.name) (start_of v))) (row_for cert path v) (row_at ranges here v) (row_is cert path v t.0))
      (same (λ (s : wires.Source). Begins (row_at ranges here v) v.type (first_input s (start_of v))) (source_at is v.name) (b.source v.name) (sources_are v.name t.1))

  other_both : (e : NamedVariable) → IsNamed e → OtherBegins cert path (shown e) ↔ Begins (row_at ranges here (shown e)) (shown e).type (start_of (shown e))
  other_both e t = let v = shown e in same (λ (r : Span). Begins r v.type (start_of v)) (row_for cert path v) (row_at ranges here v) (row_is cert path v t)

  link_both : (e : NamedVariable) → IsInput e → LinkLies cert path ls (source_at is) (shown e) ↔ SourceFits ranges bs (row_at ranges here (shown e)) (b.source (shown e).name)
  link_both e t =
      let v = shown e in
      both_ways (same (λ (r : Span). SourceLies cert ls r (source_at is v.name)) (row_for cert path v) (row_at ranges here v) (row_is cert path v t.0))
      (both_ways (same (SourceLies cert ls (row_at ranges here v)) (source_at is v.name) (b.source v.name) (sources_are v.name t.1))
      (source_both cert ls bs leaves_are all_known (row_at ranges here v) (b.source v.name)))

  rows_same : rows_of_block cert path k ≡ rows ranges here (Charted (block_of k))
  rows_same = rows_are cert path (Charted (block_of k)) variable_words

  -- ---- what is clear

  pub chart_clears : ChartLies cert path ls (source_at is) k → ChartClears ranges bs here b.source (block_of k)
  chart_clears c =
      let fits = λ (v : book.Variable). within (row_at ranges here v) (whole v.type) ≡ true in
      let begins = λ (v : book.Variable). Rattle.fb_model.specs.Ranges.HoldsIn (row_at ranges here v) (start_of v) in
      record {
        rows_fit =
            all_append fits (booked k.face.inputs.entries) (booked k.face.outputs.entries ++ booked k.internals.entries)
            (all_booked IsInput (λ (e : NamedVariable). InputBegins cert path (source_at is) (shown e)) fits k.face.inputs.entries inputs_known (λ e t h. ((input_both e t).0 h).0) c.variables.inputs)
            (all_append fits (booked k.face.outputs.entries) (booked k.internals.entries)
            (all_booked IsNamed (λ (e : NamedVariable). OtherBegins cert path (shown e)) fits k.face.outputs.entries outputs_known (λ e t h. ((other_both e t).0 h).0) c.variables.outputs)
            (all_booked IsNamed (λ (e : NamedVariable). OtherBegins cert path (shown e)) fits k.internals.entries internals_known (λ e t h. ((other_both e t).0 h).0) c.variables.internals));
        inputs_begin =
            all_booked IsInput (λ (e : NamedVariable). InputBegins cert path (source_at is) (shown e)) (λ (v : book.Variable). Rattle.fb_model.specs.Ranges.HoldsIn (row_at ranges here v) (first_input (b.source v.name) (start_of v))) k.face.inputs.entries inputs_known
            (λ e t h. ((input_both e t).0 h).1) c.variables.inputs;
        others_begin =
            all_append begins (booked k.face.outputs.entries) (booked k.internals.entries)
            (all_booked IsNamed (λ (e : NamedVariable). OtherBegins cert path (shown e)) begins k.face.outputs.entries outputs_known (λ e t h. ((other_both e t).0 h).1) c.variables.outputs)
            (all_booked IsNamed (λ (e : NamedVariable). OtherBegins cert path (shown e)) begins k.internals.entries internals_known (λ e t h. ((other_both e t).0 h).1) c.variables.internals);
        links =
            all_booked IsInput (λ (e : NamedVariable). LinkLies cert path ls (source_at is) (shown e)) (λ (v : book.Variable). SourceFits ranges bs (row_at ranges here v) (b.source v.name)) k.face.inputs.entries inputs_known
            (λ e t h. (link_both e t).0 h) c.links;
        algorithms =
            all_image_where (λ (p : Procedure). IsWord (procedure_name p)) (λ (p : Procedure). IsClearAlgorithm (rows_of_block cert path k) (procedure_text p)) (λ (p : book.Procedure). IsClearAlgorithm (rows ranges here (Charted (block_of k))) p.algorithm) _ k.procedures.entries algorithms_known
            (λ p t h. subst (λ (r : Spans). IsClearAlgorithm r (procedure_text p)) rows_same h) c.runs.algorithms;
        guards =
            all_image_where (λ (t : Transition). IsWord (string_bytes t.source)) (λ (t : Transition). IsClearGuard (rows_of_block cert path k) (guard_in t)) (λ (t : book.Transition). IsClearGuard (rows ranges here (Charted (block_of k))) t.guard) transition_of k.transitions.items sources_known
            (λ t w h. subst (λ (r : Spans). IsClearGuard r (guard_in t)) rows_same h) c.runs.guards;
      }

  -- ---- what fails

  abbrev pub Says : Reason → Name → Type 0
  Says reason x = ChartFails ranges bs here b.source (block_of k) reason x × IsWord x

  input_says : (reason : Reason) (x : Name) → OneFails entry_name (InputFails cert path (source_at is)) k.face.inputs.entries reason x → Says reason x
  input_says reason x h =
      let a = any_with IsInput _ k.face.inputs.entries inputs_known h in (
        subst (λ (r : Reason). ChartFails ranges bs here b.source (block_of k) r x) (sym a.2.1.0)
            (inl (any_booked IsInput _ _ k.face.inputs.entries inputs_known (λ e t p. (p.0, λ q. p.1.1 ((input_both e t).1 q))) h)),
        subst IsWord a.2.0 a.1.0,
      )

  output_says : (reason : Reason) (x : Name) → OneFails entry_name (OtherFails cert path) k.face.outputs.entries reason x → Says reason x
  output_says reason x h =
      let a = any_with IsNamed _ k.face.outputs.entries outputs_known h in (
        subst (λ (r : Reason). ChartFails ranges bs here b.source (block_of k) r x) (sym a.2.1.0)
            (inr (inl (any_booked IsNamed _ _ k.face.outputs.entries outputs_known (λ e t p. (p.0, λ q. p.1.1 ((other_both e t).1 q))) h))),
        subst IsWord a.2.0 a.1,
      )

  internal_says : (reason : Reason) (x : Name) → OneFails entry_name (OtherFails cert path) k.internals.entries reason x → Says reason x
  internal_says reason x h =
      let a = any_with IsNamed _ k.internals.entries internals_known h in (
        subst (λ (r : Reason). ChartFails ranges bs here b.source (block_of k) r x) (sym a.2.1.0)
            (inr (inr (any_booked IsNamed _ _ k.internals.entries internals_known (λ e t p. (p.0, λ q. p.1.1 ((other_both e t).1 q))) h))),
        subst IsWord a.2.0 a.1,
      )

  link_says : (reason : Reason) (x : Name) → OneFails entry_name (LinkFails cert path ls (source_at is)) k.face.inputs.entries reason x → Says reason x
  link_says reason x h =
      let a = any_with IsInput _ k.face.inputs.entries inputs_known h in (
        subst (λ (r : Reason). ChartFails ranges bs here b.source (block_of k) r x) (sym a.2.1.0)
            (any_booked IsInput _ _ k.face.inputs.entries inputs_known (λ e t p. (p.0, λ q. p.1.1 ((link_both e t).1 q))) h),
        subst IsWord a.2.0 a.1.0,
      )

  algorithm_says : (reason : Reason) (x : Name) → OneFails procedure_name (λ p. AlgorithmFails (rows_of_block cert path k) (procedure_text p)) k.procedures.entries reason x → Says reason x
  algorithm_says reason x h = (by reason h, subst IsWord (any_with _ _ k.procedures.entries algorithms_known h).2.0 (any_with _ _ k.procedures.entries algorithms_known h).1) where
    by : (r : Reason) → OneFails procedure_name (λ p. AlgorithmFails (rows_of_block cert path k) (procedure_text p)) k.procedures.entries r x → ChartFails ranges bs here b.source (block_of k) r x
    by Starts h = absurd (any_with _ _ k.procedures.entries algorithms_known h).2.1
    by Links h = absurd (any_with _ _ k.procedures.entries algorithms_known h).2.1
    by Keeps h =
        any_image (λ (p : Procedure). IsWord (procedure_name p)) _ _ _ k.procedures.entries algorithms_known
        (λ p t q. (q.0, subst (λ (r : Spans). examined r (procedure_text p) ≡ Leaves) rows_same q.1)) h
    by Divides h =
        inl (any_image (λ (p : Procedure). IsWord (procedure_name p)) _ _ _ k.procedures.entries algorithms_known
        (λ p t q. (q.0, subst (λ (r : Spans). examined r (procedure_text p) ≡ Traps) rows_same q.1)) h)

  guard_says : (reason : Reason) (x : Name) → OneFails (λ t. string_bytes t.source) (λ t. GuardFails (rows_of_block cert path k) (guard_in t)) k.transitions.items reason x → Says reason x
  guard_says reason x h =
      let a = any_with (λ (t : Transition). IsWord (string_bytes t.source)) _ k.transitions.items sources_known h in
      let e : reason ≡ Divides = guard_reason (rows_of_block cert path k) (guard_in a.0) reason a.2.1 in (
        subst (λ (r : Reason). ChartFails ranges bs here b.source (block_of k) r x) (sym e)
            (inr (any_image (λ (t : Transition). IsWord (string_bytes t.source)) _ _ transition_of k.transitions.items sources_known
            (λ t w q. (q.0, subst (λ (r : Spans). GuardFails r (guard_in t) Divides) rows_same (subst (GuardFails (rows_of_block cert path k) (guard_in t)) e q.1))) h)),
        subst IsWord a.2.0 a.1,
      )

  pub block_says : (reason : Reason) (x : Name) → BlockFails cert path ls (source_at is) k reason x → Says reason x
  block_says reason x (inl (inl h)) = input_says reason x h
  block_says reason x (inl (inr (inl h))) = output_says reason x h
  block_says reason x (inl (inr (inr h))) = internal_says reason x h
  block_says reason x (inr (inl h)) = link_says reason x h
  block_says reason x (inr (inr (inl h))) = algorithm_says reason x h
  block_says reason x (inr (inr (inr h))) = guard_says reason x h
