-- Targets by numbers are the places where the outputs of a leaf lead.
use Rattle.std.proofs.Common.{◌≡◌, ◌≤◌, ℕ, suc, Bool, true, false, cond, ◌||◌, List, [], ◌∷◌, map, length, string_bytes, Option, None, Some, slice_get, refl, sym, ap, subst, ◌∙◌, arith}
use Rattle.std.specs.List.{AllByRecursion}
use Rattle.std.specs.Str.{bytes_eq}
use Rattle.std.proofs.lemmas.List.{length-map}
use Rattle.std.proofs.lemmas.Option.{slice_get_within}
use Rattle.fb_model.specs.Names.{Name, Place, at_place, path_eq, is_in}
use Rattle.fb_model.specs.System as book
use Rattle.fb_model.specs.Spelling.{AreWords}
use Rattle.fb_model.specs.Typing.{AreDistinct, names_of}
use Rattle.fb_model.specs.Wires as wires
use Rattle.fb_model.specs.Wires.{Kind, Charted, Serviced, leaf_at}
use Rattle.fb_model.specs.Ranges.{Range, LeafLies}
use Rattle.fb_model.specs.Certificates.{event_names, events_of, has_event, is_input, IsWired}
use Rattle.fb_model.specs.CertificateText.{names_in}
use Rattle.fb_model.proofs.Lists.{all_both, all_weaker}
use Rattle.fb_model.proofs.Names.{eq_turned}
use Rattle.fb_model.proofs.Placed.{Apart, apart, name_same}
use Rattle.fb_model_laws.specs.Words.{IsWordyLeaf}
use Rattle.fb_model_laws.specs.Leaves.{IsClosed, OnChart}
use Rattle.fb_model_laws.proofs.Taking.{TakesInputs}
use Rattle.fb_model.specs.Store.{variable_names, inputs}
use Rattle.fb_flat.specs.Sources.{written_inputs}
use Rattle.fb_flat.proofs.Few.{IsSmallKind}
use Rattle.fb_cert.proofs.Places.{path_same}
use Rattle.fb_flat.specs.declared.flat.Target.{Target}
use Rattle.fb_flat.specs.declared.flat.Output as from_output
use Rattle.fb_flat.specs.Leaves.{kind_of, outputs_of}
use Rattle.fb_flat.specs.Tables.{IsLeaf, target_place, targets_of}
use Rattle.fb_flat.specs.Tables as flat
use Rattle.fb_types_blocks.proofs.Lists.{new_split, new_second}
use Rattle.fb_chart.specs.declared.table.Point.{Point}
use Rattle.fb_chart.specs.declared.table.Output.{Output}
use Rattle.fb_chart.specs.Tables.{Each}
use Rattle.fb_device_tables.specs.Views.{place_in, place_at}
use Rattle.fb_device_tables.specs.Tables.{IsPoint, LeadsTo}
use Rattle.fb_device_tables.specs.Filling.{Seated, paths_of, IsNumber, IsPointMade, IsOutputMade, most_numbers}
use Rattle.fb_lists.proofs.Lists.{all_got, all_source}
use Rattle.fb_chart.proofs.Lists.{each_length}
use Rattle.fb_device_tables.proofs.Lists.{image_at, each_at, each_map, each_weaker, each_same, each_second}
use Rattle.fb_device_tables.proofs.Leaves.{IsSeated}

-- ---- the events and outputs of a leaf

-- the events of a leaf are few words, all different, and so are its outputs
pub record IsEventful (kind : Kind) : Type 0 where
  pub few : length (events_of kind) ≤ 64
  pub apart : AreDistinct (events_of kind)
  pub words : AreWords (events_of kind)
  pub outputs : AreDistinct (outputs_of kind)

pub names_same : (es : List book.Event) → names_of es ≡ event_names es
names_same [] = refl
names_same (e ∷ es) = ap (λ ns. e.name ∷ ns) (names_same es)

as_many_names : (es : List book.Event) → length (event_names es) ≡ length es
as_many_names [] = refl
as_many_names (e ∷ es) = ap suc (as_many_names es)

pub eventful : (kind : Kind) → IsClosed kind → AreWords (events_of kind) → IsEventful kind
eventful (Charted block) c w =
    let ins = event_names block.event_inputs in
    let outs = event_names block.event_outputs in
    record {
      few = omega (arith, c.few_inputs, as_many_names block.event_inputs);
      apart = (new_split [] ins outs c.events_apart).0;
      words = w;
      outputs = subst AreDistinct (sym (names_same block.event_outputs)) (new_second ins outs c.events_apart);
    }
eventful (Serviced (book.Input number types)) c w = record { few = omega arith; apart = (refl, tt); words = w; outputs = (refl, tt) }
eventful (Serviced (book.Output number types)) c w = record { few = omega arith; apart = (refl, tt); words = w; outputs = tt }
eventful (Serviced (book.Publish channel types)) c w = record { few = omega arith; apart = (refl, (refl, tt)); words = w; outputs = (refl, (refl, tt)) }
eventful (Serviced (book.Subscribe channel types)) c w = record { few = omega arith; apart = (refl, (refl, (refl, tt))); words = w; outputs = (refl, (refl, tt)) }
eventful (Serviced book.Delay) c w = record { few = omega arith; apart = (refl, (refl, (refl, tt))); words = w; outputs = (refl, tt) }
eventful (Serviced book.Cycle) c w = record { few = omega arith; apart = (refl, (refl, (refl, tt))); words = w; outputs = (refl, tt) }
eventful (Serviced book.Restart) c w = record { few = omega arith; apart = (refl, tt); words = w; outputs = (refl, tt) }

-- a chart has few algorithms
abbrev pub HasFew : book.Block → Type 0
HasFew block = length block.procedures ≤ 256

-- what is known of a leaf
pub record IsKnownLeaf (leaf : wires.Leaf) : Type 0 where
  pub small : IsSmallKind leaf.kind
  pub closed : IsClosed leaf.kind
  pub procedures : OnChart HasFew leaf.kind
  pub words : IsWordyLeaf leaf
  pub written : written_inputs leaf.kind ≡ variable_names (inputs leaf.kind)
  pub takes : TakesInputs leaf.kind

pub known_events : (leaf : wires.Leaf) → IsKnownLeaf leaf → IsEventful leaf.kind
known_events leaf known = eventful leaf.kind known.closed known.words.events

-- ---- leaves by the numbers of their paths

-- all that is known of the leaves of a device
pub record AreKnown (ranges : List Range) (ss : List Seated) (bs : List wires.Leaf) : Type 0 where
  pub seated : Each IsSeated ss bs
  pub leaves : AllByRecursion IsKnownLeaf bs
  pub wired : AllByRecursion (IsWired bs) bs
  pub lies : AllByRecursion (LeafLies ranges bs) bs
  pub few : length bs ≤ most_numbers

-- a leaf is found by a path, so the path is one of them
listed : (x : Name) (leaf : wires.Leaf) (ss : List Seated) (bs : List wires.Leaf) → Each IsSeated ss bs → leaf_at bs (names_in x) ≡ Some leaf → is_in x (paths_of ss) ≡ true
listed x leaf [] [] h g = absurd cc
listed x leaf [] (b ∷ bs) h g = absurd h
listed x leaf (s ∷ ss) [] h g = absurd h
listed x leaf (s ∷ ss) (b ∷ bs) h g =
    by (bytes_eq x (string_bytes s.leaf.path)) (subst (λ t. cond t (Some b) (leaf_at bs (names_in x)) ≡ Some leaf) (ap (λ p. path_eq p (names_in x)) (sym h.0.leaf.path) ∙ path_same (string_bytes s.leaf.path) x) g) (listed x leaf ss bs h.1)
  where
    by : (t : Bool) → cond t (Some b) (leaf_at bs (names_in x)) ≡ Some leaf → (leaf_at bs (names_in x) ≡ Some leaf → is_in x (paths_of ss) ≡ true) → (t || is_in x (paths_of ss)) ≡ true
    by true g again = refl
    by false g again = again g

-- the number of a path at which there is a leaf is that leaf's
pub seat_at : (ranges : List Range) (ss : List Seated) (bs : List wires.Leaf) → AreKnown ranges ss bs → (x : Name) (n : ℕ) (leaf : wires.Leaf) → leaf_at bs (names_in x) ≡ Some leaf → IsNumber (paths_of ss) x n
    → (s : Seated) × (b : wires.Leaf) × (slice_get ss n ≡ Some s) × (slice_get bs n ≡ Some b) × IsSeated s b × (b.path ≡ names_in x)
seat_at ranges ss bs known x n leaf found m =
    let many = each_length IsSeated ss bs known.seated in
    let paths_many = length-map ss (λ (s : Seated). string_bytes s.leaf.path) in
    let at : slice_get (paths_of ss) n ≡ Some x = m (omega (arith, many, paths_many, known.few)) (listed x leaf ss bs known.seated found) in
    let within = slice_get_within (paths_of ss) n x at in
    let g = each_at IsSeated ss bs n known.seated (omega (arith, within, paths_many)) in
    let here : Some (string_bytes g.0.leaf.path) ≡ Some x = sym (image_at (λ (u : Seated). string_bytes u.leaf.path) ss n g.0 g.2) ∙ at in
    let path : string_bytes g.0.leaf.path ≡ x = cc in
    (g.0, g.1, g.2, g.3, g.4, sym g.4.leaf.path ∙ ap names_in path)

-- ---- one target

has_leaf : (o : Option wires.Leaf) (e : Name) → has_event o e ≡ true → (leaf : wires.Leaf) × (o ≡ Some leaf)
has_leaf None e h = absurd cc
has_leaf (Some leaf) e h = (leaf, refl)

-- a point stands for the place of its target
abbrev pub Stands : List wires.Leaf → Target → Point → Type 0
Stands bs t p = IsPoint bs p × (place_at bs p ≡ target_place t)

point_stands : (ranges : List Range) (ss : List Seated) (bs : List wires.Leaf) → AreKnown ranges ss bs → (t : Target) (p : Point) → is_input bs (target_place t) ≡ true → IsPointMade (paths_of ss) ss t p → Stands bs t p
point_stands ranges ss bs known t p input m =
    let x = string_bytes t.path in
    let e = string_bytes t.event in
    let there = has_leaf (leaf_at bs (names_in x)) e input in
    let g = seat_at ranges ss bs known x p.block there.0 there.1 m.block in
    let s = g.0 in
    let b = g.1 in
    let wired = all_got (IsWired bs) bs p.block b known.wired g.3 in
    let found : leaf_at bs (names_in x) ≡ Some b = ap (leaf_at bs) (sym g.5) ∙ wired.found in
    let known_event : is_in e (events_of b.kind) ≡ true = sym (ap (λ o. has_event o e) found) ∙ input in
    let leaf = all_got IsKnownLeaf bs p.block b known.leaves g.3 in
    let body = known_events b leaf in
    let few : length (events_of (kind_of s.leaf.body)) ≤ 64 = subst (λ (k : Kind). length (events_of k) ≤ 64) (sym g.4.leaf.kind) body.few in
    let event = m.event s g.2 (omega (arith, few)) (subst (λ (k : Kind). is_in e (events_of k) ≡ true) (sym g.4.leaf.kind) known_event) in
    let here : slice_get (events_of b.kind) p.event ≡ Some e = subst (λ (k : Kind). slice_get (events_of k) p.event ≡ Some e) g.4.leaf.kind event in (
      record { leaf = b; block = g.3; event = slice_get_within (events_of b.kind) p.event e here },
      ap (λ (o : Option wires.Leaf). place_in o p.event) g.3 ∙ ap (λ (o : Option Name). at_place b.path (elim o [ None ↦ [] | Some n ↦ n ])) here ∙ ap (λ q. at_place q e) g.5,
    )

-- ---- one output

-- outputs of different names are each the first of its name
firsts : (xs : List from_output.Output) → Apart (flat.output_names xs) → AllByRecursion (λ (o : from_output.Output). targets_of xs (string_bytes o.name) ≡ map target_place o.targets.items) xs
firsts [] a = tt
firsts (x ∷ xs) a = (
  ap (λ t. cond t (map target_place x.targets.items) (targets_of xs (string_bytes x.name))) (name_same (string_bytes x.name)),
  all_both (λ (o : from_output.Output). bytes_eq (string_bytes x.name) (string_bytes o.name) ≡ false) (λ (o : from_output.Output). targets_of xs (string_bytes o.name) ≡ map target_place o.targets.items)
      (λ (o : from_output.Output). targets_of (x ∷ xs) (string_bytes o.name) ≡ map target_place o.targets.items) xs
      (λ o d h. ap (λ t. cond t (map target_place x.targets.items) (targets_of xs (string_bytes o.name))) (eq_turned (string_bytes o.name) (string_bytes x.name) ∙ d) ∙ h)
      (all_source (λ (o : from_output.Output). bytes_eq (string_bytes x.name) (string_bytes o.name) ≡ false) (λ n. bytes_eq (string_bytes x.name) n ≡ false) (λ (o : from_output.Output). string_bytes o.name) xs (λ o d. d) a.0) (firsts xs a.1),
)

or_true : (b : Bool) → (b || true) ≡ true
or_true true = refl
or_true false = refl

each_listed : (xs : List from_output.Output) → AllByRecursion (λ (o : from_output.Output). is_in (string_bytes o.name) (flat.output_names xs) ≡ true) xs
each_listed [] = tt
each_listed (x ∷ xs) = (
  ap (λ t. t || is_in (string_bytes x.name) (flat.output_names xs)) (name_same (string_bytes x.name)),
  all_weaker (λ (o : from_output.Output). is_in (string_bytes o.name) (flat.output_names xs) ≡ true) (λ (o : from_output.Output). is_in (string_bytes o.name) (flat.output_names (x ∷ xs)) ≡ true) xs
      (λ o h. ap (λ t. bytes_eq (string_bytes o.name) (string_bytes x.name) || t) h ∙ or_true (bytes_eq (string_bytes o.name) (string_bytes x.name))) (each_listed xs),
)

-- what each output of a leaf leads to
abbrev Leads : wires.Leaf → from_output.Output → Type 0
Leads b o = map target_place o.targets.items ≡ b.targets (string_bytes o.name)

leaf_leads : (s : Seated) (b : wires.Leaf) → IsLeaf s.leaf b → IsEventful b.kind → AllByRecursion (Leads b) s.leaf.outputs.items
leaf_leads s b l body =
    let xs = s.leaf.outputs.items in
    all_both (λ (o : from_output.Output). is_in (string_bytes o.name) (flat.output_names xs) ≡ true) (λ (o : from_output.Output). targets_of xs (string_bytes o.name) ≡ map target_place o.targets.items) (Leads b) xs
    (λ o i h. sym h ∙ l.targets (string_bytes o.name) (ap (is_in (string_bytes o.name)) (sym l.outputs) ∙ i)) (each_listed xs)
    (firsts xs (apart (flat.output_names xs) (subst AreDistinct (sym l.outputs) body.outputs)))

output_leads : (ranges : List Range) (ss : List Seated) (bs : List wires.Leaf) → AreKnown ranges ss bs → (b : wires.Leaf) → IsWired bs b → (s : Seated) (o : from_output.Output) (x : Output) → Leads b o → IsOutputMade (paths_of ss) ss s o x → LeadsTo bs b x
output_leads ranges ss bs known b wired s o x leads m =
    let ts = o.targets.items in
    let ps = x.targets.items in
    let inputs : AllByRecursion (λ (t : Target). is_input bs (target_place t) ≡ true) ts =
    all_source (λ (t : Target). is_input bs (target_place t) ≡ true) (λ (p : Place). is_input bs p ≡ true) target_place ts (λ t h. h) (subst (λ (qs : List Place). AllByRecursion (λ (p : Place). is_input bs p ≡ true) qs) (sym leads) (wired.targets (string_bytes o.name))) in
    let stand : Each (Stands bs) ts ps = each_weaker (λ (t : Target). is_input bs (target_place t) ≡ true) (IsPointMade (paths_of ss) ss) (Stands bs) ts ps (point_stands ranges ss bs known) inputs m.points in
    record {
      points = each_second (IsPoint bs) ts ps (each_map (Stands bs) (λ (t : Target) (p : Point). IsPoint bs p) ts ps (λ t p h. h.0) stand);
      targets = each_same target_place (place_at bs) ts ps (each_map (Stands bs) (λ (t : Target) (p : Point). place_at bs p ≡ target_place t) ts ps (λ t p h. h.1) stand) ∙ leads ∙ ap b.targets (sym m.name);
    }

-- the outputs of a leaf lead where the book's do
pub outputs_lead : (ranges : List Range) (ss : List Seated) (bs : List wires.Leaf) → AreKnown ranges ss bs → (s : Seated) (b : wires.Leaf) → IsLeaf s.leaf b → IsEventful b.kind → IsWired bs b → (xs : List Output)
    → Each (IsOutputMade (paths_of ss) ss s) s.leaf.outputs.items xs → AllByRecursion (LeadsTo bs b) xs
outputs_lead ranges ss bs known s b l body wired xs m =
    each_second (LeadsTo bs b) s.leaf.outputs.items xs
    (each_weaker (Leads b) (IsOutputMade (paths_of ss) ss s) (λ (o : from_output.Output) (x : Output). LeadsTo bs b x) s.leaf.outputs.items xs (output_leads ranges ss bs known b wired s) (leaf_leads s b l body) m)
