-- The blocks that are made of leaves are those of the book's leaves.
use Rattle.std.proofs.Common.{◌≡◌, ◌≤◌, List, [], ◌∷◌, ◌++◌, map, length, string_bytes, refl, sym, ap, subst, ◌∙◌, arith}
use Rattle.std.specs.List.{AllByRecursion}
use Rattle.std.proofs.lemmas.List.{length-map}
use Rattle.fb_model.specs.Names.{Name, Path, at_place}
use Rattle.fb_model.specs.Spelling.{IsWord}
use Rattle.fb_model.specs.System as book
use Rattle.fb_model.specs.Typing.{AreDistinct}
use Rattle.fb_model.specs.Wires as wires
use Rattle.fb_model.specs.Wires.{Kind, Charted, Serviced}
use Rattle.fb_model.specs.Store.{takes, gives}
use Rattle.fb_model.specs.Ranges.{LeafLies}
use Rattle.fb_model.specs.Certificates.{event_names as event_names_of, events_of, IsWired}
use Rattle.fb_model.specs.CertificateText.{names_in, place_of, all_but_last, last_name}
use Rattle.fb_model.specs.Devices.{steps_row, places_row}
use Rattle.fb_model_laws.specs.Leaves.{IsClosed, OnChart}
use Rattle.fb_cert.specs.declared.certificate.Certificate.{Certificate}
use Rattle.fb_cert.specs.Views.{certificate_of}
use Rattle.fb_types_blocks.specs.declared.typed.Block as from_block
use Rattle.fb_types_blocks.specs.Views.{block_of}
use Rattle.fb_types_services.specs.Views.{values_of}
use Rattle.fb_flat.specs.declared.flat.Body as from_body
use Rattle.fb_flat.specs.declared.flat.Body.TheVariants as f
use Rattle.fb_flat.specs.declared.flat.Output as from_output
use Rattle.fb_flat.specs.Sites.{dotted}
use Rattle.fb_flat.specs.Leaves.{kind_of}
use Rattle.fb_flat.specs.Leaves as flat
use Rattle.fb_flat.proofs.Dotted.{names_dotted}
use Rattle.fb_chart.specs.declared.table.Event.{Event}
use Rattle.fb_chart.specs.declared.table.Output.{Output}
use Rattle.fb_chart.specs.declared.table.Body.{Body}
use Rattle.fb_chart.specs.declared.table.Body.TheVariants as b
use Rattle.fb_chart.specs.declared.table.Block.{Block}
use Rattle.fb_chart.specs.Views.{event_names, output_names, taken_by, given_by, body_kind, outputs_of}
use Rattle.fb_chart.specs.Tables.{Each, IsChart, IsBody, IsPlacedOutput, IsTable}
use Rattle.st_exec.specs.Forms.{Form}
use Rattle.fb_chart.specs.declared.standing.Ports.{Ports}
use Rattle.fb_chart.specs.Ports.{ServesPorts}
use Rattle.fb_flat.proofs.Few.{IsSmallKind}
use Rattle.fb_device_tables.specs.Filling as made
use Rattle.fb_device_tables.specs.Tables.{far_at, IsWeighed, IsTaken, IsBlock, AreBlocks}
use Rattle.fb_device_tables.specs.Filling.{Seated, paths_of, events_with, IsTakeMade, IsRowMade, IsEventMade, IsOutputMade, IsBodyMade, IsBlockMade, IsPortsMade}
use Rattle.fb_device_tables.proofs.Lists.{each_map, each_weaker, each_same, each_second}
use Rattle.fb_device_tables.proofs.Leaves.{IsSeated}
use Rattle.fb_device_tables.proofs.Points.{IsEventful, HasFew, IsKnownLeaf, AreKnown, known_events, names_same, outputs_lead}
use Rattle.fb_device_tables.proofs.Takes.{with_takes, with_names, with_all, all_taken, inputs_taken}

-- ---- events

front : (ns : Path) (n : Name) → all_but_last (ns ++ n ∷ []) ≡ ns
front [] n = refl
front (m ∷ []) n = refl
front (m ∷ o ∷ ns) n = ap (λ x. m ∷ x) (front (o ∷ ns) n)

end : (ns : Path) (n : Name) → last_name (ns ++ n ∷ []) ≡ n
end [] n = refl
end (m ∷ []) n = refl
end (m ∷ o ∷ ns) n = end (o ∷ ns) n

-- a word behind a path is an event there
place_dotted : (path x : Name) → IsWord x → place_of (dotted path x) ≡ at_place (names_in path) x
place_dotted path x h =
    let e = names_dotted path x h in
    ap (λ ns. at_place (all_but_last ns) (last_name ns)) e ∙ ap (λ p. at_place p (last_name (names_in path ++ x ∷ []))) (front (names_in path) x) ∙ ap (at_place (names_in path)) (end (names_in path) x)

weighed : (rows : Certificate) (path x : Name) (e : Event) → IsWord x → IsRowMade rows path x e → IsWeighed (certificate_of rows) (names_in path) e
weighed rows path x e w m =
    let place : place_of (dotted path x) ≡ at_place (names_in path) (string_bytes e.name) = place_dotted path x w ∙ ap (at_place (names_in path)) (sym m.name) in
    record {
      steps = m.steps ∙ ap (steps_row (certificate_of rows)) place;
      places = m.places ∙ ap (places_row (certificate_of rows)) place;
      far = m.far ∙ ap (far_at (certificate_of rows)) place;
    }

events_named : (rows : Certificate) (paths : List Name) (all : List Seated) (l : Seated) (vs : List book.Event) (es : List Event) → Each (IsEventMade rows paths all l) vs es → map (λ (e : Event). string_bytes e.name) es ≡ event_names_of vs
events_named rows paths all l [] [] h = refl
events_named rows paths all l [] (e ∷ es) h = absurd h
events_named rows paths all l (v ∷ vs) [] h = absurd h
events_named rows paths all l (v ∷ vs) (e ∷ es) h = ap (λ n. n ∷ map (λ (d : Event). string_bytes d.name) es) h.0.row.name ∙ ap (λ ns. v.name ∷ ns) (events_named rows paths all l vs es h.1)

-- ---- bodies

-- what a body is in the book, and its numbers by the names of its events and outputs
record IsBodyDone (own : List Form) (kind : Kind) (y : Body) : Type 0 where
  kind_is : body_kind y ≡ kind
  numbers : IsBody own (events_of kind) (outputs_of kind) y

body_done : (own : List Form) (x : from_body.Body) (y : Body) → IsSmallKind (kind_of x) → OnChart HasFew (kind_of x) → IsClosed (kind_of x) → IsBodyMade own x y → IsBodyDone own (kind_of x) y
body_done own (f.Basic block) (b.Chart c) small few closed m =
    let k = block.value in
    record {
      kind_is = ap (λ (j : from_block.Block). Charted (block_of j)) m.block;
      numbers = subst (λ (j : from_block.Block). IsChart own (event_names_of (block_of k).event_inputs) (event_names_of (block_of k).event_outputs) (block_of j) c) (sym m.block) (m.code closed few);
    }
body_done own (f.Served service) (b.Served x) small few closed m = record { kind_is = ap Serviced m; numbers = subst (λ (s : book.Service). length (values_of s) ≤ 16) (sym m) small }
body_done own (f.Basic block) (b.Served x) small few closed m = absurd m
body_done own (f.Served service) (b.Chart c) small few closed m = absurd m

-- ports have two digits at most
few_ports : (kind : Kind) → IsSmallKind kind → made.IsSmallKind kind
few_ports (Charted block) h = tt
few_ports (Serviced service) h = omega (arith, h)

same_outputs : (kind : Kind) → flat.outputs_of kind ≡ outputs_of kind
same_outputs (Charted block) = names_same block.event_outputs
same_outputs (Serviced service) = refl

-- ---- blocks

-- a block that was made of a leaf, and what is known of both
module _ (rows : Certificate) (ss : List Seated) (bs : List wires.Leaf) (known : AreKnown (certificate_of rows).ranges ss bs) (s : Seated) (c : wires.Leaf) (seat : IsSeated s c) (here : IsKnownLeaf c) (wired : IsWired bs c) (lies : LeafLies (certificate_of rows).ranges bs c)
    (x : Block) (m : IsBlockMade rows (paths_of ss) ss s x) where
  abbrev path : Name
  path = string_bytes s.leaf.path

  abbrev issues : List (List Form)
  issues = map (λ (u : Seated). u.issued) ss

  full : IsEventful c.kind
  full = known_events c here

  small : made.IsSmallKind (kind_of s.leaf.body)
  small = subst made.IsSmallKind (sym seat.leaf.kind) (few_ports c.kind here.small)

  done : IsBodyDone s.own c.kind x.body
  done =
      subst (λ (k : Kind). IsBodyDone s.own k x.body) seat.leaf.kind
      (body_done s.own s.leaf.body x.body (subst IsSmallKind (sym seat.leaf.kind) here.small) (subst (OnChart HasFew) (sym seat.leaf.kind) here.procedures) (subst IsClosed (sym seat.leaf.kind) here.closed) m.body)

  made_events : Each (IsEventMade rows (paths_of ss) ss s) (events_with c.kind) x.events.items
  made_events = subst (λ (k : Kind). Each (IsEventMade rows (paths_of ss) ss s) (events_with k) x.events.items) seat.leaf.kind (m.events small)

  events : event_names x ≡ events_of c.kind
  events = events_named rows (paths_of ss) ss s (events_with c.kind) x.events.items made_events ∙ with_names c.kind

  outputs : output_names x ≡ outputs_of c.kind
  outputs =
      each_same (λ (o : from_output.Output). string_bytes o.name) (λ (o : Output). string_bytes o.name) s.leaf.outputs.items x.outputs.items
      (each_map (IsOutputMade (paths_of ss) ss s) (λ (o : from_output.Output) (p : Output). string_bytes p.name ≡ string_bytes o.name) s.leaf.outputs.items x.outputs.items (λ o p h. h.name) m.outputs)
      ∙ seat.leaf.outputs ∙ same_outputs c.kind

  -- each event takes what the leaf's does
  taken_are : AllByRecursion (λ (e : Event). taken_by e ≡ takes c.kind (string_bytes e.name)) x.events.items
  taken_are =
      each_second (λ (e : Event). taken_by e ≡ takes c.kind (string_bytes e.name)) (events_with c.kind) x.events.items
      (each_weaker (λ (v : book.Event). takes c.kind v.name ≡ v.carries) (IsEventMade rows (paths_of ss) ss s) (λ (v : book.Event) (e : Event). taken_by e ≡ takes c.kind (string_bytes e.name)) (events_with c.kind) x.events.items
      (λ v e p h. inputs_taken (paths_of ss) ss s.own s.leaf.inputs.items v.carries e.takes.items h.takes ∙ sym p ∙ ap (takes c.kind) (sym h.row.name)) (with_takes c.kind full.apart) made_events)

  origins : AllByRecursion (λ (e : Event). AllByRecursion (IsTaken bs issues s.own c) e.takes.items) x.events.items
  origins =
      each_second (λ (e : Event). AllByRecursion (IsTaken bs issues s.own c) e.takes.items) (events_with c.kind) x.events.items
      (each_weaker (λ (v : book.Event). takes c.kind v.name ≡ v.carries) (IsEventMade rows (paths_of ss) ss s) (λ (v : book.Event) (e : Event). AllByRecursion (IsTaken bs issues s.own c) e.takes.items) (events_with c.kind) x.events.items
      (λ v e p h. all_taken (certificate_of rows).ranges ss bs known s c seat.leaf here lies v.name e.takes.items (subst (λ (ns : List Name). Each (IsTakeMade (paths_of ss) ss s.own s.leaf.inputs.items) ns e.takes.items) (sym p) h.takes)) (with_takes c.kind full.apart) made_events)

  gives_are : AllByRecursion (λ (o : Output). given_by o ≡ gives c.kind (string_bytes o.name)) x.outputs.items
  gives_are =
      each_second (λ (o : Output). given_by o ≡ gives c.kind (string_bytes o.name)) s.leaf.outputs.items x.outputs.items
      (each_map (IsOutputMade (paths_of ss) ss s) (λ (o : from_output.Output) (p : Output). given_by p ≡ gives c.kind (string_bytes p.name)) s.leaf.outputs.items x.outputs.items
      (λ o p h. h.gives_are small ∙ ap (λ (k : Kind). gives k (string_bytes o.name)) seat.leaf.kind ∙ ap (gives c.kind) (sym h.name)) m.outputs)

  placed : AllByRecursion (IsPlacedOutput s.own s.issued) x.outputs.items
  placed =
      each_second (IsPlacedOutput s.own s.issued) s.leaf.outputs.items x.outputs.items
      (each_map (IsOutputMade (paths_of ss) ss s) (λ (o : from_output.Output) (p : Output). IsPlacedOutput s.own s.issued p) s.leaf.outputs.items x.outputs.items (λ o p h. h.placed) m.outputs)

  table : IsTable s.own s.issued x
  table =
      record {
        events = events ∙ ap events_of (sym done.kind_is);
        events_apart = subst AreDistinct (sym events) full.apart;
        few_events = omega (arith, sym (length-map x.events.items (λ (e : Event). string_bytes e.name)) ∙ ap length events, full.few);
        outputs = outputs ∙ ap outputs_of (sym done.kind_is);
        outputs_apart = subst AreDistinct (sym (outputs ∙ sym (same_outputs c.kind))) full.outputs;
        takes = subst (λ (k : Kind). AllByRecursion (λ (e : Event). taken_by e ≡ takes k (string_bytes e.name)) x.events.items) (sym done.kind_is) taken_are;
        gives = subst (λ (k : Kind). AllByRecursion (λ (o : Output). given_by o ≡ gives k (string_bytes o.name)) x.outputs.items) (sym done.kind_is) gives_are;
        placed = placed;
        body = subst (λ (ns : List Name). IsBody s.own ns (output_names x) x.body) (sym events) (subst (λ (ns : List Name). IsBody s.own (events_of c.kind) ns x.body) (sym outputs) done.numbers);
      }

  weights : AllByRecursion (IsWeighed (certificate_of rows) c.path) x.events.items
  weights =
      subst (λ (q : Path). AllByRecursion (IsWeighed (certificate_of rows) q) x.events.items) seat.leaf.path
      (each_second (IsWeighed (certificate_of rows) (names_in path)) (events_with c.kind) x.events.items
      (each_weaker (λ (v : book.Event). IsWord v.name) (IsEventMade rows (paths_of ss) ss s) (λ (v : book.Event) (e : Event). IsWeighed (certificate_of rows) (names_in path) e) (events_with c.kind) x.events.items
      (λ v e w h. weighed rows path v.name e w h.row) (with_all IsWord c.kind full.words) made_events))

  pub block_is : (p : Ports) → IsPortsMade s p → IsBlock (certificate_of rows) bs issues s.own s.issued x p c
  block_is p h =
      record {
        path = ap names_in m.path ∙ seat.leaf.path;
        home = m.resource ∙ seat.home;
        kind = done.kind_is;
        table = table;
        ports = subst (λ (k : Kind). ServesPorts k s.own p) seat.leaf.kind (h small);
        weights = weights;
        takes = origins;
        leads = outputs_lead (certificate_of rows).ranges ss bs known s c seat.leaf full wired x.outputs.items m.outputs;
      }

abbrev owns_of : List Seated → List (List Form)
owns_of us = map (λ (u : Seated). u.own) us

abbrev issues_of : List Seated → List (List Form)
issues_of us = map (λ (u : Seated). u.issued) us

-- some of the blocks are those of some of the leaves
blocks_from : (rows : Certificate) (ss : List Seated) (bs : List wires.Leaf) → AreKnown (certificate_of rows).ranges ss bs → (us : List Seated) (cs : List wires.Leaf) (xs : List Block) (ps : List Ports) → Each IsSeated us cs → AllByRecursion IsKnownLeaf cs → AllByRecursion (IsWired bs) cs
    → AllByRecursion (LeafLies (certificate_of rows).ranges bs) cs → Each (IsBlockMade rows (paths_of ss) ss) us xs → Each IsPortsMade us ps → AreBlocks (certificate_of rows) bs (issues_of ss) (owns_of us) (issues_of us) xs ps cs
blocks_from rows ss bs known [] [] [] [] i p w l m q = tt
blocks_from rows ss bs known [] [] [] (r ∷ ps) i p w l m q = absurd q
blocks_from rows ss bs known [] [] (x ∷ xs) ps i p w l m q = absurd m
blocks_from rows ss bs known [] (c ∷ cs) xs ps i p w l m q = absurd i
blocks_from rows ss bs known (u ∷ us) [] xs ps i p w l m q = absurd i
blocks_from rows ss bs known (u ∷ us) (c ∷ cs) [] ps i p w l m q = absurd m
blocks_from rows ss bs known (u ∷ us) (c ∷ cs) (x ∷ xs) [] i p w l m q = absurd q
blocks_from rows ss bs known (u ∷ us) (c ∷ cs) (x ∷ xs) (r ∷ ps) i p w l m q = (block_is rows ss bs known u c i.0 p.0 w.0 l.0 x m.0 r q.0, blocks_from rows ss bs known us cs xs ps i.1 p.1 w.1 l.1 m.1 q.1)

pub blocks_are : (rows : Certificate) (ss : List Seated) (bs : List wires.Leaf) (xs : List Block) (ps : List Ports) → AreKnown (certificate_of rows).ranges ss bs → Each (IsBlockMade rows (paths_of ss) ss) ss xs → Each IsPortsMade ss ps
    → AreBlocks (certificate_of rows) bs (issues_of ss) (owns_of ss) (issues_of ss) xs ps bs
blocks_are rows ss bs xs ps known m q = blocks_from rows ss bs known ss bs xs ps known.seated known.leaves known.wired known.lies m q
