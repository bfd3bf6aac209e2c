-- Leaves of a well typed system whose rows are kept lie in them.
use Rattle.std.proofs.Common.{◌≡◌, ℕ, ℤ, sym, subst, refl, true, List, [], ◌∷◌, ◌++◌, None, Some, ◌∙◌}
use Rattle.std.specs.Prelude.{if◌then◌else◌}
use Rattle.std.specs.List.{AllByRecursion}
use Rattle.fb_words.specs.declared.elem_type.ElemType.TheVariants as t
use Rattle.fb_model.specs.Names.{Name, Path, is_in}
use Rattle.fb_model.specs.Values.{numbers_of}
use Rattle.fb_model.specs.Tokens.{Token}
use Rattle.fb_model.specs.StructuredTextGrammar.{IsExpression, IsAlgorithm}
use Rattle.fb_model.specs.Declarations.{SourceTree}
use Rattle.fb_model.specs.DeclarationGrammar.{IsFile}
use Rattle.fb_model.specs.System.{Variable, Device, System, start_of, start_in}
use Rattle.fb_model.specs.NetworkTyping.{variable_named, ElaboratesWith}
use Rattle.fb_model.specs.Wires.{Source, Output_of, Constant, Kind, Charted, Serviced, Leaf, leaf_at, leaves}
use Rattle.fb_model.specs.Store.{variable_names, inputs, outputs, internals, first_input, first_cells}
use Rattle.fb_model.specs.Spans.{within, whole}
use Rattle.fb_model.specs.Shapes.{IsIn}
use Rattle.fb_model.specs.Ranges.{Range, variables, HasLength, row_at, row_of, rows, Lies, KindFits, LinkFits, LeafLies, HoldsIn, SourceFits, KindClears, LeafClears}
use Rattle.fb_model.proofs.Lists.{all_append}
use Rattle.fb_model.proofs.Running.{at_leaf}
use Rattle.fb_model_laws.specs.Leaves.{HasType, IsWider, IsGoodKind, IsGivenBy, Yields, Feeds, IsFed, OnChart}
use Rattle.fb_model_laws.proofs.Values.{all_fed}
use Rattle.fb_model_laws.specs.Shaped.{IsShapely}
use Rattle.fb_model_laws.proofs.Blocks.{all_charts_shapely}
use Rattle.fb_model_laws.proofs.Plain.{blocks_plain}
use Rattle.fb_model_laws.proofs.Formed.{IsSingle, IsFormed, all_leaves_formed}
use Rattle.fb_model_laws.proofs.Named.{named_one, named_left, named_right, Finds, one, none, finds, found_listed, is_listed, start_named, start_unnamed}
use Rattle.fb_model_laws.proofs.Taking.{TakesInputs, all_take_inputs}
use Rattle.fb_model_laws.proofs.Lying.{inside, all_inside, wider_whole, lies_by, lies_is, block_clear, writes_fit}

-- the variable of an output's name is that output
output_named : (kind : Kind) → IsGoodKind kind → (y : Name) (w : Variable) → variable_named (outputs kind) y ≡ Some w → variable_named (variables kind) y ≡ Some w
output_named kind g y w e =
    let k = named_one (λ (v : Variable). variable_named (variables kind) v.name ≡ Some v) (outputs kind) y w g.outputs_first e in
    subst (λ x. variable_named (variables kind) x ≡ Some w) (sym k.1) k.0

module _ (ranges : List Range) (all : List Leaf) where
  -- ---- what variables begin with

  input_begins : (kind : Kind) (path : Path) (source : Name → Source) → IsGoodKind kind → ((x : Name) → Feeds all (variable_named (inputs kind) x) (source x)) → KindClears ranges all path source kind
      → (x : Name) (v : Variable) → variable_named (inputs kind) x ≡ Some v → HoldsIn (row_of ranges path kind v) (first_input (source x) (start_of v))
  input_begins (Charted block) path source g f c x v e =
      let k = named_one (λ (v : Variable). HoldsIn (row_at ranges path v) (first_input (source v.name) (start_of v))) block.inputs x v c.inputs_begin e in
      subst (λ y. HoldsIn (row_at ranges path v) (first_input (source y) (start_of v))) (sym k.1) k.0
  input_begins (Serviced service) path source g f c x v e = by (source x) (subst (λ o. Feeds all o (source x)) e (f x)) where
    begins : HasType v.type (start_of v)
    begins = (named_one (λ (v : Variable). HasType v.type (start_of v)) (inputs (Serviced service)) x v g.inputs_start e).0

    by : (s : Source) → Yields all v.type s → HoldsIn (whole v.type) (first_input s (start_of v))
    by (Output_of from y) h = begins
    by (Constant value) h = h

  other_begins : (kind : Kind) (path : Path) (source : Name → Source) → IsGoodKind kind → KindClears ranges all path source kind
      → (x : Name) (w : Variable) → variable_named (outputs kind ++ internals kind) x ≡ Some w → HoldsIn (row_of ranges path kind w) (start_of w)
  other_begins (Charted block) path source g c x w e = (named_one (λ (v : Variable). HoldsIn (row_at ranges path v) (start_of v)) (block.outputs ++ block.internals) x w c.others_begin e).0
  other_begins (Serviced service) path source g c x w e =
      (named_one (λ (v : Variable). HasType v.type (start_of v)) (outputs (Serviced service) ++ internals (Serviced service)) x w
      (all_append (λ (v : Variable). HasType v.type (start_of v)) (outputs (Serviced service)) (internals (Serviced service)) g.outputs_start g.internals_start) e).0

  -- ---- rows of sources

  -- a row of a variable lies in its type
  row_in_type : (kind : Kind) (path : Path) (source : Name → Source) → KindClears ranges all path source kind → (y : Name) (w : Variable) → variable_named (variables kind) y ≡ Some w → (n : ℤ) → IsIn (row_of ranges path kind w) n → IsIn (whole w.type) n
  row_in_type (Charted block) path source c y w e n h = inside (row_at ranges path w) (whole w.type) n (named_one (λ (v : Variable). within (row_at ranges path v) (whole v.type) ≡ true) (variables (Charted block)) y w c.rows_fit e).0 h
  row_in_type (Serviced service) path source c y w e n h = h

  -- the row of a source lies in that of an input
  row_in_row : (kind : Kind) (path : Path) (source : Name → Source) → KindClears ranges all path source kind → (x : Name) (v : Variable) → variable_named (inputs kind) x ≡ Some v
      → (from : Path) (y : Name) → source x ≡ Output_of from y → (leaf : Leaf) → leaf_at all from ≡ Some leaf → LeafClears ranges all leaf → leaf.path ≡ from → (w : Variable) → variable_named (variables leaf.kind) y ≡ Some w → IsWider w.type v.type
      → (n : ℤ) → IsIn (row_of ranges from leaf.kind w) n → IsIn (row_of ranges path kind v) n
  row_in_row (Charted block) path source c x v e from y s leaf f l p w g d n h =
      let k = named_one (λ (v : Variable). SourceFits ranges all (row_at ranges path v) (source v.name)) block.inputs x v c.links e in
      let fits : SourceFits ranges all (row_at ranges path v) (Output_of from y) = subst (λ o. SourceFits ranges all (row_at ranges path v) o) s (subst (λ z. SourceFits ranges all (row_at ranges path v) (source z)) (sym k.1) k.0) in
      let both : Some fits.0 ≡ Some leaf = sym fits.1 ∙ f in
      let same : fits.0 ≡ leaf = cc in
      let w_in : within (rows ranges from leaf.kind y) (row_at ranges path v) ≡ true = subst (λ (m : Leaf). within (rows ranges from m.kind y) (row_at ranges path v) ≡ true) same fits.2 in
      let v_in : within (row_of ranges from leaf.kind w) (row_at ranges path v) ≡ true =
      subst (λ o. within (elim o [ None ↦ whole t.Lint | Some u ↦ row_of ranges from leaf.kind u ]) (row_at ranges path v) ≡ true) g w_in in
      inside (row_of ranges from leaf.kind w) (row_at ranges path v) n v_in h
  row_in_row (Serviced service) path source c x v e from y s leaf f l p w g d n h =
      wider_whole w.type v.type n d (row_in_type leaf.kind from leaf.source (subst (λ q. KindClears ranges all q leaf.source leaf.kind) p l) y w g n h)

  -- ---- one leaf

  kind_fits : (kind : Kind) (path : Path) (source : Name → Source) → OnChart IsShapely kind → KindClears ranges all path source kind → KindFits ranges path kind
  kind_fits (Charted block) path source s c = block_clear ranges path block s.0 s.1 c.algorithms c.guards
  kind_fits (Serviced service) path source s c = writes_fit ranges path service

  module _ (fed : AllByRecursion (IsFed all) all) (formed : AllByRecursion IsFormed all) (clear : AllByRecursion (LeafClears ranges all) all) (leaf : Leaf) (f : IsFed all leaf) (g : IsFormed leaf) (taking : TakesInputs leaf.kind) (s : OnChart IsShapely leaf.kind)
      (c : LeafClears ranges all leaf) where
    first_form : (x : Name) (v : Variable) (o : Source) → variable_named (inputs leaf.kind) x ≡ Some v → IsSingle o → HasLength v.length (first_input o (start_of v))
    first_form x v (Output_of from y) e h = (named_one (λ (v : Variable). HasLength v.length (start_of v)) (variables leaf.kind) x v g.start (named_left (inputs leaf.kind) (outputs leaf.kind ++ internals leaf.kind) x v e)).0
    first_form x v (Constant value) e h = subst (λ n. HasLength n value) (sym (named_one (λ (v : Variable). v.length ≡ None) (inputs leaf.kind) x v g.inputs e).0) h

    other_lies : (x : Name) (w : Variable) → variable_named (variables leaf.kind) x ≡ Some w → variable_named (outputs leaf.kind ++ internals leaf.kind) x ≡ Some w → Lies ranges leaf.path leaf.kind x (start_of w)
    other_lies x w e h =
        lies_by ranges leaf.path leaf.kind x (start_of w) (Some w) e
        ((named_one (λ (v : Variable). HasLength v.length (start_of v)) (variables leaf.kind) x w g.start e).0, other_begins leaf.kind leaf.path leaf.source f.good c x w h)

    own_lies : (x : Name) → Lies ranges leaf.path leaf.kind x ((first_cells leaf).own x)
    own_lies x = by (finds (inputs leaf.kind) x) where
      beyond : variable_named (inputs leaf.kind) x ≡ None → Finds (outputs leaf.kind ++ internals leaf.kind) x → Lies ranges leaf.path leaf.kind x (start_in (outputs leaf.kind ++ internals leaf.kind) x)
      beyond e (one w h i) =
          subst (Lies ranges leaf.path leaf.kind x) (sym (start_named (outputs leaf.kind ++ internals leaf.kind) x w h))
          (other_lies x w (named_right (inputs leaf.kind) (outputs leaf.kind ++ internals leaf.kind) x e ∙ h) h)
      beyond e (none h i) =
          lies_by ranges leaf.path leaf.kind x (start_in (outputs leaf.kind ++ internals leaf.kind) x) None
          (named_right (inputs leaf.kind) (outputs leaf.kind ++ internals leaf.kind) x e ∙ h) (start_unnamed (outputs leaf.kind ++ internals leaf.kind) x h)

      by : Finds (inputs leaf.kind) x → Lies ranges leaf.path leaf.kind x ((first_cells leaf).own x)
      by (one v e i) =
          subst (λ b. Lies ranges leaf.path leaf.kind x (if b then first_input (leaf.source x) (start_in (inputs leaf.kind) x) else start_in (outputs leaf.kind ++ internals leaf.kind) x)) (sym i)
          (subst (λ z. Lies ranges leaf.path leaf.kind x (first_input (leaf.source x) z)) (sym (start_named (inputs leaf.kind) x v e))
          (lies_by ranges leaf.path leaf.kind x (first_input (leaf.source x) (start_of v)) (Some v) (named_left (inputs leaf.kind) (outputs leaf.kind ++ internals leaf.kind) x v e)
          (first_form x v (leaf.source x) e (g.sources x), input_begins leaf.kind leaf.path leaf.source f.good f.feeds c x v e)))
      by (none e i) =
          subst (λ b. Lies ranges leaf.path leaf.kind x (if b then first_input (leaf.source x) (start_in (inputs leaf.kind) x) else start_in (outputs leaf.kind ++ internals leaf.kind) x)) (sym i)
          (beyond e (finds (outputs leaf.kind ++ internals leaf.kind) x))

    issued_lies : (y : Name) → is_in y (variable_names (outputs leaf.kind)) ≡ true → Lies ranges leaf.path leaf.kind y (start_in (outputs leaf.kind) y)
    issued_lies y i =
        let k = found_listed (outputs leaf.kind) y i in
        subst (Lies ranges leaf.path leaf.kind y) (sym (start_named (outputs leaf.kind) y k.0 k.1))
        (other_lies y k.0 (output_named leaf.kind f.good y k.0 k.1) (named_left (outputs leaf.kind) (internals leaf.kind) y k.0 k.1))

    -- what an input takes, at whatever event
    link_fits : (x : Name) (v : Variable) → variable_named (inputs leaf.kind) x ≡ Some v → (o : Source) → leaf.source x ≡ o → LinkFits ranges all leaf.path leaf.kind x o
    link_fits x v e (Constant value) h =
        lies_by ranges leaf.path leaf.kind x value (Some v) (named_left (inputs leaf.kind) (outputs leaf.kind ++ internals leaf.kind) x v e)
        (first_form x v (Constant value) e (subst IsSingle h (g.sources x)), subst (λ o. HoldsIn (row_of ranges leaf.path leaf.kind v) (first_input o (start_of v))) h (input_begins leaf.kind leaf.path leaf.source f.good f.feeds c x v e))
    link_fits x v e (Output_of from y) h =
        let d : IsGivenBy all v.type from y = subst (λ o. Yields all v.type o) h (subst (λ o. Feeds all o (leaf.source x)) e (f.feeds x)) in
        let there = at_leaf (IsFed all) all from d.leaf fed d.found in
        let formed_there = (at_leaf IsFormed all from d.leaf formed d.found).0 in
        let clear_there = (at_leaf (LeafClears ranges all) all from d.leaf clear d.found).0 in
        let named = output_named d.leaf.kind there.0.good y d.variable d.is in
        record {
          leaf = d.leaf;
          found = d.found;
          output = is_listed (outputs d.leaf.kind) y d.variable d.is;
          values = λ u l.
              let k = lies_is ranges from d.leaf.kind y u d.variable named l in
              let one_here = (named_one (λ (v : Variable). v.length ≡ None) (inputs leaf.kind) x v g.inputs e).0 in
              let one_there = (named_one (λ (v : Variable). v.length ≡ None) (outputs d.leaf.kind) y d.variable formed_there.outputs d.is).0 in
              lies_by ranges leaf.path leaf.kind x u (Some v) (named_left (inputs leaf.kind) (outputs leaf.kind ++ internals leaf.kind) x v e) (
                subst (λ n. HasLength n u) (one_there ∙ sym one_here) k.0,
                all_inside (row_of ranges from d.leaf.kind d.variable) (row_of ranges leaf.path leaf.kind v) (numbers_of u)
                    (λ n b. row_in_row leaf.kind leaf.path leaf.source c x v e from y h d.leaf d.found clear_there there.1 d.variable named d.wider n b) k.1,
              );
        }

    leaf_lies : LeafLies ranges all leaf
    leaf_lies =
        record {
          starts = record { own = own_lies; issued = issued_lies };
          links = λ e x i. let k = found_listed (inputs leaf.kind) x (taking e x i) in link_fits x k.0 k.1 (leaf.source x) refl;
          kind = kind_fits leaf.kind leaf.path leaf.source s c;
        }

-- ---- all leaves

-- what is known of a leaf by typing
record IsTyped (all : List Leaf) (leaf : Leaf) : Type 0 where
  fed : IsFed all leaf
  formed : IsFormed leaf
  takes_inputs : TakesInputs leaf.kind
  shapely : OnChart IsShapely leaf.kind

each_lies : (ranges : List Range) (all ls : List Leaf) → AllByRecursion (IsFed all) all → AllByRecursion IsFormed all → AllByRecursion (LeafClears ranges all) all → AllByRecursion (IsTyped all) ls → AllByRecursion (LeafClears ranges all) ls → AllByRecursion (LeafLies ranges all) ls
each_lies ranges all [] fed formed clear t c = tt
each_lies ranges all (leaf ∷ ls) fed formed clear t c = (leaf_lies ranges all fed formed clear leaf t.0.fed t.0.formed t.0.takes_inputs t.0.shapely c.0, each_lies ranges all ls fed formed clear t.1 c.1)

abbrev OfAll : (Leaf → Type 0) → Device → Type 0
OfAll P d = AllByRecursion P (leaves d)

device_typed : (d : Device) → OfAll (IsFed (leaves d)) d → OfAll IsFormed d → OfAll (λ (leaf : Leaf). TakesInputs leaf.kind) d → OfAll (λ (leaf : Leaf). OnChart IsShapely leaf.kind) d → OfAll (IsTyped (leaves d)) d
device_typed d a b c e = go (leaves d) a b c e where
  go : (ls : List Leaf) → AllByRecursion (IsFed (leaves d)) ls → AllByRecursion IsFormed ls → AllByRecursion (λ (leaf : Leaf). TakesInputs leaf.kind) ls → AllByRecursion (λ (leaf : Leaf). OnChart IsShapely leaf.kind) ls → AllByRecursion (IsTyped (leaves d)) ls
  go [] a b c e = tt
  go (leaf ∷ ls) a b c e = (record { fed = a.0; formed = b.0; takes_inputs = c.0; shapely = e.0 }, go ls a.1 b.1 c.1 e.1)

devices_lie : (ranges : List Range) (ds : List Device) → AllByRecursion (λ (d : Device). OfAll (IsFed (leaves d)) d) ds → AllByRecursion (OfAll IsFormed) ds → AllByRecursion (OfAll (λ (leaf : Leaf). TakesInputs leaf.kind)) ds
    → AllByRecursion (OfAll (λ (leaf : Leaf). OnChart IsShapely leaf.kind)) ds → AllByRecursion (λ (d : Device). OfAll (LeafClears ranges (leaves d)) d) ds → AllByRecursion (λ (d : Device). OfAll (LeafLies ranges (leaves d)) d) ds
devices_lie ranges [] a b c e h = tt
devices_lie ranges (d ∷ ds) a b c e h = (each_lies ranges (leaves d) (leaves d) a.0 b.0 h.0 (device_typed d a.0 b.0 c.0 e.0) h.0, devices_lie ranges ds a.1 b.1 c.1 e.1 h.1)

pub clear_systems_lie : (ts us : List Token) (n k m l : ℕ) (library source : SourceTree) (system : System) → IsFile (IsExpression n) (IsAlgorithm n k) ts library → IsFile (IsExpression m) (IsAlgorithm m l) us source → ElaboratesWith library.blocks source system
    → (ranges : List Range) → AllByRecursion (λ (d : Device). AllByRecursion (LeafClears ranges (leaves d)) (leaves d)) system.devices → AllByRecursion (λ (d : Device). AllByRecursion (LeafLies ranges (leaves d)) (leaves d)) system.devices
clear_systems_lie ts us n k m l library source system p q h ranges c =
    devices_lie ranges system.devices (all_fed library.blocks source system h) (all_leaves_formed library.blocks source system (blocks_plain _ _ ts library p) (blocks_plain _ _ us source q) h) (all_take_inputs library.blocks source system h)
    (all_charts_shapely library.blocks source system h) c
