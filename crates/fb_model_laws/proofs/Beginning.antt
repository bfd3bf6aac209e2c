-- Charts whose rows hold are clear, but for their algorithms and guards.
use Rattle.std.proofs.Common.{◌≡◌, Bool, true, false, ◌||◌, List, [], ◌∷◌, ◌++◌, map, refl, sym, ap, ap₂, subst, ◌∙◌, append_assoc, if◌then◌else◌}
use Rattle.std.specs.Str.{bytes_eq}
use Rattle.std.specs.List.{AllByRecursion}
use Rattle.fb_model.specs.Names.{Name, is_in}
use Rattle.fb_model.specs.Values.{Value}
use Rattle.fb_model.specs.Declarations.{BlockTree, ChartTree, SourceTree}
use Rattle.fb_model.specs.BlockTyping.{Declared, names_in, variable_of, face_names, event_texts, IsBasic}
use Rattle.fb_model.specs.System.{Variable, Block, Device, System, start_of}
use Rattle.fb_model.specs.NetworkTyping.{ElaboratesWith}
use Rattle.fb_model.specs.Wires.{Kind, Charted, Leaf, leaves}
use Rattle.fb_model.specs.Store.{variable_names, inputs, first_input}
use Rattle.fb_model.specs.Spans.{whole, within}
use Rattle.fb_model.specs.Ranges.{Range, variables, row_at, row_of, HoldsIn, SourceFits}
use Rattle.fb_model.proofs.Lists.{all_weaker, all_both}
use Rattle.fb_model.proofs.Placed.{Apart, apart, name_same, all_left, all_right}
use Rattle.fb_model.proofs.Names.{eq_turned}
use Rattle.fb_model_laws.specs.Leaves.{OnChart}
use Rattle.fb_model_laws.proofs.Charts.{on_charts}
use Rattle.fb_model_laws.proofs.Typed.{apart_right}
use Rattle.fb_model.specs.FinderRanges.{first_value}
use Rattle.fb_model_laws.specs.Holding.{IsGoodRow, LeafIsGood, LeafIsFed, ChartBegins}

-- ---- names

-- outputs and internal variables have no input's name
abbrev AreOthers : Block → Type 0
AreOthers block = AllByRecursion (λ (v : Variable). is_in v.name (variable_names block.inputs) ≡ false) (block.outputs ++ block.internals)

differ_behind : (n : Name) (vs ws : List Variable) → AllByRecursion (λ m. bytes_eq n m ≡ false) (variable_names (vs ++ ws)) → AllByRecursion (λ (w : Variable). bytes_eq n w.name ≡ false) ws
differ_behind n [] [] h = tt
differ_behind n [] (w ∷ ws) h = (h.0, differ_behind n [] ws h.1)
differ_behind n (v ∷ vs) ws h = differ_behind n vs ws h.1

none_yet : (ws : List Variable) → AllByRecursion (λ (w : Variable). is_in w.name (variable_names []) ≡ false) ws
none_yet [] = tt
none_yet (w ∷ ws) = (refl, none_yet ws)

others_behind : (vs ws : List Variable) → Apart (variable_names (vs ++ ws)) → AllByRecursion (λ (w : Variable). is_in w.name (variable_names vs) ≡ false) ws
others_behind [] ws h = none_yet ws
others_behind (v ∷ vs) ws h =
    all_both (λ (w : Variable). bytes_eq v.name w.name ≡ false) (λ (w : Variable). is_in w.name (variable_names vs) ≡ false) (λ (w : Variable). is_in w.name (variable_names (v ∷ vs)) ≡ false) ws
    (λ w d n. ap (λ b. b || is_in w.name (variable_names vs)) (eq_turned w.name v.name ∙ d) ∙ n) (differ_behind v.name vs ws h.0) (others_behind vs ws h.1)

names_join : (xs ys : List Variable) → variable_names (xs ++ ys) ≡ variable_names xs ++ variable_names ys
names_join [] ys = refl
names_join (x ∷ xs) ys = ap (λ ns. x.name ∷ ns) (names_join xs ys)

names_declared : (ds : List Declared) → variable_names (map variable_of ds) ≡ names_in ds
names_declared [] = refl
names_declared (d ∷ ds) = ap (λ ns. d.name ∷ ns) (names_declared ds)

declared_names : (b : BlockTree) (ins outs inner : List Declared) → Apart (face_names b ins outs ++ names_in inner) → Apart (names_in ins ++ (names_in outs ++ names_in inner))
declared_names b ins outs inner h =
    let es : List Name = event_texts b.event_inputs ++ event_texts b.event_outputs in
    apart_right es _ (subst Apart (append_assoc es (names_in ins) (names_in outs ++ names_in inner)) (subst Apart (append_assoc (es ++ names_in ins) (names_in outs) (names_in inner)) h))

join_names : (ns : List Name) (vs ws : List Variable) (ms : List Name) → variable_names vs ≡ ns → variable_names ws ≡ ms → variable_names (vs ++ ws) ≡ ns ++ ms
join_names ns vs ws ms h k = names_join vs ws ∙ ap₂ (λ (x : List Name) (y : List Name). x ++ y) h k

-- the names of a block's variables differ
pub basic_names : (b : BlockTree) (c : ChartTree) (k : Block) → IsBasic b c k → Apart (variable_names (variables (Charted k)))
basic_names b c k h =
    let ins : variable_names k.inputs ≡ names_in h.ins = ap (λ f. variable_names f.inputs) h.face.face ∙ names_declared h.ins in
    let outs : variable_names k.outputs ≡ names_in h.outs = ap (λ f. variable_names f.outputs) h.face.face ∙ names_declared h.outs in
    let inner : variable_names k.internals ≡ names_in h.inner = ap variable_names h.internals_are ∙ names_declared h.inner in
    let names = join_names (names_in h.ins) k.inputs (k.outputs ++ k.internals) (names_in h.outs ++ names_in h.inner) ins (join_names (names_in h.outs) k.outputs k.internals (names_in h.inner) outs inner) in
    subst Apart (sym names) (declared_names b h.ins h.outs h.inner (apart _ h.names))

basic_others : (b : BlockTree) (c : ChartTree) (k : Block) → IsBasic b c k → AreOthers k
basic_others b c k h = others_behind k.inputs (k.outputs ++ k.internals) (basic_names b c k h)

-- the names of variables are among them
names_listed : (vs : List Variable) → AllByRecursion (λ (v : Variable). is_in v.name (variable_names vs) ≡ true) vs
names_listed [] = tt
names_listed (w ∷ ws) = (
  ap (λ b. b || is_in w.name (variable_names ws)) (name_same w.name),
  all_weaker (λ (v : Variable). is_in v.name (variable_names ws) ≡ true) (λ (v : Variable). is_in v.name (variable_names (w ∷ ws)) ≡ true) ws (λ v h. or_true (bytes_eq v.name w.name) h) (names_listed ws),
) where
  or_true : (a : Bool) {b : Bool} → b ≡ true → (a || b) ≡ true
  or_true true h = refl
  or_true false h = h

-- ---- first values

first_is : (leaf : Leaf) (block : Block) (v : Variable) (b : Bool) → leaf.kind ≡ Charted block → is_in v.name (variable_names block.inputs) ≡ b → first_value leaf v ≡ (if b then first_input (leaf.source v.name) (start_of v) else start_of v)
first_is leaf block v b e h =
    ap (λ (k : Kind). if is_in v.name (variable_names (inputs k)) then first_input (leaf.source v.name) (start_of v) else start_of v) e
    ∙ ap (λ c. if c then first_input (leaf.source v.name) (start_of v) else start_of v) h

module _ (ranges : List Range) (all : List Leaf) (leaf : Leaf) (block : Block) (is : leaf.kind ≡ Charted block) where
  begins_with : (v : Variable) (b : Bool) → is_in v.name (variable_names block.inputs) ≡ b → IsGoodRow leaf v (row_at ranges leaf.path v) → HoldsIn (row_at ranges leaf.path v) (if b then first_input (leaf.source v.name) (start_of v) else start_of v)
  begins_with v b h g = subst (λ (x : Value). HoldsIn (row_at ranges leaf.path v) x) (first_is leaf block v b is h) g.begins

  pub chart_begins : AreOthers block → LeafIsGood ranges leaf → LeafIsFed ranges all leaf → ChartBegins ranges all leaf.path leaf.source block
  chart_begins others good fed =
      let Good : Variable → Type 0 = λ v. IsGoodRow leaf v (row_at ranges leaf.path v) in
      let Fed : Variable → Type 0 = λ v. SourceFits ranges all (row_at ranges leaf.path v) (leaf.source v.name) in
      let goods : AllByRecursion Good (variables (Charted block)) = subst (λ (k : Kind). AllByRecursion (λ (v : Variable). IsGoodRow leaf v (row_of ranges leaf.path k v)) (variables k)) is good in
      let feds : AllByRecursion Fed (variables (Charted block)) = subst (λ (k : Kind). AllByRecursion (λ (v : Variable). SourceFits ranges all (row_of ranges leaf.path k v) (leaf.source v.name)) (variables k)) is fed in
      record {
        rows_fit = all_weaker Good (λ (v : Variable). within (row_at ranges leaf.path v) (whole v.type) ≡ true) (variables (Charted block)) (λ v g. g.typed) goods;
        inputs_begin =
            all_both (λ (v : Variable). is_in v.name (variable_names block.inputs) ≡ true) Good (λ (v : Variable). HoldsIn (row_at ranges leaf.path v) (first_input (leaf.source v.name) (start_of v))) block.inputs
            (λ v h g. begins_with v true h g) (names_listed block.inputs) (all_left Good block.inputs (block.outputs ++ block.internals) goods);
        others_begin =
            all_both (λ (v : Variable). is_in v.name (variable_names block.inputs) ≡ false) Good (λ (v : Variable). HoldsIn (row_at ranges leaf.path v) (start_of v)) (block.outputs ++ block.internals)
            (λ v h g. begins_with v false h g) others (all_right Good block.inputs (block.outputs ++ block.internals) goods);
        links = all_left Fed block.inputs (block.outputs ++ block.internals) feds;
      }

-- ---- all leaves

abbrev pub RowsBegin : Leaf → Type 0
RowsBegin leaf = (ranges : List Range) (all : List Leaf) (block : Block) → leaf.kind ≡ Charted block → LeafIsGood ranges leaf → LeafIsFed ranges all leaf → ChartBegins ranges all leaf.path leaf.source block

pub good_rows_begin : (library : List BlockTree) (source : SourceTree) (system : System) → ElaboratesWith library source system → AllByRecursion (λ (d : Device). AllByRecursion RowsBegin (leaves d)) system.devices
good_rows_begin library source system e =
    all_weaker (λ (d : Device). AllByRecursion (λ (leaf : Leaf). OnChart AreOthers leaf.kind) (leaves d)) (λ (d : Device). AllByRecursion RowsBegin (leaves d)) system.devices
    (λ d others. all_weaker (λ (leaf : Leaf). OnChart AreOthers leaf.kind) RowsBegin (leaves d) (λ leaf o ranges all block is good fed. chart_begins ranges all leaf block is (subst (OnChart AreOthers) is o) good fed) others)
    (on_charts AreOthers basic_others library source system e)
