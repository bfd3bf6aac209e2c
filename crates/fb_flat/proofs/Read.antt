-- Leaf tables with paths in one text are the book's leaves, where names are words.
use Rattle.std.proofs.Common.{◌≡◌, ℕ, ◌+◌, Bool, true, false, ◌||◌, List, [], ◌∷◌, ◌++◌, map, replicate, Option, None, Some, refl, sym, ap, ap₂, subst, ◌∙◌, string_bytes}
use Rattle.std.specs.Prelude.{if◌then◌else◌, pos}
use Rattle.std.specs.List.{AllByRecursion}
use Rattle.std.specs.Str.{bytes_eq}
use Rattle.std.proofs.lemmas.List.{map-append}
use Rattle.fb_model.specs.Names.{Name, Path, Place, at_place, is_in}
use Rattle.fb_model.specs.Spelling.{IsWord, AreWords}
use Rattle.fb_model.specs.Values.{One, Many}
use Rattle.fb_model.specs.BlockTyping.{extent}
use Rattle.fb_model.specs.System as book
use Rattle.fb_model.specs.System.{Connection, Body, Basic, Served, Composite, Instances, nothing, instance, constant}
use Rattle.fb_model.specs.Wires as wires
use Rattle.fb_model.specs.Wires.{Output_of, Constant, is_end, followed, entered, entered_in, fed, given_in, inputs_of, leaves_of, leaves_in, resource_leaves, leaves_from}
use Rattle.fb_model.specs.CertificateText.{names_in}
use Rattle.fb_model.proofs.Lists.{same_name, all_append, all_weaker}
use Rattle.fb_model_laws.specs.Words.{IsWordyLeaf, IsWordyDevice}
use Rattle.fb_flat.specs.declared.flat.Target.{Target}
use Rattle.fb_flat.specs.declared.flat.Output.{Output}
use Rattle.fb_flat.specs.declared.flat.Source.{Source}
use Rattle.fb_flat.specs.declared.flat.Source.TheVariants as s
use Rattle.fb_flat.specs.declared.flat.Input.{Input}
use Rattle.fb_flat.specs.declared.flat.Leaf.{Leaf}
use Rattle.fb_flat.specs.declared.flat.FlatResource.{FlatResource}
use Rattle.fb_flat.specs.declared.flat.FlatDevice.{FlatDevice}
use Rattle.fb_flat.specs.Sites.{text_of}
use Rattle.fb_flat.specs.Walks.{target_spot, spot_of, spots_of}
use Rattle.fb_flat.specs.Sources.{Fed, fed_by, written_source, written_inputs, source_of, input_of}
use Rattle.fb_flat.specs.Leaves.{Led, led, Written, written, outputs_of, output_of, leaf_of, flat_resource, flat_device, written_resource, written_device}
use Rattle.fb_flat.proofs.Texts.{HasSome, has_some, some_more}
use Rattle.fb_flat.proofs.Sourced.{IsWordySource, HasWords, IsSourced, sourced_of}
use Rattle.fb_flat.proofs.Dotted.{names_back}
use Rattle.fb_flat.specs.Tables.{target_place, output_names, targets_of, book_source, input_names, source_at, IsLeaf, AreLeaves, IsResource, AreResources, IsDevice, AreDevices}

-- ---- paths have a name at least

-- a place whose path has a name at least
abbrev IsSomewhere : Place → Type 0
IsSomewhere p = HasSome p.path

either : (b : Bool) (xs ys : List Place) → AllByRecursion IsSomewhere xs → AllByRecursion IsSomewhere ys → AllByRecursion IsSomewhere (if b then xs else ys)
either true xs ys h k = h
either false xs ys h k = k

leads_on : (i : Option Name) (port : Name) (inner : Name → Name → List Place) (outer : Name → List Place) → ((j o : Name) → AllByRecursion IsSomewhere (inner j o)) → ((o : Name) → AllByRecursion IsSomewhere (outer o))
    → (cs : List Connection) → AllByRecursion IsSomewhere (followed cs i port inner outer)
leads_on i port inner outer h k [] = tt
leads_on i port inner outer h k (c ∷ cs) =
    let rest = leads_on i port inner outer h k cs in
    either (is_end i port c.source) _ _ (all_append IsSomewhere _ _ (one c.target.instance) rest) rest where
      one : (j : Option Name) → AllByRecursion IsSomewhere (elim j [ None ↦ outer c.target.port | Some j ↦ inner j c.target.port ])
      one None = k c.target.port
      one (Some j) = h j c.target.port

mutual
  enters : (body : Body) (path : Path) (port : Name) → HasSome path → AllByRecursion IsSomewhere (entered body path port)
  enters (Basic block) path port h = (h, tt)
  enters (Served service) path port h = (h, tt)
  enters (Composite face inner events values) path port h = leads_on None port (entered_in inner path) (λ o. []) (λ j o. enters_in inner path j o h) (λ o. tt) events

  enters_in : (inner : Instances) (path : Path) (j port : Name) → HasSome path → AllByRecursion IsSomewhere (entered_in inner path j port)
  enters_in nothing path j port h = tt
  enters_in (instance name parameters body rest) path j port h = either (bytes_eq name j) _ _ (enters body (path ++ name ∷ []) port (some_more path (name ∷ []) h)) (enters_in rest path j port h)

-- a leaf has a path, and so do all that its outputs lead to
record IsPlaced (leaf : wires.Leaf) : Type 0 where
  path : HasSome leaf.path
  targets : (o : Name) → AllByRecursion IsSomewhere (leaf.targets o)

mutual
  placed_of : (body : Body) (home : ℕ) (path : Path) (targets : Name → List Place) (source : Name → wires.Source) → HasSome path → ((o : Name) → AllByRecursion IsSomewhere (targets o)) → AllByRecursion IsPlaced (leaves_of body home path targets source)
  placed_of (Basic block) home path targets source h k = (record { path = h; targets = k }, tt)
  placed_of (Served service) home path targets source h k = (record { path = h; targets = k }, tt)
  placed_of (Composite face inner events values) home path targets source h k =
      placed_in inner home path (λ j port. followed events (Some j) port (entered_in inner path) targets) (λ j port other. fed values (Some j) port (given_in inner path) source other) h
      (λ j port. leads_on (Some j) port (entered_in inner path) targets (λ i o. enters_in inner path i o h) k events)

  placed_in : (inner : Instances) (home : ℕ) (path : Path) (targets : Name → Name → List Place) (source : Name → Name → wires.Source → wires.Source) → HasSome path → ((j o : Name) → AllByRecursion IsSomewhere (targets j o)) → AllByRecursion IsPlaced (leaves_in inner home path targets source)
  placed_in nothing home path targets source h k = tt
  placed_in (instance name parameters body rest) home path targets source h k =
      all_append IsPlaced _ _ (placed_of body home (path ++ name ∷ []) (targets name) (λ port. source name port (Constant (constant parameters (inputs_of body) port))) (some_more path (name ∷ []) h) (k name))
      (placed_in rest home path targets source h k)

placed_resource : (n : ℕ) (device : Name) (r : book.Resource) → AllByRecursion IsPlaced (resource_leaves n (device ∷ []) r)
placed_resource n device r =
    placed_of (Composite (record { event_inputs = []; event_outputs = []; inputs = []; outputs = [] }) r.inner r.events r.values) n (device ∷ r.name ∷ []) (λ o. []) (λ i. Constant (One (pos 0))) has_some (λ o. tt)

sourced_resource : (n : ℕ) (device : Name) (r : book.Resource) → AllByRecursion HasWords (resource_leaves n (device ∷ []) r) → AllByRecursion IsSourced (resource_leaves n (device ∷ []) r)
sourced_resource n device r h =
    sourced_of (Composite (record { event_inputs = []; event_outputs = []; inputs = []; outputs = [] }) r.inner r.events r.values) n (device ∷ r.name ∷ []) (λ o. []) (λ i. Constant (One (pos 0))) has_some h (λ x. tt)

-- ---- the number of the resource is not written

mutual
  home_free : (body : Body) (m n : ℕ) (path : Path) (targets : Name → List Place) (source : Name → wires.Source) → map written (leaves_of body m path targets source) ≡ map written (leaves_of body n path targets source)
  home_free (Basic block) m n path targets source = refl
  home_free (Served service) m n path targets source = refl
  home_free (Composite face inner events values) m n path targets source =
      home_free_in inner m n path (λ j port. followed events (Some j) port (entered_in inner path) targets) (λ j port other. fed values (Some j) port (given_in inner path) source other)

  home_free_in : (inner : Instances) (m n : ℕ) (path : Path) (targets : Name → Name → List Place) (source : Name → Name → wires.Source → wires.Source) → map written (leaves_in inner m path targets source) ≡ map written (leaves_in inner n path targets source)
  home_free_in nothing m n path targets source = refl
  home_free_in (instance name parameters body rest) m n path targets source =
      map-append written (leaves_of body m (path ++ name ∷ []) (targets name) (λ port. source name port (Constant (constant parameters (inputs_of body) port)))) (leaves_in rest m path targets source)
      ∙ ap₂ (λ xs ys. xs ++ ys) (home_free body m n (path ++ name ∷ []) (targets name) (λ port. source name port (Constant (constant parameters (inputs_of body) port)))) (home_free_in rest m n path targets source)
      ∙ sym (map-append written (leaves_of body n (path ++ name ∷ []) (targets name) (λ port. source name port (Constant (constant parameters (inputs_of body) port)))) (leaves_in rest n path targets source))

-- ---- one leaf

path_back : (p : Path) → HasSome p → AreWords p → names_in (text_of p) ≡ p
path_back [] s h = elim s [ ]
path_back (n ∷ ns) s h = names_back n ns h.0 h.1

target_is : (t : Target) (p : Place) → target_spot t ≡ spot_of p → IsSomewhere p → AreWords p.path → target_place t ≡ p
target_is t p e s w =
    let text : string_bytes t.path ≡ text_of p.path = ap (λ x. x.0) e in
    let event : string_bytes t.event ≡ p.event = ap (λ x. x.1) e in
    ap (λ x. at_place (names_in x) (string_bytes t.event)) text ∙ ap (λ x. at_place x (string_bytes t.event)) (path_back p.path s w) ∙ ap (at_place p.path) event

targets_are : (ts : List Target) (ps : List Place) → map target_spot ts ≡ spots_of ps → AllByRecursion IsSomewhere ps → AllByRecursion (λ (p : Place). AreWords p.path × IsWord p.event) ps → map target_place ts ≡ ps
targets_are [] [] e s w = refl
targets_are [] (p ∷ ps) e s w = absurd cc
targets_are (t ∷ ts) [] e s w = absurd cc
targets_are (t ∷ ts) (p ∷ ps) e s w =
    let here : target_spot t ≡ spot_of p = cc in
    let rest : map target_spot ts ≡ spots_of ps = cc in
    ap₂ (λ x xs. x ∷ xs) (target_is t p here s.0 w.0.0) (targets_are ts ps rest s.1 w.1)

names_are : (os : List Output) (targets : Name → List Place) (ns : List Name) → map output_of os ≡ led targets ns → output_names os ≡ ns
names_are [] targets [] e = refl
names_are [] targets (n ∷ ns) e = absurd cc
names_are (x ∷ os) targets [] e = absurd cc
names_are (x ∷ os) targets (n ∷ ns) e =
    let here : output_of x ≡ (n, spots_of (targets n)) = cc in
    let rest : map output_of os ≡ led targets ns = cc in
    ap₂ (λ y ys. y ∷ ys) (ap (λ (l : Led). l.0) here) (names_are os targets ns rest)

led_to : (os : List Output) (targets : Name → List Place) (ns : List Name) → map output_of os ≡ led targets ns → ((o : Name) → AllByRecursion IsSomewhere (targets o)) → ((o : Name) → AllByRecursion (λ (p : Place). AreWords p.path × IsWord p.event) (targets o))
    → (o : Name) → is_in o ns ≡ true → targets_of os o ≡ targets o
led_to [] targets [] e s w o h = absurd cc
led_to [] targets (n ∷ ns) e s w o h = absurd cc
led_to (x ∷ os) targets [] e s w o h = absurd cc
led_to (x ∷ os) targets (n ∷ ns) e s w o h = by (bytes_eq o (string_bytes x.name)) refl (led_to os targets ns rest s w o) where
  here : output_of x ≡ (n, spots_of (targets n))
  here = cc

  rest : map output_of os ≡ led targets ns
  rest = cc

  name : string_bytes x.name ≡ n
  name = ap (λ (l : Led). l.0) here

  by : (b : Bool) → bytes_eq o (string_bytes x.name) ≡ b → (is_in o ns ≡ true → targets_of os o ≡ targets o) → (if b then map target_place x.targets.items else targets_of os o) ≡ targets o
  by true f next = targets_are x.targets.items (targets n) (ap (λ (l : Led). l.1) here) (s n) (w n) ∙ sym (ap targets (same_name o (string_bytes x.name) f ∙ name))
  by false f next =
      let other : bytes_eq o n ≡ false = subst (λ m. bytes_eq o m ≡ false) name f in
      next (subst (λ b. (b || is_in o ns) ≡ true) other h)

source_is : (t : Source) (u : wires.Source) → source_of t ≡ written_source u → IsWordySource u → book_source t ≡ u
source_is (s.Output path name) (Output_of p n) e w =
    let here : string_bytes path ≡ text_of p = cc in
    let there : string_bytes name ≡ n = cc in
    ap₂ (λ q m. Output_of q m) (ap names_in here ∙ path_back p w.0 w.1) there
source_is (s.Output path name) (Constant v) e w = absurd cc
source_is (s.Number number) (Output_of p n) e w = absurd cc
source_is (s.Number number) (Constant v) e w = let here : One number ≡ v = cc in ap Constant here
source_is (s.Zeros low high) (Output_of p n) e w = absurd cc
source_is (s.Zeros low high) (Constant v) e w = let here : Many (replicate (extent (low, high)) (pos 0)) ≡ v = cc in ap Constant here

inputs_are : (is : List Input) (source : Name → wires.Source) (ns : List Name) → map input_of is ≡ fed_by source ns → input_names is ≡ ns
inputs_are [] source [] e = refl
inputs_are [] source (n ∷ ns) e = absurd cc
inputs_are (i ∷ is) source [] e = absurd cc
inputs_are (i ∷ is) source (n ∷ ns) e =
    let here : input_of i ≡ (n, written_source (source n)) = cc in
    let rest : map input_of is ≡ fed_by source ns = cc in
    ap₂ (λ y ys. y ∷ ys) (ap (λ (f : Fed). f.0) here) (inputs_are is source ns rest)

fed_from : (is : List Input) (source : Name → wires.Source) (ns : List Name) → map input_of is ≡ fed_by source ns → ((x : Name) → IsWordySource (source x)) → (x : Name) → is_in x ns ≡ true → source_at is x ≡ source x
fed_from [] source [] e w x h = absurd cc
fed_from [] source (n ∷ ns) e w x h = absurd cc
fed_from (i ∷ is) source [] e w x h = absurd cc
fed_from (i ∷ is) source (n ∷ ns) e w x h = by (bytes_eq x (string_bytes i.name)) refl (fed_from is source ns rest w x) where
  here : input_of i ≡ (n, written_source (source n))
  here = cc

  rest : map input_of is ≡ fed_by source ns
  rest = cc

  name : string_bytes i.name ≡ n
  name = ap (λ (f : Fed). f.0) here

  by : (b : Bool) → bytes_eq x (string_bytes i.name) ≡ b → (is_in x ns ≡ true → source_at is x ≡ source x) → (if b then book_source i.source else source_at is x) ≡ source x
  by true f next = source_is i.source (source n) (ap (λ (f : Fed). f.1) here) (w n) ∙ sym (ap source (same_name x (string_bytes i.name) f ∙ name))
  by false f next =
      let other : bytes_eq x n ≡ false = subst (λ m. bytes_eq x m ≡ false) name f in
      next (subst (λ b. (b || is_in x ns) ≡ true) other h)

leaf_is : (l : Leaf) (leaf : wires.Leaf) → leaf_of l ≡ written leaf → IsPlaced leaf → IsSourced leaf → IsWordyLeaf leaf → IsLeaf l leaf
leaf_is l leaf e p q w =
    let kind = ap (λ (x : Written). x.kind) e in
    let outputs = ap (λ (x : Written). x.outputs) e in
    let inputs = ap (λ (x : Written). x.inputs) e in
    record {
      path = ap (λ (x : Written). names_in x.path) e ∙ path_back leaf.path p.path w.path;
      kind = kind;
      outputs = names_are l.outputs.items leaf.targets (outputs_of leaf.kind) outputs;
      targets = led_to l.outputs.items leaf.targets (outputs_of leaf.kind) outputs p.targets w.targets;
      inputs = inputs_are l.inputs.items leaf.source (written_inputs leaf.kind) inputs;
      sources = fed_from l.inputs.items leaf.source (written_inputs leaf.kind) inputs q;
    }

leaves_are : (ls : List Leaf) (all : List wires.Leaf) → map leaf_of ls ≡ map written all → AllByRecursion IsPlaced all → AllByRecursion IsSourced all → AllByRecursion IsWordyLeaf all → AreLeaves ls all
leaves_are [] [] e p q w = tt
leaves_are [] (leaf ∷ all) e p q w = absurd cc
leaves_are (l ∷ ls) [] e p q w = absurd cc
leaves_are (l ∷ ls) (leaf ∷ all) e p q w =
    let here : leaf_of l ≡ written leaf = cc in
    let rest : map leaf_of ls ≡ map written all = cc in
    (leaf_is l leaf here p.0 q.0 w.0, leaves_are ls all rest p.1 q.1 w.1)

-- ---- resources and devices

all_parts : {X : Type 0} (P : X → Type 0) (xs ys : List X) → AllByRecursion P (xs ++ ys) → AllByRecursion P xs × AllByRecursion P ys
all_parts P [] ys h = (tt, h)
all_parts P (x ∷ xs) ys h = let k = all_parts P xs ys h.1 in ((h.0, k.0), k.1)

resource_is : (n : ℕ) (device : Name) (f : FlatResource) (r : book.Resource) → flat_resource f ≡ written_resource device r → IsWord device → IsWord r.name → AllByRecursion IsWordyLeaf (resource_leaves n (device ∷ []) r) → IsResource n (device ∷ []) f r
resource_is n device f r e d w all =
    record {
      path_is = ap (λ x. names_in x.0) e ∙ names_back device (r.name ∷ []) d (w, tt);
      leaves =
          leaves_are f.leaves.items (resource_leaves n (device ∷ []) r)
          (ap (λ x. x.1) e ∙ home_free (Composite (record { event_inputs = []; event_outputs = []; inputs = []; outputs = [] }) r.inner r.events r.values) 0 n (device ∷ r.name ∷ []) (λ o. []) (λ i. Constant (One (pos 0))))
          (placed_resource n device r) (sourced_resource n device r (all_weaker IsWordyLeaf HasWords (resource_leaves n (device ∷ []) r) (λ leaf h. h.path) all)) all;
    }

resources_are : (n : ℕ) (device : Name) (fs : List FlatResource) (rs : List book.Resource) → map flat_resource fs ≡ map (written_resource device) rs → IsWord device → AllByRecursion (λ (r : book.Resource). IsWord r.name) rs
    → AllByRecursion IsWordyLeaf (leaves_from n (device ∷ []) rs) → AreResources n (device ∷ []) fs rs
resources_are n device [] [] e d w all = tt
resources_are n device [] (r ∷ rs) e d w all = absurd cc
resources_are n device (f ∷ fs) [] e d w all = absurd cc
resources_are n device (f ∷ fs) (r ∷ rs) e d w all =
    let here : flat_resource f ≡ written_resource device r = cc in
    let rest : map flat_resource fs ≡ map (written_resource device) rs = cc in
    let parts = all_parts IsWordyLeaf (resource_leaves n (device ∷ []) r) (leaves_from (n + 1) (device ∷ []) rs) all in
    (resource_is n device f r here d w.0 parts.0, resources_are (n + 1) device fs rs rest d w.1 parts.1)

device_is : (f : FlatDevice) (d : book.Device) → flat_device f ≡ written_device d → IsWordyDevice d → IsDevice f d
device_is f d e w = record { name = ap (λ x. x.0) e; resources = resources_are 0 d.name f.resources.items d.resources (ap (λ x. x.1) e) w.name w.resources w.leaves }

pub devices_are : (fs : List FlatDevice) (ds : List book.Device) → map flat_device fs ≡ map written_device ds → AllByRecursion IsWordyDevice ds → AreDevices fs ds
devices_are [] [] e w = tt
devices_are [] (d ∷ ds) e w = absurd cc
devices_are (f ∷ fs) [] e w = absurd cc
devices_are (f ∷ fs) (d ∷ ds) e w =
    let here : flat_device f ≡ written_device d = cc in
    let rest : map flat_device fs ≡ map written_device ds = cc in
    (device_is f d here w.0, devices_are fs ds rest w.1)
