-- Values of well typed systems that stand in texts have the form of their variables.
use Rattle.std.proofs.Common.{◌≡◌, ◌⊎◌, ℕ, ◌+◌, ℤ, pos, sym, ap, subst, refl, inl, inr, Bool, true, false, List, [], ◌∷◌, ◌++◌, map, Option, None, Some}
use Rattle.std.specs.Prelude.{if◌then◌else◌}
use Rattle.std.specs.List.{AllByRecursion}
use Rattle.std.specs.Option.{option_map}
use Rattle.std.specs.Str.{bytes_eq}
use Rattle.std.proofs.lemmas.List.{length-replicate}
use Rattle.fb_words.specs.declared.elem_type.ElemType.{ElemType}
use Rattle.fb_model.specs.Names.{Name, Path, Place}
use Rattle.fb_model.specs.Values.{One}
use Rattle.fb_model.specs.Productions.{Word}
use Rattle.fb_model.specs.Trees.{ParameterTree}
use Rattle.fb_model.specs.Declarations.{VariableTree, BoundsTree, StartTree, InstanceTree, ChartTree, BlockTree, ResourceTree, DeviceTree, SourceTree, Chart}
use Rattle.fb_model.specs.System.{Variable, Block, Service, Input, Output, Publish, Subscribe, Delay, Cycle, Restart, Connection, Parameter, Face, Body, Basic, Served, Composite, Instances, nothing, instance, Resource, Device, System, start_of, start_in, constant}
use Rattle.fb_model.specs.Services.{ports, service_inputs, service_outputs}
use Rattle.fb_model.specs.BlockTyping.{Declared, AreBounds, no_bounds, some_bounds, IsStart, no_start, a_start, declared, AreDeclared, none, more, variable_of, extent, IsFace, IsBasic, face_of}
use Rattle.fb_model.specs.NetworkTyping.{type_named, AreParameters, no_parameter, a_parameter, IsServed, a_service, IsMade, a_basic, a_composite, IsInstance, of_type, of_service, AreInstances, no_instance, an_instance, AreResources, no_resource, a_resource, AreDevices, no_device, a_device, ElaboratesWith}
use Rattle.fb_model.specs.Wires.{is_end, Source, Output_of, Constant, Kind, Charted, Serviced, Leaf, inputs_of, followed, entered_in, fed, given_by, given_in, leaves_of, leaves_in, resource_leaves, leaves_from, leaves}
use Rattle.fb_model.specs.Store.{inputs, outputs}
use Rattle.fb_model.specs.Ranges.{variables, HasLength}
use Rattle.fb_model.proofs.Lists.{all_append}
use Rattle.fb_model_laws.proofs.Plain.{IsSimple, IsStartless, IsPlainBody, IsPlain}

-- ---- variables

abbrev pub AreSingle : List Variable → Type 0
AreSingle vs = AllByRecursion (λ (v : Variable). v.length ≡ None) vs

-- start values have the form of their variables
abbrev pub AreFormed : List Variable → Type 0
AreFormed vs = AllByRecursion (λ (v : Variable). HasLength v.length (start_of v)) vs

abbrev DeclaredSingle : Declared → Type 0
DeclaredSingle d = d.bounds ≡ None

abbrev DeclaredFormed : Declared → Type 0
DeclaredFormed d = HasLength (option_map extent d.bounds) (start_of (variable_of d))

no_bounds_at : (b : Option BoundsTree) (r : Option (ℤ × ℤ)) → AreBounds b r → b ≡ None → r ≡ None
no_bounds_at _ _ no_bounds e = refl
no_bounds_at _ _ (some_bounds a c d f) e = absurd cc

start_formed : (a : ElemType) (v b : Option BoundsTree) (s : Option StartTree) (r : Option (ℤ × ℤ)) (n : Option ℤ) (w : Word) → AreBounds b r → IsStart a s n → (b ≡ None) ⊎ (s ≡ None) → DeclaredFormed (declared a r n w)
start_formed a v _ _ _ _ w no_bounds no_start h = tt
start_formed a v _ _ _ _ w no_bounds (a_start g) h = tt
start_formed a v _ _ _ _ w (some_bounds {low = l} {high = m} c d e f) no_start h = length-replicate (extent (l, m)) (pos 0)
start_formed a v _ _ _ _ w (some_bounds c d e f) (a_start g) (inl x) = absurd cc
start_formed a v _ _ _ _ w (some_bounds c d e f) (a_start g) (inr x) = absurd cc

each_word : (P : Declared → Type 0) (a : ElemType) (r : Option (ℤ × ℤ)) (n : Option ℤ) → ((w : Word) → P (declared a r n w)) → (ws : List Word) → AllByRecursion P (map (declared a r n) ws)
each_word P a r n h [] = tt
each_word P a r n h (w ∷ ws) = (h w, each_word P a r n h ws)

declared_single : (vs : List VariableTree) (ds : List Declared) → AreDeclared vs ds → AllByRecursion IsSimple vs → AllByRecursion DeclaredSingle ds
declared_single _ _ none h = tt
declared_single _ _ (more {v = v} {vs = vs} {b = b} {n = n} {ds = ds} bounds start others) h =
    all_append DeclaredSingle (map (declared v.type b n) v.names) ds (each_word DeclaredSingle v.type b n (λ w. no_bounds_at v.bounds b bounds h.0) v.names) (declared_single vs ds others h.1)

declared_formed : (vs : List VariableTree) (ds : List Declared) → AreDeclared vs ds → AllByRecursion IsStartless vs → AllByRecursion DeclaredFormed ds
declared_formed _ _ none h = tt
declared_formed _ _ (more {v = v} {vs = vs} {b = b} {n = n} {ds = ds} bounds start others) h =
    all_append DeclaredFormed (map (declared v.type b n) v.names) ds (each_word DeclaredFormed v.type b n (λ w. start_formed v.type v.bounds v.bounds v.start b n w bounds start h.0) v.names) (declared_formed vs ds others h.1)

startless : (vs : List VariableTree) → AllByRecursion IsSimple vs → AllByRecursion IsStartless vs
startless [] h = tt
startless (v ∷ vs) h = (inl h.0, startless vs h.1)

singles : (ds : List Declared) → AllByRecursion DeclaredSingle ds → AreSingle (map variable_of ds)
singles [] h = tt
singles (d ∷ ds) h = (ap (option_map extent) h.0, singles ds h.1)

forms : (ds : List Declared) → AllByRecursion DeclaredFormed ds → AreFormed (map variable_of ds)
forms [] h = tt
forms (d ∷ ds) h = (h.0, forms ds h.1)

-- ---- interfaces

pub record IsFormedFace (ins outs : List Variable) : Type 0 where
  pub inputs : AreSingle ins
  pub outputs : AreSingle outs
  pub inputs_begin : AreFormed ins
  pub outputs_begin : AreFormed outs

face_formed : (b : BlockTree) (ins outs : List Declared) (f : Face) → IsPlain b → IsFace b ins outs f → IsFormedFace f.inputs f.outputs
face_formed b ins outs f p h =
    let i : f.inputs ≡ map variable_of ins = ap (λ g. g.inputs) h.face in
    let o : f.outputs ≡ map variable_of outs = ap (λ g. g.outputs) h.face in
    record {
      inputs = subst AreSingle (sym i) (singles ins (declared_single b.inputs ins h.inputs p.inputs));
      outputs = subst AreSingle (sym o) (singles outs (declared_single b.outputs outs h.outputs p.outputs));
      inputs_begin = subst AreFormed (sym i) (forms ins (declared_formed b.inputs ins h.inputs (startless b.inputs p.inputs)));
      outputs_begin = subst AreFormed (sym o) (forms outs (declared_formed b.outputs outs h.outputs (startless b.outputs p.outputs)));
    }

-- ---- bodies

pub record IsFormedBlock (k : Block) : Type 0 where
  pub face : IsFormedFace k.inputs k.outputs
  pub internals_begin : AreFormed k.internals

abbrev AreOnes : List Parameter → Type 0
AreOnes ps = AllByRecursion (λ (p : Parameter). HasLength None p.value) ps

abbrev mutual
  IsFormedBody : Body → Type 0
  IsFormedBody (Basic block) = IsFormedBlock block
  IsFormedBody (Served service) = Unit {0}
  IsFormedBody (Composite face inner events values) = AreFormedIn inner × IsFormedFace face.inputs face.outputs

  AreFormedIn : Instances → Type 0
  AreFormedIn nothing = Unit {0}
  AreFormedIn (instance name parameters body rest) = IsFormedBody body × AreOnes parameters × AreFormedIn rest

block_formed : (b : BlockTree) (c : ChartTree) (k : Block) → b.body ≡ Chart c → IsPlain b → IsBasic b c k → IsFormedBlock k
block_formed b c k e p h =
    let body : AllByRecursion IsStartless c.internals = subst IsPlainBody e p.body in
    record {
      face = face_formed b h.ins h.outs (face_of k) p h.face;
      internals_begin = subst AreFormed (sym h.internals_are) (forms h.inner (declared_formed c.internals h.inner h.internals body));
    }

ones : (vs : List Variable) (before : List Name) (ps : List ParameterTree) (qs : List Parameter) → AreParameters vs before ps qs → AreOnes qs
ones vs before _ _ no_parameter = tt
ones vs before _ _ (a_parameter {p = p} {ps = ps} {v = v} {n = n} {qs = qs} found new given rest) = (tt, ones vs (before ++ p.name.text ∷ []) ps qs rest)

served_ones : (i : InstanceTree) (s : Service) (qs : List Parameter) → IsServed i s qs → AreOnes qs
served_ones i s qs (a_service is ps) = ones (service_inputs s) [] _ qs ps

named_plain : (bs : List BlockTree) (x : Name) (b : BlockTree) → AllByRecursion IsPlain bs → type_named bs x ≡ Some b → IsPlain b
named_plain [] x b h e = absurd cc
named_plain (c ∷ bs) x b h e = by (bytes_eq x c.name.text) e (named_plain bs x b h.1) where
  by : (t : Bool) → (if t then Some c else type_named bs x) ≡ Some b → (type_named bs x ≡ Some b → IsPlain b) → IsPlain b
  by true f next = let same : c ≡ b = cc in subst IsPlain same h.0
  by false f next = next f

module _ (bs : List BlockTree) (plain : AllByRecursion IsPlain bs) where
  mutual
    body_formed : (n : ℕ) (b : BlockTree) (body : Body) → IsPlain b → IsMade bs n b body → IsFormedBody body
    body_formed n b body p (a_basic {c = c} {k = k} e h) = block_formed b c k e p h
    body_formed n b body p (a_composite {d = d} {n = net} {ins = ins} {outs = outs} {f = f} {inner = inner} e face names instances events values) = (all_formed d net.instances inner instances, face_formed b ins outs f p face)

    one_formed : (n : ℕ) (i : InstanceTree) (qs : List Parameter) (body : Body) → IsInstance bs n i qs body → IsFormedBody body × AreOnes qs
    one_formed n i qs body (of_type {b = b} _ found _ m ps) = (body_formed n b body (named_plain bs i.type.text b plain found) m, ones (inputs_of body) [] i.parameters qs ps)
    one_formed n i qs body (of_service {s = s} h) = (tt, served_ones i s qs h)

    all_formed : (n : ℕ) (is : List InstanceTree) (inner : Instances) → AreInstances bs n is inner → AreFormedIn inner
    all_formed n is inner no_instance = tt
    all_formed n is inner (an_instance {i = i} {is = js} {qs = qs} {body = body} {rest = rest} h others) =
        let m = one_formed n i qs body h in
        (m.0, m.1, all_formed n js rest others)

-- ---- sources

abbrev pub IsSingle : Source → Type 0
IsSingle (Output_of path y) = Unit {0}
IsSingle (Constant value) = HasLength None value

start_single : (vs : List Variable) (x : Name) → AreSingle vs → AreFormed vs → HasLength None (start_in vs x)
start_single [] x s f = tt
start_single (v ∷ vs) x s f = by (bytes_eq v.name x) (start_single vs x s.1 f.1) where
  by : (b : Bool) → HasLength None (start_in vs x) → HasLength None (if b then start_of v else start_in vs x)
  by true next = subst (λ n. HasLength n (start_of v)) s.0 f.0
  by false next = next

constant_single : (ps : List Parameter) (vs : List Variable) (x : Name) → AreOnes ps → AreSingle vs → AreFormed vs → HasLength None (constant ps vs x)
constant_single [] vs x o s f = start_single vs x s f
constant_single (p ∷ ps) vs x o s f = by (bytes_eq p.name x) (constant_single ps vs x o.1 s f) where
  by : (b : Bool) → HasLength None (constant ps vs x) → HasLength None (if b then p.value else constant ps vs x)
  by true next = o.0
  by false next = next

fed_single : (cs : List Connection) (i : Option Name) (x : Name) (inner : Name → Name → Source) (outer : Name → Source) (other : Source)
    → ((j y : Name) → IsSingle (inner j y)) → ((y : Name) → IsSingle (outer y)) → IsSingle other → IsSingle (fed cs i x inner outer other)
fed_single [] i x inner outer other h k o = o
fed_single (c ∷ cs) i x inner outer other h k o = by (is_end i x c.target) (fed_single cs i x inner outer other h k o) where
  at : (j : Option Name) → IsSingle (elim j [ None ↦ outer c.source.port | Some j ↦ inner j c.source.port ])
  at None = k c.source.port
  at (Some j) = h j c.source.port

  by : (b : Bool) → IsSingle (fed cs i x inner outer other) → IsSingle (if b then (elim c.source.instance [ None ↦ outer c.source.port | Some j ↦ inner j c.source.port ]) else fed cs i x inner outer other)
  by true next = at c.source.instance
  by false next = next

pick : (b : Bool) (s t : Source) → IsSingle s → IsSingle t → IsSingle (if b then s else t)
pick true s t h k = h
pick false s t h k = k

mutual
  given_single : (body : Body) (path : Path) (y : Name) → IsFormedBody body → IsSingle (given_by body path y)
  given_single (Basic block) path y f = tt
  given_single (Served service) path y f = tt
  given_single (Composite face inner events values) path y f =
      fed_single values None y (given_in inner path) (λ i. Constant (constant [] face.inputs i)) (Constant (constant [] face.outputs y))
      (λ j z. given_single_in inner path j z f.0) (λ z. start_single face.inputs z f.1.inputs f.1.inputs_begin) (start_single face.outputs y f.1.outputs f.1.outputs_begin)

  given_single_in : (inner : Instances) (path : Path) (j y : Name) → AreFormedIn inner → IsSingle (given_in inner path j y)
  given_single_in nothing path j y f = tt
  given_single_in (instance name parameters body rest) path j y f = pick (bytes_eq name j) (given_by body (path ++ name ∷ []) y) (given_in rest path j y) (given_single body (path ++ name ∷ []) y f.0) (given_single_in rest path j y f.2)

-- ---- services

ports_single : (f : ℕ → Name) (n : ℕ) (types : List ElemType) → AreSingle (ports f n types)
ports_single f n [] = tt
ports_single f n (type ∷ types) = (refl, ports_single f (n + 1) types)

ports_formed : (f : ℕ → Name) (n : ℕ) (types : List ElemType) → AreFormed (ports f n types)
ports_formed f n [] = tt
ports_formed f n (type ∷ types) = (tt, ports_formed f (n + 1) types)

pub service_formed : (s : Service) → IsFormedFace (service_inputs s) (service_outputs s)
service_formed (Input number types) = record { inputs = tt; outputs = ports_single _ 1 types; inputs_begin = tt; outputs_begin = ports_formed _ 1 types }
service_formed (Output number types) = record { inputs = ports_single _ 1 types; outputs = tt; inputs_begin = ports_formed _ 1 types; outputs_begin = tt }
service_formed (Publish channel types) = record { inputs = (refl, ports_single _ 1 types); outputs = (refl, tt); inputs_begin = (tt, ports_formed _ 1 types); outputs_begin = (tt, tt) }
service_formed (Subscribe channel types) = record { inputs = (refl, tt); outputs = (refl, ports_single _ 1 types); inputs_begin = (tt, tt); outputs_begin = (tt, ports_formed _ 1 types) }
service_formed Delay = record { inputs = (refl, tt); outputs = tt; inputs_begin = (tt, tt); outputs_begin = tt }
service_formed Cycle = record { inputs = (refl, tt); outputs = tt; inputs_begin = (tt, tt); outputs_begin = tt }
service_formed Restart = record { inputs = tt; outputs = tt; inputs_begin = tt; outputs_begin = tt }

inputs_single : (body : Body) (parameters : List Parameter) (x : Name) → IsFormedBody body → AreOnes parameters → HasLength None (constant parameters (inputs_of body) x)
inputs_single (Basic block) parameters x f o = constant_single parameters block.inputs x o f.face.inputs f.face.inputs_begin
inputs_single (Served service) parameters x f o = let s = service_formed service in constant_single parameters (service_inputs service) x o s.inputs s.inputs_begin
inputs_single (Composite face inner events values) parameters x f o = constant_single parameters face.inputs x o f.1.inputs f.1.inputs_begin

-- ---- leaves

abbrev IsFormedKind : Kind → Type 0
IsFormedKind (Charted block) = IsFormedBlock block
IsFormedKind (Serviced service) = Unit {0}

-- values have the form of their variables, at first and where they come from
pub record IsFormed (leaf : Leaf) : Type 0 where
  pub inputs : AreSingle (inputs leaf.kind)
  pub outputs : AreSingle (outputs leaf.kind)
  pub start : AreFormed (variables leaf.kind)
  pub sources : (x : Name) → IsSingle (leaf.source x)

block_leaf : (home : ℕ) (path : Path) (block : Block) (targets : Name → List Place) (source : Name → Source) → IsFormedBlock block → ((x : Name) → IsSingle (source x))
    → IsFormed (record { home = home; path = path; kind = Charted block; targets = targets; source = source })
block_leaf home path block targets source f h =
    record {
      inputs = f.face.inputs;
      outputs = f.face.outputs;
      start = all_append (λ (v : Variable). HasLength v.length (start_of v)) block.inputs (block.outputs ++ block.internals) f.face.inputs_begin (all_append (λ (v : Variable). HasLength v.length (start_of v)) block.outputs block.internals f.face.outputs_begin f.internals_begin);
      sources = h;
    }

service_leaf : (home : ℕ) (path : Path) (s : Service) (targets : Name → List Place) (source : Name → Source) → ((x : Name) → IsSingle (source x))
    → IsFormed (record { home = home; path = path; kind = Serviced s; targets = targets; source = source })
service_leaf home path s targets source h =
    let f = service_formed s in
    record {
      inputs = f.inputs;
      outputs = f.outputs;
      start = all_append (λ (v : Variable). HasLength v.length (start_of v)) (service_inputs s) (service_outputs s ++ []) f.inputs_begin (all_append (λ (v : Variable). HasLength v.length (start_of v)) (service_outputs s) [] f.outputs_begin tt);
      sources = h;
    }

mutual
  leaves_formed : (body : Body) (home : ℕ) (path : Path) (targets : Name → List Place) (source : Name → Source) → IsFormedBody body → ((x : Name) → IsSingle (source x)) → AllByRecursion IsFormed (leaves_of body home path targets source)
  leaves_formed (Basic block) home path targets source f h = (block_leaf home path block targets source f h, tt)
  leaves_formed (Served service) home path targets source f h = (service_leaf home path service targets source h, tt)
  leaves_formed (Composite face inner events values) home path targets source f h =
      leaves_formed_in inner home path (λ j port. followed events (Some j) port (entered_in inner path) targets) (λ j port other. fed values (Some j) port (given_in inner path) source other) f.0
      (λ j x other o. fed_single values (Some j) x (given_in inner path) source other (λ k y. given_single_in inner path k y f.0) h o)

  leaves_formed_in : (inner : Instances) (home : ℕ) (path : Path) (targets : Name → Name → List Place) (source : Name → Name → Source → Source) → AreFormedIn inner
      → ((j x : Name) (other : Source) → IsSingle other → IsSingle (source j x other)) → AllByRecursion IsFormed (leaves_in inner home path targets source)
  leaves_formed_in nothing home path targets source f h = tt
  leaves_formed_in (instance name parameters body rest) home path targets source f h =
      all_append IsFormed _ _
      (leaves_formed body home (path ++ name ∷ []) (targets name) (λ port. source name port (Constant (constant parameters (inputs_of body) port))) f.0
      (λ x. h name x (Constant (constant parameters (inputs_of body) x)) (inputs_single body parameters x f.0 f.1)))
      (leaves_formed_in rest home path targets source f.2 h)

-- ---- devices

resources_formed : (bs : List BlockTree) → AllByRecursion IsPlain bs → (rs : List ResourceTree) (qs : List Resource) → AreResources bs rs qs → AllByRecursion (λ (q : Resource). AreFormedIn q.inner) qs
resources_formed bs p rs qs no_resource = tt
resources_formed bs p rs qs (a_resource {r = r} {rs = ts} {q = q} {qs = others} h rest) = (all_formed bs p _ r.network.instances q.inner h.instances, resources_formed bs p ts others rest)

formed_from : (n : ℕ) (path : Path) (rs : List Resource) → AllByRecursion (λ (r : Resource). AreFormedIn r.inner) rs → AllByRecursion IsFormed (leaves_from n path rs)
formed_from n path [] f = tt
formed_from n path (r ∷ rs) f =
    all_append IsFormed (resource_leaves n path r) (leaves_from (n + 1) path rs)
    (leaves_formed_in r.inner n (path ++ r.name ∷ []) _ _ f.0 (λ j x other o. fed_single r.values (Some j) x (given_in r.inner (path ++ r.name ∷ [])) (λ i. Constant (One (pos 0))) other (λ k y. given_single_in r.inner (path ++ r.name ∷ []) k y f.0) (λ y. tt) o))
    (formed_from (n + 1) path rs f.1)

devices_formed : (bs : List BlockTree) → AllByRecursion IsPlain bs → (ds : List DeviceTree) (es : List Device) → AreDevices bs ds es → AllByRecursion (λ (e : Device). AllByRecursion IsFormed (leaves e)) es
devices_formed bs p ds es no_device = tt
devices_formed bs p ds es (a_device {d = d} {ds = others} {e = e} {es = rest} h next) = (formed_from 0 (e.name ∷ []) e.resources (resources_formed bs p d.resources e.resources h.resources), devices_formed bs p others rest next)

pub all_leaves_formed : (library : List BlockTree) (source : SourceTree) (system : System) → AllByRecursion IsPlain library → AllByRecursion IsPlain source.blocks → ElaboratesWith library source system
    → AllByRecursion (λ (d : Device). AllByRecursion IsFormed (leaves d)) system.devices
all_leaves_formed library source system p q h = devices_formed (source.blocks ++ library) (all_append IsPlain source.blocks library q p) source.system.devices system.devices h.devices
