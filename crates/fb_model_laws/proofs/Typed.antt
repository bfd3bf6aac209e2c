-- Well typed systems are well made.
use Rattle.std.proofs.Common.{◌≡◌, ℕ, zero, suc, ℤ, pos, sym, ap, ap₂, subst, refl, Bool, true, false, ◌&&◌, ◌||◌, List, [], ◌∷◌, ◌++◌, map, replicate, Option, None, Some, ◌∙◌, append_assoc, arith}
use Rattle.std.specs.Prelude.{◌≤ℤ◌, int_le}
use Rattle.std.specs.List.{AllByRecursion}
use Rattle.std.specs.Int.Signed.{≤ℤ_refl, le_z_yes}
use Rattle.std.proofs.lemmas.Int.{ints}
use Rattle.std.specs.Str.{bytes_eq}
use Rattle.std.proofs.Math.Dec.{T}
use denote.Enum.Bare.{same_true}
use Rattle.fb_words.specs.declared.elem_type.ElemType.{ElemType}
use Rattle.fb_words.specs.declared.elem_type.ElemType.TheVariants as t
use Rattle.fb_words.specs.contracts.elem_type.ElemType.{the_type}
use Rattle.fb_model.specs.Names.{Name}
use Rattle.fb_model.specs.Spelling.{is_integer}
use Rattle.fb_model.specs.Values.{lowest, highest, in_type, signed}
use Rattle.fb_model.specs.Productions.{Word}
use Rattle.fb_model.specs.Trees.{Constant, ParameterTree, PortTree, ConnectionTree}
use Rattle.fb_model.specs.Declarations.{VariableTree, StartTree, ChartTree, InstanceTree, BlockTree, ResourceTree, DeviceTree, SourceTree}
use Rattle.fb_model.specs.StructuredText.{literal}
use Rattle.fb_model.specs.TypedText.{constant}
use Rattle.fb_model.specs.TextTyping.{Symbol, widens, same_type, bit, Operand, fixed, Loose, Settles, a_number, TakesType, widened, settles, IsTyped, a_whole_number, a_typed_number, a_time, a_truth}
use Rattle.fb_model.specs.BlockTyping.{Declared, IsGiven, IsStart, no_start, a_start, declared, AreDeclared, none as none_declared, more as more_declared, names_in, variable_of, IsFace, face_names, event_texts, IsBasic}
use Rattle.fb_model.specs.System.{Variable, Block, Service, End, Connection, Parameter, Face, Body, Served, Instances, Resource, Device, System, start_of, zeros, instance_names}
use Rattle.fb_model.specs.Typing.{names_of, event_inputs_of}
use Rattle.fb_model.specs.NetworkTyping.{variable_named, AreParameters, no_parameter, a_parameter, IsServed, a_service, outputs_of, given_in, IsEnd, own_port, port_of, AreEventConnections, no_event, an_event, IsValueEnd, own_value, value_at, IsValueConnection, AreValueConnections, no_value, a_value, instance_texts, IsMade, a_basic, a_composite, IsInstance, of_type, of_service, AreInstances, no_instance, an_instance, no_face, IsResource, AreResources, no_resource, a_resource, IsDevice, AreDevices, no_device, a_device, ElaboratesWith}
use Rattle.fb_model.specs.Wires.{Kind, Charted, inputs_of}
use Rattle.fb_model.specs.Store.{variable_names, inputs, outputs, internals}
use Rattle.fb_model.specs.Spans.{whole}
use Rattle.fb_model.specs.Shapes.{IsIn}
use Rattle.fb_model.specs.Ranges.{variables}
use Rattle.fb_model_laws.specs.Leaves.{HasType, IsWider, StartsFit, IsGoodKind}
use Rattle.fb_model.proofs.Lists.{all_append, same_name}
use Rattle.fb_model.proofs.Placed.{Apart, apart, name_same, all_left, all_right}
use Rattle.fb_model.proofs.Ports.{first_each}
use Rattle.fb_model_laws.proofs.Made.{in_body, end_variable, body_has, end_known, IsEventLink, IsValueLink, IsParameter, IsWellMade, AreWellMade, IsWellResource, IsWellDevice}

-- ---- types

pub both : (a b : Bool) → (a && b) ≡ true → (a ≡ true) × (b ≡ true)
both true b h = (refl, h)
both false b h = cc

le_of : (m n : ℤ) → int_le m n ≡ true → m ≤ℤ n
le_of m n h = le_z_yes (subst T (sym h) tt)

wider_integers : (a b : ElemType) → (is_integer a && (is_integer b && (int_le (lowest b) (lowest a) && int_le (highest a) (highest b)))) ≡ true → IsWider a b
wider_integers a b h =
    let i = both (is_integer a) _ h in
    let j = both (is_integer b) _ i.1 in
    let k = both (int_le (lowest b) (lowest a)) (int_le (highest a) (highest b)) j.1 in
    (le_of (lowest b) (lowest a) k.0, le_of (highest a) (highest b) k.1)

pub wider : (a b : ElemType) → widens a b ≡ true → IsWider a b
unfolding widens
wider a b h = by (same_type a b) refl h where
  by : (c : Bool) → same_type a b ≡ c → (c || (is_integer a && (is_integer b && (int_le (lowest b) (lowest a) && int_le (highest a) (highest b))))) ≡ true → IsWider a b
  by true e h = subst (IsWider a) (same_true the_type tt a b e) (≤ℤ_refl (lowest a), ≤ℤ_refl (highest a))
  by false e h = wider_integers a b h

pub le_through : (m n o : ℤ) → m ≤ℤ n → n ≤ℤ o → m ≤ℤ o
le_through m n o h k = omega (arith, ints)

pub in_wider : (a b : ElemType) (n : ℤ) → IsWider a b → IsIn (whole a) n → IsIn (whole b) n
in_wider a b n w h = record { least = le_through _ _ _ w.0 h.least; most = le_through _ _ _ h.most w.1 }

pub in_range : (a : ElemType) (n : ℤ) → in_type a n ≡ true → IsIn (whole a) n
in_range a n h = let k = both (int_le (lowest a) n) (int_le n (highest a)) h in record { least = le_of (lowest a) n k.0; most = le_of n (highest a) k.1 }

-- ---- constants

abbrev OperandFits : Operand → Type 0
OperandFits (fixed b (constant n)) = IsIn (whole b) n
OperandFits p = Unit {0}

pub bit_fits : (b : Bool) → IsIn (whole t.Bool) (bit b)
bit_fits true = in_range t.Bool (pos 1) refl
bit_fits false = in_range t.Bool (pos 0) refl

literal_fits : (env : List Symbol) (c : Constant) (p : Operand) → IsTyped env (literal c) p → OperandFits p
literal_fits env c p a_whole_number = tt
literal_fits env c p (a_typed_number {a = a} {b = b} {n = n} h) = in_range a (signed b n) h
literal_fits env c p (a_time {b = b} {n = n} h) = in_range t.Time (signed b n) h
literal_fits env c p (a_truth {b = b}) = bit_fits b

settled : (a : ElemType) (l : Loose) (n : ℤ) → Settles a l (constant n) → in_type a n ≡ true
settled a l n (a_number h) = h

taken_fits : (a : ElemType) (p : Operand) (n : ℤ) → TakesType a p (constant n) → OperandFits p → IsIn (whole a) n
taken_fits a p n (widened {b = b} w) h = in_wider b a n (wider b a w) h
taken_fits a p n (settles {l = l} s) h = in_range a n (settled a l n s)

given_fits : (a : ElemType) (c : Constant) (n : ℤ) → IsGiven a c n → IsIn (whole a) n
given_fits a c n g = taken_fits a g.operand n g.taken (literal_fits [] c g.operand g.typed)

-- ---- variables

pub zero_fits : (a : ElemType) → IsIn (whole a) (pos 0)
zero_fits t.Bool = in_range t.Bool (pos 0) refl
zero_fits t.Sint = in_range t.Sint (pos 0) refl
zero_fits t.Int = in_range t.Int (pos 0) refl
zero_fits t.Dint = in_range t.Dint (pos 0) refl
zero_fits t.Lint = in_range t.Lint (pos 0) refl
zero_fits t.Usint = in_range t.Usint (pos 0) refl
zero_fits t.Uint = in_range t.Uint (pos 0) refl
zero_fits t.Udint = in_range t.Udint (pos 0) refl
zero_fits t.Time = in_range t.Time (pos 0) refl

zeros_in : (a : ElemType) (n : ℕ) → AllByRecursion (IsIn (whole a)) (replicate n (pos 0))
zeros_in a zero = tt
zeros_in a (suc n) = (zero_fits a, zeros_in a n)

zeros_fit : (a : ElemType) (n : Option ℕ) → HasType a (zeros n)
zeros_fit a None = (zero_fits a, tt)
zeros_fit a (Some n) = zeros_in a n

abbrev DeclaredFits : Declared → Type 0
DeclaredFits d = HasType d.type (start_of (variable_of d))

start_fits : (a : ElemType) (b : Option (ℤ × ℤ)) (s : Option StartTree) (n : Option ℤ) (w : Word) → IsStart a s n → DeclaredFits (declared a b n w)
start_fits a b s n w no_start = zeros_fit a _
start_fits a b s n w (a_start {s = st} {n = m} g) = (given_fits a st.value m g, tt)

each_fits : (a : ElemType) (b : Option (ℤ × ℤ)) (s : Option StartTree) (n : Option ℤ) (ws : List Word) → IsStart a s n → AllByRecursion DeclaredFits (map (declared a b n) ws)
each_fits a b s n [] h = tt
each_fits a b s n (w ∷ ws) h = (start_fits a b s n w h, each_fits a b s n ws h)

declared_fit : (vs : List VariableTree) (ds : List Declared) → AreDeclared vs ds → AllByRecursion DeclaredFits ds
declared_fit vs ds none_declared = tt
declared_fit vs ds (more_declared {v = v} {vs = rest} {b = b} {n = n} {ds = es} _ start others) =
    all_append DeclaredFits (map (declared v.type b n) v.names) es (each_fits v.type b v.start n v.names start) (declared_fit rest es others)

starts_of : (ds : List Declared) → AllByRecursion DeclaredFits ds → StartsFit (map variable_of ds)
starts_of [] h = tt
starts_of (d ∷ ds) h = (h.0, starts_of ds h.1)

-- ---- names of variables

names_join : (xs ys : List Variable) → variable_names (xs ++ ys) ≡ variable_names xs ++ variable_names ys
names_join [] ys = refl
names_join (x ∷ xs) ys = ap (λ ns. x.name ∷ ns) (names_join xs ys)

names_declared : (ds : List Declared) → variable_names (map variable_of ds) ≡ names_in ds
names_declared [] = refl
names_declared (d ∷ ds) = ap (λ ns. d.name ∷ ns) (names_declared ds)

pub apart_right : (xs ys : List Name) → Apart (xs ++ ys) → Apart ys
apart_right [] ys h = h
apart_right (x ∷ xs) ys h = apart_right xs ys h.1

pub eq_sym : (m n : Name) (b : Bool) → bytes_eq m n ≡ b → bytes_eq n m ≡ b
eq_sym m n b h = by b (bytes_eq n m) refl h where
  by : (b c : Bool) → bytes_eq n m ≡ c → bytes_eq m n ≡ b → c ≡ b
  by true true e h = refl
  by false false e h = refl
  by true false e h = let s : m ≡ n = same_name m n h in let f : bytes_eq n m ≡ true = subst (λ x. bytes_eq n x ≡ true) (sym s) (name_same n) in cc
  by false true e h = let s : n ≡ m = same_name n m e in let f : bytes_eq m n ≡ true = subst (λ x. bytes_eq m x ≡ true) (sym s) (name_same m) in cc

-- the kind of variables whose names differ
pub good : (kind : Kind) → Apart (variable_names (variables kind)) → StartsFit (inputs kind) → StartsFit (outputs kind) → StartsFit (internals kind) → IsGoodKind kind
good kind a i o n =
    let xs = inputs kind in
    let ys = outputs kind in
    let zs = internals kind in
    let first = first_each (variables kind) a in
    let right = all_right (λ (v : Variable). variable_named (variables kind) v.name ≡ Some v) xs (ys ++ zs) first in
    record {
      inputs_first = all_left (λ (v : Variable). variable_named (variables kind) v.name ≡ Some v) xs (ys ++ zs) first;
      outputs_first = all_left (λ (v : Variable). variable_named (variables kind) v.name ≡ Some v) ys zs right;
      internals_first = all_right (λ (v : Variable). variable_named (variables kind) v.name ≡ Some v) ys zs right;
      inputs_start = i;
      outputs_start = o;
      internals_start = n;
    }

-- ---- basic blocks

block_names : (b : BlockTree) (ins outs inner : List Declared) → Apart (face_names b ins outs ++ names_in inner) → Apart (names_in ins ++ (names_in outs ++ names_in inner))
block_names b ins outs inner h =
    let es : List Name = event_texts b.event_inputs ++ event_texts b.event_outputs in
    apart_right es _ (subst Apart (append_assoc es (names_in ins) (names_in outs ++ names_in inner)) (subst Apart (append_assoc (es ++ names_in ins) (names_in outs) (names_in inner)) h))

kind_names : (ins outs inner : List Declared) → variable_names (map variable_of ins ++ (map variable_of outs ++ map variable_of inner)) ≡ names_in ins ++ (names_in outs ++ names_in inner)
kind_names ins outs inner =
    names_join (map variable_of ins) (map variable_of outs ++ map variable_of inner)
    ∙ ap₂ (λ (x : List Name) (y : List Name). x ++ y) (names_declared ins) (names_join (map variable_of outs) (map variable_of inner) ∙ ap₂ (λ (x : List Name) (y : List Name). x ++ y) (names_declared outs) (names_declared inner))

basic_good : (b : BlockTree) (c : ChartTree) (k : Block) → IsBasic b c k → IsGoodKind (Charted k)
basic_good b c k h =
    let ins : k.inputs ≡ map variable_of h.ins = ap (λ f. f.inputs) h.face.face in
    let outs : k.outputs ≡ map variable_of h.outs = ap (λ f. f.outputs) h.face.face in
    let whole : variables (Charted k) ≡ map variable_of h.ins ++ (map variable_of h.outs ++ map variable_of h.inner) = ap₂ (λ (x : List Variable) (y : List Variable). x ++ y) ins (ap₂ (λ (x : List Variable) (y : List Variable). x ++ y) outs h.internals_are) in
    good (Charted k) (subst Apart (sym (ap variable_names whole ∙ kind_names h.ins h.outs h.inner)) (block_names b h.ins h.outs h.inner (apart _ h.names)))
    (subst StartsFit (sym ins) (starts_of h.ins (declared_fit b.inputs h.ins h.face.inputs)))
    (subst StartsFit (sym outs) (starts_of h.outs (declared_fit b.outputs h.outs h.face.outputs)))
    (subst StartsFit (sym h.internals_are) (starts_of h.inner (declared_fit c.internals h.inner h.internals)))

-- ---- networks

parameters_fit : (vs : List Variable) (before : List Name) (ps : List ParameterTree) (qs : List Parameter) → AreParameters vs before ps qs → AllByRecursion (IsParameter vs) qs
parameters_fit vs before ps qs no_parameter = tt
parameters_fit vs before ps qs (a_parameter {p = p} {ps = rest} {v = v} {n = n} {qs = others} found new given more) =
    (record { variable = v; found = found; lies = (given_fits v.type p.value n given, tt) }, parameters_fit vs (before ++ p.name.text ∷ []) rest others more)

event_end : (own : List Name) (ports : Body → List Name) (inner : Instances) (p : PortTree) (e : End) → IsEnd own ports inner p e → end_known own ports inner e.instance e.port ≡ true
event_end own ports inner p e (own_port h) = h
event_end own ports inner p e (port_of {x = x} found h) = ap (λ o. body_has ports o x.text) found ∙ h

event_links : (f : Face) (inner : Instances) (cs : List ConnectionTree) (ds : List Connection) → AreEventConnections f inner cs ds → AllByRecursion (IsEventLink f inner) ds
event_links f inner cs ds no_event = tt
event_links f inner cs ds (an_event {c = c} {cs = rest} {d = d} {ds = others} h more) = (event_end (names_of f.event_outputs) event_inputs_of inner c.target d.target h.target, event_links f inner rest others more)

-- the variable at an end, with its type
abbrev EndIs : List Variable → (Body → List Variable) → Instances → End → ElemType → Type 0
EndIs own ports inner e a = (v : Variable) × (end_variable own ports inner e.instance e.port ≡ Some v) × (v.type ≡ a)

value_end : (own : List Variable) (ports : Body → List Variable) (inner : Instances) (p : PortTree) (e : End) (a : ElemType) → IsValueEnd own ports inner p e a → EndIs own ports inner e a
value_end own ports inner p e a (own_value {v = v} h) = (v, h, refl)
value_end own ports inner p e a (value_at {x = x} {v = v} found h) = (v, ap (λ o. in_body ports o x.text) found ∙ h, refl)

value_link : (f : Face) (inner : Instances) (c : ConnectionTree) (d : Connection) → IsValueConnection f inner c d → IsValueLink f inner d
value_link f inner c d h =
    let s = value_end f.inputs outputs_of inner c.source d.source h.given h.source in
    let t = value_end f.outputs inputs_of inner c.target d.target h.taken h.target in
    record { given = s.0; taken = t.0; source = s.1; target = t.1; wider = subst (λ a. IsWider a t.0.type) (sym s.2) (subst (λ a. IsWider h.given a) (sym t.2) (wider h.given h.taken h.fits)) }

value_links : (f : Face) (inner : Instances) (before : List End) (cs : List ConnectionTree) (ds : List Connection) → AreValueConnections f inner before cs ds → AllByRecursion (IsValueLink f inner) ds
value_links f inner before cs ds no_value = tt
value_links f inner before cs ds (a_value {c = c} {cs = rest} {d = d} {ds = others} h new more) = (value_link f inner c d h, value_links f inner (before ++ d.target ∷ []) rest others more)

instances_named : (bs : List BlockTree) (n : ℕ) (is : List InstanceTree) (inner : Instances) → AreInstances bs n is inner → instance_names inner ≡ instance_texts is
instances_named bs n is inner no_instance = refl
instances_named bs n is inner (an_instance {i = i} {is = js} {rest = rest} h more) = ap (λ ns. i.name.text ∷ ns) (instances_named bs n js rest more)

starts_face : (b : BlockTree) (ins outs : List Declared) (f : Face) → IsFace b ins outs f → StartsFit f.inputs × StartsFit f.outputs
starts_face b ins outs f h =
    (subst StartsFit (sym (ap (λ g. g.inputs) h.face)) (starts_of ins (declared_fit b.inputs ins h.inputs)), subst StartsFit (sym (ap (λ g. g.outputs) h.face)) (starts_of outs (declared_fit b.outputs outs h.outputs)))

mutual
  made : (bs : List BlockTree) (n : ℕ) (b : BlockTree) (body : Body) → IsMade bs n b body → IsWellMade body
  made bs n b body (a_basic {c = c} {k = k} e h) = basic_good b c k h
  made bs n b body (a_composite {d = d} {n = net} {ins = ins} {outs = outs} {f = f} {inner = inner} {es = es} {vs = vs} e face names instances events values) = (
    all_made bs d net.instances inner instances,
    record {
      apart = subst Apart (sym (instances_named bs d net.instances inner instances)) (apart_right (face_names b ins outs) (instance_texts net.instances) (apart _ names));
      event_links = event_links f inner net.events es events;
      value_links = value_links f inner (given_in inner) net.values vs values;
      inputs_start = (starts_face b ins outs f face).0;
      outputs_start = (starts_face b ins outs f face).1;
    },
  )

  one_made : (bs : List BlockTree) (n : ℕ) (i : InstanceTree) (qs : List Parameter) (body : Body) → IsInstance bs n i qs body → IsWellMade body × AllByRecursion (IsParameter (inputs_of body)) qs
  one_made bs n i qs body (of_type {b = b} _ found _ m ps) = (made bs n b body m, parameters_fit (inputs_of body) [] i.parameters qs ps)
  one_made bs n i qs body (of_service {s = s} h) = (tt, served s qs h) where
    served : (s : Service) (qs : List Parameter) → IsServed i s qs → AllByRecursion (IsParameter (inputs_of (Served s))) qs
    served s qs (a_service is ps) = parameters_fit (inputs_of (Served s)) [] _ qs ps

  all_made : (bs : List BlockTree) (n : ℕ) (is : List InstanceTree) (inner : Instances) → AreInstances bs n is inner → AreWellMade inner
  all_made bs n is inner no_instance = tt
  all_made bs n is inner (an_instance {i = i} {is = js} {qs = qs} {body = body} {rest = rest} h more) =
      let m = one_made bs n i qs body h in
      (m.0, m.1, all_made bs n js rest more)

-- ---- systems

resource_made : (bs : List BlockTree) (r : ResourceTree) (q : Resource) → IsResource bs r q → IsWellResource q
resource_made bs r q h = (
  all_made bs _ r.network.instances q.inner h.instances,
  record {
    apart = subst Apart (sym (instances_named bs _ r.network.instances q.inner h.instances)) (apart (instance_texts r.network.instances) h.names);
    event_links = event_links no_face q.inner r.network.events q.events h.events;
    value_links = value_links no_face q.inner (given_in q.inner) r.network.values q.values h.values;
    inputs_start = tt;
    outputs_start = tt;
  },
)

resources_made : (bs : List BlockTree) (rs : List ResourceTree) (qs : List Resource) → AreResources bs rs qs → AllByRecursion IsWellResource qs
resources_made bs rs qs no_resource = tt
resources_made bs rs qs (a_resource {r = r} {rs = ts} {q = q} {qs = others} h more) = (resource_made bs r q h, resources_made bs ts others more)

resources_named : (bs : List BlockTree) (rs : List ResourceTree) (qs : List Resource) → AreResources bs rs qs → map (λ (q : Resource). q.name) qs ≡ map (λ (r : ResourceTree). r.name.text) rs
resources_named bs rs qs no_resource = refl
resources_named bs rs qs (a_resource {r = r} {rs = ts} {q = q} {qs = others} h more) = ap₂ (λ (n : Name) (ns : List Name). n ∷ ns) h.name (resources_named bs ts others more)

device_made : (bs : List BlockTree) (d : DeviceTree) (e : Device) → IsDevice bs d e → IsWellDevice e
device_made bs d e h = record { apart = subst Apart (sym (resources_named bs d.resources e.resources h.resources)) (apart _ h.names); resources = resources_made bs d.resources e.resources h.resources }

all_devices : (bs : List BlockTree) (ds : List DeviceTree) (es : List Device) → AreDevices bs ds es → AllByRecursion IsWellDevice es
all_devices bs ds es no_device = tt
all_devices bs ds es (a_device {d = d} {ds = others} {e = e} {es = rest} h more) = (device_made bs d e h, all_devices bs others rest more)

pub devices_made : (library : List BlockTree) (source : SourceTree) (system : System) → ElaboratesWith library source system → AllByRecursion IsWellDevice system.devices
devices_made library source system h = all_devices (source.blocks ++ library) source.system.devices system.devices h.devices
