-- What leaves hold and take lies in their types.
use Rattle.std.proofs.Common.{◌≡◌, ℕ, ◌+◌, ℤ, pos, sym, ap, ap₂, subst, refl, Bool, true, false, List, [], ◌∷◌, ◌++◌, Option, None, Some, ◌∙◌}
use Rattle.std.specs.Prelude.{if◌then◌else◌}
use Rattle.std.specs.List.{AllByRecursion}
use Rattle.std.specs.Int.Signed.{≤ℤ_refl}
use Rattle.std.specs.Str.{bytes_eq}
use Rattle.fb_words.specs.declared.elem_type.ElemType.{ElemType}
use Rattle.fb_model.specs.Names.{Name, Path, Place}
use Rattle.fb_model.specs.Values.{Value, One, lowest, highest, numbers_of}
use Rattle.fb_model.specs.Declarations.{BlockTree, SourceTree}
use Rattle.fb_model.specs.System.{Variable, Connection, Parameter, Face, Body, Basic, Served, Composite, Instances, nothing, instance, Resource, Device, System, start_of, start_in, constant, instance_names}
use Rattle.fb_model.specs.Typing.{body_named}
use Rattle.fb_model.specs.NetworkTyping.{variable_named, outputs_of, ElaboratesWith}
use Rattle.fb_model.specs.Wires.{is_own, is_end, Source, Output_of, Constant, Charted, Serviced, Leaf, followed, entered_in, fed, given_by, given_in, inputs_of, leaves_of, leaves_in, resource_leaves, leaves_from, leaves}
use Rattle.fb_model.specs.Spans.{whole}
use Rattle.fb_model.specs.Shapes.{IsIn}
use Rattle.fb_model.proofs.Lists.{all_append, all_weaker, same_name}
use Rattle.fb_model.proofs.Placed.{Apart, name_same, all_left, all_right}
use Rattle.fb_model_laws.specs.Leaves.{HasType, IsWider, StartsFit, Yields, Feeds, IsFed}
use Rattle.fb_model_laws.proofs.Made.{in_body, end_variable, IsValueLink, IsParameter, IsWellMade, AreWellMade, IsWellResource, IsWellDevice}
use Rattle.fb_model_laws.proofs.Typed.{both, eq_sym, in_wider, le_through, devices_made}
use Rattle.fb_model_laws.proofs.Paths.{resource_body, device_apart, AreFound, all_found}
use Rattle.fb_model_laws.proofs.Wired.{eq_turned}
use Rattle.fb_model_laws.proofs.Ports.{inputs_start, service_good}

-- ---- wider types

all_wider : (a b : ElemType) (ns : List ℤ) → IsWider a b → AllByRecursion (IsIn (whole a)) ns → AllByRecursion (IsIn (whole b)) ns
all_wider a b [] w h = tt
all_wider a b (n ∷ ns) w h = (in_wider a b n w h.0, all_wider a b ns w h.1)

has_wider : (a b : ElemType) (v : Value) → IsWider a b → HasType a v → HasType b v
has_wider a b v w h = all_wider a b (numbers_of v) w h

through : (a b c : ElemType) → IsWider a b → IsWider b c → IsWider a c
through a b c v w = (le_through _ _ _ w.0 v.0, le_through _ _ _ v.1 w.1)

-- ---- what a source gives

yields_wider : (all : List Leaf) (a b : ElemType) (s : Source) → IsWider a b → Yields all a s → Yields all b s
yields_wider all a b (Output_of from y) w h = record { leaf = h.leaf; found = h.found; variable = h.variable; is = h.is; wider = through h.variable.type a b h.wider w }
yields_wider all a b (Constant value) w h = has_wider a b value w h

start_feeds : (all : List Leaf) (vs : List Variable) (x : Name) → StartsFit vs → Feeds all (variable_named vs x) (Constant (start_in vs x))
start_feeds all [] x s = refl
start_feeds all (v ∷ vs) x s = subst (λ b. Feeds all (if b then Some v else variable_named vs x) (Constant (if bytes_eq v.name x then start_of v else start_in vs x))) (eq_turned v.name x) (by (bytes_eq v.name x) (start_feeds all vs x s.1)) where
  by : (b : Bool) → Feeds all (variable_named vs x) (Constant (start_in vs x)) → Feeds all (if b then Some v else variable_named vs x) (Constant (if b then start_of v else start_in vs x))
  by true h = s.0
  by false h = h

constant_feeds : (all : List Leaf) (vs : List Variable) (ps : List Parameter) (x : Name) → StartsFit vs → AllByRecursion (IsParameter vs) ps → Feeds all (variable_named vs x) (Constant (constant ps vs x))
constant_feeds all vs [] x s h = start_feeds all vs x s
constant_feeds all vs (p ∷ ps) x s h = by (bytes_eq p.name x) refl (constant_feeds all vs ps x s h.1) where
  by : (b : Bool) → bytes_eq p.name x ≡ b → Feeds all (variable_named vs x) (Constant (constant ps vs x)) → Feeds all (variable_named vs x) (Constant (if b then p.value else constant ps vs x))
  by true e next = subst (λ o. Feeds all o (Constant p.value)) (sym (ap (variable_named vs) (sym (same_name p.name x e)) ∙ h.0.found)) h.0.lies
  by false e next = next

-- ---- along data connections

own_same : (i j : Option Name) → is_own i j ≡ true → i ≡ j
own_same None None h = refl
own_same None (Some n) h = cc
own_same (Some m) None h = cc
own_same (Some m) (Some n) h = ap (λ (x : Name). Some x) (same_name m n h)

module _ (all : List Leaf) (face : Face) (whole : Instances) (to : Name → Name → Source) (outer : Name → Source) where
  abbrev Gives : Type 0
  Gives = (j y : Name) (v : Variable) → in_body outputs_of (body_named whole j) y ≡ Some v → Yields all v.type (to j y)

  abbrev Has : Type 0
  Has = (x : Name) (v : Variable) → variable_named face.inputs x ≡ Some v → Yields all v.type (outer x)

  at_source : Gives → Has → (j : Option Name) (y : Name) (v : Variable) → end_variable face.inputs outputs_of whole j y ≡ Some v → Yields all v.type (elim j [ None ↦ outer y | Some j ↦ to j y ])
  at_source g h None y v e = h y v e
  at_source g h (Some j) y v e = g j y v e

  fed_feeds : Gives → Has → (cs : List Connection) → AllByRecursion (IsValueLink face whole) cs → (i : Option Name) (x : Name) (other : Source)
      → Feeds all (end_variable face.outputs inputs_of whole i x) other → Feeds all (end_variable face.outputs inputs_of whole i x) (fed cs i x to outer other)
  fed_feeds g h [] l i x other o = o
  fed_feeds g h (c ∷ cs) l i x other o = by (is_end i x c.target) refl (fed_feeds g h cs l.1 i x other o) where
    by : (b : Bool) → is_end i x c.target ≡ b → Feeds all (end_variable face.outputs inputs_of whole i x) (fed cs i x to outer other)
        → Feeds all (end_variable face.outputs inputs_of whole i x) (if b then (elim c.source.instance [ None ↦ outer c.source.port | Some j ↦ to j c.source.port ]) else fed cs i x to outer other)
    by true e next =
        let k = both (is_own i c.target.instance) (bytes_eq x c.target.port) e in
        let same : end_variable face.outputs inputs_of whole i x ≡ Some l.0.taken = ap₂ (λ (i : Option Name) (x : Name). end_variable face.outputs inputs_of whole i x) (own_same i c.target.instance k.0) (same_name x c.target.port k.1) ∙ l.0.target in
        subst (λ o. Feeds all o (elim c.source.instance [ None ↦ outer c.source.port | Some j ↦ to j c.source.port ])) (sym same)
        (yields_wider all l.0.given.type l.0.taken.type (elim c.source.instance [ None ↦ outer c.source.port | Some j ↦ to j c.source.port ]) l.0.wider (at_source g h c.source.instance c.source.port l.0.given l.0.source))
    by false e next = next

feeds_yields : (all : List Leaf) (o : Option Variable) (v : Variable) (s : Source) → o ≡ Some v → Feeds all o s → Yields all v.type s
feeds_yields all o v s e h = subst (λ o. Feeds all o s) e h

same_wider : (a : ElemType) → IsWider a a
same_wider a = (≤ℤ_refl (lowest a), ≤ℤ_refl (highest a))

-- ---- what outputs hold

mutual
  given_of : (all : List Leaf) (body : Body) (home : ℕ) (path : Path) (targets : Name → List Place) (source : Name → Source) → IsWellMade body → AreFound all (leaves_of body home path targets source)
      → (y : Name) (v : Variable) → variable_named (outputs_of body) y ≡ Some v → Yields all v.type (given_by body path y)
  given_of all (Basic block) home path targets source m f y v e = record { leaf = record { home = home; path = path; kind = Charted block; targets = targets; source = source }; found = f.0; variable = v; is = e; wider = same_wider v.type }
  given_of all (Served service) home path targets source m f y v e = record { leaf = record { home = home; path = path; kind = Serviced service; targets = targets; source = source }; found = f.0; variable = v; is = e; wider = same_wider v.type }
  given_of all (Composite face inner events values) home path targets source m f y v e =
      feeds_yields all (variable_named face.outputs y) v _ e
      (fed_feeds all face inner (given_in inner path) (λ i. Constant (constant [] face.inputs i))
      (given_of_in all inner home path (λ j port. followed events (Some j) port (entered_in inner path) targets) (λ j port other. fed values (Some j) port (given_in inner path) source other) m.0 f)
      (λ x w g. feeds_yields all (variable_named face.inputs x) w (Constant (start_in face.inputs x)) g (start_feeds all face.inputs x m.1.inputs_start)) values m.1.value_links None y (Constant (constant [] face.outputs y)) (start_feeds all face.outputs y m.1.outputs_start))

  given_of_in : (all : List Leaf) (inner : Instances) (home : ℕ) (path : Path) (targets : Name → Name → List Place) (source : Name → Name → Source → Source) → AreWellMade inner → AreFound all (leaves_in inner home path targets source)
      → (j y : Name) (v : Variable) → in_body outputs_of (body_named inner j) y ≡ Some v → Yields all v.type (given_in inner path j y)
  given_of_in all nothing home path targets source m f j y v e = absurd cc
  given_of_in all (instance name parameters body rest) home path targets source m f j y v e =
      by (bytes_eq name j) (subst (λ b. in_body outputs_of (if b then Some body else body_named rest j) y ≡ Some v) (eq_turned j name) e)
      (λ h. given_of all body home (path ++ name ∷ []) (targets name) (λ port. source name port (Constant (constant parameters (inputs_of body) port))) m.0 (all_left _ _ (leaves_in rest home path targets source) f) y v h)
      (λ h. given_of_in all rest home path targets source m.2 (all_right _ (leaves_of body home (path ++ name ∷ []) (targets name) (λ port. source name port (Constant (constant parameters (inputs_of body) port)))) _ f) j y v h) where
        by : (b : Bool) → in_body outputs_of (if b then Some body else body_named rest j) y ≡ Some v
            → (variable_named (outputs_of body) y ≡ Some v → Yields all v.type (given_by body (path ++ name ∷ []) y))
            → (in_body outputs_of (body_named rest j) y ≡ Some v → Yields all v.type (given_in rest path j y))
            → Yields all v.type (if b then given_by body (path ++ name ∷ []) y else given_in rest path j y)
        by true h here there = here h
        by false h here there = there h

-- ---- bodies

-- each instance is the first one of its name in a network
abbrev AreNamed : Instances → Instances → Type 0
AreNamed whole nothing = Unit {0}
AreNamed whole (instance name parameters body rest) = (body_named whole name ≡ Some body) × AreNamed whole rest

named_behind : (name : Name) (parameters : List Parameter) (body : Body) (whole inner : Instances) → AllByRecursion (λ m. bytes_eq name m ≡ false) (instance_names inner) → AreNamed whole inner → AreNamed (instance name parameters body whole) inner
named_behind name parameters body whole nothing a n = tt
named_behind name parameters body whole (instance m ps here rest) a n = (ap (λ b. if b then Some body else body_named whole m) (eq_sym name m false a.0) ∙ n.0, named_behind name parameters body whole rest a.1 n.1)

each_named : (inner : Instances) → Apart (instance_names inner) → AreNamed inner inner
each_named nothing a = tt
each_named (instance name parameters body rest) a = (ap (λ b. if b then Some body else body_named rest name) (name_same name), named_behind name parameters body rest rest a.0 (each_named rest a.1))

inputs_made : (body : Body) → IsWellMade body → StartsFit (inputs_of body)
inputs_made (Basic block) m = m.inputs_start
inputs_made (Served service) m = inputs_start service
inputs_made (Composite face inner events values) m = m.1.inputs_start

-- what an input of an instance takes fits, where what it takes without a connection does
abbrev Feeding : List Leaf → Instances → (Name → Name → Source → Source) → Type 0
Feeding all whole source = (j x : Name) (other : Source) → Feeds all (in_body inputs_of (body_named whole j) x) other → Feeds all (in_body inputs_of (body_named whole j) x) (source j x other)

mutual
  fed_of : (all : List Leaf) → (body : Body) (home : ℕ) (path : Path) (targets : Name → List Place) (source : Name → Source) → IsWellMade body → AreFound all (leaves_of body home path targets source)
      → ((x : Name) → Feeds all (variable_named (inputs_of body) x) (source x)) → AllByRecursion (IsFed all) (leaves_of body home path targets source)
  fed_of all (Basic block) home path targets source m f h = (record { good = m; feeds = h }, tt)
  fed_of all (Served service) home path targets source m f h = (record { good = service_good service; feeds = h }, tt)
  fed_of all (Composite face inner events values) home path targets source m f h =
      let given = given_of_in all inner home path (λ j port. followed events (Some j) port (entered_in inner path) targets) (λ j port other. fed values (Some j) port (given_in inner path) source other) m.0 f in
      fed_in_net all inner inner home path (λ j port. followed events (Some j) port (entered_in inner path) targets) (λ j port other. fed values (Some j) port (given_in inner path) source other) m.0 f (each_named inner m.1.apart)
      (λ j x other o. fed_feeds all face inner (given_in inner path) source given (λ y v e. feeds_yields all (variable_named face.inputs y) v (source y) e (h y)) values m.1.value_links (Some j) x other o)

  fed_in_net : (all : List Leaf) → (whole inner : Instances) (home : ℕ) (path : Path) (targets : Name → Name → List Place) (source : Name → Name → Source → Source) → AreWellMade inner → AreFound all (leaves_in inner home path targets source)
      → AreNamed whole inner → Feeding all whole source → AllByRecursion (IsFed all) (leaves_in inner home path targets source)
  fed_in_net all whole nothing home path targets source m f n h = tt
  fed_in_net all whole (instance name parameters body rest) home path targets source m f n h =
      all_append (IsFed all) _ _
      (fed_of all body home (path ++ name ∷ []) (targets name) (λ port. source name port (Constant (constant parameters (inputs_of body) port))) m.0 (all_left _ _ (leaves_in rest home path targets source) f)
      (λ x. subst (λ o. Feeds all (in_body inputs_of o x) (source name x (Constant (constant parameters (inputs_of body) x)))) n.0
      (h name x (Constant (constant parameters (inputs_of body) x)) (subst (λ o. Feeds all (in_body inputs_of o x) (Constant (constant parameters (inputs_of body) x))) (sym n.0) (constant_feeds all (inputs_of body) parameters x (inputs_made body m.0) m.1)))))
      (fed_in_net all whole rest home path targets source m.2 (all_right _ (leaves_of body home (path ++ name ∷ []) (targets name) (λ port. source name port (Constant (constant parameters (inputs_of body) port)))) _ f) n.1 h)

-- ---- devices

fed_from : (all : List Leaf) → (n : ℕ) (path : Path) (rs : List Resource) → AllByRecursion IsWellResource rs → AreFound all (leaves_from n path rs) → AllByRecursion (IsFed all) (leaves_from n path rs)
fed_from all n path [] m f = tt
fed_from all n path (r ∷ rs) m f =
    all_append (IsFed all) _ _ (fed_of all (resource_body r) n (path ++ r.name ∷ []) (λ o. []) (λ i. Constant (One (pos 0))) m.0 (all_left _ (resource_leaves n path r) (leaves_from (n + 1) path rs) f) (λ x. refl))
    (fed_from all (n + 1) path rs m.1 (all_right _ (resource_leaves n path r) (leaves_from (n + 1) path rs) f))

device_fed : (d : Device) → IsWellDevice d → AllByRecursion (IsFed (leaves d)) (leaves d)
device_fed d m = fed_from (leaves d) 0 (d.name ∷ []) d.resources m.resources (all_found (leaves d) (device_apart d m))

pub all_fed : (library : List BlockTree) (source : SourceTree) (system : System) → ElaboratesWith library source system → AllByRecursion (λ (d : Device). AllByRecursion (IsFed (leaves d)) (leaves d)) system.devices
all_fed library source system e = all_weaker IsWellDevice (λ (d : Device). AllByRecursion (IsFed (leaves d)) (leaves d)) system.devices device_fed (devices_made library source system e)
