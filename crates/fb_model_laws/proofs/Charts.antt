-- What holds of every well typed basic block and of every service holds of the leaves of a well typed system.
use Rattle.std.proofs.Common.{ℕ, ◌+◌, List, [], ◌∷◌, ◌++◌, Some}
use Rattle.std.specs.List.{AllByRecursion}
use Rattle.fb_model.specs.Names.{Name, Path, Place}
use Rattle.fb_model.specs.Declarations.{InstanceTree, ChartTree, BlockTree, ResourceTree, DeviceTree, SourceTree}
use Rattle.fb_model.specs.System.{Service, Parameter, Block, Body, Basic, Served, Composite, Instances, nothing, instance, Resource, Device, System, constant}
use Rattle.fb_model.specs.BlockTyping.{IsBasic}
use Rattle.fb_model.specs.NetworkTyping.{IsMade, a_basic, a_composite, IsServed, IsInstance, of_type, of_service, AreInstances, no_instance, an_instance, AreResources, no_resource, a_resource, AreDevices, no_device, a_device, ElaboratesWith}
use Rattle.fb_model.specs.Wires.{Kind, Charted, Serviced, Leaf, Source, Constant, followed, entered_in, fed, given_in, inputs_of, leaves_of, leaves_in, resource_leaves, leaves_from, leaves}
use Rattle.fb_model.proofs.Lists.{all_append}
use Rattle.fb_model_laws.specs.Leaves.{OnChart}

-- each chart and each service in a body
abbrev mutual
  OnBody : (Kind → Type 0) → Body → Type 0
  OnBody P (Basic block) = P (Charted block)
  OnBody P (Served service) = P (Serviced service)
  OnBody P (Composite face inner events values) = OnInstances P inner

  OnInstances : (Kind → Type 0) → Instances → Type 0
  OnInstances P nothing = Unit {0}
  OnInstances P (instance name parameters body rest) = OnBody P body × OnInstances P rest

abbrev OnLeaf : (Kind → Type 0) → Leaf → Type 0
OnLeaf P leaf = P leaf.kind

module _ (P : Kind → Type 0) (basic : (b : BlockTree) (c : ChartTree) (k : Block) → IsBasic b c k → P (Charted k)) (service : (i : InstanceTree) (s : Service) (qs : List Parameter) → IsServed i s qs → P (Serviced s)) where
  -- ---- bodies

  mutual
    on_body : (bs : List BlockTree) (n : ℕ) (b : BlockTree) (body : Body) → IsMade bs n b body → OnBody P body
    on_body bs n b body (a_basic {c = c} {k = k} e h) = basic b c k h
    on_body bs n b body (a_composite {d = d} {n = net} {inner = inner} e face names instances events values) = on_instances bs d net.instances inner instances

    on_instance : (bs : List BlockTree) (n : ℕ) (i : InstanceTree) (qs : List Parameter) (body : Body) → IsInstance bs n i qs body → OnBody P body
    on_instance bs n i qs body (of_type {b = b} _ found _ m ps) = on_body bs n b body m
    on_instance bs n i qs body (of_service {s = s} h) = service i s qs h

    on_instances : (bs : List BlockTree) (n : ℕ) (is : List InstanceTree) (inner : Instances) → AreInstances bs n is inner → OnInstances P inner
    on_instances bs n is inner no_instance = tt
    on_instances bs n is inner (an_instance {i = i} {is = js} {qs = qs} {body = body} {rest = rest} h more) = (on_instance bs n i qs body h, on_instances bs n js rest more)

  -- ---- leaves

  mutual
    on_leaves : (body : Body) (home : ℕ) (path : Path) (targets : Name → List Place) (source : Name → Source) → OnBody P body → AllByRecursion (OnLeaf P) (leaves_of body home path targets source)
    on_leaves (Basic block) home path targets source h = (h, tt)
    on_leaves (Served s) home path targets source h = (h, tt)
    on_leaves (Composite face inner events values) home path targets source h =
        on_leaves_in inner home path (λ j port. followed events (Some j) port (entered_in inner path) targets) (λ j port other. fed values (Some j) port (given_in inner path) source other) h

    on_leaves_in : (inner : Instances) (home : ℕ) (path : Path) (targets : Name → Name → List Place) (source : Name → Name → Source → Source) → OnInstances P inner → AllByRecursion (OnLeaf P) (leaves_in inner home path targets source)
    on_leaves_in nothing home path targets source h = tt
    on_leaves_in (instance name parameters body rest) home path targets source h =
        all_append (OnLeaf P) _ _
        (on_leaves body home (path ++ name ∷ []) (targets name) (λ port. source name port (Constant (constant parameters (inputs_of body) port))) h.0)
        (on_leaves_in rest home path targets source h.1)

  -- ---- devices

  on_resources : (bs : List BlockTree) (rs : List ResourceTree) (qs : List Resource) → AreResources bs rs qs → AllByRecursion (λ (q : Resource). OnInstances P q.inner) qs
  on_resources bs rs qs no_resource = tt
  on_resources bs rs qs (a_resource {r = r} {rs = ts} {q = q} {qs = others} h more) = (on_instances bs _ r.network.instances q.inner h.instances, on_resources bs ts others more)

  on_leaves_from : (n : ℕ) (path : Path) (rs : List Resource) → AllByRecursion (λ (r : Resource). OnInstances P r.inner) rs → AllByRecursion (OnLeaf P) (leaves_from n path rs)
  on_leaves_from n path [] h = tt
  on_leaves_from n path (r ∷ rs) h = all_append (OnLeaf P) (resource_leaves n path r) (leaves_from (n + 1) path rs) (on_leaves_in r.inner n (path ++ r.name ∷ []) _ _ h.0) (on_leaves_from (n + 1) path rs h.1)

  on_devices : (bs : List BlockTree) (ds : List DeviceTree) (es : List Device) → AreDevices bs ds es → AllByRecursion (λ (e : Device). AllByRecursion (OnLeaf P) (leaves e)) es
  on_devices bs ds es no_device = tt
  on_devices bs ds es (a_device {d = d} {ds = others} {e = e} {es = rest} h more) = (on_leaves_from 0 (e.name ∷ []) e.resources (on_resources bs d.resources e.resources h.resources), on_devices bs others rest more)

  pub on_kinds : (library : List BlockTree) (source : SourceTree) (system : System) → ElaboratesWith library source system → AllByRecursion (λ (d : Device). AllByRecursion (λ (leaf : Leaf). P leaf.kind) (leaves d)) system.devices
  on_kinds library source system h = on_devices (source.blocks ++ library) source.system.devices system.devices h.devices

-- of charts alone
pub on_charts : (P : Block → Type 0) → ((b : BlockTree) (c : ChartTree) (k : Block) → IsBasic b c k → P k) → (library : List BlockTree) (source : SourceTree) (system : System) → ElaboratesWith library source system
    → AllByRecursion (λ (d : Device). AllByRecursion (λ (leaf : Leaf). OnChart P leaf.kind) (leaves d)) system.devices
on_charts P basic library source system h = on_kinds (OnChart P) basic (λ i s qs served. tt) library source system h
