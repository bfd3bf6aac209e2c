-- Services of well typed systems have few values, so all data inputs are written.
use Rattle.std.proofs.Common.{◌≡◌, ℕ, ◌+◌, ◌≤◌, List, [], ◌∷◌, ◌++◌, length, Some, refl, ap, arith}
use Rattle.std.specs.List.{AllByRecursion}
use Rattle.std.proofs.lemmas.Bool.{le-ltb}
use Rattle.std.specs.Prelude.{if◌then◌else◌}
use Rattle.fb_model.specs.Names.{Name, Path, Place}
use Rattle.fb_model.specs.Declarations.{BlockTree, InstanceTree, ResourceTree, DeviceTree, SourceTree}
use Rattle.fb_model.specs.System.{Service, Parameter, Body, Basic, Served, Composite, Instances, nothing, instance, Resource, Device, System, constant}
use Rattle.fb_model.specs.Services.{service_inputs}
use Rattle.fb_model.specs.Store.{variable_names, inputs}
use Rattle.fb_model.specs.Wires.{Kind, Charted, Serviced, Leaf, Source, Constant, followed, entered_in, fed, given_in, inputs_of, leaves_of, leaves_in, resource_leaves, leaves_from, leaves}
use Rattle.fb_model.specs.NetworkTyping.{most_types, IsService, an_input, an_output, a_publisher, a_subscriber, a_delay, a_cycle, a_restart, IsServed, a_service, IsMade, a_basic, a_composite, IsInstance, of_type, of_service, AreInstances, no_instance, an_instance, AreResources, no_resource, a_resource, AreDevices, no_device, a_device, ElaboratesWith}
use Rattle.fb_model.proofs.Lists.{all_append, all_weaker}
use Rattle.fb_types_services.specs.Views.{values_of}
use Rattle.fb_flat.specs.Sources.{written_inputs}

-- ---- one service

abbrev IsSmall : Service → Type 0
IsSmall s = length (values_of s) ≤ most_types

small : (i : InstanceTree) (s : Service) → IsService i s → IsSmall s
small i s (an_input _ few _) = few
small i s (an_output _ few _) = few
small i s (a_publisher _ few _ _) = few
small i s (a_subscriber _ few _ _) = few
small i s (a_delay _ _) = omega arith
small i s (a_cycle _ _) = omega arith
small i s (a_restart _ _) = omega arith

-- so is a leaf where its service is
abbrev pub IsSmallKind : Kind → Type 0
IsSmallKind (Charted block) = Unit {0}
IsSmallKind (Serviced service) = length (values_of service) ≤ most_types

abbrev IsSmallLeaf : Leaf → Type 0
IsSmallLeaf leaf = IsSmallKind leaf.kind

-- ---- bodies

-- each service in it is small
abbrev mutual
  IsSmallBody : Body → Type 0
  IsSmallBody (Basic block) = Unit {0}
  IsSmallBody (Served service) = IsSmall service
  IsSmallBody (Composite face inner events values) = AreSmall inner

  AreSmall : Instances → Type 0
  AreSmall nothing = Unit {0}
  AreSmall (instance name parameters body rest) = IsSmallBody body × AreSmall rest

mutual
  body_small : (bs : List BlockTree) (n : ℕ) (b : BlockTree) (body : Body) → IsMade bs n b body → IsSmallBody body
  body_small bs n b body (a_basic e h) = tt
  body_small bs n b body (a_composite {d = d} {n = net} {inner = inner} e face names instances events values) = all_small bs d net.instances inner instances

  one_small : (bs : List BlockTree) (n : ℕ) (i : InstanceTree) (qs : List Parameter) (body : Body) → IsInstance bs n i qs body → IsSmallBody body
  one_small bs n i qs body (of_type {b = b} _ found _ m ps) = body_small bs n b body m
  one_small bs n i qs body (of_service {s = s} h) = served s h where
    served : (s : Service) → IsServed i s qs → IsSmall s
    served s (a_service is ps) = small i s is

  all_small : (bs : List BlockTree) (n : ℕ) (is : List InstanceTree) (inner : Instances) → AreInstances bs n is inner → AreSmall inner
  all_small bs n is inner no_instance = tt
  all_small bs n is inner (an_instance {i = i} {is = js} {qs = qs} {body = body} {rest = rest} h more) = (one_small bs n i qs body h, all_small bs n js rest more)

-- ---- leaves

mutual
  leaves_small : (body : Body) (home : ℕ) (path : Path) (targets : Name → List Place) (source : Name → Source) → IsSmallBody body → AllByRecursion IsSmallLeaf (leaves_of body home path targets source)
  leaves_small (Basic block) home path targets source h = (tt, tt)
  leaves_small (Served service) home path targets source h = (h, tt)
  leaves_small (Composite face inner events values) home path targets source h =
      leaves_small_in inner home path (λ j port. followed events (Some j) port (entered_in inner path) targets) (λ j port other. fed values (Some j) port (given_in inner path) source other) h

  leaves_small_in : (inner : Instances) (home : ℕ) (path : Path) (targets : Name → Name → List Place) (source : Name → Name → Source → Source) → AreSmall inner → AllByRecursion IsSmallLeaf (leaves_in inner home path targets source)
  leaves_small_in nothing home path targets source h = tt
  leaves_small_in (instance name parameters body rest) home path targets source h =
      all_append IsSmallLeaf _ _
      (leaves_small body home (path ++ name ∷ []) (targets name) (λ port. source name port (Constant (constant parameters (inputs_of body) port))) h.0)
      (leaves_small_in rest home path targets source h.1)

-- ---- devices

resources_small : (bs : List BlockTree) (rs : List ResourceTree) (qs : List Resource) → AreResources bs rs qs → AllByRecursion (λ (q : Resource). AreSmall q.inner) qs
resources_small bs rs qs no_resource = tt
resources_small bs rs qs (a_resource {r = r} {rs = ts} {q = q} {qs = others} h more) = (all_small bs _ r.network.instances q.inner h.instances, resources_small bs ts others more)

small_from : (n : ℕ) (path : Path) (rs : List Resource) → AllByRecursion (λ (r : Resource). AreSmall r.inner) rs → AllByRecursion IsSmallLeaf (leaves_from n path rs)
small_from n path [] h = tt
small_from n path (r ∷ rs) h = all_append IsSmallLeaf (resource_leaves n path r) (leaves_from (n + 1) path rs) (leaves_small_in r.inner n (path ++ r.name ∷ []) _ _ h.0) (small_from (n + 1) path rs h.1)

devices_small : (bs : List BlockTree) (ds : List DeviceTree) (es : List Device) → AreDevices bs ds es → AllByRecursion (λ (e : Device). AllByRecursion IsSmallLeaf (leaves e)) es
devices_small bs ds es no_device = tt
devices_small bs ds es (a_device {d = d} {ds = others} {e = e} {es = rest} h more) = (small_from 0 (e.name ∷ []) e.resources (resources_small bs d.resources e.resources h.resources), devices_small bs others rest more)

pub services_small : (library : List BlockTree) (source : SourceTree) (system : System) → ElaboratesWith library source system → AllByRecursion (λ (d : Device). AllByRecursion (λ (leaf : Leaf). IsSmallKind leaf.kind) (leaves d)) system.devices
services_small library source system h = devices_small (source.blocks ++ library) source.system.devices system.devices h.devices

-- ---- data inputs

abbrev IsWritten : Leaf → Type 0
IsWritten leaf = written_inputs leaf.kind ≡ variable_names (inputs leaf.kind)

kind_written : (k : Kind) → IsSmallKind k → written_inputs k ≡ variable_names (inputs k)
kind_written (Charted block) h = refl
kind_written (Serviced s) h = ap (λ b. if b then [] else variable_names (service_inputs s)) (le-ltb 99 (length (values_of s)) (omega (arith, h)))

pub inputs_written : (library : List BlockTree) (source : SourceTree) (system : System) → ElaboratesWith library source system
    → AllByRecursion (λ (d : Device). AllByRecursion (λ (leaf : Leaf). written_inputs leaf.kind ≡ variable_names (inputs leaf.kind)) (leaves d)) system.devices
inputs_written library source system h =
    all_weaker (λ (d : Device). AllByRecursion IsSmallLeaf (leaves d)) (λ (d : Device). AllByRecursion IsWritten (leaves d)) system.devices
    (λ d k. all_weaker IsSmallLeaf IsWritten (leaves d) (λ leaf. kind_written leaf.kind) k) (services_small library source system h)
