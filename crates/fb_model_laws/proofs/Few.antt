-- A device has few resources, and few leaves in each.
use Rattle.std.proofs.Common.{◌≡◌, ◌≤◌, ℕ, suc, ◌+◌, ◌*◌, refl, ap, pos, Some, List, [], ◌∷◌, ◌++◌, length, length-append, arith}
use Rattle.std.specs.List.{AllByRecursion}
use Rattle.fb_model.specs.Names.{Name, Path, Place}
use Rattle.fb_model.specs.Values.{One}
use Rattle.fb_model.specs.Declarations.{BlockTree, ResourceTree, DeviceTree, SourceTree}
use Rattle.fb_model.specs.System.{Body, Basic, Served, Composite, Instances, nothing, instance, Resource, Device, System, constant}
use Rattle.fb_model.specs.NetworkTyping.{inner_count, instance_count, AreResources, no_resource, a_resource, IsDevice, AreDevices, no_device, a_device, ElaboratesWith}
use Rattle.fb_model.specs.Wires.{Source, Constant, followed, entered_in, fed, given_in, inputs_of, leaves_of, leaves_in, resource_leaves, leaves_from, leaves}

sum_few : (all a b m n : ℕ) → all ≡ a + b → a ≤ suc m → b ≤ n → all ≤ suc m + n
sum_few all a b m n e g h = omega (arith, e, g, h)

mutual
  body_few : (body : Body) (home : ℕ) (path : Path) (targets : Name → List Place) (source : Name → Source) → length (leaves_of body home path targets source) ≤ suc (inner_count body)
  body_few (Basic block) home path targets source = omega arith
  body_few (Served service) home path targets source = omega arith
  body_few (Composite face inner events values) home path targets source =
      let h = inner_few inner home path (λ j port. followed events (Some j) port (entered_in inner path) targets) (λ j port other. fed values (Some j) port (given_in inner path) source other) in
      omega (arith, h)

  inner_few : (inner : Instances) (home : ℕ) (path : Path) (targets : Name → Name → List Place) (source : Name → Name → Source → Source) → length (leaves_in inner home path targets source) ≤ instance_count inner
  inner_few nothing home path targets source = omega arith
  inner_few (instance name parameters body rest) home path targets source =
      let here = leaves_of body home (path ++ name ∷ []) (targets name) (λ port. source name port (Constant (constant parameters (inputs_of body) port))) in
      let behind = leaves_in rest home path targets source in
      sum_few (length (here ++ behind)) (length here) (length behind) (inner_count body) (instance_count rest) (length-append here behind)
      (body_few body home (path ++ name ∷ []) (targets name) (λ port. source name port (Constant (constant parameters (inputs_of body) port)))) (inner_few rest home path targets source)

as_many : (bs : List BlockTree) (rs : List ResourceTree) (qs : List Resource) → AreResources bs rs qs → length rs ≡ length qs
as_many bs rs qs no_resource = refl
as_many bs rs qs (a_resource {rs = ts} {qs = others} h more) = ap suc (as_many bs ts others more)

-- 1,024 for each resource
resources_few : (bs : List BlockTree) (rs : List ResourceTree) (qs : List Resource) (n : ℕ) (path : Path) → AreResources bs rs qs → length (leaves_from n path qs) ≤ 1024 * length qs
resources_few bs rs qs n path no_resource = omega arith
resources_few bs rs qs n path (a_resource {rs = ts} {q = q} {qs = others} h more) =
    let here = resource_leaves n path q in
    let behind = leaves_from (n + 1) path others in
    let first =
    inner_few q.inner n (path ++ q.name ∷ []) (λ j port. followed q.events (Some j) port (entered_in q.inner (path ++ q.name ∷ [])) (λ o. []))
    (λ j port other. fed q.values (Some j) port (given_in q.inner (path ++ q.name ∷ [])) (λ i. Constant (One (pos 0))) other) in
    omega (arith, length-append here behind, first, h.few, resources_few bs ts others (n + 1) path more)

device_few : (bs : List BlockTree) (d : DeviceTree) (e : Device) → IsDevice bs d e → (length (leaves e) ≤ 16384) × (length e.resources ≤ 16)
device_few bs d e h =
    let many = as_many bs d.resources e.resources h.resources in
    let all = resources_few bs d.resources e.resources 0 (e.name ∷ []) h.resources in
    (omega (arith, all, many, h.few), omega (arith, many, h.few))

devices_of : (bs : List BlockTree) (ds : List DeviceTree) (es : List Device) → AreDevices bs ds es → AllByRecursion (λ (e : Device). (length (leaves e) ≤ 16384) × (length e.resources ≤ 16)) es
devices_of bs ds es no_device = tt
devices_of bs ds es (a_device {d = d} {ds = others} {e = e} {es = rest} h more) = (device_few bs d e h, devices_of bs others rest more)

pub devices_few : (library : List BlockTree) (source : SourceTree) (system : System) → ElaboratesWith library source system → AllByRecursion (λ (d : Device). (length (leaves d) ≤ 16384) × (length d.resources ≤ 16)) system.devices
devices_few library source system h = devices_of (source.blocks ++ library) source.system.devices system.devices h.devices
