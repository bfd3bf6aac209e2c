-- Instances, resources and devices behind paths that are not told apart above the limit.
use Rattle.std.proofs.Common.{◌≡◌, ℕ, suc, ◌+◌, ◌<◌, ◌≤◌, List, map, length, Option, MatchOption, sym, ap, subst, ◌∙◌, arith, rules, string_bytes, Global}
use Rattle.std.specs.declared.rc.Rc.{Rc}
use Rattle.fb_model.specs.Names.{Name}
use Rattle.fb_model.specs.System as book
use Rattle.fb_types_blocks.specs.declared.typed.Block.{Block}
use Rattle.fb_types_blocks.specs.declared.typed.Face.{Face}
use Rattle.fb_types_blocks.specs.Views.{block_of, face_of}
use Rattle.fb_types_services.specs.declared.service.Service.{Service}
use Rattle.fb_types_services.specs.Views.{service_of}
use Rattle.fb_types_networks.specs.declared.typed.Body as raw
use Rattle.fb_types_networks.specs.declared.typed.Body.{the_lemmas}
use Rattle.fb_types_networks.specs.declared.typed.Instance.{Instance}
use Rattle.fb_types_networks.specs.declared.typed.Network.{Network, out-Network}
use Rattle.fb_types_networks.specs.Views.{instances_of, body_of, placed_of, wired_of}
use Rattle.fb_model.specs.NetworkFaults.{placed_in}
use Rattle.fb_types_networks.proofs.Instances.{view_instance, view_network}
use Rattle.fb_types.specs.declared.typed.Resource.{Resource}
use Rattle.fb_types.specs.declared.typed.Device.{Device}
use Rattle.fb_types.specs.Views.{resource_of, device_of}
use Rattle.fb_find_length.specs.Counting.{AreAlike, body_length, inner_length, placed_length, resource_length, resources_length, device_length}
use Rattle.fb_find_length.proofs.Counting.{alike_body, alike_inner, alike_resources, spent_alike}

-- ---- bodies

pub view_basic : (k : Rc Block Global) → body_of (raw.Basic k) ≡ book.Basic (block_of k.value)
view_basic k = search (rules, the_lemmas)

pub view_served : (s : Service) → body_of (raw.Served s) ≡ book.Served (service_of s)
view_served s = search (rules, the_lemmas)

view_composite : (f : Rc Face Global) (n : Rc Network Global) → body_of (raw.Composite f n) ≡ book.Composite (face_of f.value) (placed_in ((wired_of n.value).0)) ((wired_of n.value).1) ((wired_of n.value).2)
view_composite f n = search (rules, the_lemmas)

inner_is : (n : Network) (is : List Instance) → is ≡ (out-Network n).instances.items → placed_in ((wired_of n).0) ≡ instances_of is
inner_is n is e = ap (λ w. placed_in (w.0)) (view_network n) ∙ ap instances_of (sym e)

-- a composite's rows are those of what is in it
pub composite_length : (repeats : Option ℕ) (n : ℕ) (f : Rc Face Global) (network : Rc Network Global) (is : List Instance) → is ≡ (out-Network network.value).instances.items → body_length repeats n (body_of (raw.Composite f network)) ≡ inner_length repeats n (instances_of is)
composite_length repeats n f network is e = ap (body_length repeats n) (view_composite f network) ∙ ap (inner_length repeats n) (inner_is network.value is e)

-- ---- what is spent behind a longer path

pub spent_placed : (left path longer : ℕ) (text : Name) (repeats : Option ℕ) (i : Instance) (body : raw.Body) (x : ℕ) (r : Option ℕ)
    → left ≤ 16777216 → AreAlike longer (path + suc (length text)) → text ≡ string_bytes i.name → i.body ≡ body → body_length repeats longer (body_of body) ≡ x
    → MatchOption r (left < x) (λ rest. rest + x ≡ left)
    → MatchOption r (left < placed_length repeats path (placed_of i)) (λ rest. rest + placed_length repeats path (placed_of i) ≡ left)
spent_placed left path longer text repeats i body x r small alike named inside counted h =
    let m = path + suc (length text) in
    let whole : body_length repeats m (body_of body) ≡ placed_length repeats path (placed_of i) =
    ap (λ (b : raw.Body). body_length repeats m (body_of b)) (sym inside) ∙ ap (λ (n : Name). body_length repeats (path + suc (length n)) (body_of i.body)) named ∙ ap (placed_length repeats path) (sym (view_instance i)) in
    subst (λ z. MatchOption r (left < z) (λ rest. rest + z ≡ left)) whole
    (spent_alike left (body_length repeats longer (body_of body)) (body_length repeats m (body_of body)) r small (alike_body repeats longer m (body_of body) alike) (subst (λ z. MatchOption r (left < z) (λ rest. rest + z ≡ left)) (sym counted) h))

pub spent_resource : (left path longer : ℕ) (text : Name) (repeats : Option ℕ) (s : Resource) (is : List Instance) (r : Option ℕ)
    → left ≤ 16777216 → AreAlike longer (path + suc (length text)) → text ≡ string_bytes s.name → is ≡ (out-Network s.network).instances.items
    → MatchOption r (left < inner_length repeats longer (instances_of is)) (λ rest. rest + inner_length repeats longer (instances_of is) ≡ left)
    → MatchOption r (left < resource_length repeats path (resource_of s)) (λ rest. rest + resource_length repeats path (resource_of s) ≡ left)
spent_resource left path longer text repeats s is r small alike named inside h =
    let m = path + suc (length text) in
    let whole : inner_length repeats m (instances_of is) ≡ resource_length repeats path (resource_of s) =
    ap (inner_length repeats m) (sym (inner_is s.network is inside)) ∙ ap (λ (n : Name). inner_length repeats (path + suc (length n)) (placed_in ((wired_of s.network).0))) named in
    subst (λ z. MatchOption r (left < z) (λ rest. rest + z ≡ left)) whole
    (spent_alike left (inner_length repeats longer (instances_of is)) (inner_length repeats m (instances_of is)) r small (alike_inner repeats longer m (instances_of is) alike) h)

pub spent_device : (left longer : ℕ) (text : Name) (repeats : Option ℕ) (d : Device) (rs : List Resource) (r : Option ℕ)
    → left ≤ 16777216 → AreAlike longer (0 + suc (length text)) → text ≡ string_bytes d.name → rs ≡ d.resources.items
    → MatchOption r (left < resources_length repeats longer (map resource_of rs)) (λ rest. rest + resources_length repeats longer (map resource_of rs) ≡ left)
    → MatchOption r (left < device_length repeats (device_of d)) (λ rest. rest + device_length repeats (device_of d) ≡ left)
spent_device left longer text repeats d rs r small alike named inside h =
    let m = 0 + suc (length text) in
    let none : m ≡ suc (length text) = omega arith in
    let whole : resources_length repeats m (map resource_of rs) ≡ device_length repeats (device_of d) =
    ap (λ n. resources_length repeats n (map resource_of rs)) none ∙ ap (λ (n : Name). resources_length repeats (suc (length n)) (map resource_of rs)) named ∙ ap (λ (l : List Resource). resources_length repeats (suc (length (string_bytes d.name))) (map resource_of l)) inside in
    subst (λ z. MatchOption r (left < z) (λ rest. rest + z ≡ left)) whole
    (spent_alike left (resources_length repeats longer (map resource_of rs)) (resources_length repeats m (map resource_of rs)) r small (alike_resources repeats longer m (map resource_of rs) alike) h)
