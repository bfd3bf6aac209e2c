-- Resources, devices and systems.
use Rattle.std.proofs.Common.{◌≡◌, ◌⊎◌, inl, inr, ℕ, ◌+◌, ◌<◌, ◌≤◌, length, get_or, take, drop, List, [], ◌∷◌, ◌++◌, map, Some, None, refl, sym, ap, subst, ◌∙◌, append_assoc, string_bytes}
use Rattle.std.proofs.lemmas.List.{append-nil, map_push, map-append}
use Rattle.std.specs.List.{AllByRecursion}
use Rattle.std.specs.Map.{lookup}
use Rattle.std.specs.Str.{bytes_eq}
use Rattle.std.specs.declared.string.String.{String}
use Rattle.std.specs.declared.alloc.Global.{Global}
use Rattle.indexmap.specs.IndexMap.{IndexMap}
use Rattle.fb_model.specs.Names.{Name}
use Rattle.fb_model.specs.Productions.{Word}
use Rattle.fb_model.specs.Declarations.{InstanceTree, NetworkTree, BlockTree, ResourceTree, DeviceTree}
use Rattle.fb_model.specs.System as book
use Rattle.fb_model.specs.Typing.{most_instances}
use Rattle.fb_model.specs.NetworkTyping.{most_deep, IsInstance, AreInstances, no_instance, an_instance, instance_count, no_face, IsResource, AreResources, no_resource, a_resource, IsDevice, AreDevices, no_device, a_device, given_in, AreEventConnections, AreValueConnections, IsProper}
use Rattle.fb_tree.specs.declared.tree.BlockTree.{BlockTree as BlockRow}
use Rattle.fb_tree.specs.declared.tree.ResourceTree.{ResourceTree as ResourceRow}
use Rattle.fb_tree.specs.declared.tree.DeviceTree.{DeviceTree as DeviceRow}
use Rattle.fb_tree.specs.Files as trees_of
use Rattle.fb_faults.specs.declared.typing.TypeFault.{TypeFault}
use Rattle.fb_faults.specs.declared.typing.TypeFault.TheVariants as faults
use Rattle.fb_types_blocks.proofs.Lists.{map_map, mapped_more}
use Rattle.fb_types_networks.specs.declared.typed.Instance.{Instance, out-Instance}
use Rattle.fb_types_networks.specs.declared.typed.Network.{out-Network}
use Rattle.fb_types_networks.specs.Views.{placed_of, instances_of, wired_of}
use Rattle.fb_model.specs.NetworkFaults.{placed_in}
use Rattle.fb_types_networks.specs.Answers.{IsWired, AreNamed}
use Rattle.fb_types.specs.declared.typed.Resource.{Resource}
use Rattle.fb_types.specs.declared.typed.Device.{Device}
use Rattle.fb_types.specs.Uses.{uses_in}
use Rattle.fb_model.specs.Nesting.{Used}
use Rattle.fb_types.specs.Views.{resource_of, resource_offsets, system_offsets, offsets_in, all_offsets, resource_uses, device_uses, system_uses}
use Rattle.fb_types.specs.Counts.{IsCrowded, crowded}
use Rattle.fb_model.specs.Nesting.{AllProvide, ResourcesProvide, by_no_resource, by_each_resource, DevicesProvide, by_no_device, by_each_device}
use Rattle.fb_model.specs.SourceFaults.{IsInstanceFault, IsTooDeep, IsBlockFault, IsFirstFault, IsCrowd}
use Rattle.fb_types.specs.Rings.{Ends}
use Rattle.fb_types.specs.declared.made.Made.{Made}
use Rattle.fb_types.specs.Made.{IsDeeper, IsRing, IsMemo, AreParts, AreMade}
use Rattle.fb_types.proofs.Nested.{among_nil}
use Rattle.fb_types.proofs.Making.{named_parts}
use Rattle.fb_types.proofs.Ringed.{no_ring_below}
use Rattle.fb_types.proofs.Counted as counted

-- ---- refusals

-- a type in which composites nest too deep, by what the search for a ring finds
pub limit_of_type : (bs : List BlockTree) (b : BlockTree) (at : ℕ) → at ≡ b.name.at → IsDeeper bs most_deep b → Ends bs b → IsTooDeep bs b (faults.Limit at)
limit_of_type bs b at e h r = record { n = h.count; more = h.more; nests = h.nests; no_ring = no_ring_below bs b r; fault_is = ap faults.Limit e }

-- the first type that is at fault, behind those that are well typed
pub first_fault : (bs : List BlockTree) (xs : List BlockRow) (i : ℕ) (x : BlockRow) (f : TypeFault) → i < length xs → x ≡ get_or xs i x → AllByRecursion (IsProper bs) (map trees_of.block_of (take i xs)) → IsBlockFault bs (trees_of.block_of x) f
    → IsFirstFault bs (map trees_of.block_of xs) f
first_fault bs xs i x f lt is proper h =
    record {
      before = map trees_of.block_of (take i xs);
      after = map trees_of.block_of (drop (i + 1) xs);
      one = trees_of.block_of x;
      parts = ap (map trees_of.block_of) (counted.parts xs i x lt is) ∙ map-append trees_of.block_of (take i xs) (x ∷ drop (i + 1) xs);
      proper = proper;
      fault = h;
    }

pub no_ring_at_top : (bs : List BlockTree) (i : InstanceTree) (f : TypeFault) → IsInstanceFault bs i f ⊎ IsRing bs [] i f → IsInstanceFault bs i f
no_ring_at_top bs i f (inl h) = h
no_ring_at_top bs i f (inr r) = absurd (among_nil r.among)

-- ---- one instance too many

record First (bs : List BlockTree) (d : ℕ) (is : List InstanceTree) (x : Name) (qs : List book.Parameter) (body : book.Body) (rest : book.Instances) : Type 0 where
  pub one : InstanceTree
  pub others : List InstanceTree
  pub parts : is ≡ one ∷ others
  pub named : x ≡ one.name.text
  pub made : IsInstance bs d one qs body
  pub later : AreInstances bs d others rest

first_made : (bs : List BlockTree) (d : ℕ) (is : List InstanceTree) (x : Name) (qs : List book.Parameter) (body : book.Body) (rest : book.Instances) → AreInstances bs d is (book.instance x qs body rest) → First bs d is x qs body rest
first_made bs d is x qs body rest (an_instance {i = i} {is = js} h t) = record { one = i; others = js; parts = refl; named = refl; made = h; later = t }

record Split (bs : List BlockTree) (d : ℕ) (is : List InstanceTree) (before : List Instance) (x : Instance) : Type 0 where
  pub front : List InstanceTree
  pub back : List InstanceTree
  pub one : InstanceTree
  pub parts : is ≡ front ++ one ∷ back
  pub earlier : AreInstances bs d front (instances_of before)
  pub made : IsInstance bs d one ((placed_of x).1) ((placed_of x).2)
  pub offset : (out-Instance x).at ≡ one.name.at

heads : {a b : ℕ} {xs ys : List ℕ} → a ∷ xs ≡ b ∷ ys → a ≡ b
heads e = cc

tails : {a b : ℕ} {xs ys : List ℕ} → a ∷ xs ≡ b ∷ ys → xs ≡ ys
tails e = cc

abbrev offsets : List Instance → List ℕ
offsets xs = map (λ x. (out-Instance x).at) xs

abbrev name_places : List InstanceTree → List ℕ
name_places is = map (λ i. i.name.at) is

split : (bs : List BlockTree) (d : ℕ) (before : List Instance) (x : Instance) (after : List Instance) (is : List InstanceTree) → AreInstances bs d is (instances_of (before ++ x ∷ after)) → offsets (before ++ x ∷ after) ≡ name_places is → Split bs d is before x
split bs d [] x after is h e =
    let k = first_made bs d is ((placed_of x).0) ((placed_of x).1) ((placed_of x).2) (instances_of after) h in
    record { front = []; back = k.others; one = k.one; parts = k.parts; earlier = no_instance; made = k.made; offset = heads (e ∙ ap name_places k.parts) }
split bs d (y ∷ before) x after is h e =
    let k = first_made bs d is ((placed_of y).0) ((placed_of y).1) ((placed_of y).2) (instances_of (before ++ x ∷ after)) h in
    let s = split bs d before x after k.others k.later (tails (e ∙ ap name_places k.parts)) in
    record { front = k.one ∷ s.front; back = s.back; one = s.one; parts = k.parts ∙ ap (λ l. k.one ∷ l) s.parts; earlier = subst (λ n. AreInstances bs d (k.one ∷ s.front) (book.instance n ((placed_of y).1) ((placed_of y).2) (instances_of before))) (sym k.named) (an_instance k.made s.earlier); made = s.made; offset = s.offset }

pub crowd : (bs : List BlockTree) (most d : ℕ) (is : List InstanceTree) (xs : List Instance) (n : ℕ) (f : TypeFault) → AreParts bs d is xs n → IsCrowded most xs f → IsCrowd bs most is f
crowd bs most d is xs n f h (crowded before after i parts fits more e) =
    let s = split bs d before i after is (subst (λ l. AreInstances bs d is (instances_of l)) parts h.typed) (subst (λ l. offsets l ≡ name_places is) parts h.offsets) in
    record {
      before = s.front;
      after = s.back;
      one = s.one;
      parts = s.parts;
      d = d;
      inner = instances_of before;
      parameters = (placed_of i).1;
      body = (placed_of i).2;
      earlier = s.earlier;
      made = s.made;
      fits = fits;
      more = more;
      fault_is = e ∙ ap faults.Limit s.offset;
    }

-- ---- resources

pub resource_typed : (bs : List BlockTree) (r : ResourceTree) (q : Resource) (xs : List Instance) (f : book.Face) → f ≡ no_face → AreMade bs r.network.instances xs → IsWired f r.network (map placed_of xs) (wired_of q.network) → instance_count (instances_of xs) ≤ most_instances
    → string_bytes q.name ≡ r.name.text → IsResource bs r (resource_of q)
resource_typed bs r q xs f e h wired few name =
    let w : IsWired no_face r.network (map placed_of xs) (wired_of q.network) = subst (λ g. IsWired g r.network (map placed_of xs) (wired_of q.network)) e wired in
    let seen : placed_in ((wired_of q.network).0) ≡ instances_of xs = ap placed_in w.instances in
    record {
      name = name;
      names = w.names;
      instances = subst (λ inner. AreInstances bs most_deep r.network.instances inner) (sym seen) h.parts.typed;
      few = subst (λ inner. instance_count inner ≤ most_instances) (sym seen) few;
      events = subst (λ inner. AreEventConnections no_face inner r.network.events ((wired_of q.network).1)) (sym seen) w.events;
      values = subst (λ inner. AreValueConnections no_face inner (given_in inner) r.network.values ((wired_of q.network).2)) (sym seen) w.values;
    }

pub named_resource : (bs : List BlockTree) (w : NetworkTree) (xs : List Instance) → AreMade bs w.instances xs → AreNamed w (map placed_of xs)
named_resource bs w xs h = named_parts bs most_deep w (map placed_of xs) h.parts.typed

pub resource_provides : (bs : List BlockTree) (r : ResourceTree) (q : Resource) (xs : List Instance) → AreMade bs r.network.instances xs → (out-Network q.network).instances.items ≡ xs → AllProvide bs r.network.instances (resource_uses q)
resource_provides bs r q xs h e = subst (λ us. AllProvide bs r.network.instances us) (sym (ap uses_in e)) h.parts.uses

-- ---- one after another

-- one more behind those so far, seen alike
placed_more : {X Y T : Type 0} (f : X → T) (g : Y → T) (made : List Y) (xs : List X) (i : ℕ) (x : X) (new : List Y) (y : Y) → i < length xs → x ≡ get_or xs i x → new ≡ made ++ y ∷ [] → map g made ≡ map f (take i xs) → g y ≡ f x
    → map g new ≡ map f (take (i + 1) xs)
placed_more f g made xs i x new y lt is e h k =
    ap (map g) e ∙ map_push g made y ∙ ap (λ l. l ++ g y ∷ []) h ∙ ap (λ p. map f (take i xs) ++ p ∷ []) k ∙ sym (mapped_more f xs i x lt is)

pub offsets_more : (made : List Resource) (xs : List ResourceRow) (i : ℕ) (x : ResourceRow) (new : List Resource) (q : Resource) → i < length xs → x ≡ get_or xs i x → new ≡ made ++ q ∷ []
    → resource_offsets made ≡ offsets_in (map trees_of.resource_of (take i xs)) → q.at ≡ (trees_of.resource_of x).name.at → resource_offsets new ≡ offsets_in (map trees_of.resource_of (take (i + 1) xs))
offsets_more made xs i x new q lt is e h k =
    let view : ResourceRow → ResourceTree = trees_of.resource_of in
    let offset : ResourceTree → ℕ = λ r. r.name.at in
    placed_more (λ (r : ResourceRow). offset (view r)) (λ (r : Resource). r.at) made xs i x new q lt is e (h ∙ map_map offset view (take i xs)) k ∙ sym (map_map offset view (take (i + 1) xs))

pub all_offsets_more : (made : List Device) (xs : List DeviceRow) (i : ℕ) (x : DeviceRow) (new : List Device) (q : Device) → i < length xs → x ≡ get_or xs i x → new ≡ made ++ q ∷ []
    → system_offsets made ≡ all_offsets (map trees_of.device_of (take i xs)) → resource_offsets q.resources.items ≡ offsets_in (trees_of.device_of x).resources → system_offsets new ≡ all_offsets (map trees_of.device_of (take (i + 1) xs))
all_offsets_more made xs i x new q lt is e h k =
    let view : DeviceRow → DeviceTree = trees_of.device_of in
    let offset : DeviceTree → List ℕ = λ d. offsets_in d.resources in
    placed_more (λ (d : DeviceRow). offset (view d)) (λ (d : Device). resource_offsets d.resources.items) made xs i x new q lt is e (h ∙ map_map offset view (take i xs)) k ∙ sym (map_map offset view (take (i + 1) xs))

pub resources_more : (bs : List BlockTree) (rs : List ResourceTree) (qs : List book.Resource) (r : ResourceTree) (q : book.Resource) → AreResources bs rs qs → IsResource bs r q → AreResources bs (rs ++ r ∷ []) (qs ++ q ∷ [])
resources_more bs rs qs r q no_resource h = a_resource h no_resource
resources_more bs rs qs r q (a_resource {rs = ss} {qs = ts} k t) h = a_resource k (resources_more bs ss ts r q t h)

pub resources_provide_more : (bs : List BlockTree) (rs : List ResourceTree) (us : List Used) (r : ResourceTree) (vs : List Used) → ResourcesProvide bs rs us → AllProvide bs r.network.instances vs → ResourcesProvide bs (rs ++ r ∷ []) (us ++ vs)
resources_provide_more bs rs us r vs by_no_resource h = subst (λ ws. ResourcesProvide bs (r ∷ []) ws) (append-nil vs) (by_each_resource h by_no_resource)
resources_provide_more bs rs us r vs (by_each_resource {r = s} {rs = ss} {us = xs} {vs = ys} k t) h =
    subst (λ ws. ResourcesProvide bs (s ∷ ss ++ r ∷ []) ws) (sym (append_assoc xs ys vs)) (by_each_resource k (resources_provide_more bs ss ys r vs t h))

pub device_uses_more : (qs : List Resource) (q : Resource) → device_uses (qs ++ q ∷ []) ≡ device_uses qs ++ resource_uses q
device_uses_more [] q = append-nil (resource_uses q)
device_uses_more (p ∷ qs) q = ap (λ l. resource_uses p ++ l) (device_uses_more qs q) ∙ sym (append_assoc (resource_uses p) (device_uses qs) (resource_uses q))

pub devices_more : (bs : List BlockTree) (ds : List DeviceTree) (es : List book.Device) (d : DeviceTree) (e : book.Device) → AreDevices bs ds es → IsDevice bs d e → AreDevices bs (ds ++ d ∷ []) (es ++ e ∷ [])
devices_more bs ds es d e no_device h = a_device h no_device
devices_more bs ds es d e (a_device {ds = ss} {es = ts} k t) h = a_device k (devices_more bs ss ts d e t h)

pub devices_provide_more : (bs : List BlockTree) (ds : List DeviceTree) (us : List Used) (d : DeviceTree) (vs : List Used) → DevicesProvide bs ds us → ResourcesProvide bs d.resources vs → DevicesProvide bs (ds ++ d ∷ []) (us ++ vs)
devices_provide_more bs ds us d vs by_no_device h = subst (λ ws. DevicesProvide bs (d ∷ []) ws) (append-nil vs) (by_each_device h by_no_device)
devices_provide_more bs ds us d vs (by_each_device {d = s} {ds = ss} {us = xs} {vs = ys} k t) h =
    subst (λ ws. DevicesProvide bs (s ∷ ss ++ d ∷ []) ws) (sym (append_assoc xs ys vs)) (by_each_device k (devices_provide_more bs ss ys d vs t h))

pub system_uses_more : (es : List Device) (e : Device) → system_uses (es ++ e ∷ []) ≡ system_uses es ++ device_uses e.resources.items
system_uses_more [] e = append-nil (device_uses e.resources.items)
system_uses_more (d ∷ es) e = ap (λ l. device_uses d.resources.items ++ l) (system_uses_more es e) ∙ sym (append_assoc (device_uses d.resources.items) (system_uses es) (device_uses e.resources.items))

-- ---- names

pub resource_words : (P : List Word → Type 0) (xs ys : List ResourceRow) → ys ≡ xs → P (map (λ x. record { text = string_bytes x.name.text; at = x.name.at }) ys) → P (map (λ r. r.name) (map trees_of.resource_of xs))
resource_words P xs ys e h = subst P (ap (map (λ x. record { text = string_bytes x.name.text; at = x.name.at })) e ∙ sym (map_map (λ r. r.name) trees_of.resource_of xs)) h

pub resource_names : (P : List Name → Type 0) (xs ys : List ResourceRow) → ys ≡ xs → P (map (λ x. string_bytes x.name.text) ys) → P (map (λ r. r.name.text) (map trees_of.resource_of xs))
resource_names P xs ys e h = subst P (ap (map (λ x. string_bytes x.name.text)) e ∙ sym (map_map (λ r. r.name.text) trees_of.resource_of xs)) h

pub device_words : (P : List Word → Type 0) (xs ys : List DeviceRow) → ys ≡ xs → P (map (λ x. record { text = string_bytes x.name.text; at = x.name.at }) ys) → P (map (λ r. r.name) (map trees_of.device_of xs))
device_words P xs ys e h = subst P (ap (map (λ x. record { text = string_bytes x.name.text; at = x.name.at })) e ∙ sym (map_map (λ r. r.name) trees_of.device_of xs)) h

pub device_names : (P : List Name → Type 0) (xs ys : List DeviceRow) → ys ≡ xs → P (map (λ x. string_bytes x.name.text) ys) → P (map (λ r. r.name.text) (map trees_of.device_of xs))
device_names P xs ys e h = subst P (ap (map (λ x. string_bytes x.name.text)) e ∙ sym (map_map (λ r. r.name.text) trees_of.device_of xs)) h

pub block_words : (P : List Word → Type 0) (xs ys : List BlockRow) → ys ≡ xs → P (map (λ x. record { text = string_bytes x.name.text; at = x.name.at }) ys) → P (map (λ r. r.name) (map trees_of.block_of xs))
block_words P xs ys e h = subst P (ap (map (λ x. record { text = string_bytes x.name.text; at = x.name.at })) e ∙ sym (map_map (λ r. r.name) trees_of.block_of xs)) h

pub block_names : (P : List Name → Type 0) (xs ys : List BlockRow) → ys ≡ xs → P (map (λ x. string_bytes x.name.text) ys) → P (map (λ r. r.name.text) (map trees_of.block_of xs))
block_names P xs ys e h = subst P (ap (map (λ x. string_bytes x.name.text)) e ∙ sym (map_map (λ r. r.name.text) trees_of.block_of xs)) h

-- ---- nothing is remembered at first

pub nothing_made : {S : Type 0} (bs : List BlockTree) (t : IndexMap (String Global) Made S) → t.entries ≡ [] → IsMemo bs t
nothing_made bs t e = λ x m h. absurd (nowhere (subst (λ l. lookup (λ k. bytes_eq x (string_bytes k)) l ≡ Some m) e h)) where
  nowhere : {X : Type 0} {x : X} → None ≡ Some x → ⊥
  nowhere e = cc
