-- A source has one system, and no fault.
use Rattle.std.proofs.Common.{◌≡◌, ℕ, suc, ◌+◌, ◌≤◌, Bool, true, false, ◌||◌, cond, List, [], ◌∷◌, ◌++◌, map, Some, None, Result, Ok, Err, IfOk, IfErr, refl, sym, ap, subst, ◌∙◌, arith, append_assoc}
use Rattle.std.proofs.lemmas.List.{length-map, map-append}
use Rattle.std.specs.List.{AllByRecursion, Contains}
use Rattle.std.specs.Str.{bytes_eq}
use Rattle.std.proofs.lemmas.Slice.Eq.{bytes_eq-Decides}
use Rattle.fb_model.specs.Names.{Name, is_in}
use Rattle.fb_model.specs.Declarations.{ChartTree, InstanceTree, NetworkTree, Chart, Network, BlockTree, ResourceTree, DeviceTree, SourceTree}
use Rattle.fb_model.specs.System as book
use Rattle.fb_model.specs.Typing.{most_instances, service_names, AreNew, AreDistinct, AreNewNumbers}
use Rattle.fb_model.specs.NetworkTyping.{type_named, most_deep, most_resources, most_devices, IsMade, a_basic, a_composite, IsInstance, of_type, of_service, AreInstances, no_instance, an_instance, IsServed, a_service, IsService, instance_count, inner_count, services_of, services_in, no_face, IsResource, AreResources, no_resource, a_resource, device_services, inputs, outputs, subscribed, senders, IsDevice, AreDevices, no_device, a_device, all_services, AreAlike, IsProper, ElaboratesWith, given_in, AreEventConnections, AreValueConnections}
use Rattle.fb_faults.specs.declared.typing.TypeFault.{TypeFault}
use Rattle.fb_faults.specs.declared.typing.TypeFault.TheVariants as faults
use Rattle.fb_types_blocks.specs.Answers.{Finds}
use Rattle.fb_types_blocks.proofs.Faultless.{no_repetition, no_excess}
use Rattle.fb_types_blocks.proofs.Lists.{map_map}
use Rattle.fb_types_blocks.proofs.Refused.{either_of}
use Rattle.fb_types_services.proofs.Services.{known, once}
use Rattle.fb_types_networks.specs.Views.{Wired}
use Rattle.fb_model.specs.NetworkFaults.{placed_in}
use Rattle.fb_types_networks.proofs.Faultless.{events_are, values_are}
use Rattle.fb_types_networks.proofs.Networks.{wired_true}
use Rattle.fb_types.specs.declared.typed.Configuration.{Configuration}
use Rattle.fb_types.specs.Uses.{services_at}
use Rattle.fb_model.specs.Nesting.{Used}
use Rattle.fb_types.specs.Views.{system_of}
use Rattle.fb_model.specs.Nesting.{Provides, by_basic, by_composite, InstanceProvides, by_type, by_service, AllProvide, by_none, by_each, ResourcesProvide, by_no_resource, by_each_resource, DevicesProvide, by_no_device, by_each_device}
use Rattle.fb_model.specs.SourceFaults as fault
use Rattle.fb_types.specs.Made.{IsNamed}
use Rattle.fb_types.proofs.Nested.{among_cons, among_nil, one_type, nests_within, all_within, one_instance, all_one, type_true, all_true}
use Rattle.std.specs.Option.{option_or}
use Rattle.fb_types.proofs.Tabled.{named_append}
use Rattle.fb_types.proofs.Ended.{inputs_are, outputs_are, channels_are, no_number_fault, senders_are, no_channel_fault}

-- ---- types of different names

missing : (bs : List BlockTree) (x : Name) → is_in x (map (λ b. b.name.text) bs) ≡ false → type_named bs x ≡ None
missing [] x e = refl
missing (b ∷ bs) x e = by (bytes_eq x b.name.text) e (missing bs x) where
  by : (t : Bool) → t || is_in x (map (λ b. b.name.text) bs) ≡ false → (is_in x (map (λ b. b.name.text) bs) ≡ false → type_named bs x ≡ None) → cond t (Some b) (type_named bs x) ≡ None
  by true e f = absurd cc
  by false e f = f e

own_name : (b : BlockTree) (rest : List BlockTree) → type_named (b ∷ rest) b.name.text ≡ Some b
own_name b rest = ap (λ t. cond t (Some b) (type_named rest b.name.text)) ((bytes_eq-Decides b.name.text b.name.text).1 refl)

named_in : (whole before bs library : List BlockTree) → whole ≡ before ++ (bs ++ library) → AreNew (map (λ b. b.name.text) before) (map (λ b. b.name.text) bs) → AllByRecursion (IsNamed whole) bs
named_in whole before [] library e h = tt
named_in whole before (b ∷ bs) library e h =
    let x = b.name.text in
    let rest : List BlockTree = b ∷ (bs ++ library) in
    let f : whole ≡ before ++ rest = e in
    let here : type_named whole x ≡ option_or (type_named before x) (type_named rest x) = ap (λ w. type_named w x) f ∙ named_append before rest x in
    let gone : option_or (type_named before x) (type_named rest x) ≡ type_named rest x = ap (λ o. option_or o (type_named rest x)) (missing before x h.0) in
    let new : AreNew (map (λ c. c.name.text) (before ++ b ∷ [])) (map (λ c. c.name.text) bs) = subst (λ ns. AreNew ns (map (λ c. c.name.text) bs)) (sym (map-append (λ c. c.name.text) before (b ∷ []))) h.1 in
    (here ∙ gone ∙ own_name b (bs ++ library), named_in whole (before ++ b ∷ []) bs library (f ∙ sym (append_assoc before (b ∷ []) (bs ++ library))) new)

pub all_named : (bs library : List BlockTree) → AreDistinct (map (λ b. b.name.text) bs) → AllByRecursion (IsNamed (bs ++ library)) bs
all_named bs library h = named_in (bs ++ library) [] bs library refl h

-- ---- one system

resource_same : (q p : book.Resource) → q.name ≡ p.name → q.inner ≡ p.inner → q.events ≡ p.events → q.values ≡ p.values → q ≡ p
resource_same q p a b c d =
    ap (λ n. let r : book.Resource = record { name = n; inner = q.inner; events = q.events; values = q.values } in r) a
    ∙ ap (λ n. let r : book.Resource = record { name = p.name; inner = n; events = q.events; values = q.values } in r) b
    ∙ ap (λ n. let r : book.Resource = record { name = p.name; inner = p.inner; events = n; values = q.values } in r) c
    ∙ ap (λ n. let r : book.Resource = record { name = p.name; inner = p.inner; events = p.events; values = n } in r) d

one_resource : (bs : List BlockTree) (r : ResourceTree) (q p : book.Resource) → IsResource bs r q → IsResource bs r p → q ≡ p
one_resource bs r q p h l =
    resource_same q p (h.name ∙ sym l.name) (all_one bs most_deep most_deep r.network.instances q.inner p.inner h.instances l.instances)
    (events_are no_face q.inner r.network.events q.events h.events ∙ sym (events_are no_face p.inner r.network.events p.events l.events))
    (values_are no_face q.inner (given_in q.inner) r.network.values q.values h.values ∙ sym (values_are no_face p.inner (given_in p.inner) r.network.values p.values l.values))

one_resources : (bs : List BlockTree) (rs : List ResourceTree) (qs ps : List book.Resource) → AreResources bs rs qs → AreResources bs rs ps → qs ≡ ps
one_resources bs rs qs ps no_resource no_resource = refl
one_resources bs rs qs ps (a_resource {r = r} {rs = ss} {q = q} {qs = xs} h t) (a_resource {q = p} {qs = ys} l u) = ap (λ z. z ∷ xs) (one_resource bs r q p h l) ∙ ap (λ zs. p ∷ zs) (one_resources bs ss xs ys t u)

device_same : (e g : book.Device) → e.name ≡ g.name → e.resources ≡ g.resources → e ≡ g
device_same e g a b = ap (λ n. let r : book.Device = record { name = n; resources = e.resources } in r) a ∙ ap (λ n. let r : book.Device = record { name = g.name; resources = n } in r) b

one_devices : (bs : List BlockTree) (ds : List DeviceTree) (es gs : List book.Device) → AreDevices bs ds es → AreDevices bs ds gs → es ≡ gs
one_devices bs ds es gs no_device no_device = refl
one_devices bs ds es gs (a_device {d = d} {ds = ss} {e = e} {es = xs} h t) (a_device {e = g} {es = ys} l u) =
    ap (λ z. z ∷ xs) (device_same e g (h.name ∙ sym l.name) (one_resources bs d.resources e.resources g.resources h.resources l.resources)) ∙ ap (λ zs. g ∷ zs) (one_devices bs ss xs ys t u)

pub one_whole : (library : List BlockTree) (source : SourceTree) (s t : book.System) → ElaboratesWith library source s → ElaboratesWith library source t → s ≡ t
one_whole library source s t h l = ap (λ ds. let r : book.System = record { devices = ds } in r) (one_devices (source.blocks ++ library) source.system.devices s.devices t.devices h.devices l.devices)

-- ---- services are those of the system

at_append : (us vs : List Used) → services_at (us ++ vs) ≡ services_at us ++ services_at vs
at_append us vs = map-append (λ u. u.1) us vs

joined_services : (us vs : List Used) (ss ts : List book.Service) → services_at us ≡ ss → services_at vs ≡ ts → services_at (us ++ vs) ≡ ss ++ ts
joined_services us vs ss ts e f = at_append us vs ∙ ap (λ l. l ++ services_at vs) e ∙ ap (λ l. ss ++ l) f

same_network : {x y : NetworkTree} → Network x ≡ Network y → x ≡ y
same_network e = cc

no_chart : {x : ChartTree} {y : NetworkTree} → Chart x ≡ Network y → ⊥
no_chart e = cc

true_false : true ≡ false → ⊥
true_false e = cc

service_known : (i : InstanceTree) (s : book.Service) (qs : List book.Parameter) → IsServed i s qs → is_in i.type.text service_names ≡ true
service_known i s qs (a_service a ps) = known i s a

service_once : (i : InstanceTree) (s t : book.Service) (qs : List book.Parameter) → IsService i s → IsServed i t qs → s ≡ t
service_once i s t qs h (a_service a ps) = once i s t h a

mutual
  made_provides : (bs : List BlockTree) (d : ℕ) (b : BlockTree) (x : book.Body) (us : List Used) → IsMade bs d b x → Provides bs b us → services_at us ≡ services_of x
  made_provides bs d b x us (a_basic e h) (by_basic f) = refl
  made_provides bs d b x us (a_basic e h) (by_composite f t) = absurd (no_chart (sym e ∙ f))
  made_provides bs d b x us (a_composite e face names is es vs) (by_basic f) = absurd (no_chart (sym f ∙ e))
  made_provides bs d b x us (a_composite {d = d'} {n = n} {inner = inner} e face names is es vs) (by_composite {n = m} f t) =
      all_provide bs d' n.instances inner us is (subst (λ (w : NetworkTree). AllProvide bs w.instances us) (same_network (sym f ∙ e)) t)

  instance_provides : (bs : List BlockTree) (d : ℕ) (i : InstanceTree) (qs : List book.Parameter) (x : book.Body) (us : List Used) → IsInstance bs d i qs x → InstanceProvides bs i us → services_at us ≡ services_of x
  instance_provides bs d i qs x us (of_type {b = b} s t n m ps) (by_type {c = c} o h) = made_provides bs d b x us m (subst (λ a. Provides bs a us) (one_type bs i.type.text c b o.named t) h)
  instance_provides bs d i qs x us (of_type {b = b} s t n m ps) (by_service {s = w} h) = absurd (true_false (sym (known i w h) ∙ s))
  instance_provides bs d i qs x us (of_service {s = w} h) (by_type o t) = absurd (true_false (sym (service_known i w qs h) ∙ o.declared))
  instance_provides bs d i qs x us (of_service {s = w} h) (by_service {s = v} l) = ap (λ z. z ∷ []) (service_once i v w qs l h)

  all_provide : (bs : List BlockTree) (d : ℕ) (is : List InstanceTree) (inner : book.Instances) (us : List Used) → AreInstances bs d is inner → AllProvide bs is us → services_at us ≡ services_in inner
  all_provide bs d is inner us no_instance by_none = refl
  all_provide bs d is inner us (an_instance {i = i} {is = js} {qs = qs} {body = body} {rest = rest} h t) (by_each {us = vs} {vs = ws} l u) =
      joined_services vs ws (services_of body) (services_in rest) (instance_provides bs d i qs body vs h l) (all_provide bs d js rest ws t u)

resources_provide : (bs : List BlockTree) (rs : List ResourceTree) (qs : List book.Resource) (us : List Used) → AreResources bs rs qs → ResourcesProvide bs rs us → services_at us ≡ device_services qs
resources_provide bs rs qs us no_resource by_no_resource = refl
resources_provide bs rs qs us (a_resource {r = r} {rs = ss} {q = q} {qs = ps} h t) (by_each_resource {us = vs} {vs = ws} l u) =
    joined_services vs ws (services_in q.inner) (device_services ps) (all_provide bs most_deep r.network.instances q.inner vs h.instances l) (resources_provide bs ss ps ws t u)

devices_provide : (bs : List BlockTree) (ds : List DeviceTree) (es : List book.Device) (us : List Used) → AreDevices bs ds es → DevicesProvide bs ds us → services_at us ≡ all_services es
devices_provide bs ds es us no_device by_no_device = refl
devices_provide bs ds es us (a_device {d = d} {ds = ss} {e = e} {es = gs} h t) (by_each_device {us = vs} {vs = ws} l u) =
    joined_services vs ws (device_services e.resources) (all_services gs) (resources_provide bs d.resources e.resources vs h.resources l) (devices_provide bs ss gs ws t u)

-- ---- no fault

alone : (bs : List BlockTree) (d e : ℕ) (one : InstanceTree) (after : List InstanceTree) (whole : book.Instances) (qs : List book.Parameter) (body : book.Body) → AreInstances bs d (one ∷ after) whole → IsInstance bs e one qs body → 0 + suc (inner_count body) ≤ instance_count whole
alone bs d e one after whole qs body (an_instance {qs = rs} {body = x} {rest = rest} k t) m = let same = ap inner_count ((one_instance bs d e one rs qs x body k m).1) in omega (arith, same)

-- as many instances as stand before one, and those in it
counted : (bs : List BlockTree) (d e : ℕ) (before : List InstanceTree) (one : InstanceTree) (after : List InstanceTree) (whole inner : book.Instances) (qs : List book.Parameter) (body : book.Body)
    → AreInstances bs d (before ++ one ∷ after) whole → AreInstances bs e before inner → IsInstance bs e one qs body → instance_count inner + suc (inner_count body) ≤ instance_count whole
counted bs d e before one after whole inner qs body h no_instance m = alone bs d e one after whole qs body h m
counted bs d e before one after whole inner qs body (an_instance {qs = rs} {body = x} {rest = rest} k t) (an_instance {i = i} {is = js} {qs = ps} {body = y} {rest = others} l u) m =
    let same = ap inner_count ((one_instance bs d e i rs ps x y k l).1) in
    let less = counted bs d e js one after rest others qs body t u m in
    omega (arith, same, less)

pub no_crowd : (bs : List BlockTree) (d : ℕ) (is : List InstanceTree) (whole : book.Instances) (f : TypeFault) → AreInstances bs d is whole → instance_count whole ≤ most_instances → fault.IsCrowd bs most_instances is f → ⊥
no_crowd bs d is whole f h few c =
    let l = counted bs d c.d c.before c.one c.after whole c.inner c.parameters c.body (subst (λ l. AreInstances bs d l whole) c.parts h) c.earlier c.made in
    let m = c.more in
    omega (arith, few, l, m)

resource_true : (bs : List BlockTree) (r : ResourceTree) (q : book.Resource) (f : TypeFault) → IsResource bs r q → fault.IsResourceFault bs r f → f ≡ faults.OutOfMemory
resource_true bs r q f h (fault.no_memory_for_resource e) = e
resource_true bs r q f h (fault.faulty_instance {i = i} a w) = all_true bs most_deep r.network.instances q.inner i f (omega arith) h.instances a w
resource_true bs r q f h (fault.too_deep_inside {i = i} {c = c} a o t) =
    let k = all_within bs most_deep r.network.instances q.inner i c t.n h.instances a o t.nests in
    let l = t.more in
    absurd (omega (arith, k, l))
resource_true bs r q f h (fault.too_many c) = absurd (no_crowd bs most_deep r.network.instances q.inner f h.instances h.few c)
resource_true bs r q f h (fault.faulty_wires {d = d} {ps = ps} js w) =
    let same = all_one bs most_deep d r.network.instances q.inner (placed_in ps) h.instances js in
    let x : Wired = (ps, q.events, q.values) in
    wired_true no_face r.network ps x f
    (record { names = h.names; instances = refl; events = subst (λ z. AreEventConnections no_face z r.network.events q.events) same h.events; values = subst (λ z. AreValueConnections no_face z (given_in z) r.network.values q.values) same h.values }) w

resources_true : (bs : List BlockTree) (rs : List ResourceTree) (qs : List book.Resource) (r : ResourceTree) (f : TypeFault) → AreResources bs rs qs → Contains rs r → fault.IsResourceFault bs r f → f ≡ faults.OutOfMemory
resources_true bs rs qs r f no_resource a w = absurd (among_nil a)
resources_true bs rs qs r f (a_resource {r = s} {rs = ss} {q = q} {qs = ps} h t) a w =
    either_of (λ e. resource_true bs s q f h (subst (λ x. fault.IsResourceFault bs x f) (sym e) w)) (λ m. resources_true bs ss ps r f t m w) (among_cons s ss r a)

device_true : (bs : List BlockTree) (d : DeviceTree) (e : book.Device) (f : TypeFault) → IsDevice bs d e → fault.IsDeviceFault bs d f → f ≡ faults.OutOfMemory
device_true bs d e f h (fault.no_memory_for_device w) = w
device_true bs d e f h (fault.repeated_resource w) = no_repetition [] (map (λ r. r.name) d.resources) f w (subst AreDistinct (sym (map_map (λ x. x.text) (λ r. r.name) d.resources)) h.names)
device_true bs d e f h (fault.excess_resource w) = no_excess most_resources (map (λ r. r.name) d.resources) f w (subst (λ n. n ≤ most_resources) (sym (length-map d.resources (λ r. r.name))) h.few)
device_true bs d e f h (fault.faulty_resource {r = r} a w) = resources_true bs d.resources e.resources r f h.resources a w
device_true bs d e f h (fault.faulty_numbers {us = us} p w) =
    let same = resources_provide bs d.resources e.resources us h.resources p in
    no_number_fault us f (subst (AreNewNumbers []) (sym (inputs_are us ∙ ap inputs same)) h.inputs_differ) (subst (AreNewNumbers []) (sym (outputs_are us ∙ ap outputs same)) h.outputs_differ) (subst (AreNewNumbers []) (sym (channels_are us ∙ ap subscribed same)) h.channels_differ) w

devices_true : (bs : List BlockTree) (ds : List DeviceTree) (es : List book.Device) (d : DeviceTree) (f : TypeFault) → AreDevices bs ds es → Contains ds d → fault.IsDeviceFault bs d f → f ≡ faults.OutOfMemory
devices_true bs ds es d f no_device a w = absurd (among_nil a)
devices_true bs ds es d f (a_device {d = s} {ds = ss} {e = e} {es = gs} h t) a w =
    either_of (λ q. device_true bs s e f h (subst (λ x. fault.IsDeviceFault bs x f) (sym q) w)) (λ m. devices_true bs ss gs d f t m w) (among_cons s ss d a)

block_true : (bs : List BlockTree) (b : BlockTree) (f : TypeFault) → IsProper bs b → fault.IsBlockFault bs b f → f ≡ faults.OutOfMemory
block_true bs b f h (fault.named_as_service e w) = absurd (true_false (sym e ∙ h.name))
block_true bs b f h (fault.faulty_block w) = type_true bs most_deep b h.body f (omega arith) h.made w
block_true bs b f h (fault.too_deep t) =
    let k = nests_within bs most_deep b h.body t.n h.made t.nests in
    let l = t.more in
    absurd (omega (arith, k, l))

of_middle : {X : Type 0} (P : X → Type 0) (xs : List X) (y : X) (ys : List X) → AllByRecursion P (xs ++ y ∷ ys) → P y
of_middle P [] y ys h = h.0
of_middle P (x ∷ xs) y ys h = of_middle P xs y ys h.1

pub whole_true : (library : List BlockTree) (source : SourceTree) (s : book.System) (f : TypeFault) → ElaboratesWith library source s → fault.IsSourceFault library source f → f ≡ faults.OutOfMemory
whole_true library source s f h (fault.no_memory_for_source e) = e
whole_true library source s f h (fault.repeated_type w) = no_repetition [] (map (λ b. b.name) source.blocks) f w (subst AreDistinct (sym (map_map (λ x. x.text) (λ b. b.name) source.blocks)) h.names)
whole_true library source s f h (fault.faulty_declaration w) =
    let bs = source.blocks ++ library in
    block_true bs w.one f (of_middle (IsProper bs) w.before w.one w.after (subst (AllByRecursion (IsProper bs)) w.parts h.blocks)) w.fault
whole_true library source s f h (fault.repeated_device w) = no_repetition [] (map (λ d. d.name) source.system.devices) f w (subst AreDistinct (sym (map_map (λ x. x.text) (λ d. d.name) source.system.devices)) h.device_names)
whole_true library source s f h (fault.excess_device w) = no_excess most_devices (map (λ d. d.name) source.system.devices) f w (subst (λ n. n ≤ most_devices) (sym (length-map source.system.devices (λ d. d.name))) h.few)
whole_true library source s f h (fault.faulty_device {d = d} all a w) = devices_true (source.blocks ++ library) source.system.devices s.devices d f h.devices a w
whole_true library source s f h (fault.faulty_channels {us = us} p w) =
    let same = devices_provide (source.blocks ++ library) source.system.devices s.devices us h.devices p in
    no_channel_fault us f (subst AreAlike (sym same) h.channels) (subst (AreNewNumbers []) (sym (senders_are us ∙ ap senders same)) h.senders_differ) w

pub only_whole : (library : List BlockTree) (source : SourceTree) (r : Result Configuration TypeFault) → IfOk r (λ t. ElaboratesWith library source (system_of t)) → IfErr r (fault.IsSourceFault library source) → (s : book.System) → ElaboratesWith library source s → Finds system_of r s
only_whole library source (Ok t) typed refused s h = one_whole library source (system_of t) s typed h
only_whole library source (Err f) typed refused s h = subst (λ w. Finds system_of (Err w) s) (sym (whole_true library source s f h refused)) tt
