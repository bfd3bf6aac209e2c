-- Whichever declarations the event blocks have, a source is the same system with them.
use Rattle.std.proofs.Common.{◌≡◌, ℕ, Bool, true, false, cond, List, [], ◌∷◌, ◌++◌, Option, Some, None, refl, sym, ap, subst, ◌∙◌}
use Rattle.std.specs.List.{AllByRecursion}
use Rattle.std.specs.Str.{bytes_eq}
use Rattle.fb_model.specs.Names.{Name}
use Rattle.fb_model.specs.Declarations.{ChartTree, InstanceTree, NetworkTree, Chart, Network, BlockTree, ResourceTree, DeviceTree, SourceTree}
use Rattle.fb_model.specs.System as book
use Rattle.fb_model.specs.BlockTyping.{IsBasic}
use Rattle.fb_model.specs.NetworkTyping.{type_named, IsMade, a_basic, a_composite, IsInstance, of_type, of_service, AreInstances, no_instance, an_instance, IsResource, AreResources, no_resource, a_resource, AreDevices, no_device, a_device, IsProper, ElaboratesWith}
use Rattle.fb_model.specs.EventBlocks.{Declares, AllDeclare, no_more, one_more}
use Rattle.fb_types_blocks.proofs.Single.{one_basic}
use Rattle.std.specs.Option.{option_or}
use Rattle.fb_types.proofs.Tabled.{named_append}

same_chart : {x y : ChartTree} → Chart x ≡ Chart y → x ≡ y
same_chart e = cc

no_chart : {x : ChartTree} {y : NetworkTree} → Chart x ≡ Network y → ⊥
no_chart e = cc

-- two declarations of one basic block are made alike, by whichever types
declared_alike : (b c : BlockTree) (k : Name × book.Block) → Declares b k → Declares c k → (bs : List BlockTree) (d : ℕ) (x : book.Body) → IsMade bs d b x → IsMade bs d c x
declared_alike b c k p q bs d x (a_basic {c = t} {k = j} e h) =
    let same : t ≡ p.chart = same_chart (sym e ∙ p.body) in
    let block : j ≡ k.1 = one_basic b p.chart j k.1 (subst (λ u. IsBasic b u j) same h) p.block in
    subst (λ z. IsMade bs d c (book.Basic z)) (sym block) (a_basic q.body q.block)
declared_alike b c k p q bs d x (a_composite e face names is es vs) = absurd (no_chart (sym p.body ∙ e))

-- a type of this name, which is made as another one is
record Alike (bs : List BlockTree) (x : Name) (others : List BlockTree) (b : BlockTree) : Type 0 where
  pub tree : BlockTree
  pub named : type_named others x ≡ Some tree
  pub made : (d : ℕ) (y : book.Body) → IsMade bs d b y → IsMade bs d tree y

no_type : {b : BlockTree} → (let none : Option BlockTree = None in none) ≡ Some b → ⊥
no_type e = cc

same_type : {b c : BlockTree} → Some b ≡ Some c → b ≡ c
same_type e = cc

alike : (bs : List BlockTree) (x : Name) (ks : List (Name × book.Block)) (library others : List BlockTree) (b : BlockTree) → AllDeclare library ks → AllDeclare others ks → type_named library x ≡ Some b → Alike bs x others b
alike bs x _ _ _ b no_more no_more e = absurd (no_type e)
alike bs x _ _ _ b (one_more {b = c} {bs = library} {k = k} {ks = ks} p ps) (one_more {b = o} {bs = others} q qs) e =
    by (bytes_eq x c.name.text) (ap (bytes_eq x) (p.name ∙ sym q.name)) e (alike bs x ks library others b ps qs) where
      by : (t : Bool) → t ≡ bytes_eq x o.name.text → cond t (Some c) (type_named library x) ≡ Some b → (type_named library x ≡ Some b → Alike bs x others b) → Alike bs x (o ∷ others) b
      by true f g later = record { tree = o; named = ap (λ t. cond t (Some o) (type_named others x)) (sym f); made = λ d y m. declared_alike c o k p q bs d y (subst (λ z. IsMade bs d z y) (sym (same_type g)) m) }
      by false f g later = let r = later g in record { tree = r.tree; named = ap (λ t. cond t (Some o) (type_named others x)) (sym f) ∙ r.named; made = r.made }

-- By types of a source, in front of declarations of the same blocks:
module _ (types : List BlockTree) (library others : List BlockTree) (ks : List (Name × book.Block)) (all : AllDeclare library ks) (alls : AllDeclare others ks) where
  named_alike : (x : Name) (b : BlockTree) → type_named (types ++ library) x ≡ Some b → Alike (types ++ others) x (types ++ others) b
  named_alike x b e = by (type_named types x) refl (sym (named_append types library x) ∙ e) where
    by : (o : Option BlockTree) → type_named types x ≡ o → option_or o (type_named library x) ≡ Some b → Alike (types ++ others) x (types ++ others) b
    by None f g = let r = alike (types ++ others) x ks library others b all alls g in record { tree = r.tree; named = named_append types others x ∙ ap (λ o. option_or o (type_named others x)) f ∙ r.named; made = r.made }
    by (Some c) f g = record { tree = b; named = named_append types others x ∙ ap (λ o. option_or o (type_named others x)) f ∙ g; made = λ d y m. m }

  mutual
    made_alike : (d : ℕ) (b : BlockTree) (x : book.Body) → IsMade (types ++ library) d b x → IsMade (types ++ others) d b x
    made_alike d b x (a_basic e h) = a_basic e h
    made_alike d b x (a_composite {d = n} {n = w} {inner = inner} e face names is es vs) = a_composite e face names (all_alike n w.instances inner is) es vs

    instance_alike : (d : ℕ) (i : InstanceTree) (qs : List book.Parameter) (x : book.Body) → IsInstance (types ++ library) d i qs x → IsInstance (types ++ others) d i qs x
    instance_alike d i qs x (of_type {b = b} s t n m ps) =
        let r = named_alike i.type.text b t in
        of_type s r.named n (r.made d x (made_alike d b x m)) ps
    instance_alike d i qs x (of_service h) = of_service h

    all_alike : (d : ℕ) (is : List InstanceTree) (xs : book.Instances) → AreInstances (types ++ library) d is xs → AreInstances (types ++ others) d is xs
    all_alike d is xs no_instance = no_instance
    all_alike d is xs (an_instance {i = i} {is = js} {qs = qs} {body = body} {rest = rest} h t) = an_instance (instance_alike d i qs body h) (all_alike d js rest t)

  resource_alike : (r : ResourceTree) (q : book.Resource) → IsResource (types ++ library) r q → IsResource (types ++ others) r q
  resource_alike r q h = record { name = h.name; names = h.names; instances = all_alike _ r.network.instances q.inner h.instances; few = h.few; events = h.events; values = h.values }

  resources_alike : (rs : List ResourceTree) (qs : List book.Resource) → AreResources (types ++ library) rs qs → AreResources (types ++ others) rs qs
  resources_alike rs qs no_resource = no_resource
  resources_alike rs qs (a_resource {r = r} {rs = ss} {q = q} {qs = ps} h t) = a_resource (resource_alike r q h) (resources_alike ss ps t)

  devices_alike : (ds : List DeviceTree) (es : List book.Device) → AreDevices (types ++ library) ds es → AreDevices (types ++ others) ds es
  devices_alike ds es no_device = no_device
  devices_alike ds es (a_device {d = d} {ds = ss} {e = e} {es = gs} h t) =
      a_device (record {
        name = h.name;
        names = h.names;
        few = h.few;
        resources = resources_alike d.resources e.resources h.resources;
        inputs_differ = h.inputs_differ;
        outputs_differ = h.outputs_differ;
        channels_differ = h.channels_differ;
      }) (devices_alike ss gs t)

  propers_alike : (bs : List BlockTree) → AllByRecursion (IsProper (types ++ library)) bs → AllByRecursion (IsProper (types ++ others)) bs
  propers_alike [] h = tt
  propers_alike (b ∷ bs) h = (record { name = h.0.name; body = h.0.body; made = made_alike _ b h.0.body h.0.made }, propers_alike bs h.1)

-- the law
pub swapped : (library others : List BlockTree) (ks : List (Name × book.Block)) (source : SourceTree) (s : book.System) → AllDeclare library ks → AllDeclare others ks → ElaboratesWith library source s → ElaboratesWith others source s
swapped library others ks source s p q h =
    record {
      names = h.names;
      blocks = propers_alike source.blocks library others ks p q source.blocks h.blocks;
      device_names = h.device_names;
      few = h.few;
      devices = devices_alike source.blocks library others ks p q source.system.devices s.devices h.devices;
      channels = h.channels;
      senders_differ = h.senders_differ;
    }
