-- The names of a system that stands in texts are words in capitals, and so words.
use Rattle.std.proofs.Common.{ℕ, sym, subst, List, [], ◌∷◌, ◌++◌}
use Rattle.std.specs.List.{AllByRecursion}
use Rattle.fb_model.specs.Tokens.{Token}
use Rattle.fb_model.specs.Spelling.{IsWord, AreWords, Spells}
use Rattle.fb_model.specs.StructuredTextGrammar.{IsExpression, IsAlgorithm}
use Rattle.fb_model.specs.DeclarationGrammar.{IsFile}
use Rattle.fb_model.specs.Declarations.{BlockTree, ResourceTree, DeviceTree, SourceTree}
use Rattle.fb_model.specs.System.{Resource, Device, System}
use Rattle.fb_model.specs.NetworkTyping.{most_deep, no_face, IsResource, AreResources, no_resource, a_resource, IsDevice, AreDevices, no_device, a_device, ElaboratesWith}
use Rattle.fb_model.proofs.Lists.{all_append, all_weaker}
use Rattle.fb_model.specs.Names.{Name, Place}
use Rattle.fb_model.specs.Wires.{Leaf, leaves}
use Rattle.fb_model.specs.Certificates.{state_names, events_of}
use Rattle.fb_model_laws.specs.Words.{declared_names, algorithm_names, IsWordyLeaf, IsWordyDevice, IsCapital, AreCapitals, IsCapitalLeaf, IsCapitalDevice}
use Rattle.fb_model_laws.proofs.Capitals.{tokens_capital}
use Rattle.fb_model_laws.proofs.Statements.{expression_takes, algorithm_takes}
use Rattle.fb_model_laws.proofs.Declared.{HasBlockCapitals, HasResourceCapitals, HasDeviceCapitals, HasSourceCapitals, file_takes}
use Rattle.fb_model_laws.proofs.Bodies.{lead_to_capitals, instances_capitals}
use Rattle.fb_model_laws.proofs.Following.{IsCapitalResource, leaves_capitals}

-- by types whose names are words in capitals
module _ (bs : List BlockTree) (capitals : AllByRecursion HasBlockCapitals bs) where
  capital_resource : (r : ResourceTree) (q : Resource) → HasResourceCapitals r → IsResource bs r q → IsCapitalResource q
  capital_resource r q h e =
      record {
        name = subst IsCapital (sym e.name) h.name;
        inner = instances_capitals bs capitals most_deep r.network.instances q.inner e.instances h.network.instances;
        events = lead_to_capitals no_face q.inner r.network.events q.events e.events h.network.targets;
      }

  capital_resources : (rs : List ResourceTree) (qs : List Resource) → AllByRecursion HasResourceCapitals rs → AreResources bs rs qs → AllByRecursion IsCapitalResource qs
  capital_resources rs qs h no_resource = tt
  capital_resources rs qs h (a_resource {r = r} {rs = others} {q = q} {qs = more} e es) = (capital_resource r q h.0 e, capital_resources others more h.1 es)

  capital_device : (d : DeviceTree) (q : Device) → HasDeviceCapitals d → IsDevice bs d q → IsCapitalDevice q
  capital_device d q h e =
      let name : IsCapital q.name = subst IsCapital (sym e.name) h.name in
      let resources = capital_resources d.resources q.resources h.resources e.resources in
      record {
        name = name;
        resources = all_weaker IsCapitalResource (λ (r : Resource). IsCapital r.name) q.resources (λ r k. k.name) resources;
        leaves = leaves_capitals 0 (q.name ∷ []) q.resources (name, tt) resources;
      }

  capital_devices : (ds : List DeviceTree) (qs : List Device) → AllByRecursion HasDeviceCapitals ds → AreDevices bs ds qs → AllByRecursion IsCapitalDevice qs
  capital_devices ds qs h no_device = tt
  capital_devices ds qs h (a_device {d = d} {ds = others} {e = q} {es = more} e es) = (capital_device d q h.0 e, capital_devices others more h.1 es)

source_capitals : {text : List ℕ} (ts : List Token) (n k : ℕ) (source : SourceTree) → Spells 0 text ts → IsFile (IsExpression n) (IsAlgorithm n k) ts source → HasSourceCapitals source
source_capitals ts n k source s f = file_takes (IsExpression n) (expression_takes n) (IsAlgorithm n k) (algorithm_takes n k) ts source f (tokens_capital s)

pub capital : (before text : List ℕ) (ts us : List Token) (n k m l : ℕ) (library source : SourceTree) (system : System)
    → Spells 0 before ts → IsFile (IsExpression n) (IsAlgorithm n k) ts library → Spells 0 text us → IsFile (IsExpression m) (IsAlgorithm m l) us source
    → ElaboratesWith library.blocks source system → AllByRecursion IsCapitalDevice system.devices
capital before text ts us n k m l library source system s f t g e =
    let a = source_capitals ts n k library s f in
    let b = source_capitals us m l source t g in
    capital_devices (source.blocks ++ library.blocks) (all_append HasBlockCapitals source.blocks library.blocks b.blocks a.blocks) source.system.devices system.devices b.devices e.devices

-- ---- what is in capitals is a word

are_words : (ns : List Name) → AreCapitals ns → AreWords ns
are_words ns h = all_weaker IsCapital IsWord ns (λ n k. k.0) h

wordy_leaf : (leaf : Leaf) → IsCapitalLeaf leaf → IsWordyLeaf leaf
wordy_leaf leaf h =
    record {
      path = are_words leaf.path h.path;
      variables = are_words (declared_names leaf.kind) h.variables;
      algorithms = are_words (algorithm_names leaf.kind) h.algorithms;
      states = are_words (state_names leaf.kind) h.states;
      events = are_words (events_of leaf.kind) h.events;
      targets = λ o. all_weaker (λ (p : Place). AreCapitals p.path × IsCapital p.event) (λ (p : Place). AreWords p.path × IsWord p.event) (leaf.targets o) (λ p k. (are_words p.path k.0, k.1.0)) (h.targets o);
    }

wordy_device : (d : Device) → IsCapitalDevice d → IsWordyDevice d
wordy_device d h =
    record {
      name = h.name.0;
      resources = all_weaker (λ (r : Resource). IsCapital r.name) (λ (r : Resource). IsWord r.name) d.resources (λ r k. k.0) h.resources;
      leaves = all_weaker IsCapitalLeaf IsWordyLeaf (leaves d) wordy_leaf h.leaves;
    }

pub wordy : (before text : List ℕ) (ts us : List Token) (n k m l : ℕ) (library source : SourceTree) (system : System)
    → Spells 0 before ts → IsFile (IsExpression n) (IsAlgorithm n k) ts library → Spells 0 text us → IsFile (IsExpression m) (IsAlgorithm m l) us source
    → ElaboratesWith library.blocks source system → AllByRecursion IsWordyDevice system.devices
wordy before text ts us n k m l library source system s f t g e =
    all_weaker IsCapitalDevice IsWordyDevice system.devices wordy_device (capital before text ts us n k m l library source system s f t g e)
