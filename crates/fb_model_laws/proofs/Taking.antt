-- Events take data inputs of their own leaf.
use Rattle.std.proofs.Common.{◌≡◌, ℕ, ◌+◌, sym, ap, subst, refl, Bool, true, false, ◌||◌, List, [], ◌∷◌, map, ◌∙◌}
use Rattle.std.specs.Prelude.{if◌then◌else◌}
use Rattle.std.specs.List.{AllByRecursion}
use Rattle.std.specs.Str.{bytes_eq}
use Rattle.fb_words.specs.declared.elem_type.ElemType.{ElemType}
use Rattle.fb_model.specs.Names.{Name, is_in}
use Rattle.fb_model.specs.Productions.{Word}
use Rattle.fb_model.specs.Declarations.{EventTree, ChartTree, BlockTree, SourceTree}
use Rattle.fb_model.specs.System.{Block, Service, Input, Output, Publish, Subscribe, Delay, Cycle, Restart, Device, System}
use Rattle.fb_model.specs.Services.{qi, dt, req, arrive, start, numbered, sent, ports, service_inputs}
use Rattle.fb_model.specs.Typing.{texts}
use Rattle.fb_model.specs.BlockTyping.{Declared, names_in, typed_event, AreKnown, variable_of, IsBasic}
use Rattle.fb_model.specs.NetworkTyping.{ElaboratesWith}
use Rattle.fb_model.specs.Wires.{Kind, Charted, Serviced, Leaf, leaves}
use Rattle.fb_model.specs.Store.{variable_names, inputs, carried, takes}
use Rattle.fb_model.proofs.Lists.{all_weaker, same_name}
use Rattle.fb_model_laws.specs.Leaves.{OnChart}
use Rattle.fb_model_laws.proofs.Charts.{on_charts}

-- what is sampled are data inputs
abbrev pub TakesInputs : Kind → Type 0
TakesInputs kind = (e x : Name) → is_in x (takes kind e) ≡ true → is_in x (variable_names (inputs kind)) ≡ true

known_in : (names : List Name) (ws : List Word) (x : Name) → AreKnown names ws → is_in x (texts ws) ≡ true → is_in x names ≡ true
known_in names [] x h i = absurd cc
known_in names (w ∷ ws) x h i = by (bytes_eq x w.text) refl i (known_in names ws x h.1) where
  by : (b : Bool) → bytes_eq x w.text ≡ b → (b || is_in x (texts ws)) ≡ true → (is_in x (texts ws) ≡ true → is_in x names ≡ true) → is_in x names ≡ true
  by true t f next = subst (λ y. is_in y names ≡ true) (sym (same_name x w.text t)) h.0
  by false t f next = next f

carried_in : (names : List Name) (es : List EventTree) (e x : Name) → AllByRecursion (λ (t : EventTree). AreKnown names t.carries) es → is_in x (carried (map typed_event es) e) ≡ true → is_in x names ≡ true
carried_in names [] e x h i = absurd cc
carried_in names (t ∷ es) e x h i = by (bytes_eq t.name.text e) i (carried_in names es e x h.1) where
  by : (b : Bool) → is_in x (if b then texts t.carries else carried (map typed_event es) e) ≡ true → (is_in x (carried (map typed_event es) e) ≡ true → is_in x names ≡ true) → is_in x names ≡ true
  by true f next = known_in names t.carries x h.0 f
  by false f next = next f

names_declared : (ds : List Declared) → variable_names (map variable_of ds) ≡ names_in ds
names_declared [] = refl
names_declared (d ∷ ds) = ap (λ ns. d.name ∷ ns) (names_declared ds)

block_takes : (b : BlockTree) (c : ChartTree) (k : Block) → IsBasic b c k → TakesInputs (Charted k)
block_takes b c k h e x i =
    let named : names_in h.ins ≡ variable_names k.inputs = sym (names_declared h.ins) ∙ sym (ap (λ f. variable_names f.inputs) h.face.face) in
    subst (λ ns. is_in x ns ≡ true) named
    (carried_in (names_in h.ins) b.event_inputs e x h.face.takes (subst (λ es. is_in x (carried es e) ≡ true) (ap (λ f. f.event_inputs) h.face.face) i))

names_of_ports : (f : ℕ → Name) (n : ℕ) (types : List ElemType) → numbered f n types ≡ variable_names (ports f n types)
names_of_ports f n [] = refl
names_of_ports f n (type ∷ types) = ap (λ ns. f n ∷ ns) (names_of_ports f (n + 1) types)

either : (x : Name) (b : Bool) (xs ys zs : List Name) → (is_in x xs ≡ true → is_in x zs ≡ true) → (is_in x ys ≡ true → is_in x zs ≡ true) → is_in x (if b then xs else ys) ≡ true → is_in x zs ≡ true
either x true xs ys zs h k i = h i
either x false xs ys zs h k i = k i

first_in : (x y : Name) (zs : List Name) → is_in x (y ∷ []) ≡ true → is_in x (y ∷ zs) ≡ true
first_in x y zs h = by (bytes_eq x y) h where
  by : (b : Bool) → (b || false) ≡ true → (b || is_in x zs) ≡ true
  by true e = refl
  by false e = absurd cc

service_takes_inputs : (s : Service) → TakesInputs (Serviced s)
service_takes_inputs (Input number types) e x i = absurd cc
service_takes_inputs (Output number types) e x i = subst (λ ns. is_in x ns ≡ true) (names_of_ports sent 1 types) i
service_takes_inputs (Publish channel types) e x i =
    either x (bytes_eq e req) (qi ∷ numbered sent 1 types) (qi ∷ []) (variable_names (service_inputs (Publish channel types)))
    (λ h. subst (λ ns. is_in x (qi ∷ ns) ≡ true) (names_of_ports sent 1 types) h)
    (λ h. first_in x qi (variable_names (ports sent 1 types)) h) i
service_takes_inputs (Subscribe channel types) e x i = either x (bytes_eq e arrive) [] (qi ∷ []) (qi ∷ []) (λ h. absurd cc) (λ h. h) i
service_takes_inputs Delay e x i = either x (bytes_eq e start) (dt ∷ []) [] (dt ∷ []) (λ h. h) (λ h. absurd cc) i
service_takes_inputs Cycle e x i = either x (bytes_eq e start) (dt ∷ []) [] (dt ∷ []) (λ h. h) (λ h. absurd cc) i
service_takes_inputs Restart e x i = absurd cc

kind_takes : (kind : Kind) → OnChart (λ k. TakesInputs (Charted k)) kind → TakesInputs kind
kind_takes (Charted block) h = h
kind_takes (Serviced s) h = service_takes_inputs s

pub all_take_inputs : (library : List BlockTree) (source : SourceTree) (system : System) → ElaboratesWith library source system → AllByRecursion (λ (d : Device). AllByRecursion (λ (leaf : Leaf). TakesInputs leaf.kind) (leaves d)) system.devices
all_take_inputs library source system h =
    all_weaker (λ (d : Device). AllByRecursion (λ (leaf : Leaf). OnChart (λ k. TakesInputs (Charted k)) leaf.kind) (leaves d)) (λ (d : Device). AllByRecursion (λ (leaf : Leaf). TakesInputs leaf.kind) (leaves d)) system.devices
    (λ d a. all_weaker (λ (leaf : Leaf). OnChart (λ k. TakesInputs (Charted k)) leaf.kind) (λ (leaf : Leaf). TakesInputs leaf.kind) (leaves d) (λ leaf o. kind_takes leaf.kind o) a)
    (on_charts (λ k. TakesInputs (Charted k)) block_takes library source system h)
