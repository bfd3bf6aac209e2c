-- Ends as code finds them are those of the definition.
use Rattle.std.proofs.Common.{◌≡◌, Bool, true, false, cond, List, Option, Some, None, option_map, refl, sym, subst}
use Rattle.fb_words.specs.declared.elem_type.ElemType.{ElemType}
use Rattle.fb_model.specs.Names.{Name, is_in}
use Rattle.fb_model.specs.Productions.{Word}
use Rattle.fb_model.specs.Trees.{PortTree, ConnectionTree}
use Rattle.fb_model.specs.System.{Face, Body, Instances, End, Connection, Variable}
use Rattle.fb_model.specs.TextTyping.{widens}
use Rattle.fb_model.specs.Typing.{names_of, event_inputs_of, event_outputs_of, body_named}
use Rattle.fb_model.specs.Wires.{inputs_of}
use Rattle.fb_model.specs.NetworkTyping.{variable_named, outputs_of, IsEnd, own_port, port_of, IsValueEnd, own_value, value_at, IsValueConnection, passes}
use Rattle.fb_words.specs.declared.end.Way.TheVariants as w
use Rattle.fb_words.specs.declared.end.Carried.{Carried}
use Rattle.fb_words.specs.declared.end.Carried.TheVariants.{Events, Values}
use Rattle.fb_types_networks.specs.Ends.{carries_to}
use Rattle.fb_model.specs.NetworkFaults.{event_port, value_port, IsPortEnd, own, within}

-- ---- events

there : (names : List Name) (x : Name) (c : Carried) → event_port names x ≡ Some c → is_in x names ≡ true
there names x c e = by (is_in x names) e where
  by : (b : Bool) → cond b (Some Events) None ≡ Some c → b ≡ true
  by true e = refl
  by false e = absurd cc

module _ (names : List Name) (ports : Body → List Name) (inner : Instances) (p : PortTree) (e : End) where
  own_is : p.second ≡ None → is_in p.first.text names ≡ true → e ≡ record { instance = None; port = p.first.text } → IsEnd names ports inner p e
  own_is n h is =
      subst (λ s. IsEnd names ports inner (record { first = p.first; second = s }) e) (sym n)
      (subst (λ d. IsEnd names ports inner (record { first = p.first; second = None }) d) (sym is) (own_port h))

  within_is : (y : Word) (b : Body) → p.second ≡ Some y → body_named inner p.first.text ≡ Some b → is_in y.text (ports b) ≡ true → e ≡ record { instance = Some p.first.text; port = y.text } → IsEnd names ports inner p e
  within_is y b n found h is =
      subst (λ s. IsEnd names ports inner (record { first = p.first; second = s }) e) (sym n)
      (subst (λ d. IsEnd names ports inner (record { first = p.first; second = Some y }) d) (sym is) (port_of found h))

pub event_source : (f : Face) (inner : Instances) (p : PortTree) (e : End) (c : Carried) → IsPortEnd w.EventSource f inner p e c → IsEnd (names_of f.event_inputs) event_outputs_of inner p e
event_source f inner p e c (own n h) = own_is (names_of f.event_inputs) event_outputs_of inner p e n (there (names_of f.event_inputs) p.first.text c h.0) h.1
event_source f inner p e c (within {y = y} {b = b} n found h) = within_is (names_of f.event_inputs) event_outputs_of inner p e y b n found (there (event_outputs_of b) y.text c h.0) h.1

pub event_target : (f : Face) (inner : Instances) (p : PortTree) (e : End) (c : Carried) → IsPortEnd w.EventTarget f inner p e c → IsEnd (names_of f.event_outputs) event_inputs_of inner p e
event_target f inner p e c (own n h) = own_is (names_of f.event_outputs) event_inputs_of inner p e n (there (names_of f.event_outputs) p.first.text c h.0) h.1
event_target f inner p e c (within {y = y} {b = b} n found h) = within_is (names_of f.event_outputs) event_inputs_of inner p e y b n found (there (event_inputs_of b) y.text c h.0) h.1

-- ---- values

-- the variable of a port, by what it carries
pub record Carries (vs : List Variable) (x : Name) (c : Carried) : Type 0 where
  pub variable : Variable
  pub found : variable_named vs x ≡ Some variable
  pub carried : c ≡ Values variable.type

carries : (vs : List Variable) (x : Name) (c : Carried) → value_port vs x ≡ Some c → Carries vs x c
carries vs x c e = by (variable_named vs x) refl e where
  by : (o : Option Variable) → variable_named vs x ≡ o → option_map (λ v. Values v.type) o ≡ Some c → Carries vs x c
  by None f e = absurd cc
  by (Some v) f e = record { variable = v; found = f; carried = sym cc }

module _ (vs : List Variable) (ports : Body → List Variable) (inner : Instances) (p : PortTree) (e : End) where
  own_value_is : (v : Variable) → p.second ≡ None → variable_named vs p.first.text ≡ Some v → e ≡ record { instance = None; port = p.first.text } → IsValueEnd vs ports inner p e v.type
  own_value_is v n h is =
      subst (λ s. IsValueEnd vs ports inner (record { first = p.first; second = s }) e v.type) (sym n)
      (subst (λ d. IsValueEnd vs ports inner (record { first = p.first; second = None }) d v.type) (sym is) (own_value h))

  value_within_is : (y : Word) (b : Body) (v : Variable) → p.second ≡ Some y → body_named inner p.first.text ≡ Some b → variable_named (ports b) y.text ≡ Some v → e ≡ record { instance = Some p.first.text; port = y.text }
      → IsValueEnd vs ports inner p e v.type
  value_within_is y b v n found h is =
      subst (λ s. IsValueEnd vs ports inner (record { first = p.first; second = s }) e v.type) (sym n)
      (subst (λ d. IsValueEnd vs ports inner (record { first = p.first; second = Some y }) d v.type) (sym is) (value_at found h))

-- a data end with its type
pub Ending : List Variable → (Body → List Variable) → Instances → PortTree → End → Carried → Type 0
Ending vs ports inner p e c = (a : ElemType) × (c ≡ Values a) × IsValueEnd vs ports inner p e a

pub value_source : (f : Face) (inner : Instances) (p : PortTree) (e : End) (c : Carried) → IsPortEnd w.ValueSource f inner p e c → Ending f.inputs outputs_of inner p e c
unfolding Ending
value_source f inner p e c (own n h) = let k = carries f.inputs p.first.text c h.0 in (k.variable.type, k.carried, own_value_is f.inputs outputs_of inner p e k.variable n k.found h.1)
value_source f inner p e c (within {y = y} {b = b} n found h) = let k = carries (outputs_of b) y.text c h.0 in (k.variable.type, k.carried, value_within_is f.inputs outputs_of inner p e y b k.variable n found k.found h.1)

pub value_target : (f : Face) (inner : Instances) (p : PortTree) (e : End) (c : Carried) → IsPortEnd w.ValueTarget f inner p e c → Ending f.outputs inputs_of inner p e c
unfolding Ending
value_target f inner p e c (own n h) = let k = carries f.outputs p.first.text c h.0 in (k.variable.type, k.carried, own_value_is f.outputs inputs_of inner p e k.variable n k.found h.1)
value_target f inner p e c (within {y = y} {b = b} n found h) = let k = carries (inputs_of b) y.text c h.0 in (k.variable.type, k.carried, value_within_is f.outputs inputs_of inner p e y b k.variable n found k.found h.1)

pub value_typed : (f : Face) (inner : Instances) (c : ConnectionTree) (d : Connection) (k l : Carried) → IsPortEnd w.ValueSource f inner c.source d.source k → IsPortEnd w.ValueTarget f inner c.target d.target l
    → carries_to k l ≡ true → passes d.source d.target ≡ false → IsValueConnection f inner c d
unfolding Ending
value_typed f inner c d k l h g fits stays =
    let s = value_source f inner c.source d.source k h in
    let t = value_target f inner c.target d.target l g in
    let both : carries_to (Values s.0) (Values t.0) ≡ true = subst (λ x. carries_to (Values s.0) x ≡ true) t.1 (subst (λ x. carries_to x l ≡ true) s.1 fits) in
    record { given = s.0; taken = t.0; source = s.2; target = t.2; fits = both; stays = stays }

-- the types of ends that do not go together
pub record Unlike (f : Face) (inner : Instances) (c : ConnectionTree) (d e : End) : Type 0 where
  pub given : ElemType
  pub taken : ElemType
  pub source : IsPortEnd w.ValueSource f inner c.source d (Values given)
  pub target : IsPortEnd w.ValueTarget f inner c.target e (Values taken)
  pub differs : widens given taken ≡ false

pub unlike : (f : Face) (inner : Instances) (c : ConnectionTree) (d e : End) (k l : Carried) → IsPortEnd w.ValueSource f inner c.source d k → IsPortEnd w.ValueTarget f inner c.target e l
    → carries_to k l ≡ false → Unlike f inner c d e
unfolding Ending
unlike f inner c d e k l h g fits =
    let s = value_source f inner c.source d k h in
    let t = value_target f inner c.target e l g in
    record {
      given = s.0;
      taken = t.0;
      source = subst (λ x. IsPortEnd w.ValueSource f inner c.source d x) s.1 h;
      target = subst (λ x. IsPortEnd w.ValueTarget f inner c.target e x) t.1 g;
      differs = subst (λ x. carries_to (Values s.0) x ≡ false) t.1 (subst (λ x. carries_to x l ≡ false) s.1 fits);
    }
