-- The names in the bodies that source trees elaborate to are words in capitals.
use Rattle.std.proofs.Common.{◌≡◌, ℕ, ℤ, sym, ap, subst, true, false, Bool, List, [], ◌∷◌, ◌++◌, map, Option, Some}
use Rattle.std.specs.Prelude.{if◌then◌else◌}
use Rattle.std.specs.List.{AllByRecursion}
use Rattle.std.specs.Str.{bytes_eq}
use Rattle.fb_model.specs.Names.{Name}
use Rattle.fb_words.specs.declared.elem_type.ElemType.{ElemType}
use Rattle.fb_model.specs.Productions.{Word}
use Rattle.fb_model.specs.Trees.{StateTree, PortTree, ConnectionTree}
use Rattle.fb_model.specs.Declarations.{EventTree, VariableTree, AlgorithmTree, ChartTree, InstanceTree, Chart, BlockTree}
use Rattle.fb_model.specs.System.{Variable, Procedure, Block, End, Connection, Face, Parameter, Body, Basic, Served, Composite, Instances, nothing, instance}
use Rattle.fb_model.specs.Typing.{typed_state}
use Rattle.fb_model.specs.BlockTyping.{Declared, declared, variable_of, AreDeclared, none, more, AreProcedures, no_procedure, a_procedure, typed_event, IsBasic}
use Rattle.fb_model.specs.TextTyping.{Symbol}
use Rattle.fb_model.specs.Store.{variable_names}
use Rattle.fb_model.specs.NetworkTyping.{IsEnd, own_port, port_of, AreEventConnections, no_event, an_event, type_named, IsMade, a_basic, a_composite, IsInstance, of_type, of_service, AreInstances, no_instance, an_instance}
use Rattle.fb_model.specs.Certificates.{event_names, names}
use Rattle.fb_model_laws.specs.Words.{IsCapital, AreCapitals}
use Rattle.fb_model_laws.proofs.Declared.{port_text, HasVariableCapitals, HasChartCapitals, HasNetworkCapitals, HasBodyCapitals, HasBlockCapitals}

-- ---- bodies

-- the ports that connections lead to are words in capitals
abbrev pub LeadToCapitals : List Connection → Type 0
LeadToCapitals cs = AllByRecursion (λ (c : Connection). IsCapital c.target.port) cs

-- the names of a basic block's variables, algorithms, states and event inputs
pub record IsCapitalBlock (block : Block) : Type 0 where
  pub variables : AreCapitals (variable_names (block.inputs ++ (block.outputs ++ block.internals)))
  pub algorithms : AreCapitals (map (λ (p : Procedure). p.name) block.procedures)
  pub states : AreCapitals (names block.states)
  pub events : AreCapitals (event_names block.event_inputs)

-- the names of basic blocks and of instances are words in capitals, and of the ports that event connections lead to
abbrev mutual
  pub IsCapitalBody : Body → Type 0
  IsCapitalBody (Basic block) = IsCapitalBlock block
  IsCapitalBody (Served service) = Unit {0}
  IsCapitalBody (Composite face inner events values) = AreCapitalBodies inner × LeadToCapitals events

  pub AreCapitalBodies : Instances → Type 0
  AreCapitalBodies nothing = Unit {0}
  AreCapitalBodies (instance name parameters body rest) = IsCapital name × IsCapitalBody body × AreCapitalBodies rest

-- ---- basic blocks

event_capitals : (es : List EventTree) → AllByRecursion (λ (x : EventTree). IsCapital x.name.text) es → AreCapitals (event_names (map typed_event es))
event_capitals [] h = tt
event_capitals (e ∷ es) h = (h.0, event_capitals es h.1)

state_capitals : (ss : List StateTree) → AllByRecursion (λ (x : StateTree). IsCapital x.name.text) ss → AreCapitals (names (map typed_state ss))
state_capitals [] h = tt
state_capitals (x ∷ xs) h = (h.0, state_capitals xs h.1)

texts_capitals : (a : ElemType) (b : Option (ℤ × ℤ)) (n : Option ℤ) (ws : List Word) (ds : List Declared) → AllByRecursion (λ (x : Word). IsCapital x.text) ws → AreCapitals (variable_names (map variable_of ds))
    → AreCapitals (variable_names (map variable_of (map (declared a b n) ws ++ ds)))
texts_capitals a b n [] ds h k = k
texts_capitals a b n (w ∷ ws) ds h k = (h.0, texts_capitals a b n ws ds h.1 k)

declared_capitals : (vs : List VariableTree) (ds : List Declared) → AreDeclared vs ds → AllByRecursion HasVariableCapitals vs → AreCapitals (variable_names (map variable_of ds))
declared_capitals _ _ none h = tt
declared_capitals _ _ (more {v = v} {vs = vs} {b = b} {n = n} {ds = ds} _ _ others) h = texts_capitals v.type b n v.names ds h.0 (declared_capitals vs ds others h.1)

both_capitals : (vs ws : List Variable) → AreCapitals (variable_names vs) → AreCapitals (variable_names ws) → AreCapitals (variable_names (vs ++ ws))
both_capitals [] ws h k = k
both_capitals (v ∷ vs) ws h k = (h.0, both_capitals vs ws h.1 k)

procedure_capitals : (env : List Symbol) (fs : List AlgorithmTree) (ps : List Procedure) → AllByRecursion (λ (x : AlgorithmTree). IsCapital x.name.text) fs → AreProcedures env fs ps → AreCapitals (map (λ (p : Procedure). p.name) ps)
procedure_capitals env _ _ h no_procedure = tt
procedure_capitals env _ _ h (a_procedure {rest = rest} {ps = ps} e body others) = (subst IsCapital (sym e) h.0, procedure_capitals env rest ps h.1 others)

capital_block : (b : BlockTree) (c : ChartTree) (k : Block) → HasBlockCapitals b → b.body ≡ Chart c → IsBasic b c k → IsCapitalBlock k
capital_block b c k h e is =
    let chart : HasChartCapitals c = subst HasBodyCapitals e h.body in
    let Capitals : List Variable → Type 0 = λ vs. AreCapitals (variable_names vs) in
    let ins : Capitals k.inputs = subst Capitals (sym (ap (λ (f : Face). f.inputs) is.face.face)) (declared_capitals b.inputs is.ins is.face.inputs h.values_in) in
    let outs : Capitals k.outputs = subst Capitals (sym (ap (λ (f : Face). f.outputs) is.face.face)) (declared_capitals b.outputs is.outs is.face.outputs h.values_out) in
    let inner : Capitals k.internals = subst Capitals (sym is.internals_are) (declared_capitals c.internals is.inner is.internals chart.internals) in
    record {
      variables = both_capitals k.inputs (k.outputs ++ k.internals) ins (both_capitals k.outputs k.internals outs inner);
      algorithms = procedure_capitals _ c.algorithms k.procedures chart.algorithms is.procedures;
      states = subst (λ ss. AreCapitals (names ss)) (sym is.states) (state_capitals c.states chart.states);
      events = subst (λ es. AreCapitals (event_names es)) (sym (ap (λ (f : Face). f.event_inputs) is.face.face)) (event_capitals b.event_inputs h.inputs);
    }

-- ---- connections

end_capital : (own : List Name) (ports : Body → List Name) (inner : Instances) (q : PortTree) (e : End) → IsEnd own ports inner q e → IsCapital (port_text q) → IsCapital e.port
end_capital own ports inner q e (own_port k) h = h
end_capital own ports inner q e (port_of f k) h = h

pub lead_to_capitals : (f : Face) (inner : Instances) (cs : List ConnectionTree) (ds : List Connection) → AreEventConnections f inner cs ds → AllByRecursion (λ (x : ConnectionTree). IsCapital (port_text x.target)) cs → LeadToCapitals ds
lead_to_capitals f inner cs ds no_event h = tt
lead_to_capitals f inner cs ds (an_event {c = c} {cs = ts} {d = d} {ds = rest} is others) h = (end_capital _ _ inner c.target d.target is.target h.0, lead_to_capitals f inner ts rest others h.1)

-- ---- types

named_capitals : (bs : List BlockTree) (x : Name) (b : BlockTree) → AllByRecursion HasBlockCapitals bs → type_named bs x ≡ Some b → HasBlockCapitals b
named_capitals [] x b h e = absurd cc
named_capitals (c ∷ bs) x b h e = by (bytes_eq x c.name.text) e (λ f. named_capitals bs x b h.1 f) where
  by : (t : Bool) → (if t then Some c else type_named bs x) ≡ Some b → (type_named bs x ≡ Some b → HasBlockCapitals b) → HasBlockCapitals b
  by true e next = let same : c ≡ b = cc in subst HasBlockCapitals same h.0
  by false e next = next e

module _ (bs : List BlockTree) (capitals : AllByRecursion HasBlockCapitals bs) where
  mutual
    made_capitals : (d : ℕ) (b : BlockTree) (x : Body) → IsMade bs d b x → HasBlockCapitals b → IsCapitalBody x
    made_capitals d b x (a_basic {c = c} {k = k} e is) h = capital_block b c k h e is
    made_capitals d b x (a_composite {d = less} {n = n} {f = f} {inner = inner} {es = es} e face names is events values) h =
        let w : HasNetworkCapitals n = subst HasBodyCapitals e h.body in
        (instances_capitals less n.instances inner is w.instances, lead_to_capitals f inner n.events es events w.targets)

    instance_capitals : (d : ℕ) (i : InstanceTree) (qs : List Parameter) (x : Body) → IsInstance bs d i qs x → IsCapitalBody x
    instance_capitals d i qs x (of_type {b = b} s t n m ps) = made_capitals d b x m (named_capitals bs i.type.text b capitals t)
    instance_capitals d i qs x (of_service s) = tt

    pub instances_capitals : (d : ℕ) (is : List InstanceTree) (inner : Instances) → AreInstances bs d is inner → AllByRecursion (λ (x : InstanceTree). IsCapital x.name.text) is → AreCapitalBodies inner
    instances_capitals d is inner no_instance h = tt
    instances_capitals d is inner (an_instance {i = i} {is = js} {qs = qs} {body = body} {rest = rest} k t) h = (h.0, instance_capitals d i qs body k, instances_capitals d js rest t h.1)
