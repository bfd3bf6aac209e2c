-- Charts of well typed systems have shapes.
use Rattle.std.proofs.Common.{◌≡◌, sym, ap, ap₂, subst, true, List, [], ◌++◌, map, Option}
use Rattle.std.specs.List.{AllByRecursion}
use Rattle.std.specs.Option.{option_map}
use Rattle.fb_model.specs.Names.{Name, is_in}
use Rattle.fb_model.specs.Declarations.{GuardTree, TransitionTree, AlgorithmTree, ChartTree, BlockTree, SourceTree}
use Rattle.fb_model.specs.TypedText.{Term}
use Rattle.fb_model.specs.TextTyping.{Symbol}
use Rattle.fb_model.specs.System.{Variable, Transition, Procedure, Block, Device, System}
use Rattle.fb_model.specs.BlockTyping.{extent, variable_of, scope, IsGuard, no_guard, a_guard, AreTransitions, no_transition, a_transition, AreProcedures, no_procedure, a_procedure, IsBasic}
use Rattle.fb_model.specs.NetworkTyping.{ElaboratesWith}
use Rattle.fb_model.specs.Store.{variable_names}
use Rattle.fb_model.specs.Wires.{Charted, Leaf, leaves}
use Rattle.fb_model.proofs.Lists.{all_weaker}
use Rattle.fb_model.specs.Shapes.{AlgorithmFits, written, shape_of}
use Rattle.fb_model.proofs.Typed.{typed_algorithm_fits, typed_guard_fits}
use Rattle.fb_model_laws.specs.Leaves.{OnChart}
use Rattle.fb_model_laws.proofs.Charts.{on_charts}
use Rattle.fb_model.specs.Ranges.{variables, length_in}
use Rattle.fb_model_laws.specs.Shaped.{GuardFits, AreOwn, IsShapely}
use Rattle.fb_model_laws.proofs.Writing.{IsWritable, commands_write}
use Rattle.fb_model_laws.proofs.Lengths.{scope_lengths, writable_own}

guard_fits : (env : List Symbol) (o : Option GuardTree) (g : Option Term) → IsGuard env o g → GuardFits (shape_of env) g
guard_fits env _ _ no_guard = tt
guard_fits env _ _ (a_guard {g = g} {x = x} h) = typed_guard_fits env g.condition x h

guards_fit : (env : List Symbol) (states inputs : List Name) (cs : List TransitionTree) (ds : List Transition) → AreTransitions env states inputs cs ds → AllByRecursion (λ (d : Transition). GuardFits (shape_of env) d.guard) ds
guards_fit env states inputs _ _ no_transition = tt
guards_fit env states inputs _ _ (a_transition {c = c} {cs = cs} {d = d} {ds = ds} h more) = (guard_fits env c.guard d.guard h.guard, guards_fit env states inputs cs ds more)

algorithms_fit : (env : List Symbol) (trees : List AlgorithmTree) (ps : List Procedure) → AreProcedures env trees ps → AllByRecursion (λ (p : Procedure). AlgorithmFits (shape_of env) p.algorithm) ps
algorithms_fit env _ _ no_procedure = tt
algorithms_fit env _ _ (a_procedure {a = a} {rest = rest} {p = p} {ps = ps} n h more) = (typed_algorithm_fits env a.body p.algorithm h, algorithms_fit env rest ps more)

algorithms_write : (env : List Symbol) (trees : List AlgorithmTree) (ps : List Procedure) → AreProcedures env trees ps → AllByRecursion (λ (p : Procedure). AllByRecursion (IsWritable env) (written p.algorithm)) ps
algorithms_write env _ _ no_procedure = tt
algorithms_write env _ _ (a_procedure {a = a} {rest = rest} {p = p} {ps = ps} n h more) = (commands_write env [] a.body p.algorithm h, algorithms_write env rest ps more)

pub block_shapely : (b : BlockTree) (c : ChartTree) (k : Block) → IsBasic b c k → IsShapely k
block_shapely b c k h =
    let env : List Symbol = scope h.ins h.outs h.inner in
    let ins : k.inputs ≡ map variable_of h.ins = ap (λ f. f.inputs) h.face.face in
    let outs : k.outputs ≡ map variable_of h.outs = ap (λ f. f.outputs) h.face.face in
    let own : k.outputs ++ k.internals ≡ map variable_of h.outs ++ map variable_of h.inner = ap₂ (λ (x : List Variable) (y : List Variable). x ++ y) outs h.internals_are in
    let whole : variables (Charted k) ≡ map variable_of h.ins ++ (map variable_of h.outs ++ map variable_of h.inner) = ap₂ (λ (x : List Variable) (y : List Variable). x ++ y) ins own in
    let writes : (x : Name) → IsWritable env x → is_in x (variable_names (k.outputs ++ k.internals)) ≡ true =
    λ x w. subst (λ (vs : List Variable). is_in x (variable_names vs) ≡ true) (sym own) (writable_own h.ins h.outs h.inner x w) in (
      shape_of env,
      record {
        lengths = λ x. subst (λ (vs : List Variable). length_in vs x ≡ option_map extent (shape_of env x)) (sym whole) (scope_lengths h.ins h.outs h.inner x);
        algorithms = algorithms_fit env c.algorithms k.procedures h.procedures;
        guards = guards_fit env _ _ c.transitions k.transitions h.transitions;
        writes =
            all_weaker (λ (p : Procedure). AllByRecursion (IsWritable env) (written p.algorithm)) (λ (p : Procedure). AreOwn k (written p.algorithm)) k.procedures
            (λ p w. all_weaker (IsWritable env) (λ (x : Name). is_in x (variable_names (k.outputs ++ k.internals)) ≡ true) (written p.algorithm) writes w)
            (algorithms_write env c.algorithms k.procedures h.procedures);
      },
    )

-- the law
pub all_charts_shapely : (library : List BlockTree) (source : SourceTree) (system : System) → ElaboratesWith library source system → AllByRecursion (λ (d : Device). AllByRecursion (λ (leaf : Leaf). OnChart IsShapely leaf.kind) (leaves d)) system.devices
all_charts_shapely library source system h = on_charts IsShapely block_shapely library source system h
