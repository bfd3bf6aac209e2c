-- What is declared has one typed form.
use Rattle.std.proofs.Common.{◌≡◌, ℤ, List, [], ◌∷◌, ◌++◌, Option, Some, None, map, refl, sym, ap, ◌∙◌}
use Rattle.fb_words.specs.declared.elem_type.ElemType.{ElemType}
use Rattle.fb_words.specs.declared.elem_type.ElemType.TheVariants as t
use Rattle.fb_model.specs.Names.{Name}
use Rattle.fb_model.specs.Trees.{Constant}
use Rattle.fb_model.specs.Declarations.{BoundsTree, StartTree, VariableTree, GuardTree, TransitionTree, AlgorithmTree, ChartTree, BlockTree}
use Rattle.fb_model.specs.StructuredText.{literal}
use Rattle.fb_model.specs.TypedText.{Term, constant}
use Rattle.fb_model.specs.TextTyping.{Symbol}
use Rattle.fb_model.specs.Language.{Algorithm}
use Rattle.fb_model.specs.System as book
use Rattle.fb_model.specs.BlockTyping.{Declared, declared, IsGiven, AreBounds, no_bounds, some_bounds, IsStart, no_start, a_start, AreDeclared, none, more, IsFace, IsGuard, no_guard, a_guard, IsTransition, AreTransitions, no_transition, a_transition, AreProcedures, no_procedure, a_procedure, IsBasic, face_of, typed_event, variable_of, scope}
use Rattle.st_types.proofs.Commands.{one_asked, one_condition, one_command_list}
use Rattle.fb_types_blocks.proofs.Faultless.{one_number}

pub one_given : (a : ElemType) (c : Constant) (n m : ℤ) → IsGiven a c n → IsGiven a c m → n ≡ m
one_given a c n m h k = same (one_asked [] a (literal c) (constant n) (constant m) h k) where
  same : constant n ≡ constant m → n ≡ m
  same e = cc

one_bounds : (o : Option BoundsTree) (r s : Option (ℤ × ℤ)) → AreBounds o r → AreBounds o s → r ≡ s
one_bounds None r s no_bounds no_bounds = refl
one_bounds (Some b) r s (some_bounds {low = l} {high = h} x y e f) (some_bounds {low = k} {high = j} u v g i) = ap (λ n. Some (n, h)) (one_number t.Lint b.low l k x u) ∙ ap (λ n. Some (k, n)) (one_number t.Lint b.high h j y v)

one_start : (a : ElemType) (o : Option StartTree) (n m : Option ℤ) → IsStart a o n → IsStart a o m → n ≡ m
one_start a None n m no_start no_start = refl
one_start a (Some s) n m (a_start {n = i} x) (a_start {n = j} y) = ap Some (one_given a s.value i j x y)

pub one_declared : (vs : List VariableTree) (ds es : List Declared) → AreDeclared vs ds → AreDeclared vs es → ds ≡ es
one_declared [] ds es none none = refl
one_declared (v ∷ vs) ds es (more {b = b} {n = n} {ds = xs} x y p) (more {b = c} {n = m} {ds = ys} u w q) =
    ap (λ r. map (declared v.type r n) v.names ++ xs) (one_bounds v.bounds b c x u)
    ∙ ap (λ r. map (declared v.type c r) v.names ++ xs) (one_start v.type v.start n m y w)
    ∙ ap (λ r. map (declared v.type c m) v.names ++ r) (one_declared vs xs ys p q)

abbrev face_by : BlockTree → List Declared → List Declared → book.Face
face_by b ins outs = record { event_inputs = map typed_event b.event_inputs; event_outputs = map typed_event b.event_outputs; inputs = map variable_of ins; outputs = map variable_of outs }

pub one_interface : (b : BlockTree) (ins outs jns kuts : List Declared) (f g : book.Face) → IsFace b ins outs f → IsFace b jns kuts g → f ≡ g
one_interface b ins outs jns kuts f g x y =
    x.face ∙ ap (λ r. face_by b r outs) (one_declared b.inputs ins jns x.inputs y.inputs) ∙ ap (λ r. face_by b jns r) (one_declared b.outputs outs kuts x.outputs y.outputs) ∙ sym y.face

-- ---- charts

one_guard : (env : List Symbol) (o : Option GuardTree) (x y : Option Term) → IsGuard env o x → IsGuard env o y → x ≡ y
one_guard env None x y no_guard no_guard = refl
one_guard env (Some g) x y (a_guard {x = u} p) (a_guard {x = v} q) = ap Some (one_condition env g.condition u v p q)

abbrev transition_by : Name → Name → Option Name → Option Term → book.Transition
transition_by s u e g = record { source = s; target = u; event = e; guard = g }

one_transition : (env : List Symbol) (states inputs : List Name) (c : TransitionTree) (d e : book.Transition) → IsTransition env states inputs c d → IsTransition env states inputs c e → d ≡ e
one_transition env states inputs c d e x y =
    ap (λ r. transition_by r d.target d.event d.guard) (x.source ∙ sym y.source) ∙ ap (λ r. transition_by e.source r d.event d.guard) (x.target ∙ sym y.target)
    ∙ ap (λ r. transition_by e.source e.target r d.guard) (x.event ∙ sym y.event) ∙ ap (λ r. transition_by e.source e.target e.event r) (one_guard env c.guard d.guard e.guard x.guard y.guard)

one_transitions : (env : List Symbol) (states inputs : List Name) (cs : List TransitionTree) (ds es : List book.Transition) → AreTransitions env states inputs cs ds → AreTransitions env states inputs cs es → ds ≡ es
one_transitions env states inputs [] ds es no_transition no_transition = refl
one_transitions env states inputs (c ∷ cs) ds es (a_transition {d = d} {ds = xs} x p) (a_transition {d = e} {ds = ys} y q) =
    ap (λ r. r ∷ xs) (one_transition env states inputs c d e x y) ∙ ap (λ r. e ∷ r) (one_transitions env states inputs cs xs ys p q)

abbrev procedure_by : Name → Algorithm → book.Procedure
procedure_by n a = record { name = n; algorithm = a }

one_procedures : (env : List Symbol) (fs : List AlgorithmTree) (ps qs : List book.Procedure) → AreProcedures env fs ps → AreProcedures env fs qs → ps ≡ qs
one_procedures env [] ps qs no_procedure no_procedure = refl
one_procedures env (a ∷ fs) ps qs (a_procedure {p = p} {ps = xs} n x r) (a_procedure {p = q} {ps = ys} m y s) =
    ap (λ i. procedure_by i p.algorithm ∷ xs) (n ∙ sym m) ∙ ap (λ i. procedure_by q.name i ∷ xs) (one_command_list env [] a.body p.algorithm q.algorithm x y) ∙ ap (λ i. q ∷ i) (one_procedures env fs xs ys r s)

-- ---- basic blocks

abbrev block_by : book.Face → List book.Variable → List book.State → List book.Transition → List book.Procedure → book.Block
block_by f ns ss ts ps = record { event_inputs = f.event_inputs; event_outputs = f.event_outputs; inputs = f.inputs; outputs = f.outputs; internals = ns; states = ss; transitions = ts; procedures = ps }

pub one_basic : (b : BlockTree) (c : ChartTree) (k j : book.Block) → IsBasic b c k → IsBasic b c j → k ≡ j
one_basic b c k j x y =
    let i = one_declared b.inputs x.ins y.ins x.face.inputs y.face.inputs in
    let o = one_declared b.outputs x.outs y.outs x.face.outputs y.face.outputs in
    let n = one_declared c.internals x.inner y.inner x.internals y.internals in
    let env : scope x.ins x.outs x.inner ≡ scope y.ins y.outs y.inner = ap (λ r. scope r x.outs x.inner) i ∙ ap (λ r. scope y.ins r x.inner) o ∙ ap (λ r. scope y.ins y.outs r) n in
    let f = one_interface b x.ins x.outs y.ins y.outs (face_of k) (face_of j) x.face y.face in
    let ts = one_transitions (scope y.ins y.outs y.inner) _ _ c.transitions k.transitions j.transitions (rw env at x.transitions) y.transitions in
    let ps = one_procedures (scope y.ins y.outs y.inner) c.algorithms k.procedures j.procedures (rw env at x.procedures) y.procedures in
    ap (λ r. block_by r k.internals k.states k.transitions k.procedures) f
    ∙ ap (λ r. block_by (face_of j) r k.states k.transitions k.procedures) (x.internals_are ∙ ap (map variable_of) n ∙ sym y.internals_are)
    ∙ ap (λ r. block_by (face_of j) j.internals r k.transitions k.procedures) (x.states ∙ sym y.states)
    ∙ ap (λ r. block_by (face_of j) j.internals j.states r k.procedures) ts
    ∙ ap (λ r. block_by (face_of j) j.internals j.states j.transitions r) ps
