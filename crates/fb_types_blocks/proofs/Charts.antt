-- Transitions and algorithms, one after another.
use Rattle.std.proofs.Common.{◌≡◌, List, [], ◌∷◌, ◌++◌, Result, Err, sym, ap, subst, ◌∙◌, append_assoc}
use Rattle.std.proofs.lemmas.List.{append-nil}
use Rattle.fb_model.specs.Names.{Name}
use Rattle.fb_model.specs.Declarations as decl
use Rattle.fb_model.specs.System as book
use Rattle.fb_model.specs.TextTyping.{Symbol, AreCommands}
use Rattle.fb_model.specs.TextFaults.{Fault}
use Rattle.fb_model.specs.BlockTyping.{IsTransition, AreTransitions, no_transition, a_transition, AreProcedures, no_procedure, a_procedure}
use Rattle.fb_faults.specs.declared.statement.TypingFault.{TypingFault}
use Rattle.fb_faults.specs.declared.statement.TypingFault.TheVariants as st
use Rattle.st_types.specs.Answers.{Refuses}
use Rattle.fb_faults.specs.Typings.{fault_of}
use Rattle.fb_model.specs.BlockFaults.{IsTextFault}

-- the first transitions are typed, with those that are left
abbrev pub TransitionsLeft : List Symbol → List Name → List Name → List decl.TransitionTree → List book.Transition → List decl.TransitionTree → Type 0
TransitionsLeft env states inputs all so_far rest = (ds : List book.Transition) → AreTransitions env states inputs rest ds → AreTransitions env states inputs all (so_far ++ ds)

pub transitions_step : (env : List Symbol) (states inputs : List Name) (all rest : List decl.TransitionTree) (so_far : List book.Transition) (c : decl.TransitionTree) (d : book.Transition) → TransitionsLeft env states inputs all so_far (c ∷ rest) → IsTransition env states inputs c d → TransitionsLeft env states inputs all (so_far ++ d ∷ []) rest
transitions_step env states inputs all rest so_far c d left t ds h = subst (AreTransitions env states inputs all) (sym (append_assoc so_far (d ∷ []) ds)) (left (d ∷ ds) (a_transition t h))

pub transitions_none : (env : List Symbol) (states inputs : List Name) (all : List decl.TransitionTree) (so_far : List book.Transition) → TransitionsLeft env states inputs all so_far [] → AreTransitions env states inputs all so_far
transitions_none env states inputs all so_far left = subst (AreTransitions env states inputs all) (append-nil so_far) (left [] no_transition)

-- the same of algorithms
abbrev pub ProceduresLeft : List Symbol → List decl.AlgorithmTree → List book.Procedure → List decl.AlgorithmTree → Type 0
ProceduresLeft env all so_far rest = (ps : List book.Procedure) → AreProcedures env rest ps → AreProcedures env all (so_far ++ ps)

pub procedures_step : (env : List Symbol) (all rest : List decl.AlgorithmTree) (so_far after : List book.Procedure) (a : decl.AlgorithmTree) (p : book.Procedure) → ProceduresLeft env all so_far (a ∷ rest) → p.name ≡ a.name.text → AreCommands env [] a.body p.algorithm → after ≡ so_far ++ p ∷ [] → ProceduresLeft env all after rest
procedures_step env all rest so_far after a p left n t e ps h = subst (AreProcedures env all) (sym (append_assoc so_far (p ∷ []) ps) ∙ ap (λ xs. xs ++ ps) (sym e)) (left (p ∷ ps) (a_procedure n t h))

pub procedures_none : (env : List Symbol) (all : List decl.AlgorithmTree) (so_far : List book.Procedure) → ProceduresLeft env all so_far [] → AreProcedures env all so_far
procedures_none env all so_far left = subst (AreProcedures env all) (append-nil so_far) (left [] no_procedure)

-- a fault of Structured Text, as one of blocks
pub text_fault : {X : Type 0} (P : Fault → Type 0) (r : Result X TypingFault) (w : TypingFault) → r ≡ Err w → Refuses P r → IsTextFault P (fault_of w)
text_fault P r st.OutOfMemory e h = tt
text_fault P r (st.UnknownName at) e h = rw e at h
text_fault P r (st.TypeMismatch at) e h = rw e at h
text_fault P r (st.BadLiteral at) e h = rw e at h
text_fault P r (st.NotWritable at) e h = rw e at h
