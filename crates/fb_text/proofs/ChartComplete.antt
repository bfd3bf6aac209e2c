-- States, transitions, algorithms and charts that are in the grammar are read, where that is so of expressions and of lists of statements.
use Rattle.std.proofs.Common.{◌≡◌, ℕ, false, cond, List, ◌∷◌, length, Option, Some, refl, sym, subst, arith, inl, codes}
use Rattle.fb_words.specs.declared.mark.Mark.{Mark}
use Rattle.fb_words.specs.declared.mark.Mark.TheVariants as m
use Rattle.fb_model.specs.Tokens.{Token, token, name, mark}
use Rattle.fb_model.specs.Productions.{Gram, Word, a_name, more}
use Rattle.fb_model.specs.Trees.{StateTree}
use Rattle.fb_model.specs.Grammar.{IsAction, runs, runs_and_emits, emits, IsState, bare, acting, IsStates, some_states}
use Rattle.fb_model.specs.StructuredText.{Expression, Statements}
use Rattle.fb_model.specs.Declarations.{GuardTree, ChartTree}
use Rattle.fb_model.specs.DeclarationGrammar.{IsInternal, IsGuard, a_guard, IsCondition, always, on_event, on_event_where, guarded, IsTransition, a_transition, IsTransitions, some_transitions, IsProcedure, a_procedure, IsChart, a_chart}
use Rattle.fb_read.specs.Reading.{Read, stuck, is, next_is, items_at, list_at, closed_at, section_at}
use Rattle.fb_read.proofs.Readers.{Gets, Complete, never, Shorter, gets_then}
use Rattle.fb_read.proofs.Repetitions.{a_closed, many_complete, separated_complete, closed_complete, section_avoids, section_complete}
use Rattle.st_parse.specs.ExpressionReading.{continues}
use Rattle.st_parse.specs.Reading.{begins_entry}
use Rattle.st_parse.proofs.Shorter.{NoLonger}
use Rattle.fb_text.specs.Reading.{output_at, emitting_at, running_at, action_at, actions_at, state_at, states_at, internal_at, guard_at, where_at, on_event_at, guarded_at, condition_at, transition_at, transitions_at, text_at, procedure_at, chart_at}
use Rattle.fb_text.proofs.Shorter.{internal_shorter, internal_avoids, action_shorter, state_shorter, state_avoids, transition_shorter, transition_avoids, procedure_shorter, procedure_avoids}
use Rattle.fb_text.proofs.VariableComplete.{internal_complete}

-- ---- what they begin with

states_avoid : (k : Mark) → is m.EcStates k ≡ false → {ts rest : List Token} {xs : List StateTree} → IsStates ts xs rest → next_is k ts ≡ false
states_avoid k f (some_states p q) = f

-- a chart begins with VAR or EC_STATES
pub chart_avoids : (E : Gram Expression) (L : Gram Statements) (k : Mark) → is m.Var k ≡ false → is m.EcStates k ≡ false → {ts rest : List Token} {c : ChartTree} → IsChart E L ts c rest → next_is k ts ≡ false
chart_avoids E L k f g (a_chart p q r t) = section_avoids k f (states_avoid k g q) p

-- ---- states

module _ (Deep : Type 0) where
  action_complete : Complete Deep (next_is m.Arrow) IsAction action_at
  unfolding action_at running_at emitting_at output_at
  action_complete ts x rest (runs a_name) st = inl (rw st refl)
  action_complete ts x rest (runs_and_emits a_name a_name) st = inl refl
  action_complete ts x rest (emits a_name) st = inl refl

  state_complete : Complete Deep never IsState state_at
  unfolding state_at actions_at
  state_complete ts x rest (bare a_name) st = inl refl
  state_complete ts x rest (acting {s' = s} {e' = e} {mid = mid} {xs = xs} a_name h) st =
      gets_then _ _ (list_at m.Comma action_at mid) (xs, token (mark m.Semicolon) s e ∷ rest)
      (separated_complete Deep m.Comma IsAction action_at action_shorter (next_is m.Arrow) action_complete refl (λ s e ts. refl) (length mid) mid (token (mark m.Semicolon) s e ∷ rest) xs (omega arith) h refl refl)
      (inl refl)

  states_complete : Complete Deep never IsStates states_at
  unfolding states_at
  states_complete ts xs rest (some_states {ts = on} {mid = mid} {x = x} p q) st =
      subst (λ b. Gets Deep (cond b (stuck on) (closed_at m.EndStates state_at on)) (xs, rest)) (sym (state_avoids on x mid p))
      (closed_complete Deep IsState state_at state_shorter m.EndStates state_avoids state_complete refl on xs rest (a_closed (more p q)) refl)

  -- ---- transitions

  module _ (E : Gram Expression) (L : Gram Statements) (expr : Read Expression) (short : Shorter E) (whole : Complete Deep continues E expr) where
    guard_complete : Complete Deep never (IsGuard E L) (guard_at expr)
    unfolding guard_at
    guard_complete ts x rest (a_guard {s' = s} {e' = e} {ts = on} {x = c} p) st = gets_then _ _ (expr on) (c, token (mark m.RBracket) s e ∷ rest) (whole on c (token (mark m.RBracket) s e ∷ rest) p refl) (inl refl)

    condition_complete : (s e : ℕ) (ts rest : List Token) (c : Option Word) (g : Option GuardTree) → IsCondition E L ts c g (token (mark m.Semicolon) s e ∷ rest) → Gets Deep (condition_at expr ts) ((c, g), token (mark m.Semicolon) s e ∷ rest)
    unfolding condition_at on_event_at guarded_at where_at
    condition_complete s e ts rest c g always = inl refl
    condition_complete s e ts rest c g (on_event a_name) = inl refl
    condition_complete s e ts rest c o (on_event_where {mid = mid} {g = g} a_name (a_guard p)) =
        let end = token (mark m.Semicolon) s e ∷ rest in
        gets_then _ _ (where_at expr mid) (Some g, end) (gets_then _ _ (guard_at expr mid) (g, end) (guard_complete mid g end (a_guard p) refl) (inl refl)) (inl refl)
    condition_complete s e ts rest c o (guarded {g = g} (a_guard p)) =
        let end = token (mark m.Semicolon) s e ∷ rest in
        gets_then _ _ (guard_at expr ts) (g, end) (guard_complete ts g end (a_guard p) refl) (inl refl)

    transition_complete : Complete Deep never (IsTransition E L) (transition_at expr)
    unfolding transition_at
    transition_complete ts x rest (a_transition {s'' = s} {e'' = e} {on = on} {c = c} {g = g} a_name a_name p) st =
        gets_then _ _ (condition_at expr on) ((c, g), token (mark m.Semicolon) s e ∷ rest) (condition_complete s e on rest c g p) (inl refl)

    transitions_complete : Complete Deep never (IsTransitions E L) (transitions_at expr)
    unfolding transitions_at
    transitions_complete ts xs rest (some_transitions {ts = on} p) st =
        closed_complete Deep (IsTransition E L) (transition_at expr) (transition_shorter E L short) m.EndTransitions (transition_avoids E L) transition_complete refl on xs rest (a_closed p) refl

    -- ---- algorithms and charts

    module _ (list : Read Statements) (no_longer : NoLonger L) (inner : Complete Deep begins_entry L list) where
      text_complete : (s₁ e₁ s₂ e₂ s₃ e₃ : ℕ) {s₄ e₄ : ℕ} {mid rest : List Token} {xs : Statements} → L mid xs (token (mark m.EndAlgorithm) s₄ e₄ ∷ rest)
          → Gets Deep (text_at list (token (name (codes "IN")) s₁ e₁ ∷ token (name (codes "ST")) s₂ e₂ ∷ token (mark m.Colon) s₃ e₃ ∷ mid)) (xs, rest)
      unfolding text_at
      text_complete s₁ e₁ s₂ e₂ s₃ e₃ {s₄ = s} {e₄ = e} {mid = mid} {rest = rest} {xs = xs} p = gets_then _ _ (list mid) (xs, token (mark m.EndAlgorithm) s e ∷ rest) (inner mid xs (token (mark m.EndAlgorithm) s e ∷ rest) p refl) (inl refl)

      procedure_complete : Complete Deep never (IsProcedure E L) (procedure_at list)
      unfolding procedure_at
      procedure_complete ts x rest (a_procedure {s₁ = s₁} {e₁ = e₁} {s₂ = s₂} {e₂ = e₂} {s₃ = s₃} {e₃ = e₃} {mid = mid} {xs = xs} a_name p) st =
          gets_then _ _ (text_at list (token (name (codes "IN")) s₁ e₁ ∷ token (name (codes "ST")) s₂ e₂ ∷ token (mark m.Colon) s₃ e₃ ∷ mid)) (xs, rest) (text_complete s₁ e₁ s₂ e₂ s₃ e₃ p) (inl refl)

      -- a chart before END_FUNCTION_BLOCK
      pub chart_complete : (s e : ℕ) (ts rest : List Token) (c : ChartTree) → IsChart E L ts c (token (mark m.EndFunctionBlock) s e ∷ rest) → Gets Deep (chart_at expr list ts) (c, token (mark m.EndFunctionBlock) s e ∷ rest)
      unfolding chart_at
      chart_complete s e ts rest c (a_chart {ts₁ = ts₁} {ts₂ = ts₂} {ts₃ = ts₃} {vs = vs} {ss = ss} {cs = cs} {fs = fs} p q r t) =
          let end = token (mark m.EndFunctionBlock) s e ∷ rest in
          gets_then _ _ (section_at m.Var m.EndVar internal_at ts) (vs, ts₁) (section_complete Deep IsInternal internal_at internal_shorter m.EndVar internal_avoids (internal_complete Deep) m.Var refl refl ts vs ts₁ p (states_avoid m.Var refl q))
          (gets_then _ _ (states_at ts₁) (ss, ts₂) (states_complete ts₁ ss ts₂ q refl)
          (gets_then _ _ (transitions_at expr ts₂) (cs, ts₃) (transitions_complete ts₂ cs ts₃ r refl)
          (gets_then _ _ (items_at m.EndFunctionBlock (procedure_at list) ts₃) (fs, end)
          (many_complete Deep (IsProcedure E L) (procedure_at list) (procedure_shorter E L no_longer) m.EndFunctionBlock (procedure_avoids E L) procedure_complete (length ts₃) ts₃ end fs (omega arith) t refl)
          (inl refl))))
