-- What is read of states, transitions, algorithms and charts is in the grammar, where that is so of expressions and of lists of statements.
use Rattle.std.proofs.Common.{◌≡◌, ℕ, Bool, true, false, cond, List, [], ◌∷◌, length, Option, Some, None, Ok, refl, sym, subst, codes}
use Rattle.std.specs.Prelude.{◌==◌}
use Rattle.std.proofs.lemmas.Bool.{eqb-true}
use Rattle.fb_words.specs.declared.mark.Mark.TheVariants as m
use Rattle.fb_model.specs.Tokens.{Token, token, name, number, typed, duration, mark}
use Rattle.fb_model.specs.Productions.{Gram, Word, IsName, none, more, IsSeparated}
use Rattle.fb_model.specs.Trees.{ActionTree, StateTree}
use Rattle.fb_model.specs.Grammar.{IsAction, runs, runs_and_emits, emits, IsState, bare, acting, IsStates, some_states}
use Rattle.fb_model.specs.StructuredText.{Expression, Statements}
use Rattle.fb_model.specs.Declarations.{GuardTree, TransitionTree}
use Rattle.fb_model.specs.DeclarationGrammar.{IsInternal, IsGuard, a_guard, IsCondition, always, on_event, on_event_where, guarded, IsTransition, a_transition, IsTransitions, some_transitions, IsProcedure, a_procedure, IsChart, a_chart}
use Rattle.fb_read.specs.Reading.{Read, stuck, ◌>>=◌, next_is, after, offset_at, name_at, begins_name, items_at, list_at, closed_at, section_at}
use Rattle.fb_read.proofs.Readers.{Meets, Sound, meets_then, meets_as, seen, expect_then, opens, may_open, name_sound}
use Rattle.fb_read.proofs.Repetitions.{IsClosed, a_closed, IsOptional, missing, given, many_sound, separated_sound, closed_sound, section_sound, optional_sound}
use Rattle.fb_text.specs.Reading.{output_at, emitting_at, running_at, action_at, actions_at, state_at, states_at, internal_at, guard_at, where_at, on_event_at, guarded_at, condition_at, transition_at, transitions_at, text_at, procedure_at, chart_at}
use Rattle.fb_text.proofs.VariableSound.{word_then, internal_sound}

-- ---- states

output_sound : Sound (IsOptional m.Arrow IsName) output_at
unfolding output_at
output_sound ts = optional_sound IsName name_at name_sound m.Arrow ts

running_of : {ts mid rest : List Token} {x : Word} {o : Option Word} → IsName ts x mid → IsOptional m.Arrow IsName mid o rest → IsAction ts (record { algorithm = Some x; output = o }) rest
running_of p (missing f) = runs p
running_of p (given q) = runs_and_emits p q

running_sound : Sound IsAction running_at
unfolding running_at
running_sound ts = meets_then _ _ (name_at ts) (name_sound ts) (λ x mid p. meets_then _ _ (output_at mid) (output_sound mid) (λ o rest q. running_of p q))

emitting_of : {s e : ℕ} {ts rest : List Token} {o : Option Word} → IsOptional m.Arrow IsName (token (mark m.Arrow) s e ∷ ts) o rest → IsAction (token (mark m.Arrow) s e ∷ ts) (record { algorithm = None; output = o }) rest
emitting_of (missing f) = absurd cc
emitting_of (given q) = emits q

emitting_sound : (s e : ℕ) (ts : List Token) → Meets (IsAction (token (mark m.Arrow) s e ∷ ts)) (emitting_at (token (mark m.Arrow) s e ∷ ts))
unfolding emitting_at
emitting_sound s e ts = meets_then _ _ (output_at (token (mark m.Arrow) s e ∷ ts)) (output_sound (token (mark m.Arrow) s e ∷ ts)) (λ o rest q. emitting_of q)

pub action_sound : Sound IsAction action_at
unfolding action_at
action_sound ts = by (next_is m.Arrow ts) refl where
  by : (b : Bool) → next_is m.Arrow ts ≡ b → Meets (IsAction ts) (cond b (emitting_at ts) (running_at ts))
  by true h = let q = seen (λ l. ts ≡ l) m.Arrow ts h refl in subst (λ l. Meets (IsAction l) (emitting_at l)) (sym q.2) (emitting_sound q.0 q.1 (after ts))
  by false h = running_sound ts

-- [':' action {',' action}]
data IsActions : List Token → List ActionTree → List Token → Type 0 where
  no_actions : {ts : List Token} → IsActions ts [] ts
  some_actions : {s e : ℕ} {ts rest : List Token} {xs : List ActionTree} → IsSeparated m.Comma IsAction ts xs rest → IsActions (token (mark m.Colon) s e ∷ ts) xs rest

actions_sound : Sound IsActions actions_at
unfolding actions_at
actions_sound ts = may_open IsActions m.Colon ts _ _ (λ s e. meets_as _ (list_at m.Comma action_at (after ts)) (separated_sound IsAction action_at action_sound m.Comma (length (after ts)) (after ts)) (λ xs rest p. some_actions p)) (λ h. no_actions)

state_of : {s e : ℕ} {ts mid rest : List Token} {x : Word} {xs : List ActionTree} → IsName ts x mid → IsActions mid xs (token (mark m.Semicolon) s e ∷ rest) → IsState ts (record { name = x; actions = xs }) rest
state_of p no_actions = bare p
state_of p (some_actions q) = acting p q

pub state_sound : Sound IsState state_at
unfolding state_at
state_sound ts = meets_then _ _ (name_at ts) (name_sound ts) (λ x mid p.
    meets_then _ _ (actions_at mid) (actions_sound mid) (λ xs on q.
    expect_then (λ l. IsActions mid xs l) _ _ m.Semicolon on q (λ s e rest r. state_of p r)))

states_of : (s e : ℕ) (ts : List Token) → next_is m.EndStates ts ≡ false → (xs : List StateTree) (rest : List Token) → IsClosed m.EndStates IsState ts xs rest → IsStates (token (mark m.EcStates) s e ∷ ts) xs rest
states_of s e ts h xs rest (a_closed none) = absurd cc
states_of s e ts h xs rest (a_closed (more p q)) = some_states p q

pub states_sound : Sound IsStates states_at
unfolding states_at
states_sound ts = opens IsStates _ m.EcStates ts (λ s e on. by s e on (next_is m.EndStates on) refl) where
  by : (s e : ℕ) (on : List Token) (b : Bool) → next_is m.EndStates on ≡ b → Meets (IsStates (token (mark m.EcStates) s e ∷ on)) (cond b (stuck on) (closed_at m.EndStates state_at on))
  by s e on true h = tt
  by s e on false h = meets_as _ (closed_at m.EndStates state_at on) (closed_sound IsState state_at state_sound m.EndStates on) (states_of s e on h)

-- ---- transitions

module _ (E : Gram Expression) (L : Gram Statements) (expr : Read Expression) (sound : Sound E expr) where
  guard_of : {s e s' e' : ℕ} {ts on rest : List Token} {x : Expression} → ts ≡ token (mark m.LBracket) s e ∷ on → E on x (token (mark m.RBracket) s' e' ∷ rest) → IsGuard E L ts (record { at = offset_at ts; condition = x }) rest
  guard_of {rest = rest} {x = x} q p = subst (λ l. IsGuard E L l (record { at = offset_at l; condition = x }) rest) (sym q) (a_guard p)

  guard_sound : Sound (IsGuard E L) (guard_at expr)
  unfolding guard_at
  guard_sound ts = expect_then (λ l. ts ≡ l) _ _ m.LBracket ts refl (λ s e on q.
      meets_then _ _ (expr on) (sound on) (λ x close p.
      expect_then (λ l. E on x l) _ _ m.RBracket close p (λ s' e' rest p'. guard_of q p')))

  -- a condition as a pair
  abbrev pub IsPair : List Token → Option Word × Option GuardTree → List Token → Type 0
  IsPair ts c rest = IsCondition E L ts c.0 c.1 rest

  where_sound : (ts : List Token) (x : Word) (mid : List Token) → IsName ts x mid → Meets (λ g rest. IsCondition E L ts (Some x) g rest) (where_at expr mid)
  unfolding where_at
  where_sound ts x mid p = by (next_is m.LBracket mid) where
    by : (b : Bool) → Meets (λ g rest. IsCondition E L ts (Some x) g rest) (cond b (guard_at expr mid >>= λ g. Ok (Some g.0, g.1)) (Ok (None, mid)))
    by true = meets_then _ _ (guard_at expr mid) (guard_sound mid) (λ g rest q. on_event_where p q)
    by false = on_event p

  on_event_sound : Sound IsPair (on_event_at expr)
  unfolding on_event_at
  on_event_sound ts = meets_then _ _ (name_at ts) (name_sound ts) (λ x mid p. meets_then _ _ (where_at expr mid) (where_sound ts x mid p) (λ g rest q. q))

  guarded_sound : Sound IsPair (guarded_at expr)
  unfolding guarded_at
  guarded_sound ts = meets_then _ _ (guard_at expr ts) (guard_sound ts) (λ g rest q. guarded q)

  named_sound : (ts : List Token) → Meets (IsPair ts) (cond (begins_name ts) (on_event_at expr ts) (guarded_at expr ts))
  named_sound ts = by (begins_name ts) where
    by : (b : Bool) → Meets (IsPair ts) (cond b (on_event_at expr ts) (guarded_at expr ts))
    by true = on_event_sound ts
    by false = guarded_sound ts

  condition_sound : Sound IsPair (condition_at expr)
  unfolding condition_at
  condition_sound [] = named_sound []
  condition_sound (token (name x) s e ∷ ts) = named_sound (token (name x) s e ∷ ts)
  condition_sound (token (typed t b n) s e ∷ ts) = named_sound (token (typed t b n) s e ∷ ts)
  condition_sound (token (duration b n) s e ∷ ts) = named_sound (token (duration b n) s e ∷ ts)
  condition_sound (token (mark k) s e ∷ ts) = named_sound (token (mark k) s e ∷ ts)
  condition_sound (token (number n) s e ∷ ts) = by (n == 1) refl where
    by : (b : Bool) → (n == 1) ≡ b → Meets (IsPair (token (number n) s e ∷ ts)) (cond b (Ok ((None, None), ts)) (cond (begins_name (token (number n) s e ∷ ts)) (on_event_at expr (token (number n) s e ∷ ts)) (guarded_at expr (token (number n) s e ∷ ts))))
    by true h = subst (λ k. IsCondition E L (token (number k) s e ∷ ts) None None ts) (sym (eqb-true n 1 h)) always
    by false h = named_sound (token (number n) s e ∷ ts)

  pub transition_sound : Sound (IsTransition E L) (transition_at expr)
  unfolding transition_at
  transition_sound ts = meets_then _ _ (name_at ts) (name_sound ts) (λ x to p.
      expect_then (λ l. IsName ts x l) _ _ m.To to p (λ s e mid p'.
      meets_then _ _ (name_at mid) (name_sound mid) (λ y sign q.
      expect_then (λ l. IsName mid y l) _ _ m.Assign sign q (λ s' e' on q'.
      meets_then _ _ (condition_at expr on) (condition_sound on) (λ c end r.
      expect_then (λ l. IsPair on c l) _ _ m.Semicolon end r (λ s'' e'' rest r'. a_transition p' q' r'))))))

  transitions_of : (s e : ℕ) (ts : List Token) (xs : List TransitionTree) (rest : List Token) → IsClosed m.EndTransitions (IsTransition E L) ts xs rest → IsTransitions E L (token (mark m.EcTransitions) s e ∷ ts) xs rest
  transitions_of s e ts xs rest (a_closed p) = some_transitions p

  pub transitions_sound : Sound (IsTransitions E L) (transitions_at expr)
  unfolding transitions_at
  transitions_sound ts = opens (IsTransitions E L) _ m.EcTransitions ts (λ s e on.
      meets_as _ (closed_at m.EndTransitions (transition_at expr) on) (closed_sound (IsTransition E L) (transition_at expr) transition_sound m.EndTransitions on) (transitions_of s e on))

  -- ---- algorithms and charts

  module _ (list : Read Statements) (list_sound : Sound L list) where
    -- what stands behind the name of an algorithm
    abbrev pub IsText : List Token → Statements → List Token → Type 0
    IsText ts xs rest = (x : Word) (all : List Token) → IsName all x ts → (s e : ℕ) → IsProcedure E L (token (mark m.Algorithm) s e ∷ all) (record { name = x; body = xs }) rest

    text_sound : Sound IsText (text_at list)
    unfolding text_at
    text_sound ts =
        word_then (λ l. ts ≡ l) _ _ (codes "IN") ts refl (λ s₁ e₁ on p.
        word_then (λ l. ts ≡ token (name (codes "IN")) s₁ e₁ ∷ l) _ _ (codes "ST") on p (λ s₂ e₂ sign q.
        expect_then (λ l. ts ≡ token (name (codes "IN")) s₁ e₁ ∷ token (name (codes "ST")) s₂ e₂ ∷ l) _ _ m.Colon sign q (λ s₃ e₃ mid r.
        meets_then _ _ (list mid) (list_sound mid) (λ xs end t.
        expect_then (λ l. L mid xs l) _ _ m.EndAlgorithm end t (λ s₄ e₄ rest t'. λ x all n s e. a_procedure (subst (λ l. IsName all x l) r n) t')))))

    pub procedure_sound : Sound (IsProcedure E L) (procedure_at list)
    unfolding procedure_at
    procedure_sound ts = opens (IsProcedure E L) _ m.Algorithm ts (λ s e on.
        meets_then _ _ (name_at on) (name_sound on) (λ x mid p.
        meets_then _ _ (text_at list mid) (text_sound mid) (λ xs rest q. q x on p s e)))

    -- a chart, up to END_FUNCTION_BLOCK
    pub chart_sound : Sound (IsChart E L) (chart_at expr list)
    unfolding chart_at
    chart_sound ts =
        meets_then _ _ (section_at m.Var m.EndVar internal_at ts) (section_sound IsInternal internal_at internal_sound m.Var m.EndVar ts) (λ vs ts₁ p.
        meets_then _ _ (states_at ts₁) (states_sound ts₁) (λ ss ts₂ q.
        meets_then _ _ (transitions_at expr ts₂) (transitions_sound ts₂) (λ cs ts₃ r.
        meets_then _ _ (items_at m.EndFunctionBlock (procedure_at list) ts₃) (many_sound (IsProcedure E L) (procedure_at list) procedure_sound m.EndFunctionBlock (length ts₃) ts₃) (λ fs rest t. a_chart p q r t.0))))
