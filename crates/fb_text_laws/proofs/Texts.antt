-- Wherever reading of charts, block types or systems stops, the tokens before that place can be gone on with, where that is so of expressions and of lists of statements.
use Rattle.std.proofs.Common.{◌≡◌, ℕ, Bool, true, false, cond, List, [], ◌∷◌, Option, None, Some, Ok, refl, sym, subst, codes}
use Rattle.std.specs.Prelude.{◌==◌}
use Rattle.std.proofs.lemmas.Bool.{eqb-true}
use Rattle.fb_words.specs.declared.mark.Mark.TheVariants as m
use Rattle.fb_model.specs.Tokens.{Token, token, name, number, typed, duration, mark}
use Rattle.fb_model.specs.Productions.{Gram, Word, IsName, IsMany, IsSeparated, IsSection, present}
use Rattle.fb_model.specs.Trees.{StateTree, ActionTree}
use Rattle.fb_model.specs.Grammar.{IsAction, runs, runs_and_emits, emits, IsState, bare, acting, IsStates, some_states}
use Rattle.fb_model.specs.StructuredText.{Expression, Statements}
use Rattle.fb_model.specs.Declarations.{GuardTree, Network, InstanceTree, BodyTree}
use Rattle.fb_model.specs.DeclarationGrammar.{IsEvent, IsVariable, IsInternal, IsInstance, IsNetwork, a_network, IsGuard, a_guard, IsCondition, always, on_event, on_event_where, guarded, IsTransition, a_transition, IsTransitions, some_transitions, IsProcedure, a_procedure, IsChart, a_chart, IsBody, basic, composite, IsBlock, a_block, IsResource, a_resource, IsDevice, a_device, IsSystem, a_system}
use Rattle.fb_read.specs.Reading.{stuck, Read, ◌>>=◌, next_is, after, name_at, begins_name, items_at, list_at, closed_at, section_at}
use Rattle.fb_text.specs.Reading.{event_at, variable_at, internal_at, instance_at, network_at, output_at, emitting_at, running_at, action_at, actions_at, state_at, states_at, guard_at, where_at, on_event_at, guarded_at, condition_at, transition_at, transitions_at, text_at, procedure_at, chart_at, basic_at, composite_at, body_at, block_at, resource_at, device_at, system_at, file_at}
use Rattle.fb_text.proofs.Sound.{IsFront, a_front}
use Rattle.fb_text_laws.proofs.Lexemes.{in_spelled, st_spelled}
use Rattle.fb_text_laws.proofs.Steps.{Span, Any, Marked, Behind, Fills, GoesOn, Fine, stopped, fine_done, fine_as, fine_then, fine_last, fine_if, goes_marked, fine_expect, fine_may}
use Rattle.fb_text_laws.proofs.Items.{items_fine, list_fine, closed_fine, section_fine, fills_some, some_goes}
use Rattle.fb_text_laws.proofs.Words.{taken, name_fine, fine_word}
use Rattle.fb_text_laws.proofs.Declarations.{event_fine, variable_fine, internal_fine, instance_fine, Wires, some_wires, wires_at, wires_fine, network_fine}

-- ---- states

-- name, behind `->`
abbrev emitted_at : Read (Option Word)
emitted_at us = name_at us >>= λ x. Ok (Some x.0, x.1)

emitting_fine : Fine {A = ActionTree} (Marked m.Arrow (Any IsAction)) (λ us. emitted_at us >>= λ o. Ok (record { algorithm = None; output = o.0 }, o.1))
emitting_fine =
    fine_last (Marked m.Arrow (Any IsAction)) emitted_at _
    (fine_last (Marked m.Arrow (Any IsAction)) name_at _ (fine_as (Marked m.Arrow (Any IsAction)) name_at (λ us rest x s e. (_, emits x.1)) name_fine))

running_fine : Fine (Any IsAction) running_at
unfolding running_at output_at
running_fine =
    let P : Span = Behind (Any IsName) (Any IsAction) in
    fine_then (Any IsAction) (Any IsName) name_at _ name_fine (λ l x.
    fine_last P output_at _ (fine_may P m.Arrow (λ l. emitted_at) (λ ts. Ok (None, ts))
    (λ l. fine_last (Marked m.Arrow P) name_at _ (fine_as (Marked m.Arrow P) name_at (λ us rest y s e all x. (_, runs_and_emits x.1 y.1)) name_fine)) (fine_done P (λ ts. None) (λ us all x. (_, runs x.1)))))

action_fine : Fine (Any IsAction) action_at
unfolding action_at emitting_at output_at
action_fine = record { sample = running_fine.sample; fills = running_fine.fills; goes_on = λ ts. by ts (next_is m.Arrow ts) refl } where
  by : (ts : List Token) (b : Bool) → next_is m.Arrow ts ≡ b → GoesOn (Any IsAction) ts (cond b (emitting_at ts) (running_at ts))
  by ts true e =
      subst (λ b. GoesOn {A = ActionTree} (Any IsAction) ts (cond b (emitted_at (after ts)) (Ok (None, ts)) >>= λ o. Ok (record { algorithm = None; output = o.0 }, o.1))) (sym e)
      (goes_marked (Any IsAction) m.Arrow ts e _ (emitting_fine.goes_on (after ts)))
  by ts false e = running_fine.goes_on ts

-- [':' action {',' action}]
data Acts : List Token → List Token → Type 0 where
  no_acts : {ts : List Token} → Acts ts ts
  some_acts : {s e : ℕ} {ts rest : List Token} {xs : List ActionTree} → IsSeparated m.Comma IsAction ts xs rest → Acts (token (mark m.Colon) s e ∷ ts) rest

actions_fine : Fine Acts actions_at
unfolding actions_at
actions_fine =
    fine_may Acts m.Colon (λ l. list_at m.Comma action_at) (λ ts. Ok ([], ts)) (λ l. fine_as (Marked m.Colon Acts) (list_at m.Comma action_at) (λ us rest h s e. some_acts h.1) (list_fine IsAction action_at action_fine m.Comma))
    (fine_done Acts (λ ts. []) (λ us. no_acts))

state_of : {s e : ℕ} {ts mid rest : List Token} {x : Word} → IsName ts x mid → Acts mid (token (mark m.Semicolon) s e ∷ rest) → Any IsState ts rest
state_of p no_acts = (_, bare p)
state_of p (some_acts q) = (_, acting p q)

state_fine : Fine (Any IsState) state_at
unfolding state_at
state_fine =
    fine_then (Any IsState) (Any IsName) name_at _ name_fine (λ l x.
    fine_then _ Acts actions_at _ actions_fine (λ l xs.
    fine_expect _ m.Semicolon _ (λ l. fine_done _ _ (λ us s e mid q all p. state_of p.1 q))))

-- what stands behind EC_STATES
abbrev States : Span
States = Marked m.EcStates (Any IsStates)

states_of : (us rest mid : List Token) (x : StateTree) (xs : List StateTree) (s e : ℕ) → IsState us x mid → IsMany IsState mid xs (token (mark m.EndStates) s e ∷ rest) → States us rest
states_of us rest mid x xs s e p q s' e' = (_, some_states p q)

fills_states : Fills States
fills_states = fills_some IsState state_at state_fine m.EndStates States states_of

states_fine : Fine (Any IsStates) states_at
unfolding states_at
states_fine = fine_expect (Any IsStates) m.EcStates _ (λ l. record { sample = []; fills = fills_states; goes_on = λ ts. by ts (next_is m.EndStates ts) refl }) where
  by : (ts : List Token) (b : Bool) → next_is m.EndStates ts ≡ b → GoesOn States ts (cond b (stuck ts) (closed_at m.EndStates state_at ts))
  by ts true e = stopped States fills_states ts
  by ts false e = some_goes IsState state_at state_fine m.EndStates States states_of ts e

-- ---- charts

module _ (E : Gram Expression) (L : Gram Statements) (expr : Read Expression) (fine : Fine (Any E) expr) where
  guard_fine : Fine (Any (IsGuard E L)) (guard_at expr)
  unfolding guard_at
  guard_fine =
      fine_expect (Any (IsGuard E L)) m.LBracket _ (λ l.
      fine_then _ (Any E) expr _ fine (λ l' x.
      fine_expect _ m.RBracket _ (λ l''. fine_done _ _ (λ us s' e' all x s e. (_, a_guard x.1)))))

  -- a condition stands there
  abbrev Condition : Span
  Condition us rest = (c : Option Word) × (g : Option GuardTree) × IsCondition E L us c g rest

  where_fine : Fine (Behind (Any IsName) Condition) (where_at expr)
  unfolding where_at
  where_fine =
      let P : Span = Behind (Any IsName) Condition in
      fine_if P (next_is m.LBracket) (λ ts. guard_at expr ts >>= λ g. Ok (Some g.0, g.1)) (λ ts. Ok (None, ts))
      (fine_last P (guard_at expr) _ (fine_as P (guard_at expr) (λ us rest g all x. (_, _, on_event_where x.1 g.1)) guard_fine)) (fine_done P (λ ts. None) (λ us all x. (_, _, on_event x.1)))

  on_event_fine : Fine Condition (on_event_at expr)
  unfolding on_event_at
  on_event_fine = fine_then Condition (Any IsName) name_at _ name_fine (λ l x. fine_last (Behind (Any IsName) Condition) (where_at expr) _ where_fine)

  guarded_fine : Fine Condition (guarded_at expr)
  unfolding guarded_at
  guarded_fine = fine_last Condition (guard_at expr) _ (fine_as Condition (guard_at expr) (λ us rest g. (_, _, guarded g.1)) guard_fine)

  named_fine : Fine Condition (λ ts. cond (begins_name ts) (on_event_at expr ts) (guarded_at expr ts))
  named_fine = fine_if Condition begins_name (on_event_at expr) (guarded_at expr) on_event_fine guarded_fine

  condition_goes : (ts : List Token) → GoesOn Condition ts (condition_at expr ts)
  unfolding condition_at
  condition_goes [] = named_fine.goes_on []
  condition_goes (token (name x) s e ∷ ts) = named_fine.goes_on (token (name x) s e ∷ ts)
  condition_goes (token (typed a b n) s e ∷ ts) = named_fine.goes_on (token (typed a b n) s e ∷ ts)
  condition_goes (token (duration b n) s e ∷ ts) = named_fine.goes_on (token (duration b n) s e ∷ ts)
  condition_goes (token (mark k) s e ∷ ts) = named_fine.goes_on (token (mark k) s e ∷ ts)
  condition_goes (token (number n) s e ∷ ts) = by (n == 1) refl where
    by : (b : Bool) → (n == 1) ≡ b → GoesOn Condition (token (number n) s e ∷ ts) (cond b (Ok ((None, None), ts)) (cond (begins_name (token (number n) s e ∷ ts)) (on_event_at expr (token (number n) s e ∷ ts)) (guarded_at expr (token (number n) s e ∷ ts))))
    by true h = taken Condition (token (number n) s e) ts (λ rest. subst (λ k. Condition (token (number k) s e ∷ rest) rest) (sym (eqb-true n 1 h)) (_, _, always))
    by false h = named_fine.goes_on (token (number n) s e ∷ ts)

  condition_fine : Fine Condition (condition_at expr)
  condition_fine = record { sample = (None, None); fills = named_fine.fills; goes_on = condition_goes }

  transition_fine : Fine (Any (IsTransition E L)) (transition_at expr)
  unfolding transition_at
  transition_fine =
      fine_then (Any (IsTransition E L)) (Any IsName) name_at _ name_fine (λ l x.
      fine_expect _ m.To _ (λ l.
      fine_then _ (Any IsName) name_at _ name_fine (λ l y.
      fine_expect _ m.Assign _ (λ l.
      fine_then _ Condition (condition_at expr) _ condition_fine (λ l c.
      fine_expect _ m.Semicolon _ (λ l. fine_done _ _ (λ us s'' e'' on c s' e' mid y s e all x. (_, a_transition x.1 y.1 c.2))))))))

  transitions_fine : Fine (Any (IsTransitions E L)) (transitions_at expr)
  unfolding transitions_at
  transitions_fine =
      fine_expect (Any (IsTransitions E L)) m.EcTransitions _ (λ l.
      closed_fine (IsTransition E L) (transition_at expr) transition_fine m.EndTransitions (Marked m.EcTransitions (Any (IsTransitions E L))) (λ us rest xs s' e' p s e. (_, some_transitions p)))

  -- ---- algorithms and blocks

  module _ (list : Read Statements) (inner : Fine (Any L) list) where
    text_fine : Fine (Behind (Any IsName) (Marked m.Algorithm (Any (IsProcedure E L)))) (text_at list)
    unfolding text_at
    text_fine =
        fine_word (Behind (Any IsName) (Marked m.Algorithm (Any (IsProcedure E L)))) (codes "IN") in_spelled _ (λ l.
        fine_word _ (codes "ST") st_spelled _ (λ l.
        fine_expect _ m.Colon _ (λ l.
        fine_then _ (Any L) list _ inner (λ l xs.
        fine_expect _ m.EndAlgorithm _ (λ l. fine_done _ _ (λ us s₄ e₄ mid xs s₃ e₃ s₂ e₂ s₁ e₁ all x s e. (_, a_procedure x.1 xs.1)))))))

    procedure_fine : Fine (Any (IsProcedure E L)) (procedure_at list)
    unfolding procedure_at
    procedure_fine =
        fine_expect (Any (IsProcedure E L)) m.Algorithm _ (λ l.
        fine_then _ (Any IsName) name_at _ name_fine (λ l x. fine_last _ (text_at list) _ text_fine))

    chart_fine : Fine (Any (IsChart E L)) (chart_at expr list)
    unfolding chart_at
    chart_fine =
        fine_then (Any (IsChart E L)) (Any (IsSection m.Var m.EndVar IsInternal)) (section_at m.Var m.EndVar internal_at) _ (section_fine IsInternal internal_at internal_fine m.Var m.EndVar) (λ l vs.
        fine_then _ (Any IsStates) states_at _ states_fine (λ l ss.
        fine_then _ (Any (IsTransitions E L)) (transitions_at expr) _ transitions_fine (λ l cs.
        fine_last _ (items_at m.EndFunctionBlock (procedure_at list)) _
        (fine_as _ (items_at m.EndFunctionBlock (procedure_at list)) (λ us rest fs ts₂ cs ts₁ ss all vs. (_, a_chart vs.1 ss.1 cs.1 fs.1)) (items_fine (IsProcedure E L) (procedure_at list) procedure_fine m.EndFunctionBlock)))))

    basic_fine : Fine (Any (IsBody E L)) (basic_at expr list)
    unfolding basic_at
    basic_fine = fine_last (Any (IsBody E L)) (chart_at expr list) _ (fine_as (Any (IsBody E L)) (chart_at expr list) (λ us rest c. (_, basic c.1)) chart_fine)

    -- instances behind FBS, up to END_FBS and with it
    abbrev Closed : Span
    Closed us rest = (is : List InstanceTree) × (s : ℕ) × (e : ℕ) × IsMany IsInstance us is (token (mark m.EndFbs) s e ∷ rest)

    composite_of : {s e : ℕ} {ts mid rest : List Token} → Closed ts mid → Wires mid rest → Any (IsBody E L) (token (mark m.Fbs) s e ∷ ts) rest
    composite_of p (some_wires q r) = (_, composite (a_network (present p.3) q.1 r.1))

    composite_fine : Fine {A = BodyTree} (Marked m.Fbs (Any (IsBody E L))) (λ us. (closed_at m.EndFbs instance_at us >>= λ is. wires_at is.0 is.1) >>= λ n. Ok (Network n.0, n.1))
    composite_fine =
        fine_last (Marked m.Fbs (Any (IsBody E L))) _ _
        (fine_then (Marked m.Fbs (Any (IsBody E L))) Closed (closed_at m.EndFbs instance_at) _ (closed_fine IsInstance instance_at instance_fine m.EndFbs Closed (λ us rest xs s e p. (xs, s, e, p))) (λ l is.
        fine_as _ (wires_at is) (λ us rest w all p s e. composite_of p w) (wires_fine is)))

    body_fine : Fine (Any (IsBody E L)) (body_at expr list)
    unfolding body_at composite_at network_at section_at
    body_fine = record { sample = basic_fine.sample; fills = basic_fine.fills; goes_on = λ ts. by ts (next_is m.Fbs ts) refl } where
      by : (ts : List Token) (b : Bool) → next_is m.Fbs ts ≡ b → GoesOn (Any (IsBody E L)) ts (cond b (composite_at ts) (basic_at expr list ts))
      by ts true e =
          subst (λ b. GoesOn {A = BodyTree} (Any (IsBody E L)) ts ((cond b (closed_at m.EndFbs instance_at (after ts)) (Ok ([], ts)) >>= λ is. wires_at is.0 is.1) >>= λ n. Ok (Network n.0, n.1))) (sym e)
          (goes_marked (Any (IsBody E L)) m.Fbs ts e _ (composite_fine.goes_on (after ts)))
      by ts false e = basic_fine.goes_on ts

    block_fine : Fine (Any (IsBlock E L)) (block_at expr list)
    unfolding block_at
    block_fine =
        fine_expect (Any (IsBlock E L)) m.FunctionBlock _ (λ l.
        fine_then _ (Any IsName) name_at _ name_fine (λ l x.
        fine_then _ (Any (IsSection m.EventInput m.EndEvent IsEvent)) (section_at m.EventInput m.EndEvent event_at) _ (section_fine IsEvent event_at event_fine m.EventInput m.EndEvent) (λ l is.
        fine_then _ (Any (IsSection m.EventOutput m.EndEvent IsEvent)) (section_at m.EventOutput m.EndEvent event_at) _ (section_fine IsEvent event_at event_fine m.EventOutput m.EndEvent) (λ l os.
        fine_then _ (Any (IsSection m.VarInput m.EndVar IsVariable)) (section_at m.VarInput m.EndVar variable_at) _ (section_fine IsVariable variable_at variable_fine m.VarInput m.EndVar) (λ l us.
        fine_then _ (Any (IsSection m.VarOutput m.EndVar IsVariable)) (section_at m.VarOutput m.EndVar variable_at) _ (section_fine IsVariable variable_at variable_fine m.VarOutput m.EndVar) (λ l vs.
        fine_then _ (Any (IsBody E L)) (body_at expr list) _ body_fine (λ l b.
        fine_expect _ m.EndFunctionBlock _ (λ l. fine_done _ _ (λ rest s' e' ts₅ b ts₄ vs ts₃ us ts₂ os ts₁ is all x s e. (_, a_block x.1 is.1 os.1 us.1 vs.1 b.1))))))))))

-- ---- systems

resource_fine : Fine (Any IsResource) resource_at
unfolding resource_at
resource_fine =
    fine_expect (Any IsResource) m.Resource _ (λ l.
    fine_then _ (Any IsName) name_at _ name_fine (λ l x.
    fine_then _ (Any IsNetwork) network_at _ network_fine (λ l n.
    fine_expect _ m.EndResource _ (λ l. fine_done _ _ (λ us s' e' mid n all x s e. (_, a_resource x.1 n.1))))))

device_fine : Fine (Any IsDevice) device_at
unfolding device_at
device_fine =
    let P : Span = Behind (Any IsName) (Marked m.Device (Any IsDevice)) in
    fine_expect (Any IsDevice) m.Device _ (λ l.
    fine_then _ (Any IsName) name_at _ name_fine (λ l x.
    fine_last P (closed_at m.EndDevice resource_at) _ (closed_fine IsResource resource_at resource_fine m.EndDevice P (λ us rest rs s' e' p all x s e. (_, a_device x.1 p)))))

system_fine : Fine (Any IsSystem) system_at
unfolding system_at
system_fine =
    let P : Span = Behind (Any IsName) (Marked m.System (Any IsSystem)) in
    fine_expect (Any IsSystem) m.System _ (λ l.
    fine_then _ (Any IsName) name_at _ name_fine (λ l x.
    fine_last P (closed_at m.EndSystem device_at) _ (closed_fine IsDevice device_at device_fine m.EndSystem P (λ us rest ds s' e' p all x s e. (_, a_system x.1 p)))))

pub file_fine : (E : Gram Expression) (L : Gram Statements) (expr : Read Expression) → Fine (Any E) expr → (list : Read Statements) → Fine (Any L) list → Fine (Any (IsFront E L)) (file_at expr list)
unfolding file_at
file_fine E L expr fine list inner =
    fine_then (Any (IsFront E L)) (Any (IsMany (IsBlock E L))) (items_at m.System (block_at expr list)) _ (items_fine (IsBlock E L) (block_at expr list) (block_fine E L expr fine list inner) m.System) (λ l bs.
    fine_last _ system_at _ (fine_as _ system_at (λ us rest y all bs. (_, a_front bs.1 y.1)) system_fine))
