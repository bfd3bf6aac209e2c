-- Block types, systems and whole texts stop at the same token whatever stands behind it, where that is so of expressions and of lists of statements.
use Rattle.std.proofs.Common.{◌≡◌, cond, List, [], ◌∷◌, None, Some, Ok, refl}
use Rattle.std.specs.Prelude.{codes}
use Rattle.fb_words.specs.declared.mark.Mark.TheVariants as m
use Rattle.fb_model.specs.Tokens.{Token, token, name, number, typed, duration, mark}
use Rattle.fb_model.specs.Productions.{Gram}
use Rattle.fb_model.specs.Grammar.{IsAction, IsState}
use Rattle.fb_model.specs.StructuredText.{Expression, Statements}
use Rattle.fb_model.specs.Declarations.{Chart, Network}
use Rattle.fb_model.specs.DeclarationGrammar.{IsEvent, IsVariable, IsInternal, IsTransition, IsProcedure, IsBlock, IsResource, IsDevice}
use Rattle.fb_read.specs.Reading.{stuck, Read, ◌>>=◌, after, expect, name_at, begins_name, items_at, list_at, closed_at, section_at}
use Rattle.fb_read.proofs.Readers.{Sound, Shorter}
use Rattle.fb_read.proofs.Steady.{Steady, SeesFirst, sees_first, name_sees, steady_then, steady_done, steady_stuck, steady_after, steady_name, steady_test, steady_choice, steady_if, steady_expect, steady_place}
use Rattle.fb_read.proofs.SteadyLists.{shrinks_of, steady_items, steady_list, steady_closed, steady_section}
use Rattle.st_parse.proofs.Shorter.{NoLonger}
use Rattle.fb_text.specs.Reading.{event_at, variable_at, internal_at, network_at, output_at, emitting_at, running_at, action_at, actions_at, state_at, states_at, is_always, guard_at, where_at, on_event_at, guarded_at, condition_at, transition_at, transitions_at, text_at, procedure_at, chart_at, basic_at, composite_at, body_at, block_at, resource_at, device_at, system_at, file_at}
use Rattle.fb_text.proofs.VariableSound.{event_sound, variable_sound, internal_sound}
use Rattle.fb_text.proofs.ChartSound.{action_sound, state_sound, transition_sound, procedure_sound}
use Rattle.fb_text.proofs.Sound.{resource_sound, device_sound, block_sound}
use Rattle.fb_text.proofs.Shorter.{event_shorter, variable_shorter, internal_shorter, action_shorter, state_shorter, transition_shorter, procedure_shorter, block_shorter, resource_shorter, device_shorter}
use Rattle.fb_text.proofs.NetworkSteady.{word_steady, event_steady, variable_steady, internal_steady, network_steady}

-- ---- states

output_steady : Steady output_at
unfolding output_at
output_steady = steady_if m.Arrow (λ ts. name_at ts >>= λ x. Ok (Some x.0, x.1)) (λ ts. Ok (None, ts)) (steady_then name_at _ steady_name (λ x. steady_done (Some x))) (steady_done None)

emitting_steady : Steady emitting_at
unfolding emitting_at
emitting_steady = steady_then output_at _ output_steady (λ o. steady_done (record { algorithm = None; output = o }))

running_steady : Steady running_at
unfolding running_at
running_steady = steady_then name_at _ steady_name (λ x. steady_then output_at _ output_steady (λ o. steady_done (record { algorithm = Some x; output = o })))

action_steady : Steady action_at
unfolding action_at
action_steady = steady_choice m.Arrow emitting_at running_at emitting_steady running_steady

actions_steady : Steady actions_at
unfolding actions_at
actions_steady = steady_if m.Colon (list_at m.Comma action_at) (λ ts. Ok ([], ts)) (steady_list action_at action_steady (shrinks_of IsAction action_at action_sound action_shorter) m.Comma) (steady_done [])

state_steady : Steady state_at
unfolding state_at
state_steady = steady_then name_at _ steady_name (λ x. steady_then actions_at _ actions_steady (λ xs. steady_expect m.Semicolon _ (steady_done (record { name = x; actions = xs }))))

pub states_steady : Steady states_at
unfolding states_at
states_steady = steady_expect m.EcStates _ (steady_choice m.EndStates (λ ts. stuck ts) (closed_at m.EndStates state_at) steady_stuck (steady_closed state_at state_steady (shrinks_of IsState state_at state_sound state_shorter) m.EndStates))

-- ---- systems

resource_steady : Steady resource_at
unfolding resource_at
resource_steady =
    steady_expect m.Resource _
    (steady_then name_at _ steady_name (λ x.
    steady_then network_at _ network_steady (λ n.
    steady_expect m.EndResource _ (steady_done (record { name = x; network = n })))))

device_steady : Steady device_at
unfolding device_at
device_steady =
    steady_expect m.Device _
    (steady_then name_at _ steady_name (λ x.
    steady_then (closed_at m.EndDevice resource_at) _ (steady_closed resource_at resource_steady (shrinks_of IsResource resource_at resource_sound resource_shorter) m.EndDevice) (λ rs.
    steady_done (record { name = x; resources = rs }))))

system_steady : Steady system_at
unfolding system_at
system_steady =
    steady_expect m.System _
    (steady_then name_at _ steady_name (λ x.
    steady_then (closed_at m.EndSystem device_at) _ (steady_closed device_at device_steady (shrinks_of IsDevice device_at device_sound device_shorter) m.EndSystem) (λ ds.
    steady_done (record { name = x; devices = ds }))))

-- ---- charts

always_sees : SeesFirst is_always
always_sees = sees_first is_always by where
  by : (t : Token) (a b : List Token) → is_always (t ∷ a) ≡ is_always (t ∷ b)
  by (token (name x) s e) a b = refl
  by (token (number n) s e) a b = refl
  by (token (typed t c n) s e) a b = refl
  by (token (duration c n) s e) a b = refl
  by (token (mark k) s e) a b = refl

module _ (E : Gram Expression) (L : Gram Statements) (expr : Read Expression) (sound : Sound E expr) (short : Shorter E) (steady : Steady expr) where
  guard_steady : Steady (guard_at expr)
  unfolding guard_at
  guard_steady =
      steady_place (λ at ts. expect m.LBracket ts >>= λ begin. expr begin >>= λ x. expect m.RBracket x.1 >>= λ last. Ok (record { at = at; condition = x.0 }, last)) (λ at.
      steady_expect m.LBracket _ (steady_then expr _ steady (λ x. steady_expect m.RBracket _ (steady_done (record { at = at; condition = x })))))

  where_steady : Steady (where_at expr)
  unfolding where_at
  where_steady = steady_choice m.LBracket (λ ts. guard_at expr ts >>= λ g. Ok (Some g.0, g.1)) (λ ts. Ok (None, ts)) (steady_then (guard_at expr) _ guard_steady (λ g. steady_done (Some g))) (steady_done None)

  on_event_steady : Steady (on_event_at expr)
  unfolding on_event_at
  on_event_steady = steady_then name_at _ steady_name (λ x. steady_then (where_at expr) _ where_steady (λ g. steady_done (Some x, g)))

  guarded_steady : Steady (guarded_at expr)
  unfolding guarded_at
  guarded_steady = steady_then (guard_at expr) _ guard_steady (λ g. steady_done (None, Some g))

  condition_steady : Steady (condition_at expr)
  unfolding condition_at
  condition_steady =
      steady_test is_always always_sees (λ ts. Ok ((None, None), after ts)) (λ ts. cond (begins_name ts) (on_event_at expr ts) (guarded_at expr ts))
      (steady_after (λ ts. Ok ((None, None), ts)) (steady_done (None, None)))
      (steady_test begins_name name_sees (on_event_at expr) (guarded_at expr) on_event_steady guarded_steady)

  pub transition_steady : Steady (transition_at expr)
  unfolding transition_at
  transition_steady =
      steady_then name_at _ steady_name (λ x. steady_expect m.To _
      (steady_then name_at _ steady_name (λ y. steady_expect m.Assign _
      (steady_then (condition_at expr) _ condition_steady (λ c. steady_expect m.Semicolon _
      (steady_done (record { source = x; target = y; event = c.0; guard = c.1 })))))))

  pub transitions_steady : Steady (transitions_at expr)
  unfolding transitions_at
  transitions_steady = steady_expect m.EcTransitions _ (steady_closed (transition_at expr) transition_steady (shrinks_of (IsTransition E L) (transition_at expr) (transition_sound E L expr sound) (transition_shorter E L short)) m.EndTransitions)

  -- ---- algorithms and blocks

  module _ (list : Read Statements) (list_sound : Sound L list) (no_longer : NoLonger L) (list_steady : Steady list) where
    text_steady : Steady (text_at list)
    unfolding text_at
    text_steady = word_steady _ (word_steady _ (steady_expect m.Colon _ (steady_then list _ list_steady (λ xs. steady_expect m.EndAlgorithm _ (steady_done xs)))) (codes "ST")) (codes "IN")

    pub procedure_steady : Steady (procedure_at list)
    unfolding procedure_at
    procedure_steady = steady_expect m.Algorithm _ (steady_then name_at _ steady_name (λ x. steady_then (text_at list) _ text_steady (λ xs. steady_done (record { name = x; body = xs }))))

    chart_steady : Steady (chart_at expr list)
    unfolding chart_at
    chart_steady =
        steady_then (section_at m.Var m.EndVar internal_at) _ (steady_section internal_at internal_steady (shrinks_of IsInternal internal_at internal_sound internal_shorter) m.Var m.EndVar) (λ vs.
        steady_then states_at _ states_steady (λ ss.
        steady_then (transitions_at expr) _ transitions_steady (λ cs.
        steady_then (items_at m.EndFunctionBlock (procedure_at list)) _ (steady_items (procedure_at list) procedure_steady (shrinks_of (IsProcedure E L) (procedure_at list) (procedure_sound E L expr sound list list_sound) (procedure_shorter E L no_longer)) m.EndFunctionBlock) (λ fs.
        steady_done (record { internals = vs; states = ss; transitions = cs; algorithms = fs })))))

    basic_steady : Steady (basic_at expr list)
    unfolding basic_at
    basic_steady = steady_then (chart_at expr list) _ chart_steady (λ c. steady_done (Chart c))

    composite_steady : Steady composite_at
    unfolding composite_at
    composite_steady = steady_then network_at _ network_steady (λ n. steady_done (Network n))

    body_steady : Steady (body_at expr list)
    unfolding body_at
    body_steady = steady_choice m.Fbs composite_at (basic_at expr list) composite_steady basic_steady

    pub block_steady : Steady (block_at expr list)
    unfolding block_at
    block_steady =
        let events = steady_section event_at event_steady (shrinks_of IsEvent event_at event_sound event_shorter) in
        let variables = steady_section variable_at variable_steady (shrinks_of IsVariable variable_at variable_sound variable_shorter) in
        steady_expect m.FunctionBlock _
        (steady_then name_at _ steady_name (λ x.
        steady_then (section_at m.EventInput m.EndEvent event_at) _ (events m.EventInput m.EndEvent) (λ is.
        steady_then (section_at m.EventOutput m.EndEvent event_at) _ (events m.EventOutput m.EndEvent) (λ os.
        steady_then (section_at m.VarInput m.EndVar variable_at) _ (variables m.VarInput m.EndVar) (λ us.
        steady_then (section_at m.VarOutput m.EndVar variable_at) _ (variables m.VarOutput m.EndVar) (λ vs.
        steady_then (body_at expr list) _ body_steady (λ b.
        steady_expect m.EndFunctionBlock _ (steady_done (record { name = x; event_inputs = is; event_outputs = os; inputs = us; outputs = vs; body = b })))))))))

    pub file_steady : Steady (file_at expr list)
    unfolding file_at
    file_steady =
        steady_then (items_at m.System (block_at expr list)) _ (steady_items (block_at expr list) block_steady (shrinks_of (IsBlock E L) (block_at expr list) (block_sound E L expr sound list list_sound) (block_shorter E L no_longer short)) m.System) (λ bs.
        steady_then system_at _ system_steady (λ y. steady_done (record { blocks = bs; system = y })))
