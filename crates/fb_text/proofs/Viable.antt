-- Where the nesting is at its end, a deeper tree begins with what was read and with the token that opens one more, where that is so of expressions and of lists of statements.
use Rattle.std.proofs.Common.{◌≡◌, ℕ, Bool, true, false, cond, List, [], ◌∷◌, length, Option, None, Some, Result, Ok, refl, sym, subst, codes}
use Rattle.std.specs.Str.{bytes_eq}
use Rattle.std.proofs.lemmas.Slice.Eq.{bytes_eq-Decides}
use Rattle.fb_words.specs.declared.mark.Mark.TheVariants as m
use Rattle.fb_model.specs.Tokens.{Token, token, name, number, typed, duration, mark}
use Rattle.fb_model.specs.Productions.{Gram, Word, a_name, none, IsSection}
use Rattle.fb_model.specs.Grammar.{IsStates}
use Rattle.fb_model.specs.StructuredText.{Expression, Statements}
use Rattle.fb_model.specs.Declarations.{GuardTree, Chart}
use Rattle.fb_model.specs.DeclarationGrammar.{IsEvent, IsVariable, IsInternal, IsGuard, a_guard, IsCondition, on_event_where, guarded, IsTransition, a_transition, IsTransitions, some_transitions, IsProcedure, a_procedure, IsChart, a_chart, IsBody, basic, IsBlock, a_block, a_system}
use Rattle.fb_read.specs.Reading.{Wrong, stuck, Read, ◌>>=◌, next_is, after, expect, offset_at, name_at, begins_name, items_at, closed_at, section_at}
use Rattle.fb_read.proofs.Readers.{Sound, Shorter, shallow_then, shallow_name}
use Rattle.fb_read.proofs.Repetitions.{section_sound, section_shallow}
use Rattle.fb_read.proofs.Steady.{Steady, steady_name}
use Rattle.fb_read.proofs.SteadyLists.{shrinks_of, steady_items, steady_section}
use Rattle.fb_read.proofs.Viable.{Span, Any, GoesOn, Viable, Marked, Behind, goes_as, goes_if, goes_shallow, goes_done, goes_next, viable_expect, viable_then, is_read, is_name, shallow_closing, many_viable}
use Rattle.st_parse.proofs.ExpressionViable.{closing}
use Rattle.st_parse.proofs.Shorter.{NoLonger}
use Rattle.fb_text.specs.Reading.{event_at, variable_at, internal_at, states_at, is_always, guard_at, where_at, on_event_at, guarded_at, condition_at, transition_at, transitions_at, word_at, text_at, procedure_at, chart_at, basic_at, composite_at, body_at, block_at, system_at, file_at}
use Rattle.fb_text.proofs.VariableSound.{event_sound, variable_sound, internal_sound}
use Rattle.fb_text.proofs.ChartSound.{states_sound, transition_sound, transitions_sound, procedure_sound}
use Rattle.fb_text.proofs.Sound.{IsFront, a_front, block_sound}
use Rattle.fb_text.proofs.Shorter.{event_shorter, variable_shorter, internal_shorter, block_shorter}
use Rattle.fb_text.proofs.NetworkSteady.{event_steady, variable_steady, internal_steady}
use Rattle.fb_text.proofs.Steady.{states_steady, transition_steady, transitions_steady, procedure_steady, block_steady}
use Rattle.fb_text.proofs.Shallow.{event_shallow, variable_shallow, internal_shallow, network_shallow, states_shallow, system_shallow}

-- the name of these characters, and what is done behind it
abbrev Named : List ℕ → Span → Span
Named text P us rest = (s e : ℕ) → P (token (name text) s e ∷ us) rest

viable_word : {A : Type 0} (P : Span) (text : List ℕ) (f : List Token → Result A Wrong) → Viable (Named text P) f → Viable P (λ ts. word_at text ts >>= f)
viable_word P text f h [] = tt
viable_word P text f h (token (number n) s e ∷ ts) = tt
viable_word P text f h (token (typed t b n) s e ∷ ts) = tt
viable_word P text f h (token (duration b n) s e ∷ ts) = tt
viable_word P text f h (token (mark k) s e ∷ ts) = tt
viable_word P text f h (token (name x) s e ∷ ts) = by (bytes_eq x text) refl where
  by : (b : Bool) → bytes_eq x text ≡ b → GoesOn P (token (name x) s e ∷ ts) (cond b (Ok ts) (stuck (token (name x) s e ∷ ts)) >>= f)
  by true d =
      let same : x ≡ text = (bytes_eq-Decides x text).0 d in
      goes_next P (token (name x) s e) ts (f ts) (goes_as ts (f ts) (λ rest. (rest, λ us p. subst (λ l. P (token (name l) s e ∷ us) rest) (sym same) (p s e))) (h ts))
  by false d = tt

-- ---- sections

event_section : (opening close : _) → Steady (section_at opening close event_at)
event_section = steady_section event_at event_steady (shrinks_of IsEvent event_at event_sound event_shorter)

variable_section : (opening close : _) → Steady (section_at opening close variable_at)
variable_section = steady_section variable_at variable_steady (shrinks_of IsVariable variable_at variable_sound variable_shorter)

internal_section : Steady (section_at m.Var m.EndVar internal_at)
internal_section = steady_section internal_at internal_steady (shrinks_of IsInternal internal_at internal_sound internal_shorter) m.Var m.EndVar

-- ---- charts

module _ (E : Gram Expression) (L : Gram Statements) (expr : Read Expression) (sound : Sound E expr) (short : Shorter E) (steady : Steady expr) (viable : Viable (Any E) expr) where
  guard_viable : Viable (Any (IsGuard E L)) (guard_at expr)
  unfolding guard_at
  guard_viable ts =
      let G : Span = Any (IsGuard E L) in
      viable_expect G m.LBracket (λ begin. expr begin >>= λ x. expect m.RBracket x.1 >>= λ end. Ok (record { at = offset_at ts; condition = x.0 }, end))
      (λ mid. goes_done (Marked m.LBracket G) mid (λ x. expect m.RBracket x.1 >>= λ end. Ok (record { at = offset_at ts; condition = x.0 }, end)) (expr mid) (λ x. shallow_closing m.RBracket x.1 (λ end. (record { at = offset_at ts; condition = x.0 }, end)))
      (goes_as mid (expr mid) (λ rest. (closing m.RBracket ∷ rest, λ us h s e. (record { at = s; condition = h.0 }, a_guard h.1))) (viable mid))) ts

  where_viable : Viable (Any (IsGuard E L)) (where_at expr)
  unfolding where_at
  where_viable ts =
      let G : Span = Any (IsGuard E L) in
      goes_if G ts (next_is m.LBracket ts) (guard_at expr ts >>= λ g. Ok (Some g.0, g.1)) (Ok (None, ts)) (goes_done G ts (λ g. Ok (Some g.0, g.1)) (guard_at expr ts) (λ g. tt) (guard_viable ts)) tt

  -- a condition stands there
  abbrev Condition : Span
  Condition us rest = (c : Option Word × Option GuardTree) × IsCondition E L us c.0 c.1 rest

  on_event_viable : Viable Condition (on_event_at expr)
  unfolding on_event_at
  on_event_viable =
      viable_then Condition name_at (λ x. where_at expr x.1 >>= λ g. Ok ((Some x.0, g.0), g.1)) steady_name (λ ts. goes_shallow Condition ts (name_at ts) (shallow_name ts))
      (λ x mid. goes_done (Behind name_at x Condition) mid (λ g. Ok ((Some x, g.0), g.1)) (where_at expr mid) (λ g. tt)
      (goes_as mid (where_at expr mid) (λ rest. (rest, λ us h all d. ((Some x, Some h.0), on_event_where (is_name all x us d) h.1))) (where_viable mid)))

  guarded_viable : Viable Condition (guarded_at expr)
  unfolding guarded_at
  guarded_viable ts =
      goes_done Condition ts (λ g. Ok ((None, Some g.0), g.1)) (guard_at expr ts) (λ g. tt)
      (goes_as ts (guard_at expr ts) (λ rest. (rest, λ us h. ((None, Some h.0), guarded h.1))) (guard_viable ts))

  condition_viable : Viable Condition (condition_at expr)
  unfolding condition_at
  condition_viable ts =
      goes_if Condition ts (is_always ts) (Ok ((None, None), after ts)) (cond (begins_name ts) (on_event_at expr ts) (guarded_at expr ts)) tt
      (goes_if Condition ts (begins_name ts) (on_event_at expr ts) (guarded_at expr ts) (on_event_viable ts) (guarded_viable ts))

  transition_viable : Viable (Any (IsTransition E L)) (transition_at expr)
  unfolding transition_at
  transition_viable =
      let T : Span = Any (IsTransition E L) in
      viable_then T name_at (λ x. expect m.To x.1 >>= λ rest. name_at rest >>= λ y. expect m.Assign y.1 >>= λ on. condition_at expr on >>= λ c. expect m.Semicolon c.1 >>= λ end. Ok (record { source = x.0; target = y.0; event = c.0.0; guard = c.0.1 }, end)) steady_name
      (λ ts. goes_shallow T ts (name_at ts) (shallow_name ts))
      (λ x. let P : Span = Marked m.To (Behind name_at x T) in
      viable_expect (Behind name_at x T) m.To (λ rest. name_at rest >>= λ y. expect m.Assign y.1 >>= λ on. condition_at expr on >>= λ c. expect m.Semicolon c.1 >>= λ end. Ok (record { source = x; target = y.0; event = c.0.0; guard = c.0.1 }, end))
      (viable_then P name_at (λ y. expect m.Assign y.1 >>= λ on. condition_at expr on >>= λ c. expect m.Semicolon c.1 >>= λ end. Ok (record { source = x; target = y.0; event = c.0.0; guard = c.0.1 }, end)) steady_name
      (λ mid. goes_shallow P mid (name_at mid) (shallow_name mid))
      (λ y. viable_expect (Behind name_at y P) m.Assign (λ on. condition_at expr on >>= λ c. expect m.Semicolon c.1 >>= λ end. Ok (record { source = x; target = y; event = c.0.0; guard = c.0.1 }, end))
      (λ on. goes_done (Marked m.Assign (Behind name_at y P)) on (λ c. expect m.Semicolon c.1 >>= λ end. Ok (record { source = x; target = y; event = c.0.0; guard = c.0.1 }, end)) (condition_at expr on) (λ c. shallow_closing m.Semicolon c.1 (λ end. (record { source = x; target = y; event = c.0.0; guard = c.0.1 }, end)))
      (goes_as on (condition_at expr on) (λ rest. (closing m.Semicolon ∷ rest, λ us h s' e' mid d' s e all d. (record { source = x; target = y; event = h.0.0; guard = h.0.1 }, a_transition (is_name all x _ d) (is_name mid y _ d') h.1))) (condition_viable on))))))

  transitions_viable : Viable (Any (IsTransitions E L)) (transitions_at expr)
  unfolding transitions_at closed_at
  transitions_viable =
      let T : Span = Any (IsTransitions E L) in
      viable_expect T m.EcTransitions (λ mid. items_at m.EndTransitions (transition_at expr) mid >>= λ xs. expect m.EndTransitions xs.1 >>= λ rest. Ok (xs.0, rest))
      (λ mid. goes_done (Marked m.EcTransitions T) mid (λ xs. expect m.EndTransitions xs.1 >>= λ rest. Ok (xs.0, rest)) (items_at m.EndTransitions (transition_at expr) mid) (λ xs. shallow_closing m.EndTransitions xs.1 (λ rest. (xs.0, rest)))
      (goes_as mid (items_at m.EndTransitions (transition_at expr) mid) (λ rest. (closing m.EndTransitions ∷ rest, λ us h s e. (h.0, some_transitions h.1)))
      (many_viable (IsTransition E L) (transition_at expr) (transition_sound E L expr sound) (transition_steady E L expr sound short steady) transition_viable m.EndTransitions (length mid) mid)))

  -- ---- algorithms and blocks

  module _ (list : Read Statements) (list_sound : Sound L list) (no_longer : NoLonger L) (list_steady : Steady list) (list_viable : Viable (Any L) list) where
    text_viable : (x : Word) → Viable (Behind name_at x (Marked m.Algorithm (Any (IsProcedure E L)))) (text_at list)
    unfolding text_at
    text_viable x =
        let P : Span = Behind name_at x (Marked m.Algorithm (Any (IsProcedure E L))) in
        let Q : Span = Named (codes "ST") (Named (codes "IN") P) in
        viable_word P (codes "IN") (λ on. word_at (codes "ST") on >>= λ sign. expect m.Colon sign >>= λ begin. list begin >>= λ xs. expect m.EndAlgorithm xs.1 >>= λ end. Ok (xs.0, end))
        (viable_word (Named (codes "IN") P) (codes "ST") (λ sign. expect m.Colon sign >>= λ begin. list begin >>= λ xs. expect m.EndAlgorithm xs.1 >>= λ end. Ok (xs.0, end))
        (viable_expect Q m.Colon (λ begin. list begin >>= λ xs. expect m.EndAlgorithm xs.1 >>= λ end. Ok (xs.0, end))
        (λ mid. goes_done (Marked m.Colon Q) mid (λ xs. expect m.EndAlgorithm xs.1 >>= λ end. Ok (xs.0, end)) (list mid) (λ xs. shallow_closing m.EndAlgorithm xs.1 (λ end. (xs.0, end)))
        (goes_as mid (list mid) (λ rest. (closing m.EndAlgorithm ∷ rest, λ us h s₃ e₃ s₂ e₂ s₁ e₁ all d s e. (record { name = x; body = h.0 }, a_procedure (is_name all x _ d) h.1))) (list_viable mid)))))

    procedure_viable : Viable (Any (IsProcedure E L)) (procedure_at list)
    unfolding procedure_at
    procedure_viable =
        let P : Span = Marked m.Algorithm (Any (IsProcedure E L)) in
        viable_expect (Any (IsProcedure E L)) m.Algorithm (λ begin. name_at begin >>= λ x. text_at list x.1 >>= λ xs. Ok (record { name = x.0; body = xs.0 }, xs.1))
        (viable_then P name_at (λ x. text_at list x.1 >>= λ xs. Ok (record { name = x.0; body = xs.0 }, xs.1)) steady_name (λ mid. goes_shallow P mid (name_at mid) (shallow_name mid))
        (λ x mid. goes_done (Behind name_at x P) mid (λ xs. Ok (record { name = x; body = xs.0 }, xs.1)) (text_at list mid) (λ xs. tt) (text_viable x mid)))

    chart_viable : Viable (Any (IsChart E L)) (chart_at expr list)
    unfolding chart_at
    chart_viable =
        let C : Span = Any (IsChart E L) in
        let internals = section_at m.Var m.EndVar internal_at in
        let is_section = is_read (IsSection m.Var m.EndVar IsInternal) internals (section_sound IsInternal internal_at internal_sound m.Var m.EndVar) in
        let is_states = is_read IsStates states_at states_sound in
        viable_then C internals (λ vs. states_at vs.1 >>= λ ss. transitions_at expr ss.1 >>= λ cs. items_at m.EndFunctionBlock (procedure_at list) cs.1 >>= λ fs. Ok (record { internals = vs.0; states = ss.0; transitions = cs.0; algorithms = fs.0 }, fs.1)) internal_section
        (λ ts. goes_shallow C ts (internals ts) (section_shallow internal_at internal_shallow m.Var m.EndVar ts))
        (λ vs. let P : Span = Behind internals vs C in
        viable_then P states_at (λ ss. transitions_at expr ss.1 >>= λ cs. items_at m.EndFunctionBlock (procedure_at list) cs.1 >>= λ fs. Ok (record { internals = vs; states = ss.0; transitions = cs.0; algorithms = fs.0 }, fs.1)) states_steady
        (λ mid. goes_shallow P mid (states_at mid) (states_shallow mid))
        (λ ss. let Q : Span = Behind states_at ss P in
        viable_then Q (transitions_at expr) (λ cs. items_at m.EndFunctionBlock (procedure_at list) cs.1 >>= λ fs. Ok (record { internals = vs; states = ss; transitions = cs.0; algorithms = fs.0 }, fs.1)) (transitions_steady E L expr sound short steady)
        (λ mid. goes_as mid (transitions_at expr mid) (λ rest. (rest, λ us h all' d' all d. (record { internals = vs; states = ss; transitions = h.0; algorithms = [] }, a_chart (is_section all vs all' d) (is_states all' ss us d') h.1 none))) (transitions_viable mid))
        (λ cs mid. goes_done (Behind (transitions_at expr) cs Q) mid (λ fs. Ok (record { internals = vs; states = ss; transitions = cs; algorithms = fs.0 }, fs.1)) (items_at m.EndFunctionBlock (procedure_at list) mid) (λ fs. tt)
        (goes_as mid (items_at m.EndFunctionBlock (procedure_at list) mid) (λ rest. (
          rest,
          λ us h all'' d'' all' d' all d. (
            record { internals = vs; states = ss; transitions = cs; algorithms = h.0 },
            a_chart (is_section all vs all' d) (is_states all' ss all'' d') (is_read (IsTransitions E L) (transitions_at expr) (transitions_sound E L expr sound) all'' cs us d'') h.1,
          ),
        ))
        (many_viable (IsProcedure E L) (procedure_at list) (procedure_sound E L expr sound list list_sound) (procedure_steady E L expr sound short steady list list_sound no_longer list_steady) procedure_viable m.EndFunctionBlock (length mid) mid)))))

    body_viable : Viable (Any (IsBody E L)) (body_at expr list)
    unfolding body_at basic_at composite_at
    body_viable ts =
        let B : Span = Any (IsBody E L) in
        goes_if B ts (next_is m.Fbs ts) (composite_at ts) (basic_at expr list ts) (goes_shallow B ts (composite_at ts) (shallow_then _ _ (network_shallow ts) (λ n. tt)))
        (goes_done B ts (λ c. Ok (Chart c.0, c.1)) (chart_at expr list ts) (λ c. tt) (goes_as ts (chart_at expr list ts) (λ rest. (rest, λ us h. (Chart h.0, basic h.1))) (chart_viable ts)))

    block_viable : Viable (Any (IsBlock E L)) (block_at expr list)
    unfolding block_at
    block_viable =
        let K : Span = Any (IsBlock E L) in
        let P₀ : Span = Marked m.FunctionBlock K in
        let ins = section_at m.EventInput m.EndEvent event_at in
        let outs = section_at m.EventOutput m.EndEvent event_at in
        let takes = section_at m.VarInput m.EndVar variable_at in
        let gives = section_at m.VarOutput m.EndVar variable_at in
        viable_expect K m.FunctionBlock _
        (viable_then P₀ name_at _ steady_name (λ ts. goes_shallow P₀ ts (name_at ts) (shallow_name ts)) (λ x. let P₁ : Span = Behind name_at x P₀ in
        viable_then P₁ ins _ (event_section m.EventInput m.EndEvent) (λ ts. goes_shallow P₁ ts (ins ts) (section_shallow event_at event_shallow m.EventInput m.EndEvent ts)) (λ is. let P₂ : Span = Behind ins is P₁ in
        viable_then P₂ outs _ (event_section m.EventOutput m.EndEvent) (λ ts. goes_shallow P₂ ts (outs ts) (section_shallow event_at event_shallow m.EventOutput m.EndEvent ts)) (λ os. let P₃ : Span = Behind outs os P₂ in
        viable_then P₃ takes _ (variable_section m.VarInput m.EndVar) (λ ts. goes_shallow P₃ ts (takes ts) (section_shallow variable_at variable_shallow m.VarInput m.EndVar ts)) (λ us. let P₄ : Span = Behind takes us P₃ in
        viable_then P₄ gives _ (variable_section m.VarOutput m.EndVar) (λ ts. goes_shallow P₄ ts (gives ts) (section_shallow variable_at variable_shallow m.VarOutput m.EndVar ts)) (λ vs mid.
        goes_done (Behind gives vs P₄) mid (λ b. expect m.EndFunctionBlock b.1 >>= λ end. Ok (record { name = x; event_inputs = is; event_outputs = os; inputs = us; outputs = vs; body = b.0 }, end)) (body_at expr list mid)
        (λ b. shallow_closing m.EndFunctionBlock b.1 (λ end. (record { name = x; event_inputs = is; event_outputs = os; inputs = us; outputs = vs; body = b.0 }, end)))
        (goes_as mid (body_at expr list mid) (λ rest. (
          closing m.EndFunctionBlock ∷ rest,
          λ ws h ts₅ d₅ ts₄ d₄ ts₃ d₃ ts₂ d₂ ts₁ d₁ s e. (
            record { name = x; event_inputs = is; event_outputs = os; inputs = us; outputs = vs; body = h.0 },
            a_block (is_name ts₁ x ts₂ d₁)
                (is_read (IsSection m.EventInput m.EndEvent IsEvent) ins (section_sound IsEvent event_at event_sound m.EventInput m.EndEvent) ts₂ is ts₃ d₂)
                (is_read (IsSection m.EventOutput m.EndEvent IsEvent) outs (section_sound IsEvent event_at event_sound m.EventOutput m.EndEvent) ts₃ os ts₄ d₃)
                (is_read (IsSection m.VarInput m.EndVar IsVariable) takes (section_sound IsVariable variable_at variable_sound m.VarInput m.EndVar) ts₄ us ts₅ d₄)
                (is_read (IsSection m.VarOutput m.EndVar IsVariable) gives (section_sound IsVariable variable_at variable_sound m.VarOutput m.EndVar) ts₅ vs ws d₅)
                h.1,
          ),
        )) (body_viable mid))))))))

    pub file_viable : Viable (Any (IsFront E L)) (file_at expr list)
    unfolding file_at
    file_viable =
        let F : Span = Any (IsFront E L) in
        let items = items_at m.System (block_at expr list) in
        viable_then F items (λ bs. system_at bs.1 >>= λ y. Ok (record { blocks = bs.0; system = y.0 }, y.1))
        (steady_items (block_at expr list) (block_steady E L expr sound short steady list list_sound no_longer list_steady) (shrinks_of (IsBlock E L) (block_at expr list) (block_sound E L expr sound list list_sound) (block_shorter E L no_longer short)) m.System)
        (λ ts. goes_as ts (items ts) (λ rest. (closing m.System ∷ token (name []) 0 0 ∷ closing m.EndSystem ∷ rest, λ us h. (_, a_front h.1 (a_system a_name none))))
        (many_viable (IsBlock E L) (block_at expr list) (block_sound E L expr sound list list_sound) (block_steady E L expr sound short steady list list_sound no_longer list_steady) block_viable m.System (length ts) ts))
        (λ bs mid. goes_shallow (Behind items bs F) mid (system_at mid >>= λ y. Ok (record { blocks = bs; system = y.0 }, y.1)) (shallow_then _ (system_at mid) (system_shallow mid) (λ y. tt)))
