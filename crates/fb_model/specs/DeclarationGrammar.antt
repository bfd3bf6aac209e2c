-- The grammar of declarations, one case a production. IEC 61499-1 edition 2, annex B (textual syntax), this project's profile.
use Rattle.std.specs.Prelude.{ℕ, List, [], ◌∷◌, Option, None, Some, codes}
use Rattle.fb_words.specs.declared.mark.Mark.{Mark}
use Rattle.fb_words.specs.declared.mark.Mark.TheVariants as m
use Rattle.fb_words.specs.declared.elem_type.ElemType.{ElemType}
use Rattle.fb_words.specs.declared.elem_type.ElemType.TheVariants as t
use Rattle.fb_model.specs.Tokens.{Token, token, name, number, mark}
use Rattle.fb_model.specs.Productions.{Gram, Word, IsName, IsMany, IsSeparated, IsSection}
use Rattle.fb_model.specs.Trees.{Constant, StateTree, ParameterTree, ConnectionTree}
use Rattle.fb_model.specs.Grammar.{IsConstant, IsStates, IsParameter, IsConnection}
use Rattle.fb_model.specs.StructuredText.{Expression, Statements}
use Rattle.fb_model.specs.StructuredTextGrammar.{IsInteger}
use Rattle.fb_model.specs.Declarations.{EventTree, BoundsTree, StartTree, VariableTree, GuardTree, TransitionTree, AlgorithmTree, ChartTree, InstanceTree, NetworkTree, BodyTree, Chart, Network, BlockTree, ResourceTree, DeviceTree, SystemTree, SourceTree}

-- ---- events

-- [':' EVENT]
pub data IsKind : List Token → List Token → Type 0 where
  unsaid : {ts : List Token} → IsKind ts ts
  said : {s e s' e' : ℕ} {ts : List Token} → IsKind (token (mark m.Colon) s e ∷ token (name (codes "EVENT")) s' e' ∷ ts) ts

-- [WITH name {',' name}]
pub data IsWith : List Token → List Word → List Token → Type 0 where
  alone : {ts : List Token} → IsWith ts [] ts
  along : {s e : ℕ} {ts rest : List Token} {xs : List Word} → IsSeparated m.Comma IsName ts xs rest → IsWith (token (mark m.With) s e ∷ ts) xs rest

-- event = name [':' EVENT] [WITH name {',' name}] ';'
pub data IsEvent : List Token → EventTree → List Token → Type 0 where
  an_event : {s e : ℕ} {ts ts₁ ts₂ rest : List Token} {x : Word} {xs : List Word}
      → IsName ts x ts₁ → IsKind ts₁ ts₂ → IsWith ts₂ xs (token (mark m.Semicolon) s e ∷ rest) → IsEvent ts (record { name = x; carries = xs }) rest

-- ---- variables

-- the name of a type
pub data IsType : Mark → ElemType → Type 0 where
  bool : IsType m.Bool t.Bool
  sint : IsType m.Sint t.Sint
  int : IsType m.Int t.Int
  dint : IsType m.Dint t.Dint
  lint : IsType m.Lint t.Lint
  usint : IsType m.Usint t.Usint
  uint : IsType m.Uint t.Uint
  udint : IsType m.Udint t.Udint
  time : IsType m.Time t.Time

pub data IsTypeName : List Token → ElemType → List Token → Type 0 where
  a_type : {k : Mark} {a : ElemType} {s e : ℕ} {ts : List Token} → IsType k a → IsTypeName (token (mark k) s e ∷ ts) a ts

-- [':=' const]
pub data IsStart : List Token → Option StartTree → List Token → Type 0 where
  no_start : {ts : List Token} → IsStart ts None ts
  a_start : {s e : ℕ} {ts rest : List Token} {c : Constant} → IsConstant ts c rest → IsStart (token (mark m.Assign) s e ∷ ts) (Some (record { at = s; value = c })) rest

-- var = name {',' name} ':' type [':=' const] ';'
pub data IsVariable : List Token → VariableTree → List Token → Type 0 where
  of_type : {s e s' e' : ℕ} {ts ts₁ ts₂ rest : List Token} {xs : List Word} {a : ElemType} {c : Option StartTree}
      → IsSeparated m.Comma IsName ts xs (token (mark m.Colon) s e ∷ ts₁) → IsTypeName ts₁ a ts₂ → IsStart ts₂ c (token (mark m.Semicolon) s' e' ∷ rest)
      → IsVariable ts (record { names = xs; bounds = None; type = a; start = c }) rest

-- '[' int '..' int ']'
pub data IsBounds : List Token → BoundsTree → List Token → Type 0 where
  some_bounds : {s e s' e' s'' e'' : ℕ} {ts mid rest : List Token} {c d : Constant}
      → IsInteger ts c (token (mark m.DotDot) s' e' ∷ mid) → IsInteger mid d (token (mark m.RBracket) s'' e'' ∷ rest) → IsBounds (token (mark m.LBracket) s e ∷ ts) (record { low = c; high = d }) rest

-- ivar = var | name {',' name} ':' ARRAY '[' int '..' int ']' OF type ';'
pub data IsInternal : List Token → VariableTree → List Token → Type 0 where
  a_variable : {ts rest : List Token} {v : VariableTree} → IsVariable ts v rest → IsInternal ts v rest
  an_array : {s e s₁ e₁ s₂ e₂ s₃ e₃ : ℕ} {ts ts₁ ts₂ rest : List Token} {xs : List Word} {b : BoundsTree} {a : ElemType}
      → IsSeparated m.Comma IsName ts xs (token (mark m.Colon) s e ∷ token (mark m.Array) s₁ e₁ ∷ ts₁) → IsBounds ts₁ b (token (mark m.Of) s₂ e₂ ∷ ts₂) → IsTypeName ts₂ a (token (mark m.Semicolon) s₃ e₃ ∷ rest)
      → IsInternal ts (record { names = xs; bounds = Some b; type = a; start = None }) rest

-- ---- instances and connections

-- [type {',' type}]
pub data IsTypeList : List Token → List ElemType → List Token → Type 0 where
  no_types : {ts : List Token} → IsTypeList ts [] ts
  some_types : {ts rest : List Token} {xs : List ElemType} → IsSeparated m.Comma IsTypeName ts xs rest → IsTypeList ts xs rest

-- ['[' [type {',' type}] ']']
pub data IsTypes : List Token → Option (List ElemType) → List Token → Type 0 where
  no_brackets : {ts : List Token} → IsTypes ts None ts
  in_brackets : {s e s' e' : ℕ} {ts rest : List Token} {xs : List ElemType} → IsTypeList ts xs (token (mark m.RBracket) s' e' ∷ rest) → IsTypes (token (mark m.LBracket) s e ∷ ts) (Some xs) rest

-- ['(' parameter {',' parameter} ')']
pub data IsParameters : List Token → List ParameterTree → List Token → Type 0 where
  no_parameters : {ts : List Token} → IsParameters ts [] ts
  some_parameters : {s e s' e' : ℕ} {ts rest : List Token} {ps : List ParameterTree} → IsSeparated m.Comma IsParameter ts ps (token (mark m.RParen) s' e' ∷ rest) → IsParameters (token (mark m.LParen) s e ∷ ts) ps rest

-- inst = name ':' name ['[' [type {',' type}] ']'] ['(' parameter {',' parameter} ')'] ';'
pub data IsInstance : List Token → InstanceTree → List Token → Type 0 where
  an_instance : {s e s' e' : ℕ} {ts ts₁ ts₂ ts₃ rest : List Token} {x y : Word} {types : Option (List ElemType)} {ps : List ParameterTree}
      → IsName ts x (token (mark m.Colon) s e ∷ ts₁) → IsName ts₁ y ts₂ → IsTypes ts₂ types ts₃ → IsParameters ts₃ ps (token (mark m.Semicolon) s' e' ∷ rest)
      → IsInstance ts (record { name = x; type = y; types = types; parameters = ps }) rest

-- [FBS {inst} END_FBS] [EVENT_CONNECTIONS {connection} END_CONNECTIONS] [DATA_CONNECTIONS {connection} END_CONNECTIONS]
pub data IsNetwork : List Token → NetworkTree → List Token → Type 0 where
  a_network : {ts ts₁ ts₂ rest : List Token} {is : List InstanceTree} {es vs : List ConnectionTree}
      → IsSection m.Fbs m.EndFbs IsInstance ts is ts₁ → IsSection m.EventConnections m.EndConnections IsConnection ts₁ es ts₂ → IsSection m.DataConnections m.EndConnections IsConnection ts₂ vs rest
      → IsNetwork ts (record { instances = is; events = es; values = vs }) rest

-- ---- blocks: E are the expressions, and L the lists of statements
module _ (E : Gram Expression) (L : Gram Statements) where
  -- '[' expr ']'
  pub data IsGuard : List Token → GuardTree → List Token → Type 0 where
    a_guard : {s e s' e' : ℕ} {ts rest : List Token} {x : Expression} → E ts x (token (mark m.RBracket) s' e' ∷ rest) → IsGuard (token (mark m.LBracket) s e ∷ ts) (record { at = s; condition = x }) rest

  -- the condition of a transition: '1' | name ['[' expr ']'] | '[' expr ']'
  pub data IsCondition : List Token → Option Word → Option GuardTree → List Token → Type 0 where
    always : {s e : ℕ} {ts : List Token} → IsCondition (token (number 1) s e ∷ ts) None None ts
    on_event : {ts rest : List Token} {x : Word} → IsName ts x rest → IsCondition ts (Some x) None rest
    on_event_where : {ts mid rest : List Token} {x : Word} {g : GuardTree} → IsName ts x mid → IsGuard mid g rest → IsCondition ts (Some x) (Some g) rest
    guarded : {ts rest : List Token} {g : GuardTree} → IsGuard ts g rest → IsCondition ts None (Some g) rest

  -- trans = name TO name ':=' condition ';'
  pub data IsTransition : List Token → TransitionTree → List Token → Type 0 where
    a_transition : {s e s' e' s'' e'' : ℕ} {ts mid on rest : List Token} {x y : Word} {c : Option Word} {g : Option GuardTree}
        → IsName ts x (token (mark m.To) s e ∷ mid) → IsName mid y (token (mark m.Assign) s' e' ∷ on) → IsCondition on c g (token (mark m.Semicolon) s'' e'' ∷ rest)
        → IsTransition ts (record { source = x; target = y; event = c; guard = g }) rest

  -- EC_TRANSITIONS {trans} END_TRANSITIONS
  pub data IsTransitions : List Token → List TransitionTree → List Token → Type 0 where
    some_transitions : {s e s' e' : ℕ} {ts rest : List Token} {xs : List TransitionTree}
        → IsMany IsTransition ts xs (token (mark m.EndTransitions) s' e' ∷ rest) → IsTransitions (token (mark m.EcTransitions) s e ∷ ts) xs rest

  -- algo = ALGORITHM name IN ST ':' list END_ALGORITHM
  pub data IsProcedure : List Token → AlgorithmTree → List Token → Type 0 where
    a_procedure : {s e s₁ e₁ s₂ e₂ s₃ e₃ s₄ e₄ : ℕ} {ts mid rest : List Token} {x : Word} {xs : Statements}
        → IsName ts x (token (name (codes "IN")) s₁ e₁ ∷ token (name (codes "ST")) s₂ e₂ ∷ token (mark m.Colon) s₃ e₃ ∷ mid) → L mid xs (token (mark m.EndAlgorithm) s₄ e₄ ∷ rest)
        → IsProcedure (token (mark m.Algorithm) s e ∷ ts) (record { name = x; body = xs }) rest

  -- basic = [VAR {ivar} END_VAR] EC_STATES state {state} END_STATES EC_TRANSITIONS {trans} END_TRANSITIONS {algo}
  pub data IsChart : List Token → ChartTree → List Token → Type 0 where
    a_chart : {ts ts₁ ts₂ ts₃ rest : List Token} {vs : List VariableTree} {ss : List StateTree} {cs : List TransitionTree} {fs : List AlgorithmTree}
        → IsSection m.Var m.EndVar IsInternal ts vs ts₁ → IsStates ts₁ ss ts₂ → IsTransitions ts₂ cs ts₃ → IsMany IsProcedure ts₃ fs rest
        → IsChart ts (record { internals = vs; states = ss; transitions = cs; algorithms = fs }) rest

  -- (basic | fbs [econn] [dconn]). The network of a composite begins with FBS
  pub data IsBody : List Token → BodyTree → List Token → Type 0 where
    basic : {ts rest : List Token} {c : ChartTree} → IsChart ts c rest → IsBody ts (Chart c) rest
    composite : {s e : ℕ} {ts rest : List Token} {n : NetworkTree} → IsNetwork (token (mark m.Fbs) s e ∷ ts) n rest → IsBody (token (mark m.Fbs) s e ∷ ts) (Network n) rest

  -- block = FUNCTION_BLOCK name [EVENT_INPUT {event} END_EVENT] [EVENT_OUTPUT {event} END_EVENT] [VAR_INPUT {var} END_VAR] [VAR_OUTPUT {var} END_VAR] body END_FUNCTION_BLOCK
  pub data IsBlock : List Token → BlockTree → List Token → Type 0 where
    a_block : {s e s' e' : ℕ} {ts ts₁ ts₂ ts₃ ts₄ ts₅ rest : List Token} {x : Word} {is os : List EventTree} {us vs : List VariableTree} {b : BodyTree}
        → IsName ts x ts₁ → IsSection m.EventInput m.EndEvent IsEvent ts₁ is ts₂ → IsSection m.EventOutput m.EndEvent IsEvent ts₂ os ts₃
        → IsSection m.VarInput m.EndVar IsVariable ts₃ us ts₄ → IsSection m.VarOutput m.EndVar IsVariable ts₄ vs ts₅ → IsBody ts₅ b (token (mark m.EndFunctionBlock) s' e' ∷ rest)
        → IsBlock (token (mark m.FunctionBlock) s e ∷ ts) (record { name = x; event_inputs = is; event_outputs = os; inputs = us; outputs = vs; body = b }) rest

-- ---- systems

-- res = RESOURCE name network END_RESOURCE
pub data IsResource : List Token → ResourceTree → List Token → Type 0 where
  a_resource : {s e s' e' : ℕ} {ts mid rest : List Token} {x : Word} {n : NetworkTree}
      → IsName ts x mid → IsNetwork mid n (token (mark m.EndResource) s' e' ∷ rest) → IsResource (token (mark m.Resource) s e ∷ ts) (record { name = x; network = n }) rest

-- DEVICE name {res} END_DEVICE
pub data IsDevice : List Token → DeviceTree → List Token → Type 0 where
  a_device : {s e s' e' : ℕ} {ts mid rest : List Token} {x : Word} {rs : List ResourceTree}
      → IsName ts x mid → IsMany IsResource mid rs (token (mark m.EndDevice) s' e' ∷ rest) → IsDevice (token (mark m.Device) s e ∷ ts) (record { name = x; resources = rs }) rest

-- system = SYSTEM name {device} END_SYSTEM
pub data IsSystem : List Token → SystemTree → List Token → Type 0 where
  a_system : {s e s' e' : ℕ} {ts mid rest : List Token} {x : Word} {ds : List DeviceTree}
      → IsName ts x mid → IsMany IsDevice mid ds (token (mark m.EndSystem) s' e' ∷ rest) → IsSystem (token (mark m.System) s e ∷ ts) (record { name = x; devices = ds }) rest

-- file = {block} system
pub data IsFile (E : Gram Expression) (L : Gram Statements) : List Token → SourceTree → Type 0 where
  a_file : {ts mid : List Token} {bs : List BlockTree} {y : SystemTree} → IsMany (IsBlock E L) ts bs mid → IsSystem mid y [] → IsFile E L ts (record { blocks = bs; system = y })
