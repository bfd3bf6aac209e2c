-- The event blocks that are declared beforehand, as typed basic blocks, and systems that use them.
-- IEC 61499-1 edition 2, annex A (event function blocks), with this project's charts.
use Rattle.std.specs.Prelude.{◌≡◌, pos, List, [], ◌∷◌, map, None, Some, codes}
use Rattle.fb_words.specs.declared.elem_type.ElemType.{ElemType}
use Rattle.fb_words.specs.declared.elem_type.ElemType.TheVariants.{Bool, Uint}
use Rattle.fb_words.specs.declared.operator.Operator.TheVariants.{Plus, Less, GreaterEqual}
use Rattle.fb_words.specs.declared.operator.Operation.TheVariants.{Infix, Not}
use Rattle.fb_model.specs.Names.{Name}
use Rattle.fb_model.specs.Declarations.{ChartTree, Chart, BlockTree, SourceTree}
use Rattle.fb_model.specs.TypedText.{Term, constant, read, single, double, Command, set, Commands, done, then_do}
use Rattle.fb_model.specs.System.{Variable, Event, State, Transition, Procedure, Block, System}
use Rattle.fb_model.specs.BlockTyping.{IsBasic}
use Rattle.fb_model.specs.NetworkTyping.{ElaboratesWith}

-- ---- how they are written down here

-- an event that is WITH no variable, and one that is WITH these
abbrev pub alone : Name → Event
alone event = record { name = event; carries = [] }

abbrev pub along : Name → List Name → Event
along event variables = record { name = event; carries = variables }

-- a single variable whose start value is 0
abbrev pub plain : Name → ElemType → Variable
plain variable type = record { name = variable; type = type; length = None; start = None }

-- a state in which nothing is done, one that emits these outputs, and one that runs an algorithm and emits an output
abbrev pub rests : Name → State
rests state = record { name = state; actions = [] }

abbrev pub emits : Name → List Name → State
emits state outputs = record { name = state; actions = map (λ output. record { algorithm = None; output = Some output }) outputs }

abbrev pub runs : Name → Name → Name → State
runs state algorithm output = record { name = state; actions = record { algorithm = Some algorithm; output = Some output } ∷ [] }

-- from a state to another one: at an event, at an event where a guard holds, and at once
abbrev pub at : Name → Name → Name → Transition
at event from to = record { source = from; target = to; event = Some event; guard = None }

abbrev pub at_where : Name → Term → Name → Name → Transition
at_where event guard from to = record { source = from; target = to; event = Some event; guard = Some guard }

abbrev pub at_once : Name → Name → Transition
at_once from to = record { source = from; target = to; event = None; guard = None }

abbrev pub does : Name → List Command → Procedure
does algorithm steps = record { name = algorithm; algorithm = in_order steps } where
  in_order : List Command → Commands
  in_order [] = done
  in_order (c ∷ cs) = then_do c (in_order cs)

abbrev pub start : Name
start = codes "START"

abbrev pub act : Name
act = codes "ACT"

-- ---- the seven

-- one event becomes two
abbrev pub e_split : Block
e_split = record {
  event_inputs = alone (codes "EI") ∷ [];
  event_outputs = alone (codes "EO1") ∷ alone (codes "EO2") ∷ [];
  inputs = [];
  outputs = [];
  internals = [];
  states = rests start ∷ emits act (codes "EO1" ∷ codes "EO2" ∷ []) ∷ [];
  transitions = at (codes "EI") start act ∷ at_once act start ∷ [];
  procedures = [];
}

-- either event becomes one
abbrev pub e_merge : Block
e_merge = record {
  event_inputs = alone (codes "EI1") ∷ alone (codes "EI2") ∷ [];
  event_outputs = alone (codes "EO") ∷ [];
  inputs = [];
  outputs = [];
  internals = [];
  states = rests start ∷ emits act (codes "EO" ∷ []) ∷ [];
  transitions = at (codes "EI1") start act ∷ at (codes "EI2") start act ∷ at_once act start ∷ [];
  procedures = [];
}

-- an event passes where PERMIT is true
abbrev pub e_permit : Block
e_permit = record {
  event_inputs = along (codes "EI") (codes "PERMIT" ∷ []) ∷ [];
  event_outputs = alone (codes "EO") ∷ [];
  inputs = plain (codes "PERMIT") Bool ∷ [];
  outputs = [];
  internals = [];
  states = rests start ∷ emits act (codes "EO" ∷ []) ∷ [];
  transitions = at_where (codes "EI") (read (codes "PERMIT")) start act ∷ at_once act start ∷ [];
  procedures = [];
}

-- of two events the one passes that G selects: EI0 where G is false, EI1 where it is true
abbrev pub e_select : Block
e_select = record {
  event_inputs = along (codes "EI0") (codes "G" ∷ []) ∷ along (codes "EI1") (codes "G" ∷ []) ∷ [];
  event_outputs = alone (codes "EO") ∷ [];
  inputs = plain (codes "G") Bool ∷ [];
  outputs = [];
  internals = [];
  states = rests start ∷ emits act (codes "EO" ∷ []) ∷ [];
  transitions = at_where (codes "EI0") (single Not Bool (read (codes "G"))) start act ∷ at_where (codes "EI1") (read (codes "G")) start act ∷ at_once act start ∷ [];
  procedures = [];
}

-- an event goes where G sends it: to EO0 where G is false, to EO1 where it is true
abbrev pub e_switch : Block
e_switch = record {
  event_inputs = along (codes "EI") (codes "G" ∷ []) ∷ [];
  event_outputs = alone (codes "EO0") ∷ alone (codes "EO1") ∷ [];
  inputs = plain (codes "G") Bool ∷ [];
  outputs = [];
  internals = [];
  states = rests start ∷ emits (codes "OUT0") (codes "EO0" ∷ []) ∷ emits (codes "OUT1") (codes "EO1" ∷ []) ∷ [];
  transitions = at_where (codes "EI") (single Not Bool (read (codes "G"))) start (codes "OUT0") ∷ at_where (codes "EI") (read (codes "G")) start (codes "OUT1")
      ∷ at_once (codes "OUT0") start ∷ at_once (codes "OUT1") start ∷ [];
  procedures = [];
}

-- S sets Q and R resets it, and only a change is told
abbrev pub e_sr : Block
e_sr = record {
  event_inputs = alone (codes "S") ∷ alone (codes "R") ∷ [];
  event_outputs = along (codes "EO") (codes "Q" ∷ []) ∷ [];
  inputs = [];
  outputs = plain (codes "Q") Bool ∷ [];
  internals = [];
  states = rests start ∷ runs (codes "SET") (codes "SETQ") (codes "EO") ∷ runs (codes "RESET") (codes "RESETQ") (codes "EO") ∷ [];
  transitions = at (codes "S") start (codes "SET") ∷ at (codes "R") (codes "SET") (codes "RESET") ∷ at (codes "S") (codes "RESET") (codes "SET") ∷ [];
  procedures = does (codes "SETQ") (set (codes "Q") (constant (pos 1)) ∷ []) ∷ does (codes "RESETQ") (set (codes "Q") (constant (pos 0)) ∷ []) ∷ [];
}

abbrev pub count_up : List Command
count_up = set (codes "CV") (double (Infix Plus) Uint (read (codes "CV")) (constant (pos 1))) ∷ set (codes "Q") (double (Infix GreaterEqual) Uint (read (codes "CV")) (read (codes "PV"))) ∷ []

abbrev pub clear : List Command
clear = set (codes "CV") (constant (pos 0)) ∷ set (codes "Q") (constant (pos 0)) ∷ []

-- CU counts up to 65535 at most, R clears, and Q says whether the count has reached PV
abbrev pub e_ctu : Block
e_ctu = record {
  event_inputs = along (codes "CU") (codes "PV" ∷ []) ∷ alone (codes "R") ∷ [];
  event_outputs = along (codes "CUO") (codes "Q" ∷ codes "CV" ∷ []) ∷ along (codes "RO") (codes "Q" ∷ codes "CV" ∷ []) ∷ [];
  inputs = plain (codes "PV") Uint ∷ [];
  outputs = plain (codes "Q") Bool ∷ plain (codes "CV") Uint ∷ [];
  internals = [];
  states = rests start ∷ runs (codes "COUNT") (codes "UP") (codes "CUO") ∷ runs (codes "CLEAR") (codes "ZERO") (codes "RO") ∷ [];
  transitions = at_where (codes "CU") (double (Infix Less) Uint (read (codes "CV")) (constant (pos 65535))) start (codes "COUNT") ∷ at (codes "R") start (codes "CLEAR")
      ∷ at_once (codes "COUNT") start ∷ at_once (codes "CLEAR") start ∷ [];
  procedures = does (codes "UP") count_up ∷ does (codes "ZERO") clear ∷ [];
}

-- with their names
abbrev pub event_blocks : List (Name × Block)
event_blocks =
    (codes "E_SPLIT", e_split)
    ∷ (codes "E_MERGE", e_merge)
    ∷ (codes "E_PERMIT", e_permit)
    ∷ (codes "E_SELECT", e_select)
    ∷ (codes "E_SWITCH", e_switch)
    ∷ (codes "E_SR", e_sr)
    ∷ (codes "E_CTU", e_ctu)
    ∷ []

-- ---- systems

-- a declaration has this name, and is this basic block
pub record Declares (b : BlockTree) (named : Name × Block) : Type 0 where
  pub name : b.name.text ≡ named.0
  pub chart : ChartTree
  pub body : b.body ≡ Chart chart
  pub block : IsBasic b chart named.1

pub data AllDeclare : List BlockTree → List (Name × Block) → Type 0 where
  no_more : AllDeclare [] []
  one_more : {b : BlockTree} {bs : List BlockTree} {k : Name × Block} {ks : List (Name × Block)} → Declares b k → AllDeclare bs ks → AllDeclare (b ∷ bs) (k ∷ ks)

-- declarations are the event blocks, in order
abbrev pub AreEventBlocks : List BlockTree → Type 0
AreEventBlocks library = AllDeclare library event_blocks

-- The source is well typed with the event blocks, and this is its system. Types of the source come before event blocks of the same name.
pub record Elaborates (source : SourceTree) (system : System) : Type 0 where
  pub library : List BlockTree
  pub beforehand : AreEventBlocks library
  pub typed : ElaboratesWith library source system
