-- Reading texts from left to right, production by production.
use Rattle.std.specs.Prelude.{ℕ, List, [], ◌∷◌, Bool, true, false, ◌==◌, Option, None, Some, Result, Ok, if◌then◌else◌, codes}
use Rattle.std.specs.Str.{bytes_eq}
use Rattle.fb_words.specs.declared.mark.Mark.TheVariants as m
use Rattle.fb_words.specs.declared.elem_type.ElemType.{ElemType}
use Rattle.fb_model.specs.Tokens.{Token, token, name, number}
use Rattle.fb_model.specs.Productions.{Word}
use Rattle.fb_model.specs.Trees.{Constant, ActionTree, StateTree, ParameterTree, PortTree, ConnectionTree}
use Rattle.fb_model.specs.StructuredText.{Expression, Statements}
use Rattle.fb_model.specs.StructuredTextGrammar.{most_nested, most_nested_statements}
use Rattle.fb_model.specs.Declarations.{EventTree, BoundsTree, StartTree, VariableTree, GuardTree, TransitionTree, AlgorithmTree, ChartTree, InstanceTree, NetworkTree, BodyTree, Chart, Network, BlockTree, ResourceTree, DeviceTree, SystemTree, SourceTree}
use Rattle.fb_read.specs.Reading.{Wrong, stuck, Read, ◌>>=◌, next_is, after, expect, offset_at, name_at, type_at, begins_name, items_at, list_at, closed_at, section_at, whole_of}
use Rattle.st_parse.specs.ConstantReading.{number_at, literal_at}
use Rattle.st_parse.specs.ExpressionReading.{expression_at}
use Rattle.st_parse.specs.Reading.{integer_at, algorithm_at}

-- ---- constants

-- a literal, or a `-` and a number without a type
unfoldable pub constant_at : Read Constant
constant_at ts = if next_is m.Minus ts then number_at true (after ts) else literal_at ts

-- ---- events

-- the name of these characters
abbrev pub word_at : List ℕ → List Token → Result (List Token) Wrong
word_at text [] = stuck []
word_at text (token (name x) s e ∷ ts) = if bytes_eq x text then Ok ts else stuck (token (name x) s e ∷ ts)
word_at text (token other s e ∷ ts) = stuck (token other s e ∷ ts)

-- [':' EVENT]
abbrev pub kind_at : List Token → Result (List Token) Wrong
kind_at ts = if next_is m.Colon ts then word_at (codes "EVENT") (after ts) else Ok ts

-- [WITH name {',' name}]
unfoldable pub with_at : Read (List Word)
with_at ts = if next_is m.With ts then list_at m.Comma name_at (after ts) else Ok ([], ts)

unfoldable pub event_at : Read EventTree
event_at ts = do
  x ← name_at ts
  rest ← kind_at x.1
  xs ← with_at rest
  end ← expect m.Semicolon xs.1
  Ok (record { name = x.0; carries = xs.0 }, end)

-- ---- variables

-- [':=' const]
unfoldable pub start_at : Read (Option StartTree)
start_at ts = if next_is m.Assign ts then (constant_at (after ts) >>= λ c. Ok (Some (record { at = offset_at ts; value = c.0 }), c.1)) else Ok (None, ts)

-- type [':=' const] ';', behind names
unfoldable pub plain_at : List Word → Read VariableTree
plain_at xs ts = do
  a ← type_at ts
  c ← start_at a.1
  end ← expect m.Semicolon c.1
  Ok (record { names = xs; bounds = None; type = a.0; start = c.0 }, end)

-- names and the colon behind them
unfoldable pub names_at : Read (List Word)
names_at ts = list_at m.Comma name_at ts >>= λ xs. expect m.Colon xs.1 >>= λ rest. Ok (xs.0, rest)

unfoldable pub variable_at : Read VariableTree
variable_at ts = names_at ts >>= λ xs. plain_at xs.0 xs.1

-- '[' int '..' int ']'
unfoldable pub bounds_at : Read BoundsTree
bounds_at ts = do
  begin ← expect m.LBracket ts
  c ← integer_at begin
  rest ← expect m.DotDot c.1
  d ← integer_at rest
  end ← expect m.RBracket d.1
  Ok (record { low = c.0; high = d.0 }, end)

-- '[' int '..' int ']' OF type ';', behind names and ARRAY
unfoldable pub array_at : List Word → Read VariableTree
array_at xs ts = do
  b ← bounds_at ts
  rest ← expect m.Of b.1
  a ← type_at rest
  end ← expect m.Semicolon a.1
  Ok (record { names = xs; bounds = Some b.0; type = a.0; start = None }, end)

unfoldable pub internal_at : Read VariableTree
internal_at ts = names_at ts >>= λ xs. if next_is m.Array xs.1 then array_at xs.0 (after xs.1) else plain_at xs.0 xs.1

-- ---- instances and connections

unfoldable pub parameter_at : Read ParameterTree
parameter_at ts = do
  x ← name_at ts
  rest ← expect m.Assign x.1
  c ← constant_at rest
  Ok (record { name = x.0; at = offset_at x.1; value = c.0 }, c.1)

-- ['(' parameter {',' parameter} ')']
unfoldable pub parameters_at : Read (List ParameterTree)
parameters_at ts =
    if next_is m.LParen ts
    then (list_at m.Comma parameter_at (after ts) >>= λ ps. expect m.RParen ps.1 >>= λ rest. Ok (ps.0, rest))
    else Ok ([], ts)

-- [type {',' type}], before a `]`
unfoldable pub type_list_at : Read (List ElemType)
type_list_at ts = if next_is m.RBracket ts then Ok ([], ts) else list_at m.Comma type_at ts

-- ['[' [type {',' type}] ']']
unfoldable pub types_at : Read (Option (List ElemType))
types_at ts =
    if next_is m.LBracket ts
    then (type_list_at (after ts) >>= λ xs. expect m.RBracket xs.1 >>= λ rest. Ok (Some xs.0, rest))
    else Ok (None, ts)

unfoldable pub instance_at : Read InstanceTree
instance_at ts = do
  x ← name_at ts
  rest ← expect m.Colon x.1
  y ← name_at rest
  types ← types_at y.1
  ps ← parameters_at types.1
  end ← expect m.Semicolon ps.1
  Ok (record { name = x.0; type = y.0; types = types.0; parameters = ps.0 }, end)

-- ['.' name]
unfoldable pub second_at : Read (Option Word)
second_at ts = if next_is m.Dot ts then (name_at (after ts) >>= λ x. Ok (Some x.0, x.1)) else Ok (None, ts)

unfoldable pub port_at : Read PortTree
port_at ts = do
  x ← name_at ts
  y ← second_at x.1
  Ok (record { first = x.0; second = y.0 }, y.1)

unfoldable pub connection_at : Read ConnectionTree
connection_at ts = do
  p ← port_at ts
  rest ← expect m.To p.1
  q ← port_at rest
  end ← expect m.Semicolon q.1
  Ok (record { source = p.0; at = offset_at p.1; target = q.0 }, end)

unfoldable pub network_at : Read NetworkTree
network_at ts = do
  is ← section_at m.Fbs m.EndFbs instance_at ts
  es ← section_at m.EventConnections m.EndConnections connection_at is.1
  vs ← section_at m.DataConnections m.EndConnections connection_at es.1
  Ok (record { instances = is.0; events = es.0; values = vs.0 }, vs.1)

-- ---- states

-- ['->' name]
unfoldable pub output_at : Read (Option Word)
output_at ts = if next_is m.Arrow ts then (name_at (after ts) >>= λ x. Ok (Some x.0, x.1)) else Ok (None, ts)

unfoldable pub emitting_at : Read ActionTree
emitting_at ts = output_at ts >>= λ o. Ok (record { algorithm = None; output = o.0 }, o.1)

unfoldable pub running_at : Read ActionTree
running_at ts = do
  x ← name_at ts
  o ← output_at x.1
  Ok (record { algorithm = Some x.0; output = o.0 }, o.1)

unfoldable pub action_at : Read ActionTree
action_at ts = if next_is m.Arrow ts then emitting_at ts else running_at ts

-- [':' action {',' action}]
unfoldable pub actions_at : Read (List ActionTree)
actions_at ts = if next_is m.Colon ts then list_at m.Comma action_at (after ts) else Ok ([], ts)

unfoldable pub state_at : Read StateTree
state_at ts = do
  x ← name_at ts
  xs ← actions_at x.1
  rest ← expect m.Semicolon xs.1
  Ok (record { name = x.0; actions = xs.0 }, rest)

-- one state at least
unfoldable pub states_at : Read (List StateTree)
states_at ts = do
  rest ← expect m.EcStates ts
  if next_is m.EndStates rest then stuck rest else closed_at m.EndStates state_at rest

-- ---- charts, where expressions and lists of statements are read so

abbrev pub is_always : List Token → Bool
is_always [] = false
is_always (token (number n) s e ∷ ts) = n == 1
is_always (token other s e ∷ ts) = false

-- '[' expr ']'
unfoldable pub guard_at : Read Expression → Read GuardTree
guard_at expr ts = do
  begin ← expect m.LBracket ts
  x ← expr begin
  end ← expect m.RBracket x.1
  Ok (record { at = offset_at ts; condition = x.0 }, end)

-- [guard]
unfoldable pub where_at : Read Expression → Read (Option GuardTree)
where_at expr ts = if next_is m.LBracket ts then (guard_at expr ts >>= λ g. Ok (Some g.0, g.1)) else Ok (None, ts)

-- name [guard]
unfoldable pub on_event_at : Read Expression → Read (Option Word × Option GuardTree)
on_event_at expr ts = name_at ts >>= λ x. where_at expr x.1 >>= λ g. Ok ((Some x.0, g.0), g.1)

unfoldable pub guarded_at : Read Expression → Read (Option Word × Option GuardTree)
guarded_at expr ts = guard_at expr ts >>= λ g. Ok ((None, Some g.0), g.1)

unfoldable pub condition_at : Read Expression → Read (Option Word × Option GuardTree)
condition_at expr ts = if is_always ts then Ok ((None, None), after ts) else if begins_name ts then on_event_at expr ts else guarded_at expr ts

unfoldable pub transition_at : Read Expression → Read TransitionTree
transition_at expr ts = do
  x ← name_at ts
  rest ← expect m.To x.1
  y ← name_at rest
  on ← expect m.Assign y.1
  c ← condition_at expr on
  end ← expect m.Semicolon c.1
  Ok (record { source = x.0; target = y.0; event = c.0.0; guard = c.0.1 }, end)

unfoldable pub transitions_at : Read Expression → Read (List TransitionTree)
transitions_at expr ts = do
  rest ← expect m.EcTransitions ts
  closed_at m.EndTransitions (transition_at expr) rest

-- IN ST ':' list END_ALGORITHM
unfoldable pub text_at : Read Statements → Read Statements
text_at list ts = do
  on ← word_at (codes "IN") ts
  sign ← word_at (codes "ST") on
  begin ← expect m.Colon sign
  xs ← list begin
  end ← expect m.EndAlgorithm xs.1
  Ok (xs.0, end)

unfoldable pub procedure_at : Read Statements → Read AlgorithmTree
procedure_at list ts = do
  begin ← expect m.Algorithm ts
  x ← name_at begin
  xs ← text_at list x.1
  Ok (record { name = x.0; body = xs.0 }, xs.1)

-- a chart, up to END_FUNCTION_BLOCK
unfoldable pub chart_at : Read Expression → Read Statements → Read ChartTree
chart_at expr list ts = do
  vs ← section_at m.Var m.EndVar internal_at ts
  ss ← states_at vs.1
  cs ← transitions_at expr ss.1
  fs ← items_at m.EndFunctionBlock (procedure_at list) cs.1
  Ok (record { internals = vs.0; states = ss.0; transitions = cs.0; algorithms = fs.0 }, fs.1)

-- ---- blocks

unfoldable pub basic_at : Read Expression → Read Statements → Read BodyTree
basic_at expr list ts = chart_at expr list ts >>= λ c. Ok (Chart c.0, c.1)

unfoldable pub composite_at : Read BodyTree
composite_at ts = network_at ts >>= λ n. Ok (Network n.0, n.1)

unfoldable pub body_at : Read Expression → Read Statements → Read BodyTree
body_at expr list ts = if next_is m.Fbs ts then composite_at ts else basic_at expr list ts

unfoldable pub block_at : Read Expression → Read Statements → Read BlockTree
block_at expr list ts = do
  begin ← expect m.FunctionBlock ts
  x ← name_at begin
  is ← section_at m.EventInput m.EndEvent event_at x.1
  os ← section_at m.EventOutput m.EndEvent event_at is.1
  us ← section_at m.VarInput m.EndVar variable_at os.1
  vs ← section_at m.VarOutput m.EndVar variable_at us.1
  b ← body_at expr list vs.1
  end ← expect m.EndFunctionBlock b.1
  Ok (record { name = x.0; event_inputs = is.0; event_outputs = os.0; inputs = us.0; outputs = vs.0; body = b.0 }, end)

-- ---- systems

unfoldable pub resource_at : Read ResourceTree
resource_at ts = do
  begin ← expect m.Resource ts
  x ← name_at begin
  n ← network_at x.1
  end ← expect m.EndResource n.1
  Ok (record { name = x.0; network = n.0 }, end)

unfoldable pub device_at : Read DeviceTree
device_at ts = do
  begin ← expect m.Device ts
  x ← name_at begin
  rs ← closed_at m.EndDevice resource_at x.1
  Ok (record { name = x.0; resources = rs.0 }, rs.1)

unfoldable pub system_at : Read SystemTree
system_at ts = do
  begin ← expect m.System ts
  x ← name_at begin
  ds ← closed_at m.EndSystem device_at x.1
  Ok (record { name = x.0; devices = ds.0 }, ds.1)

unfoldable pub file_at : Read Expression → Read Statements → Read SourceTree
file_at expr list ts = do
  bs ← items_at m.System (block_at expr list) ts
  y ← system_at bs.1
  Ok (record { blocks = bs.0; system = y.0 }, y.1)

-- all of the tokens, with expressions and statements nested no deeper than the limits
unfoldable pub whole_at : List Token → Result SourceTree Wrong
whole_at ts = whole_of (file_at (expression_at most_nested) (algorithm_at most_nested most_nested_statements)) ts
