-- What holds neither expressions nor statements is never too deep.
use Rattle.std.proofs.Common.{ℕ, true, List, [], ◌∷◌, length, Option, None, Some, Result, Ok}
use Rattle.std.specs.Prelude.{codes}
use Rattle.std.specs.Str.{bytes_eq}
use Rattle.fb_words.specs.declared.mark.Mark.{Mark}
use Rattle.fb_words.specs.declared.mark.Mark.TheVariants as m
use Rattle.fb_words.specs.declared.elem_type.ElemType.{ElemType}
use Rattle.fb_words.specs.Writing.{type_of}
use Rattle.fb_model.specs.Tokens.{Token, token, name, number, typed, duration, mark}
use Rattle.fb_model.specs.Productions.{Word}
use Rattle.fb_read.specs.Reading.{Wrong, stuck, ◌>>=◌, next_is, after, expect, name_at, type_step, type_at, list_at, closed_at, section_at}
use Rattle.fb_read.proofs.Readers.{NotDeep, Shallow, shallow_then, shallow_if, shallow_expect, shallow_name}
use Rattle.fb_read.proofs.Repetitions.{closed_shallow, section_shallow, separated_shallow}
use Rattle.st_parse.specs.Reading.{integer_at}
use Rattle.st_parse.proofs.Shallow.{integer_shallow}
use Rattle.st_parse.specs.ConstantReading.{number_at, literal_at}
use Rattle.st_parse.proofs.Literals.{number_shallow, literal_shallow}
use Rattle.fb_text.specs.Reading.{constant_at, word_at, kind_at, with_at, event_at, start_at, plain_at, names_at, variable_at, bounds_at, array_at, internal_at, parameter_at, parameters_at, type_list_at, types_at, instance_at, second_at, port_at, connection_at, network_at, output_at, emitting_at, running_at, action_at, actions_at, state_at, states_at, resource_at, device_at, system_at}

-- a mark, and what is done behind it
at_mark : {B : Type 0} (f : List Token → Result B Wrong) (k : Mark) (ts : List Token) → ((rest : List Token) → NotDeep (f rest)) → NotDeep (expect k ts >>= f)
at_mark f k ts g = shallow_then f (expect k ts) (shallow_expect k ts) g

-- ---- constants

constant_shallow : Shallow constant_at
unfolding constant_at
constant_shallow ts = shallow_if (next_is m.Minus ts) (number_at true (after ts)) (literal_at ts) (number_shallow true (after ts)) (literal_shallow ts)

-- ---- events

pub word_shallow : (text : List ℕ) (ts : List Token) → NotDeep (word_at text ts)
word_shallow text [] = tt
word_shallow text (token (name x) s e ∷ ts) = shallow_if (bytes_eq x text) (Ok ts) (stuck (token (name x) s e ∷ ts)) tt tt
word_shallow text (token (number n) s e ∷ ts) = tt
word_shallow text (token (typed t b n) s e ∷ ts) = tt
word_shallow text (token (duration b n) s e ∷ ts) = tt
word_shallow text (token (mark k) s e ∷ ts) = tt

kind_shallow : (ts : List Token) → NotDeep (kind_at ts)
kind_shallow ts = shallow_if (next_is m.Colon ts) (word_at (codes "EVENT") (after ts)) (Ok ts) (word_shallow (codes "EVENT") (after ts)) tt

with_shallow : Shallow with_at
unfolding with_at
with_shallow ts = shallow_if (next_is m.With ts) (list_at m.Comma name_at (after ts)) _ (separated_shallow name_at shallow_name m.Comma (length (after ts)) (after ts)) tt

pub event_shallow : Shallow event_at
unfolding event_at
event_shallow ts = shallow_then _ (name_at ts) (shallow_name ts) (λ x. shallow_then _ (kind_at x.1) (kind_shallow x.1) (λ l. shallow_then _ (with_at l) (with_shallow l) (λ xs. at_mark _ m.Semicolon xs.1 (λ rest. tt))))

-- ---- variables

type_turn : (o : Option ElemType) (t : Token) (ts : List Token) → NotDeep (type_step o t ts)
type_turn None t ts = tt
type_turn (Some a) t ts = tt

type_shallow : Shallow type_at
unfolding type_at
type_shallow [] = tt
type_shallow (token (name x) s e ∷ ts) = tt
type_shallow (token (number n) s e ∷ ts) = tt
type_shallow (token (typed t b n) s e ∷ ts) = tt
type_shallow (token (duration b n) s e ∷ ts) = tt
type_shallow (token (mark k) s e ∷ ts) = type_turn (type_of k) (token (mark k) s e) ts

start_shallow : Shallow start_at
unfolding start_at
start_shallow ts = shallow_if (next_is m.Assign ts) _ _ (shallow_then _ (constant_at (after ts)) (constant_shallow (after ts)) (λ c. tt)) tt

plain_shallow : (xs : List Word) → Shallow (plain_at xs)
unfolding plain_at
plain_shallow xs ts = shallow_then _ (type_at ts) (type_shallow ts) (λ a. shallow_then _ (start_at a.1) (start_shallow a.1) (λ c. at_mark _ m.Semicolon c.1 (λ rest. tt)))

names_shallow : Shallow names_at
unfolding names_at
names_shallow ts = shallow_then _ (list_at m.Comma name_at ts) (separated_shallow name_at shallow_name m.Comma (length ts) ts) (λ xs. at_mark _ m.Colon xs.1 (λ rest. tt))

pub variable_shallow : Shallow variable_at
unfolding variable_at
variable_shallow ts = shallow_then _ (names_at ts) (names_shallow ts) (λ xs. plain_shallow xs.0 xs.1)

bounds_shallow : Shallow bounds_at
unfolding bounds_at
bounds_shallow ts = at_mark _ m.LBracket ts (λ l. shallow_then _ (integer_at l) (integer_shallow l) (λ c. at_mark _ m.DotDot c.1 (λ l. shallow_then _ (integer_at l) (integer_shallow l) (λ d. at_mark _ m.RBracket d.1 (λ rest. tt)))))

array_shallow : (xs : List Word) → Shallow (array_at xs)
unfolding array_at
array_shallow xs ts = shallow_then _ (bounds_at ts) (bounds_shallow ts) (λ b. at_mark _ m.Of b.1 (λ l. shallow_then _ (type_at l) (type_shallow l) (λ a. at_mark _ m.Semicolon a.1 (λ rest. tt))))

pub internal_shallow : Shallow internal_at
unfolding internal_at
internal_shallow ts = shallow_then _ (names_at ts) (names_shallow ts) (λ xs. shallow_if (next_is m.Array xs.1) (array_at xs.0 (after xs.1)) (plain_at xs.0 xs.1) (array_shallow xs.0 (after xs.1)) (plain_shallow xs.0 xs.1))

-- ---- instances and connections

parameter_shallow : Shallow parameter_at
unfolding parameter_at
parameter_shallow ts = shallow_then _ (name_at ts) (shallow_name ts) (λ x. at_mark _ m.Assign x.1 (λ l. shallow_then _ (constant_at l) (constant_shallow l) (λ c. tt)))

parameters_shallow : Shallow parameters_at
unfolding parameters_at
parameters_shallow ts =
    shallow_if (next_is m.LParen ts) _ _ (shallow_then _ (list_at m.Comma parameter_at (after ts)) (separated_shallow parameter_at parameter_shallow m.Comma (length (after ts)) (after ts)) (λ ps. at_mark _ m.RParen ps.1 (λ rest. tt))) tt

type_list_shallow : Shallow type_list_at
unfolding type_list_at
type_list_shallow ts = shallow_if (next_is m.RBracket ts) (Ok ([], ts)) (list_at m.Comma type_at ts) tt (separated_shallow type_at type_shallow m.Comma (length ts) ts)

types_shallow : Shallow types_at
unfolding types_at
types_shallow ts = shallow_if (next_is m.LBracket ts) _ _ (shallow_then _ (type_list_at (after ts)) (type_list_shallow (after ts)) (λ xs. at_mark _ m.RBracket xs.1 (λ rest. tt))) tt

instance_shallow : Shallow instance_at
unfolding instance_at
instance_shallow ts = shallow_then _ (name_at ts) (shallow_name ts) (λ x. at_mark _ m.Colon x.1 (λ l.
    shallow_then _ (name_at l) (shallow_name l) (λ y.
    shallow_then _ (types_at y.1) (types_shallow y.1) (λ types.
    shallow_then _ (parameters_at types.1) (parameters_shallow types.1) (λ ps. at_mark _ m.Semicolon ps.1 (λ rest. tt))))))

second_shallow : Shallow second_at
unfolding second_at
second_shallow ts = shallow_if (next_is m.Dot ts) _ _ (shallow_then _ (name_at (after ts)) (shallow_name (after ts)) (λ x. tt)) tt

port_shallow : Shallow port_at
unfolding port_at
port_shallow ts = shallow_then _ (name_at ts) (shallow_name ts) (λ x. shallow_then _ (second_at x.1) (second_shallow x.1) (λ y. tt))

connection_shallow : Shallow connection_at
unfolding connection_at
connection_shallow ts = shallow_then _ (port_at ts) (port_shallow ts) (λ p. at_mark _ m.To p.1 (λ l. shallow_then _ (port_at l) (port_shallow l) (λ q. at_mark _ m.Semicolon q.1 (λ rest. tt))))

pub network_shallow : Shallow network_at
unfolding network_at
network_shallow ts =
    shallow_then _ (section_at m.Fbs m.EndFbs instance_at ts) (section_shallow instance_at instance_shallow m.Fbs m.EndFbs ts) (λ is.
    shallow_then _ (section_at m.EventConnections m.EndConnections connection_at is.1) (section_shallow connection_at connection_shallow m.EventConnections m.EndConnections is.1) (λ es.
    shallow_then _ (section_at m.DataConnections m.EndConnections connection_at es.1) (section_shallow connection_at connection_shallow m.DataConnections m.EndConnections es.1) (λ vs. tt)))

-- ---- systems

resource_shallow : Shallow resource_at
unfolding resource_at
resource_shallow ts = at_mark _ m.Resource ts (λ l. shallow_then _ (name_at l) (shallow_name l) (λ x. shallow_then _ (network_at x.1) (network_shallow x.1) (λ n. at_mark _ m.EndResource n.1 (λ rest. tt))))

device_shallow : Shallow device_at
unfolding device_at
device_shallow ts = at_mark _ m.Device ts (λ l. shallow_then _ (name_at l) (shallow_name l) (λ x. shallow_then _ (closed_at m.EndDevice resource_at x.1) (closed_shallow resource_at resource_shallow m.EndDevice x.1) (λ rs. tt)))

pub system_shallow : Shallow system_at
unfolding system_at
system_shallow ts = at_mark _ m.System ts (λ l. shallow_then _ (name_at l) (shallow_name l) (λ x. shallow_then _ (closed_at m.EndSystem device_at x.1) (closed_shallow device_at device_shallow m.EndSystem x.1) (λ ds. tt)))

-- ---- states

output_shallow : Shallow output_at
unfolding output_at
output_shallow ts = shallow_if (next_is m.Arrow ts) _ _ (shallow_then _ (name_at (after ts)) (shallow_name (after ts)) (λ x. tt)) tt

emitting_shallow : Shallow emitting_at
unfolding emitting_at
emitting_shallow ts = shallow_then _ (output_at ts) (output_shallow ts) (λ o. tt)

running_shallow : Shallow running_at
unfolding running_at
running_shallow ts = shallow_then _ (name_at ts) (shallow_name ts) (λ x. shallow_then _ (output_at x.1) (output_shallow x.1) (λ o. tt))

action_shallow : Shallow action_at
unfolding action_at
action_shallow ts = shallow_if (next_is m.Arrow ts) (emitting_at ts) (running_at ts) (emitting_shallow ts) (running_shallow ts)

actions_shallow : Shallow actions_at
unfolding actions_at
actions_shallow ts = shallow_if (next_is m.Colon ts) (list_at m.Comma action_at (after ts)) _ (separated_shallow action_at action_shallow m.Comma (length (after ts)) (after ts)) tt

state_shallow : Shallow state_at
unfolding state_at
state_shallow ts = shallow_then _ (name_at ts) (shallow_name ts) (λ x. shallow_then _ (actions_at x.1) (actions_shallow x.1) (λ xs. at_mark _ m.Semicolon xs.1 (λ rest. tt)))

pub states_shallow : Shallow states_at
unfolding states_at
states_shallow ts = at_mark _ m.EcStates ts (λ l. shallow_if (next_is m.EndStates l) (stuck l) (closed_at m.EndStates state_at l) tt (closed_shallow state_at state_shallow m.EndStates l))
