-- Wherever reading of events, variables or networks stops, the tokens before that place can be gone on with.
use Rattle.std.proofs.Common.{◌≡◌, ℕ, Bool, true, false, cond, List, [], ◌∷◌, Option, None, Some, Ok, refl, subst, codes}
use Rattle.fb_words.specs.declared.mark.Mark.{Mark}
use Rattle.fb_words.specs.declared.mark.Mark.TheVariants as m
use Rattle.fb_words.specs.declared.elem_type.ElemType.{ElemType}
use Rattle.fb_words.specs.declared.elem_type.ElemType.TheVariants as t
use Rattle.fb_words.specs.Writing.{type_of}
use Rattle.fb_model.specs.Tokens.{Token, token, name, number, typed, duration, mark}
use Rattle.fb_model.specs.Productions.{Word, IsName, IsSeparated, IsSection}
use Rattle.fb_model.specs.Grammar.{IsConstant, IsParameter, a_parameter, IsPort, own, inner, IsConnection, a_connection}
use Rattle.fb_model.specs.Grammar as c
use Rattle.fb_model.specs.StructuredTextGrammar.{IsInteger, plain, with_type, time, yes, no}
use Rattle.fb_model.specs.Declarations.{InstanceTree, NetworkTree}
use Rattle.fb_model.specs.DeclarationGrammar.{IsKind, unsaid, said, IsWith, alone, along, IsEvent, an_event, IsTypeName, a_type, IsStart, no_start, a_start, IsVariable, of_type, IsBounds, some_bounds, IsInternal, a_variable, an_array, IsTypeList, no_types, some_types, IsTypes, no_brackets, in_brackets, IsParameters, no_parameters, some_parameters, IsInstance, an_instance, IsNetwork, a_network}
use Rattle.fb_model.specs.DeclarationGrammar as g
use Rattle.fb_read.specs.Reading.{Read, ◌>>=◌, next_is, after, expect, offset_at, name_at, type_step, type_at, list_at, section_at}
use Rattle.fb_read.proofs.Readers.{Meets}
use Rattle.st_parse.specs.ConstantReading.{number_at, literal_at}
use Rattle.st_parse.specs.Reading.{integer_at}
use Rattle.fb_text.specs.Reading.{constant_at, word_at, kind_at, with_at, event_at, start_at, plain_at, names_at, variable_at, bounds_at, array_at, internal_at, parameter_at, parameters_at, type_list_at, types_at, instance_at, second_at, port_at, connection_at, network_at}
use Rattle.fb_text.proofs.VariableSound.{type_sound}
use Rattle.fb_text_laws.proofs.Lexemes.{mark_spelled, event_spelled}
use Rattle.fb_text_laws.proofs.Steps.{Span, Any, Marked, Behind, Fills, GoesOn, Fine, fills_token, fills_as, stopped, fine_done, goes_as, fine_as, fine_then, fine_last, fine_if, goes_marked, fine_expect, fine_may}
use Rattle.fb_text_laws.proofs.Items.{list_fine, section_fine}
use Rattle.fb_text_laws.proofs.Words.{Num, num, Lit, lit, Named, taken, number_fine, literal_fine, name_fine, fine_word}
use Rattle.fb_text_laws.proofs.Statements.{integer_fine}

-- ---- constants

negative_of : (us rest : List Token) → Num us rest → Marked m.Minus (Any IsConstant) us rest
negative_of us rest num s e = (_, c.negative)

constant_of : (us rest : List Token) → Lit us rest → Any IsConstant us rest
constant_of us rest (lit plain) = (_, c.plain)
constant_of us rest (lit with_type) = (_, c.with_type)
constant_of us rest (lit time) = (_, c.time)
constant_of us rest (lit yes) = (_, c.yes)
constant_of us rest (lit no) = (_, c.no)

constant_fine : Fine (Any IsConstant) constant_at
unfolding constant_at
constant_fine =
    fine_may (Any IsConstant) m.Minus (λ l. number_at true) literal_at (λ l. fine_as (Marked m.Minus (Any IsConstant)) (number_at true) negative_of (number_fine true))
    (fine_as (Any IsConstant) literal_at constant_of literal_fine)

-- ---- events

names_fine_list : Fine (Any (IsSeparated m.Comma IsName)) (list_at m.Comma name_at)
names_fine_list = list_fine IsName name_at name_fine m.Comma

-- [':' EVENT], and what is done behind it
fine_kind : {A : Type 0} (P : Span) (f : List Token → Read A) → ((l : List Token) → Fine (Behind IsKind P) (f l)) → Fine P (λ ts. kind_at ts >>= f ts)
fine_kind {A} P f h = record { sample = (h []).sample; fills = fills_as P (λ us rest p. p us unsaid) (h []).fills; goes_on = λ ts. by ts (next_is m.Colon ts) refl } where
  marked : (ts : List Token) → Fine {A = A} (Marked m.Colon P) (λ us. word_at (codes "EVENT") us >>= f ts)
  marked ts = fine_word (Marked m.Colon P) (codes "EVENT") event_spelled (λ l. f ts) (λ l. fine_as (Named (codes "EVENT") (Marked m.Colon P)) (f ts) (λ us rest p s' e' s e. p _ said) (h ts))

  by : (ts : List Token) (b : Bool) → next_is m.Colon ts ≡ b → GoesOn P ts (cond b (word_at (codes "EVENT") (after ts)) (Ok ts) >>= f ts)
  by ts true e = goes_marked P m.Colon ts e (word_at (codes "EVENT") (after ts) >>= f ts) ((marked ts).goes_on (after ts))
  by ts false e = goes_as ts (f ts ts) (λ us rest p. p us unsaid) ((h ts).goes_on ts)

with_fine : Fine (Any IsWith) with_at
unfolding with_at
with_fine =
    fine_may (Any IsWith) m.With (λ l. list_at m.Comma name_at) (λ ts. Ok ([], ts)) (λ l. fine_as (Marked m.With (Any IsWith)) (list_at m.Comma name_at) (λ us rest h s e. (_, along h.1)) names_fine_list)
    (fine_done (Any IsWith) (λ ts. []) (λ us. (_, alone)))

pub event_fine : Fine (Any IsEvent) event_at
unfolding event_at
event_fine =
    fine_then (Any IsEvent) (Any IsName) name_at _ name_fine (λ l x.
    fine_kind _ _ (λ l.
    fine_then _ (Any IsWith) with_at _ with_fine (λ l xs.
    fine_expect _ m.Semicolon _ (λ l. fine_done _ _ (λ us s e ts₂ w ts₁ k all x. (_, an_event x.1 k w.1))))))

-- ---- types and start values

fills_type : Fills (Any IsTypeName)
fills_type = fills_token (Any IsTypeName) (mark m.Bool) (mark_spelled m.Bool) (λ s e rest. (_, a_type g.bool))

type_by : (k : Mark) (s e : ℕ) (ts : List Token) (o : Option ElemType) → type_of k ≡ o → GoesOn (Any IsTypeName) (token (mark k) s e ∷ ts) (type_step o (token (mark k) s e) ts)
unfolding type_at
type_by k s e ts None h = stopped (Any IsTypeName) fills_type (token (mark k) s e ∷ ts)
type_by k s e ts (Some a) h =
    taken (Any IsTypeName) (token (mark k) s e) ts (λ rest. (a, subst (λ o. Meets (IsTypeName (token (mark k) s e ∷ rest)) (type_step o (token (mark k) s e) rest)) h (type_sound (token (mark k) s e ∷ rest))))

type_goes : (ts : List Token) → GoesOn (Any IsTypeName) ts (type_at ts)
unfolding type_at
type_goes [] = stopped (Any IsTypeName) fills_type []
type_goes (token (name x) s e ∷ ts) = stopped (Any IsTypeName) fills_type (token (name x) s e ∷ ts)
type_goes (token (number n) s e ∷ ts) = stopped (Any IsTypeName) fills_type (token (number n) s e ∷ ts)
type_goes (token (typed a b n) s e ∷ ts) = stopped (Any IsTypeName) fills_type (token (typed a b n) s e ∷ ts)
type_goes (token (duration b n) s e ∷ ts) = stopped (Any IsTypeName) fills_type (token (duration b n) s e ∷ ts)
type_goes (token (mark k) s e ∷ ts) = type_by k s e ts (type_of k) refl

type_fine : Fine (Any IsTypeName) type_at
type_fine = record { sample = t.Bool; fills = fills_type; goes_on = type_goes }

start_fine : Fine (Any IsStart) start_at
unfolding start_at
start_fine =
    fine_may (Any IsStart) m.Assign (λ l us. constant_at us >>= λ c. Ok (Some (record { at = offset_at l; value = c.0 }), c.1)) (λ ts. Ok (None, ts))
    (λ l. fine_last (Marked m.Assign (Any IsStart)) constant_at _ (fine_as (Marked m.Assign (Any IsStart)) constant_at (λ us rest c s e. (_, a_start c.1)) constant_fine)) (fine_done (Any IsStart) (λ ts. None) (λ us. (_, no_start)))

-- ---- variables

-- names and the colon behind them
abbrev Names : Span
Names us rest = (xs : List Word) × (s : ℕ) × (e : ℕ) × IsSeparated m.Comma IsName us xs (token (mark m.Colon) s e ∷ rest)

names_fine : Fine Names names_at
unfolding names_at
names_fine = fine_then Names (Any (IsSeparated m.Comma IsName)) (list_at m.Comma name_at) _ names_fine_list (λ l xs. fine_expect _ m.Colon _ (λ l. fine_done _ _ (λ us s e all p. (p.0, s, e, p.1))))

plain_fine : (xs : List Word) → Fine (Behind Names (Any IsVariable)) (plain_at xs)
unfolding plain_at
plain_fine xs =
    fine_then (Behind Names (Any IsVariable)) (Any IsTypeName) type_at _ type_fine (λ l a.
    fine_then _ (Any IsStart) start_at _ start_fine (λ l c.
    fine_expect _ m.Semicolon _ (λ l. fine_done _ _ (λ us s e ts₂ c ts₁ a all p. (_, of_type p.3 a.1 c.1)))))

pub variable_fine : Fine (Any IsVariable) variable_at
unfolding variable_at
variable_fine = fine_then (Any IsVariable) Names names_at _ names_fine (λ l xs. plain_fine xs)

bounds_fine : Fine (Any IsBounds) bounds_at
unfolding bounds_at
bounds_fine =
    fine_expect (Any IsBounds) m.LBracket _ (λ l.
    fine_then _ (Any IsInteger) integer_at _ integer_fine (λ l c.
    fine_expect _ m.DotDot _ (λ l.
    fine_then _ (Any IsInteger) integer_at _ integer_fine (λ l d.
    fine_expect _ m.RBracket _ (λ l. fine_done _ _ (λ us s'' e'' mid d s' e' all c s e. (_, some_bounds c.1 d.1)))))))

array_fine : (xs : List Word) → Fine (Marked m.Array (Behind Names (Any IsInternal))) (array_at xs)
unfolding array_at
array_fine xs =
    fine_then (Marked m.Array (Behind Names (Any IsInternal))) (Any IsBounds) bounds_at _ bounds_fine (λ l b.
    fine_expect _ m.Of _ (λ l.
    fine_then _ (Any IsTypeName) type_at _ type_fine (λ l a.
    fine_expect _ m.Semicolon _ (λ l. fine_done _ _ (λ us s₃ e₃ ts₂ a s₂ e₂ ts₁ b s₁ e₁ all p. (_, an_array p.3 b.1 a.1))))))

pub internal_fine : Fine (Any IsInternal) internal_at
unfolding internal_at
internal_fine =
    fine_then (Any IsInternal) Names names_at _ names_fine (λ l xs.
    fine_may (Behind Names (Any IsInternal)) m.Array (λ l. array_at xs) (plain_at xs) (λ l. array_fine xs)
    (fine_as (Behind Names (Any IsInternal)) (plain_at xs) (λ us rest h all p. (_, a_variable (h all p).1)) (plain_fine xs)))

-- ---- instances

parameter_fine : Fine (Any IsParameter) parameter_at
unfolding parameter_at
parameter_fine =
    fine_then (Any IsParameter) (Any IsName) name_at _ name_fine (λ l x.
    fine_expect _ m.Assign _ (λ l. fine_last _ constant_at _ (fine_as _ constant_at (λ us rest c s e all x. (_, a_parameter x.1 c.1)) constant_fine)))

parameters_fine : Fine (Any IsParameters) parameters_at
unfolding parameters_at
parameters_fine =
    fine_may (Any IsParameters) m.LParen (λ l us. list_at m.Comma parameter_at us >>= λ ps. expect m.RParen ps.1 >>= λ rest. Ok (ps.0, rest)) (λ ts. Ok ([], ts)) (λ l.
    fine_then (Marked m.LParen (Any IsParameters)) (Any (IsSeparated m.Comma IsParameter)) (list_at m.Comma parameter_at) _ (list_fine IsParameter parameter_at parameter_fine m.Comma) (λ l ps.
    fine_expect _ m.RParen _ (λ l. fine_done _ _ (λ us s' e' all p s e. (_, some_parameters p.1)))))
    (fine_done (Any IsParameters) (λ ts. []) (λ us. (_, no_parameters)))

type_list_fine : Fine (Any IsTypeList) type_list_at
unfolding type_list_at
type_list_fine =
    fine_if (Any IsTypeList) (next_is m.RBracket) (λ ts. Ok ([], ts)) (list_at m.Comma type_at) (fine_done (Any IsTypeList) (λ ts. []) (λ us. (_, no_types)))
    (fine_as (Any IsTypeList) (list_at m.Comma type_at) (λ us rest h. (_, some_types h.1)) (list_fine IsTypeName type_at type_fine m.Comma))

types_fine : Fine (Any IsTypes) types_at
unfolding types_at
types_fine =
    fine_may (Any IsTypes) m.LBracket (λ l us. type_list_at us >>= λ xs. expect m.RBracket xs.1 >>= λ rest. Ok (Some xs.0, rest)) (λ ts. Ok (None, ts)) (λ l.
    fine_then (Marked m.LBracket (Any IsTypes)) (Any IsTypeList) type_list_at _ type_list_fine (λ l xs.
    fine_expect _ m.RBracket _ (λ l. fine_done _ _ (λ us s' e' all p s e. (_, in_brackets p.1)))))
    (fine_done (Any IsTypes) (λ ts. None) (λ us. (_, no_brackets)))

pub instance_fine : Fine (Any IsInstance) instance_at
unfolding instance_at
instance_fine =
    fine_then (Any IsInstance) (Any IsName) name_at _ name_fine (λ l x.
    fine_expect _ m.Colon _ (λ l.
    fine_then _ (Any IsName) name_at _ name_fine (λ l y.
    fine_then _ (Any IsTypes) types_at _ types_fine (λ l types.
    fine_then _ (Any IsParameters) parameters_at _ parameters_fine (λ l ps.
    fine_expect _ m.Semicolon _ (λ l. fine_done _ _ (λ us s' e' ts₃ ps ts₂ types ts₁ y s e all x. (_, an_instance x.1 y.1 types.1 ps.1))))))))

-- ---- connections

port_fine : Fine (Any IsPort) port_at
unfolding port_at second_at
port_fine =
    let P : Span = Behind (Any IsName) (Any IsPort) in
    fine_then (Any IsPort) (Any IsName) name_at _ name_fine (λ l x.
    fine_last P second_at _ (fine_may P m.Dot (λ l us. name_at us >>= λ x. Ok (Some x.0, x.1)) (λ ts. Ok (None, ts))
    (λ l. fine_last (Marked m.Dot P) name_at _ (fine_as (Marked m.Dot P) name_at (λ us rest y s e all x. (_, inner x.1 y.1)) name_fine)) (fine_done P (λ ts. None) (λ us all x. (_, own x.1)))))

connection_fine : Fine (Any IsConnection) connection_at
unfolding connection_at
connection_fine =
    fine_then (Any IsConnection) (Any IsPort) port_at _ port_fine (λ l p.
    fine_expect _ m.To _ (λ l.
    fine_then _ (Any IsPort) port_at _ port_fine (λ l q.
    fine_expect _ m.Semicolon _ (λ l. fine_done _ _ (λ us s' e' mid q s e all p. (_, a_connection p.1 q.1))))))

-- ---- networks

abbrev Instances : Span
Instances = Any (IsSection m.Fbs m.EndFbs IsInstance)

abbrev EventWires : Span
EventWires = Any (IsSection m.EventConnections m.EndConnections IsConnection)

abbrev ValueWires : Span
ValueWires = Any (IsSection m.DataConnections m.EndConnections IsConnection)

-- connections behind instances
pub data Wires : List Token → List Token → Type 0 where
  some_wires : {ts mid rest : List Token} → EventWires ts mid → ValueWires mid rest → Wires ts rest

abbrev pub wires_at : List InstanceTree → Read NetworkTree
wires_at is ts = section_at m.EventConnections m.EndConnections connection_at ts >>= λ es. section_at m.DataConnections m.EndConnections connection_at es.1 >>= λ vs. Ok (record { instances = is; events = es.0; values = vs.0 }, vs.1)

pub wires_fine : (is : List InstanceTree) → Fine Wires (wires_at is)
wires_fine is =
    fine_then Wires EventWires (section_at m.EventConnections m.EndConnections connection_at) _ (section_fine IsConnection connection_at connection_fine m.EventConnections m.EndConnections) (λ l es.
    fine_last _ (section_at m.DataConnections m.EndConnections connection_at) _
    (fine_as _ (section_at m.DataConnections m.EndConnections connection_at) (λ us rest q all p. some_wires p q) (section_fine IsConnection connection_at connection_fine m.DataConnections m.EndConnections)))

network_of : {ts mid rest : List Token} {is : List InstanceTree} → IsSection m.Fbs m.EndFbs IsInstance ts is mid → Wires mid rest → Any IsNetwork ts rest
network_of p (some_wires q r) = (_, a_network p q.1 r.1)

pub network_fine : Fine (Any IsNetwork) network_at
unfolding network_at
network_fine =
    fine_then (Any IsNetwork) Instances (section_at m.Fbs m.EndFbs instance_at) _ (section_fine IsInstance instance_at instance_fine m.Fbs m.EndFbs) (λ l is.
    fine_as _ (wires_at is) (λ us rest w all p. network_of p.1 w) (wires_fine is))
