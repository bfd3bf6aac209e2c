-- Each production stops at the same token whatever stands behind it: constants, events, variables and networks.
use Rattle.std.proofs.Common.{◌≡◌, ℕ, ◌⊎◌, Bool, true, false, cond, List, [], ◌∷◌, Option, None, Some, Ok, refl, ap, arith, inl, inr}
use Rattle.std.specs.Prelude.{codes}
use Rattle.std.specs.Str.{bytes_eq}
use Rattle.fb_words.specs.declared.mark.Mark.TheVariants as m
use Rattle.fb_words.specs.declared.elem_type.ElemType.{ElemType}
use Rattle.fb_words.specs.Writing.{type_of}
use Rattle.fb_model.specs.Tokens.{Token, token, name, number, typed, duration, mark}
use Rattle.fb_model.specs.Productions.{Word, IsName}
use Rattle.fb_model.specs.Grammar.{IsParameter, IsConnection}
use Rattle.fb_model.specs.DeclarationGrammar.{IsTypeName, IsInstance}
use Rattle.fb_read.specs.Reading.{stuck, Read, ◌>>=◌, next_is, after, expect, name_at, type_step, type_at, list_at, section_at}
use Rattle.fb_read.proofs.Readers.{name_sound}
use Rattle.fb_read.proofs.Steady.{Steady, Takes, Stops, steady_then, steady_as, steady_done, steady_head, steady_name, steady_choice, steady_if, cond_then, steady_expect, steady_place}
use Rattle.fb_read.proofs.SteadyLists.{shrinks_of, steady_list, steady_section}
use Rattle.st_parse.specs.Reading.{integer_at}
use Rattle.st_parse.proofs.Labels.{integer_steady}
use Rattle.st_parse.specs.ConstantReading.{number_at, literal_at}
use Rattle.st_parse.proofs.Literals.{number_steady, literal_steady}
use Rattle.fb_text.specs.Reading.{constant_at, word_at, kind_at, with_at, event_at, start_at, plain_at, names_at, variable_at, bounds_at, array_at, internal_at, parameter_at, parameters_at, type_list_at, types_at, instance_at, second_at, port_at, connection_at, network_at}
use Rattle.fb_text.proofs.VariableSound.{type_sound}
use Rattle.fb_text.proofs.NetworkSound.{parameter_sound, instance_sound, connection_sound}
use Rattle.fb_text.proofs.Shorter.{name_shorter, type_shorter, parameter_shorter, instance_shorter, connection_shorter}

-- ---- constants

constant_steady : Steady constant_at
unfolding constant_at
constant_steady = steady_if m.Minus (number_at true) literal_at (number_steady true) literal_steady

-- ---- events

module _ {A : Type 0} (g : Read A) (h : Steady g) where
  word_begins : (text : List ℕ) (u : Token) → Takes (λ ts. word_at text ts >>= g) u ⊎ Stops (λ ts. word_at text ts >>= g) u
  word_begins text (token (number n) s e) = inr (λ ts. refl)
  word_begins text (token (typed t b n) s e) = inr (λ ts. refl)
  word_begins text (token (duration b n) s e) = inr (λ ts. refl)
  word_begins text (token (mark k) s e) = inr (λ ts. refl)
  word_begins text (token (name x) s e) = by (bytes_eq x text) refl where
    by : (b : Bool) → bytes_eq x text ≡ b → Takes (λ ts. word_at text ts >>= g) (token (name x) s e) ⊎ Stops (λ ts. word_at text ts >>= g) (token (name x) s e)
    by true f = inl (g, h, λ ts. ap (λ b. cond b (Ok ts) (stuck (token (name x) s e ∷ ts)) >>= g) f)
    by false f = inr (λ ts. ap (λ b. cond b (Ok ts) (stuck (token (name x) s e ∷ ts)) >>= g) f)

  pub word_steady : (text : List ℕ) → Steady (λ ts. word_at text ts >>= g)
  word_steady text = steady_head (λ ts. word_at text ts >>= g) (omega arith) (word_begins text)

  kind_steady : Steady (λ ts. kind_at ts >>= g)
  kind_steady =
      steady_as (λ ts. cond (next_is m.Colon ts) (word_at (codes "EVENT") (after ts) >>= g) (g ts)) (λ ts. kind_at ts >>= g)
      (steady_if m.Colon (λ ts. word_at (codes "EVENT") ts >>= g) g (word_steady (codes "EVENT")) h)
      (λ ts. cond_then (next_is m.Colon ts) (word_at (codes "EVENT") (after ts)) (Ok ts) g)

names_listed : Steady (list_at m.Comma name_at)
names_listed = steady_list name_at steady_name (shrinks_of IsName name_at name_sound name_shorter) m.Comma

with_steady : Steady with_at
unfolding with_at
with_steady = steady_if m.With (list_at m.Comma name_at) (λ ts. Ok ([], ts)) names_listed (steady_done [])

pub event_steady : Steady event_at
unfolding event_at
event_steady = steady_then name_at _ steady_name (λ x. kind_steady _ (steady_then with_at _ with_steady (λ xs. steady_expect m.Semicolon _ (steady_done (record { name = x; carries = xs })))))

-- ---- types and start values

type_found : (o : Option ElemType) (u : Token) → ((ts : List Token) → type_at (u ∷ ts) ≡ type_step o u ts) → Takes type_at u ⊎ Stops type_at u
type_found None u h = inr h
type_found (Some a) u h = inl ((λ ts. Ok (a, ts)), steady_done a, h)

type_begins : (u : Token) → Takes type_at u ⊎ Stops type_at u
unfolding type_at
type_begins (token (name x) s e) = inr (λ ts. refl)
type_begins (token (number n) s e) = inr (λ ts. refl)
type_begins (token (typed t b n) s e) = inr (λ ts. refl)
type_begins (token (duration b n) s e) = inr (λ ts. refl)
type_begins (token (mark k) s e) = type_found (type_of k) (token (mark k) s e) (λ ts. refl)

type_steady : Steady type_at
unfolding type_at
type_steady = steady_head type_at (omega arith) type_begins

start_steady : Steady start_at
unfolding start_at
start_steady =
    steady_place (λ at ts. cond (next_is m.Assign ts) (constant_at (after ts) >>= λ c. Ok (Some (record { at = at; value = c.0 }), c.1)) (Ok (None, ts))) (λ at.
    steady_if m.Assign (λ ts. constant_at ts >>= λ c. Ok (Some (record { at = at; value = c.0 }), c.1)) (λ ts. Ok (None, ts))
    (steady_then constant_at _ constant_steady (λ c. steady_done (Some (record { at = at; value = c })))) (steady_done None))

-- ---- variables

plain_steady : (xs : List Word) → Steady (plain_at xs)
unfolding plain_at
plain_steady xs = steady_then type_at _ type_steady (λ a. steady_then start_at _ start_steady (λ c. steady_expect m.Semicolon _ (steady_done (record { names = xs; bounds = None; type = a; start = c }))))

names_steady : Steady names_at
unfolding names_at
names_steady = steady_then (list_at m.Comma name_at) _ names_listed (λ xs. steady_expect m.Colon _ (steady_done xs))

pub variable_steady : Steady variable_at
unfolding variable_at
variable_steady = steady_then names_at _ names_steady (λ xs. plain_steady xs)

bounds_steady : Steady bounds_at
unfolding bounds_at
bounds_steady =
    steady_expect m.LBracket _ (steady_then integer_at _ integer_steady (λ c.
    steady_expect m.DotDot _ (steady_then integer_at _ integer_steady (λ d.
    steady_expect m.RBracket _ (steady_done (record { low = c; high = d }))))))

array_steady : (xs : List Word) → Steady (array_at xs)
unfolding array_at
array_steady xs =
    steady_then bounds_at _ bounds_steady (λ b. steady_expect m.Of _
    (steady_then type_at _ type_steady (λ a. steady_expect m.Semicolon _ (steady_done (record { names = xs; bounds = Some b; type = a; start = None })))))

pub internal_steady : Steady internal_at
unfolding internal_at
internal_steady = steady_then names_at _ names_steady (λ xs. steady_if m.Array (array_at xs) (plain_at xs) (array_steady xs) (plain_steady xs))

-- ---- instances

parameter_steady : Steady parameter_at
unfolding parameter_at
parameter_steady = steady_then name_at _ steady_name (λ x.
    steady_place (λ at ts. expect m.Assign ts >>= λ l. constant_at l >>= λ c. Ok (record { name = x; at = at; value = c.0 }, c.1)) (λ at.
    steady_expect m.Assign _ (steady_then constant_at _ constant_steady (λ c. steady_done (record { name = x; at = at; value = c })))))

parameters_steady : Steady parameters_at
unfolding parameters_at
parameters_steady =
    steady_if m.LParen (λ ts. list_at m.Comma parameter_at ts >>= λ ps. expect m.RParen ps.1 >>= λ rest. Ok (ps.0, rest)) (λ ts. Ok ([], ts))
    (steady_then (list_at m.Comma parameter_at) _ (steady_list parameter_at parameter_steady (shrinks_of IsParameter parameter_at parameter_sound parameter_shorter) m.Comma) (λ ps. steady_expect m.RParen _ (steady_done ps)))
    (steady_done [])

type_list_steady : Steady type_list_at
unfolding type_list_at
type_list_steady = steady_choice m.RBracket (λ ts. Ok ([], ts)) (list_at m.Comma type_at) (steady_done []) (steady_list type_at type_steady (shrinks_of IsTypeName type_at type_sound type_shorter) m.Comma)

types_steady : Steady types_at
unfolding types_at
types_steady =
    steady_if m.LBracket (λ ts. type_list_at ts >>= λ xs. expect m.RBracket xs.1 >>= λ rest. Ok (Some xs.0, rest)) (λ ts. Ok (None, ts))
    (steady_then type_list_at _ type_list_steady (λ xs. steady_expect m.RBracket _ (steady_done (Some xs)))) (steady_done None)

instance_steady : Steady instance_at
unfolding instance_at
instance_steady =
    steady_then name_at _ steady_name (λ x. steady_expect m.Colon _
    (steady_then name_at _ steady_name (λ y.
    steady_then types_at _ types_steady (λ types.
    steady_then parameters_at _ parameters_steady (λ ps. steady_expect m.Semicolon _
    (steady_done (record { name = x; type = y; types = types; parameters = ps })))))))

-- ---- connections and networks

second_steady : Steady second_at
unfolding second_at
second_steady = steady_if m.Dot (λ ts. name_at ts >>= λ x. Ok (Some x.0, x.1)) (λ ts. Ok (None, ts)) (steady_then name_at _ steady_name (λ x. steady_done (Some x))) (steady_done None)

port_steady : Steady port_at
unfolding port_at
port_steady = steady_then name_at _ steady_name (λ x. steady_then second_at _ second_steady (λ y. steady_done (record { first = x; second = y })))

connection_steady : Steady connection_at
unfolding connection_at
connection_steady = steady_then port_at _ port_steady (λ p.
    steady_place (λ at ts. expect m.To ts >>= λ l. port_at l >>= λ q. expect m.Semicolon q.1 >>= λ l. Ok (record { source = p; at = at; target = q.0 }, l)) (λ at.
    steady_expect m.To _ (steady_then port_at _ port_steady (λ q. steady_expect m.Semicolon _ (steady_done (record { source = p; at = at; target = q }))))))

pub network_steady : Steady network_at
unfolding network_at
network_steady =
    let connections = steady_section connection_at connection_steady (shrinks_of IsConnection connection_at connection_sound connection_shorter) in
    steady_then (section_at m.Fbs m.EndFbs instance_at) _ (steady_section instance_at instance_steady (shrinks_of IsInstance instance_at instance_sound instance_shorter) m.Fbs m.EndFbs) (λ is.
    steady_then (section_at m.EventConnections m.EndConnections connection_at) _ (connections m.EventConnections m.EndConnections) (λ es.
    steady_then (section_at m.DataConnections m.EndConnections connection_at) _ (connections m.DataConnections m.EndConnections) (λ vs.
    steady_done (record { instances = is; events = es; values = vs }))))
