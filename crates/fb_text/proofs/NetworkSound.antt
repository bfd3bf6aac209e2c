-- What is read of instances, connections and networks is in the grammar.
use Rattle.std.proofs.Common.{◌≡◌, ℕ, List, [], ◌∷◌, length, Option, Ok, refl, sym, subst}
use Rattle.fb_words.specs.declared.mark.Mark.TheVariants as m
use Rattle.fb_model.specs.Tokens.{Token, token, mark}
use Rattle.fb_model.specs.Productions.{Word, IsName, IsSeparated}
use Rattle.fb_model.specs.Trees.{Constant, PortTree}
use Rattle.fb_model.specs.Grammar.{IsConstant, IsParameter, a_parameter, IsPort, own, inner, IsConnection, a_connection}
use Rattle.fb_model.specs.DeclarationGrammar.{IsTypeName, IsTypeList, no_types, some_types, IsTypes, no_brackets, in_brackets, IsParameters, no_parameters, some_parameters, IsInstance, an_instance, IsNetwork, a_network}
use Rattle.fb_read.specs.Reading.{next_is, after, offset_at, name_at, type_at, list_at, section_at}
use Rattle.fb_read.proofs.Readers.{Sound, meets_then, meets_as, meets_if, expect_then, may_open, name_sound}
use Rattle.fb_read.proofs.Repetitions.{IsOptional, missing, given, separated_sound, section_sound, optional_sound}
use Rattle.fb_text.specs.Reading.{constant_at, parameter_at, parameters_at, type_list_at, types_at, instance_at, second_at, port_at, connection_at, network_at}
use Rattle.fb_text.proofs.VariableSound.{constant_sound, type_sound}

-- ---- instances

parameter_of : {s e : ℕ} {ts mid rest : List Token} {x : Word} {c : Constant} (at : ℕ) → at ≡ s → IsName ts x (token (mark m.Assign) s e ∷ mid) → IsConstant mid c rest → IsParameter ts (record { name = x; at = at; value = c }) rest
parameter_of {ts = ts} {rest = rest} {x = x} {c = c} at same p q = subst (λ a. IsParameter ts (record { name = x; at = a; value = c }) rest) (sym same) (a_parameter p q)

pub parameter_sound : Sound IsParameter parameter_at
unfolding parameter_at
parameter_sound ts = meets_then _ _ (name_at ts) (name_sound ts) (λ x sign p.
    expect_then (λ l. IsName ts x l × (offset_at sign ≡ offset_at l)) _ _ m.Assign sign (p, refl) (λ s e mid p'.
    meets_then _ _ (constant_at mid) (constant_sound mid) (λ c rest q. parameter_of (offset_at sign) p'.1 p'.0 q)))

parameters_sound : Sound IsParameters parameters_at
unfolding parameters_at
parameters_sound ts = may_open IsParameters m.LParen ts _ _ (λ s e.
    meets_then _ _ (list_at m.Comma parameter_at (after ts)) (separated_sound IsParameter parameter_at parameter_sound m.Comma (length (after ts)) (after ts)) (λ xs on p.
    expect_then (λ l. IsSeparated m.Comma IsParameter (after ts) xs l) _ _ m.RParen on p (λ s' e' rest q. some_parameters q)))
    (λ h. no_parameters)

type_list_sound : Sound IsTypeList type_list_at
unfolding type_list_at
type_list_sound ts =
    meets_if (IsTypeList ts) (next_is m.RBracket ts) (Ok ([], ts)) (list_at m.Comma type_at ts) no_types
    (meets_as _ (list_at m.Comma type_at ts) (separated_sound IsTypeName type_at type_sound m.Comma (length ts) ts) (λ xs rest p. some_types p))

types_sound : Sound IsTypes types_at
unfolding types_at
types_sound ts = may_open IsTypes m.LBracket ts _ _ (λ s e.
    meets_then _ _ (type_list_at (after ts)) (type_list_sound (after ts)) (λ xs on p.
    expect_then (λ l. IsTypeList (after ts) xs l) _ _ m.RBracket on p (λ s' e' rest q. in_brackets q)))
    (λ h. no_brackets)

pub instance_sound : Sound IsInstance instance_at
unfolding instance_at
instance_sound ts = meets_then _ _ (name_at ts) (name_sound ts) (λ x sign p.
    expect_then (λ l. IsName ts x l) _ _ m.Colon sign p (λ s e mid p'.
    meets_then _ _ (name_at mid) (name_sound mid) (λ y on q.
    meets_then _ _ (types_at on) (types_sound on) (λ types mid₂ r.
    meets_then _ _ (parameters_at mid₂) (parameters_sound mid₂) (λ ps end t.
    expect_then (λ l. IsParameters mid₂ ps l) _ _ m.Semicolon end t (λ s' e' rest t'. an_instance p' q r t'))))))

-- ---- connections

second_sound : Sound (IsOptional m.Dot IsName) second_at
unfolding second_at
second_sound ts = optional_sound IsName name_at name_sound m.Dot ts

port_of : {ts mid rest : List Token} {x : Word} {y : Option Word} → IsName ts x mid → IsOptional m.Dot IsName mid y rest → IsPort ts (record { first = x; second = y }) rest
port_of p (missing f) = own p
port_of p (given q) = inner p q

port_sound : Sound IsPort port_at
unfolding port_at
port_sound ts = meets_then _ _ (name_at ts) (name_sound ts) (λ x mid p. meets_then _ _ (second_at mid) (second_sound mid) (λ y rest q. port_of p q))

connection_of : {s e s' e' : ℕ} {ts mid rest : List Token} {p q : PortTree} (at : ℕ) → at ≡ s → IsPort ts p (token (mark m.To) s e ∷ mid) → IsPort mid q (token (mark m.Semicolon) s' e' ∷ rest) → IsConnection ts (record { source = p; at = at; target = q }) rest
connection_of {ts = ts} {rest = rest} {p = p} {q = q} at same f g = subst (λ a. IsConnection ts (record { source = p; at = a; target = q }) rest) (sym same) (a_connection f g)

pub connection_sound : Sound IsConnection connection_at
unfolding connection_at
connection_sound ts = meets_then _ _ (port_at ts) (port_sound ts) (λ p to f.
    expect_then (λ l. IsPort ts p l × (offset_at to ≡ offset_at l)) _ _ m.To to (f, refl) (λ s e mid f'.
    meets_then _ _ (port_at mid) (port_sound mid) (λ q end g.
    expect_then (λ l. IsPort mid q l) _ _ m.Semicolon end g (λ s' e' rest g'. connection_of (offset_at to) f'.1 f'.0 g'))))

-- ---- networks

pub network_sound : Sound IsNetwork network_at
unfolding network_at
network_sound ts =
    meets_then _ _ (section_at m.Fbs m.EndFbs instance_at ts) (section_sound IsInstance instance_at instance_sound m.Fbs m.EndFbs ts) (λ is ts₁ p.
    meets_then _ _ (section_at m.EventConnections m.EndConnections connection_at ts₁) (section_sound IsConnection connection_at connection_sound m.EventConnections m.EndConnections ts₁) (λ es ts₂ q.
    meets_then _ _ (section_at m.DataConnections m.EndConnections connection_at ts₂) (section_sound IsConnection connection_at connection_sound m.DataConnections m.EndConnections ts₂) (λ vs rest r. a_network p q r)))
