-- Instances, connections and networks that are in the grammar are read.
use Rattle.std.proofs.Common.{◌≡◌, ℕ, false, cond, List, [], ◌∷◌, length, Ok, refl, sym, subst, arith, inl}
use Rattle.fb_words.specs.declared.mark.Mark.{Mark}
use Rattle.fb_words.specs.declared.mark.Mark.TheVariants as m
use Rattle.fb_words.specs.declared.elem_type.ElemType.{ElemType}
use Rattle.fb_model.specs.Tokens.{Token, token, mark}
use Rattle.fb_model.specs.Productions.{a_name, IsSeparated, last, before}
use Rattle.fb_model.specs.Trees.{ParameterTree}
use Rattle.fb_model.specs.Grammar.{IsParameter, a_parameter, IsPort, own, inner, IsConnection, a_connection}
use Rattle.fb_model.specs.Declarations.{NetworkTree}
use Rattle.fb_model.specs.DeclarationGrammar.{IsTypeName, IsTypeList, no_types, some_types, IsTypes, no_brackets, in_brackets, IsParameters, no_parameters, some_parameters, IsInstance, an_instance, IsNetwork, a_network}
use Rattle.fb_read.specs.Reading.{is, next_is, type_at, list_at, section_at}
use Rattle.fb_read.proofs.Readers.{Gets, Complete, never, gets_then}
use Rattle.fb_read.proofs.Repetitions.{separated_complete, section_avoids, section_complete}
use Rattle.fb_text.specs.Reading.{constant_at, parameter_at, parameters_at, type_list_at, types_at, instance_at, second_at, port_at, connection_at, network_at}
use Rattle.fb_text.proofs.Shorter.{type_shorter, parameter_shorter, instance_shorter, instance_avoids, connection_shorter, connection_avoids}
use Rattle.fb_text.proofs.VariableComplete.{no_bracket, constant_complete, type_complete}

-- no list of types begins with a `]`
types_avoid : {ts rest : List Token} {xs : List ElemType} → IsSeparated m.Comma IsTypeName ts xs rest → next_is m.RBracket ts ≡ false
types_avoid (last {ts = ts} {rest = rest} {x = x} p) = no_bracket ts x rest p
types_avoid (before {ts = ts} {mid = mid} {s = s} {e = e} {x = x} p q) = no_bracket ts x (token (mark m.Comma) s e ∷ mid) p

-- no `[` stands where parameters stand, or the end
no_opening : {s e : ℕ} {ts rest : List Token} {ps : List ParameterTree} → IsParameters ts ps (token (mark m.Semicolon) s e ∷ rest) → next_is m.LBracket ts ≡ false
no_opening no_parameters = refl
no_opening (some_parameters p) = refl

module _ (Deep : Type 0) where
  -- ---- instances

  parameter_complete : Complete Deep never IsParameter parameter_at
  unfolding parameter_at
  parameter_complete ts x rest (a_parameter {mid = mid} {c = c} a_name h) st = gets_then _ _ (constant_at mid) (c, rest) (constant_complete Deep mid c rest h refl) (inl refl)

  parameters_complete : (s e : ℕ) (ts rest : List Token) (ps : List ParameterTree) → IsParameters ts ps (token (mark m.Semicolon) s e ∷ rest) → Gets Deep (parameters_at ts) (ps, token (mark m.Semicolon) s e ∷ rest)
  unfolding parameters_at
  parameters_complete s e ts rest ps no_parameters = inl refl
  parameters_complete s e ts rest ps (some_parameters {s' = s'} {e' = e'} {ts = on} h) =
      let close = token (mark m.RParen) s' e' ∷ token (mark m.Semicolon) s e ∷ rest in
      gets_then _ _ (list_at m.Comma parameter_at on) (ps, close) (separated_complete Deep m.Comma IsParameter parameter_at parameter_shorter never parameter_complete refl (λ s e l. refl) (length on) on close ps (omega arith) h refl refl) (inl refl)

  type_list_complete : (s e : ℕ) (ts rest : List Token) (xs : List ElemType) → IsTypeList ts xs (token (mark m.RBracket) s e ∷ rest) → Gets Deep (type_list_at ts) (xs, token (mark m.RBracket) s e ∷ rest)
  unfolding type_list_at
  type_list_complete s e ts rest xs no_types = inl refl
  type_list_complete s e ts rest xs (some_types p) =
      let close = token (mark m.RBracket) s e ∷ rest in
      subst (λ b. Gets Deep (cond b (Ok ([], ts)) (list_at m.Comma type_at ts)) (xs, close)) (sym (types_avoid p))
      (separated_complete Deep m.Comma IsTypeName type_at type_shorter never (type_complete Deep) refl (λ s e l. refl) (length ts) ts close xs (omega arith) p refl refl)

  types_complete : Complete Deep (next_is m.LBracket) IsTypes types_at
  unfolding types_at
  types_complete ts types rest no_brackets st = inl (rw st refl)
  types_complete ts types rest (in_brackets {s' = s'} {e' = e'} {ts = on} {xs = xs} p) st =
      gets_then _ _ (type_list_at on) (xs, token (mark m.RBracket) s' e' ∷ rest) (type_list_complete s' e' on rest xs p) (inl refl)

  pub instance_complete : Complete Deep never IsInstance instance_at
  unfolding instance_at
  instance_complete ts x rest (an_instance {s' = s'} {e' = e'} {ts₂ = ts₂} {ts₃ = ts₃} {types = types} {ps = ps} a_name a_name p q) st =
      gets_then _ _ (types_at ts₂) (types, ts₃) (types_complete ts₂ types ts₃ p (no_opening q))
      (gets_then _ _ (parameters_at ts₃) (ps, token (mark m.Semicolon) s' e' ∷ rest) (parameters_complete s' e' ts₃ rest ps q) (inl refl))

  -- ---- connections

  port_complete : Complete Deep (next_is m.Dot) IsPort port_at
  unfolding port_at second_at
  port_complete ts x rest (own a_name) st = inl (rw st refl)
  port_complete ts x rest (inner a_name a_name) st = inl refl

  pub connection_complete : Complete Deep never IsConnection connection_at
  unfolding connection_at
  connection_complete ts x rest (a_connection {s = s} {e = e} {s' = s'} {e' = e'} {mid = mid} {p = p} {q = q} h g) st =
      gets_then _ _ (port_at ts) (p, token (mark m.To) s e ∷ mid) (port_complete ts p (token (mark m.To) s e ∷ mid) h refl)
      (gets_then _ _ (port_at mid) (q, token (mark m.Semicolon) s' e' ∷ rest) (port_complete mid q (token (mark m.Semicolon) s' e' ∷ rest) g refl)
      (inl refl))

  -- ---- networks

  -- a network before a mark that opens none of its sections
  pub network_complete : (k : Mark) → is k m.Fbs ≡ false → is k m.EventConnections ≡ false → is k m.DataConnections ≡ false → (s e : ℕ) (ts rest : List Token) (n : NetworkTree) → IsNetwork ts n (token (mark k) s e ∷ rest) → Gets Deep (network_at ts) (n, token (mark k) s e ∷ rest)
  unfolding network_at
  network_complete k f g h s e ts rest n (a_network {ts₁ = ts₁} {ts₂ = ts₂} {is = is} {es = es} {vs = vs} p q r) =
      let end = token (mark k) s e ∷ rest in
      let connections = section_complete Deep IsConnection connection_at connection_shorter m.EndConnections connection_avoids connection_complete in
      gets_then _ _ (section_at m.Fbs m.EndFbs instance_at ts) (is, ts₁) (section_complete Deep IsInstance instance_at instance_shorter m.EndFbs instance_avoids instance_complete m.Fbs refl refl ts is ts₁ p (section_avoids m.Fbs refl (section_avoids m.Fbs refl f r) q))
      (gets_then _ _ (section_at m.EventConnections m.EndConnections connection_at ts₁) (es, ts₂) (connections m.EventConnections refl refl ts₁ es ts₂ q (section_avoids m.EventConnections refl g r))
      (gets_then _ _ (section_at m.DataConnections m.EndConnections connection_at ts₂) (vs, end) (connections m.DataConnections refl refl ts₂ vs end r h)
      (inl refl)))
