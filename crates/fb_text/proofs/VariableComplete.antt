-- Constants, events and variables that are in the grammar are read.
use Rattle.std.proofs.Common.{◌≡◌, ℕ, false, cond, List, ◌∷◌, length, Option, Some, None, refl, sym, subst, arith, inl}
use Rattle.fb_words.specs.declared.mark.Mark.TheVariants as m
use Rattle.fb_words.specs.declared.elem_type.ElemType.{ElemType}
use Rattle.fb_model.specs.Tokens.{Token, token, mark}
use Rattle.fb_model.specs.Productions.{Word, IsName, a_name, IsSeparated}
use Rattle.fb_model.specs.Grammar.{IsConstant, negative, plain, with_type, time, yes, no}
use Rattle.fb_model.specs.StructuredTextGrammar.{unsigned, signed}
use Rattle.fb_model.specs.Declarations.{BoundsTree, StartTree}
use Rattle.fb_model.specs.DeclarationGrammar.{unsaid, said, IsWith, alone, along, IsEvent, an_event, IsTypeName, a_type, IsStart, no_start, a_start, IsVariable, of_type, IsBounds, some_bounds, IsInternal, a_variable, an_array}
use Rattle.fb_model.specs.DeclarationGrammar as g
use Rattle.fb_read.specs.Reading.{next_is, after, name_at, type_at, list_at}
use Rattle.fb_read.proofs.Readers.{Gets, Complete, never, Avoids, gets_then}
use Rattle.fb_read.proofs.Repetitions.{separated_complete}
use Rattle.st_parse.specs.Reading.{integer_at}
use Rattle.st_parse.specs.ConstantReading.{literal_at}
use Rattle.fb_text.specs.Reading.{constant_at, with_at, event_at, start_at, plain_at, names_at, variable_at, bounds_at, array_at, internal_at}
use Rattle.fb_text.proofs.Shorter.{name_shorter}

-- a type is neither ARRAY nor a `]`

no_array : Avoids m.Array IsTypeName
no_array ts x rest (a_type g.bool) = refl
no_array ts x rest (a_type g.sint) = refl
no_array ts x rest (a_type g.int) = refl
no_array ts x rest (a_type g.dint) = refl
no_array ts x rest (a_type g.lint) = refl
no_array ts x rest (a_type g.usint) = refl
no_array ts x rest (a_type g.uint) = refl
no_array ts x rest (a_type g.udint) = refl
no_array ts x rest (a_type g.time) = refl

pub no_bracket : Avoids m.RBracket IsTypeName
no_bracket ts x rest (a_type g.bool) = refl
no_bracket ts x rest (a_type g.sint) = refl
no_bracket ts x rest (a_type g.int) = refl
no_bracket ts x rest (a_type g.dint) = refl
no_bracket ts x rest (a_type g.lint) = refl
no_bracket ts x rest (a_type g.usint) = refl
no_bracket ts x rest (a_type g.uint) = refl
no_bracket ts x rest (a_type g.udint) = refl
no_bracket ts x rest (a_type g.time) = refl

module _ (Deep : Type 0) where
  pub constant_complete : Complete Deep never IsConstant constant_at
  unfolding constant_at literal_at
  constant_complete ts x rest negative st = inl refl
  constant_complete ts x rest plain st = inl refl
  constant_complete ts x rest with_type st = inl refl
  constant_complete ts x rest time st = inl refl
  constant_complete ts x rest yes st = inl refl
  constant_complete ts x rest no st = inl refl

  -- ---- events

  name_complete : Complete Deep never IsName name_at
  name_complete ts x rest a_name st = inl refl

  list_complete : (ts rest : List Token) (xs : List Word) → IsSeparated m.Comma IsName ts xs rest → next_is m.Comma rest ≡ false → Gets Deep (list_at m.Comma name_at ts) (xs, rest)
  list_complete ts rest xs h fin = separated_complete Deep m.Comma IsName name_at name_shorter never name_complete refl (λ s e l. refl) (length ts) ts rest xs (omega arith) h refl fin

  with_complete : (s e : ℕ) (ts rest : List Token) (xs : List Word) → IsWith ts xs (token (mark m.Semicolon) s e ∷ rest) → Gets Deep (with_at ts) (xs, token (mark m.Semicolon) s e ∷ rest)
  unfolding with_at
  with_complete s e ts rest xs alone = inl refl
  with_complete s e ts rest xs (along {ts = on} p) = list_complete on (token (mark m.Semicolon) s e ∷ rest) xs p refl

  pub event_complete : Complete Deep never IsEvent event_at
  unfolding event_at
  event_complete ts x rest (an_event {s = s} {e = e} {ts₂ = ts₂} {xs = xs} a_name unsaid alone) st = gets_then _ _ (with_at ts₂) (xs, token (mark m.Semicolon) s e ∷ rest) (with_complete s e ts₂ rest xs alone) (inl refl)
  event_complete ts x rest (an_event {s = s} {e = e} {ts₂ = ts₂} {xs = xs} a_name unsaid (along p)) st = gets_then _ _ (with_at ts₂) (xs, token (mark m.Semicolon) s e ∷ rest) (with_complete s e ts₂ rest xs (along p)) (inl refl)
  event_complete ts x rest (an_event {s = s} {e = e} {ts₂ = ts₂} {xs = xs} a_name said p) st = gets_then _ _ (with_at ts₂) (xs, token (mark m.Semicolon) s e ∷ rest) (with_complete s e ts₂ rest xs p) (inl refl)

  -- ---- types and start values

  pub type_complete : Complete Deep never IsTypeName type_at
  unfolding type_at
  type_complete ts x rest (a_type g.bool) st = inl refl
  type_complete ts x rest (a_type g.sint) st = inl refl
  type_complete ts x rest (a_type g.int) st = inl refl
  type_complete ts x rest (a_type g.dint) st = inl refl
  type_complete ts x rest (a_type g.lint) st = inl refl
  type_complete ts x rest (a_type g.usint) st = inl refl
  type_complete ts x rest (a_type g.uint) st = inl refl
  type_complete ts x rest (a_type g.udint) st = inl refl
  type_complete ts x rest (a_type g.time) st = inl refl

  start_complete : (s e : ℕ) (ts rest : List Token) (c : Option StartTree) → IsStart ts c (token (mark m.Semicolon) s e ∷ rest) → Gets Deep (start_at ts) (c, token (mark m.Semicolon) s e ∷ rest)
  unfolding start_at
  start_complete s e ts rest c no_start = inl refl
  start_complete s e ts rest x (a_start {ts = on} {c = c} p) = gets_then _ _ (constant_at on) (c, token (mark m.Semicolon) s e ∷ rest) (constant_complete on c (token (mark m.Semicolon) s e ∷ rest) p refl) (inl refl)

  -- ---- variables

  plain_complete : (xs : List Word) {s e : ℕ} {ts mid rest : List Token} {a : ElemType} {c : Option StartTree} → IsTypeName ts a mid → IsStart mid c (token (mark m.Semicolon) s e ∷ rest) → Gets Deep (plain_at xs ts) (record { names = xs; bounds = None; type = a; start = c }, rest)
  unfolding plain_at
  plain_complete xs {s = s} {e = e} {ts = ts} {mid = mid} {rest = rest} {a = a} {c = c} p q =
      gets_then _ _ (type_at ts) (a, mid) (type_complete ts a mid p refl)
      (gets_then _ _ (start_at mid) (c, token (mark m.Semicolon) s e ∷ rest) (start_complete s e mid rest c q) (inl refl))

  names_complete : {s e : ℕ} {ts rest : List Token} {xs : List Word} → IsSeparated m.Comma IsName ts xs (token (mark m.Colon) s e ∷ rest) → Gets Deep (names_at ts) (xs, rest)
  unfolding names_at
  names_complete {s = s} {e = e} {ts = ts} {rest = rest} {xs = xs} p = gets_then _ _ (list_at m.Comma name_at ts) (xs, token (mark m.Colon) s e ∷ rest) (list_complete ts (token (mark m.Colon) s e ∷ rest) xs p refl) (inl refl)

  pub variable_complete : Complete Deep never IsVariable variable_at
  unfolding variable_at
  variable_complete ts x rest (of_type {ts₁ = ts₁} {xs = xs} p q r) st = gets_then _ _ (names_at ts) (xs, ts₁) (names_complete p) (plain_complete xs q r)

  bounds_complete : Complete Deep never IsBounds bounds_at
  unfolding bounds_at integer_at
  bounds_complete ts x rest (some_bounds unsigned unsigned) st = inl refl
  bounds_complete ts x rest (some_bounds unsigned signed) st = inl refl
  bounds_complete ts x rest (some_bounds signed unsigned) st = inl refl
  bounds_complete ts x rest (some_bounds signed signed) st = inl refl

  array_complete : (xs : List Word) {s e s' e' : ℕ} {ts mid rest : List Token} {b : BoundsTree} {a : ElemType} → IsBounds ts b (token (mark m.Of) s e ∷ mid) → IsTypeName mid a (token (mark m.Semicolon) s' e' ∷ rest)
      → Gets Deep (array_at xs ts) (record { names = xs; bounds = Some b; type = a; start = None }, rest)
  unfolding array_at
  array_complete xs {s = s} {e = e} {s' = s'} {e' = e'} {ts = ts} {mid = mid} {rest = rest} {b = b} {a = a} p q =
      gets_then _ _ (bounds_at ts) (b, token (mark m.Of) s e ∷ mid) (bounds_complete ts b (token (mark m.Of) s e ∷ mid) p refl)
      (gets_then _ _ (type_at mid) (a, token (mark m.Semicolon) s' e' ∷ rest) (type_complete mid a (token (mark m.Semicolon) s' e' ∷ rest) q refl) (inl refl))

  pub internal_complete : Complete Deep never IsInternal internal_at
  unfolding internal_at
  internal_complete ts x rest (a_variable (of_type {ts₁ = ts₁} {ts₂ = ts₂} {xs = xs} {a = a} p q r)) st =
      gets_then _ _ (names_at ts) (xs, ts₁) (names_complete p)
      (subst (λ b. Gets Deep (cond b (array_at xs (after ts₁)) (plain_at xs ts₁)) (x, rest)) (sym (no_array ts₁ a ts₂ q)) (plain_complete xs q r))
  internal_complete ts x rest (an_array {s₁ = s₁} {e₁ = e₁} {ts₁ = ts₁} {xs = xs} p q r) st =
      gets_then _ _ (names_at ts) (xs, token (mark m.Array) s₁ e₁ ∷ ts₁) (names_complete p) (array_complete xs q r)
