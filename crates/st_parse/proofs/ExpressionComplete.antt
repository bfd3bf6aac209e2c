-- What is in the grammar is read.
use Rattle.std.proofs.Common.{◌≡◌, ℕ, zero, suc, ◌<◌, Bool, true, false, cond, List, [], ◌∷◌, length, Some, None, is_some, Ok, Err, refl, sym, ap, subst, ◌∙◌, arith, inl, inr}
use Rattle.std.specs.Prelude.{◌==◌, nat_le}
use Rattle.std.proofs.lemmas.Bool.{eqb-true, eq-eqb, leb-false, lt-leb}
use Rattle.fb_words.specs.declared.mark.Mark.{Mark}
use Rattle.fb_words.specs.declared.mark.Mark.TheVariants as m
use Rattle.fb_words.specs.declared.operator.Operator.{Operator}
use Rattle.fb_model.specs.Tokens.{Token, token, name, number, typed, duration, mark}
use Rattle.fb_model.specs.Productions.{Gram, Word, a_name, IsSeparated, last, before}
use Rattle.fb_model.specs.Trees.{Whole}
use Rattle.fb_model.specs.StructuredText.{Expression, literal, variable, element, call, negative, inverse, expressions, Link}
use Rattle.fb_model.specs.StructuredTextGrammar.{IsOperator, times, over, modulo, plus, minus, less, greater, less_equal, greater_equal, equal, not_equal, and_word, and_sign, xor_word, or_word, levels, IsLink, a_link, IsChain, a_chain, IsLevel, plain, with_type, time, yes, no, begins_number, IsOperand, a_literal, a_variable, an_element, a_call, in_parentheses, a_negative, a_minus, a_not, IsNested, IsExpression}
use Rattle.fb_read.specs.Reading.{too_deep, stuck, Answer, Read, ◌>>=◌, is, next_is, expect, list_at}
use Rattle.fb_read.proofs.Readers.{Gets, Complete, Shorter, gets_then, gets_wider}
use Rattle.fb_read.proofs.Repetitions.{many_shrinks, separated_shorter, stops_at, while_complete, separated_complete}
use Rattle.st_parse.specs.declared.operator.Role.{Role}
use Rattle.st_parse.specs.declared.operator.Role.TheVariants.{Infix, Opener, Other}
use Rattle.st_parse.specs.ConstantReading.{number_at, literal_at}
use Rattle.st_parse.specs.ExpressionReading.{role, goes_on, continues, of_level, operator_at, begins_link, link_step, link_at, links_at, chain_at, level_at, opened_at, literally, negative_at, inverse_at, parentheses_at, element_at, call_at, named_at, operand_of, nested_at, expression_at}

-- ---- what an expression may stand before

abbrev below_role : ℕ → Role → Bool
below_role level (Infix l p) = nat_le (suc l) level
below_role level Opener = true
below_role level Other = false

-- whether the first token goes on with an expression whose operators are below this level
abbrev goes_below : ℕ → List Token → Bool
goes_below level [] = false
goes_below level (token (mark k) s e ∷ ts) = below_role level (role k)
goes_below level (token other s e ∷ ts) = false

role_less : (level : ℕ) (r : Role) → below_role (suc level) r ≡ false → below_role level r ≡ false
role_less level (Infix l p) h = let a = leb-false (suc l) (suc level) h in lt-leb (suc l) level (omega arith)
role_less level Opener h = h
role_less level Other h = h

below_less : (level : ℕ) (ts : List Token) → goes_below (suc level) ts ≡ false → goes_below level ts ≡ false
below_less level [] h = refl
below_less level (token (name x) s e ∷ ts) h = refl
below_less level (token (number n) s e ∷ ts) h = refl
below_less level (token (typed t b n) s e ∷ ts) h = refl
below_less level (token (duration b n) s e ∷ ts) h = refl
below_less level (token (mark k) s e ∷ ts) h = role_less level (role k) h

role_below : (level : ℕ) (r : Role) → goes_on r ≡ false → below_role level r ≡ false
role_below level (Infix l p) h = absurd cc
role_below level Opener h = absurd cc
role_below level Other h = refl

continues_below : (level : ℕ) (ts : List Token) → continues ts ≡ false → goes_below level ts ≡ false
continues_below level [] h = refl
continues_below level (token (name x) s e ∷ ts) h = refl
continues_below level (token (number n) s e ∷ ts) h = refl
continues_below level (token (typed t b n) s e ∷ ts) h = refl
continues_below level (token (duration b n) s e ∷ ts) h = refl
continues_below level (token (mark k) s e ∷ ts) h = role_below level (role k) h

not_true : (b : Bool) → (b ≡ true → ⊥) → b ≡ false
not_true true h = absurd (h refl)
not_true false h = refl

none_of_level : (level s : ℕ) (r : Role) → below_role (suc level) r ≡ false → of_level level s r ≡ None
none_of_level level s (Infix l p) h =
    let e : (l == level) ≡ false = not_true (l == level) (λ t. let a = eqb-true l level t in let b = leb-false (suc l) (suc level) h in omega arith) in
    ap (λ b. cond b (Some (p, s)) None) e
none_of_level level s Opener h = refl
none_of_level level s Other h = refl

none_at : (level : ℕ) (ts : List Token) → goes_below (suc level) ts ≡ false → operator_at level ts ≡ None
none_at level [] h = refl
none_at level (token (name x) s e ∷ ts) h = refl
none_at level (token (number n) s e ∷ ts) h = refl
none_at level (token (typed t b n) s e ∷ ts) h = refl
none_at level (token (duration b n) s e ∷ ts) h = refl
none_at level (token (mark k) s e ∷ ts) h = none_of_level level s (role k) h

role_of : {level : ℕ} {k : Mark} {o : Operator} → IsOperator level k o → role k ≡ Infix level o
role_of times = refl
role_of over = refl
role_of modulo = refl
role_of plus = refl
role_of minus = refl
role_of less = refl
role_of greater = refl
role_of less_equal = refl
role_of greater_equal = refl
role_of equal = refl
role_of not_equal = refl
role_of and_word = refl
role_of and_sign = refl
role_of xor_word = refl
role_of or_word = refl

operator_found : (level : ℕ) (k : Mark) (o : Operator) (s e : ℕ) (ts : List Token) → IsOperator level k o → operator_at level (token (mark k) s e ∷ ts) ≡ Some (o, s)
operator_found level k o s e ts h = ap (of_level level s) (role_of h) ∙ ap (λ b. cond b (Some (o, s)) None) (eq-eqb level level refl)

-- an operator of a level does not go on with what is below it
found_stands : (level s : ℕ) (r : Role) → is_some (of_level level s r) ≡ true → below_role level r ≡ false
found_stands level s Opener h = absurd cc
found_stands level s Other h = refl
found_stands level s (Infix l p) h = by (l == level) refl h where
  by : (b : Bool) → (l == level) ≡ b → is_some {T = Operator × ℕ} (cond b (Some (p, s)) None) ≡ true → nat_le (suc l) level ≡ false
  by true d f = let a = eqb-true l level d in lt-leb (suc l) level (omega arith)
  by false d f = absurd cc

link_stands : (level : ℕ) (ts : List Token) → begins_link level ts ≡ true → goes_below level ts ≡ false
link_stands level [] h = refl
link_stands level (token (name x) s e ∷ ts) h = refl
link_stands level (token (number n) s e ∷ ts) h = refl
link_stands level (token (typed t b n) s e ∷ ts) h = refl
link_stands level (token (duration b n) s e ∷ ts) h = refl
link_stands level (token (mark k) s e ∷ ts) h = found_stands level s (role k) h

no_brackets : (k : Mark) → below_role 0 (role k) ≡ false → (is k m.LBracket ≡ false) × (is k m.LParen ≡ false)
no_brackets m.LBracket h = absurd cc
no_brackets m.LParen h = absurd cc
no_brackets k h = (refl, refl)

not_open : (ts : List Token) → goes_below 0 ts ≡ false → (next_is m.LBracket ts ≡ false) × (next_is m.LParen ts ≡ false)
not_open [] h = (refl, refl)
not_open (token (name x) s e ∷ ts) h = (refl, refl)
not_open (token (number n) s e ∷ ts) h = (refl, refl)
not_open (token (typed t b n) s e ∷ ts) h = (refl, refl)
not_open (token (duration b n) s e ∷ ts) h = (refl, refl)
not_open (token (mark k) s e ∷ ts) h = no_brackets k h

-- ---- how long the rest is

module _ (level : ℕ) (G : Gram Expression) (short : Shorter G) where
  pub link_shorter : Shorter (IsLink level G)
  link_shorter ts x rest (a_link {ts = ts'} {x = y} o h) = let a = short ts' y rest h in omega arith

  chain_shorter : Shorter (IsChain level G)
  chain_shorter ts x rest (a_chain {mid = mid} {x = y} h t) = let a = short ts y mid h in let b = many_shrinks (IsLink level G) link_shorter t in omega arith

pub level_shorter : (G : Gram Expression) → Shorter G → (level : ℕ) → Shorter (IsLevel G level)
level_shorter G short zero ts x rest c = short ts x rest c
level_shorter G short (suc level) ts x rest c = chain_shorter level (IsLevel G level) (level_shorter G short level) ts x rest c

module _ (G : Gram Expression) (short : Shorter G) where
  operand_shorter : Shorter (IsOperand G)
  operand_shorter ts x rest (a_literal p) = omega arith
  operand_shorter ts x rest (a_variable a_name) = omega arith
  operand_shorter ts x rest (an_element {s' = s'} {e' = e'} {mid = mid} {i = i} a_name h) = let a = level_shorter G short levels mid i (token (mark m.RBracket) s' e' ∷ rest) h in omega arith
  operand_shorter ts x rest (a_call a_name h) = let a = separated_shorter (IsLevel G levels) (level_shorter G short levels) h in omega arith
  operand_shorter ts x rest (in_parentheses {s' = s'} {e' = e'} {ts = ts'} h) = let a = level_shorter G short levels ts' x (token (mark m.RParen) s' e' ∷ rest) h in omega arith
  operand_shorter ts x rest (a_negative h) = omega arith
  operand_shorter ts x rest (a_minus {ts = ts'} {x = y} d h) = let a = short ts' y rest h in omega arith
  operand_shorter ts x rest (a_not {ts = ts'} {x = y} h) = let a = short ts' y rest h in omega arith

pub nested_shorter : (depth : ℕ) → Shorter (IsNested depth)
nested_shorter zero ts x rest h = absurd h
nested_shorter (suc depth) ts x rest h = operand_shorter (IsNested depth) (nested_shorter depth) ts x rest h

-- Something is taken by each expression.
pub expression_shorter : (depth : ℕ) → Shorter (IsExpression depth)
expression_shorter depth = level_shorter (IsNested (suc depth)) (nested_shorter (suc depth)) levels

-- ---- chains

module _ (Deep : Type 0) (level : ℕ) (G : Gram Expression) (item : Read Expression) (whole : Complete Deep (goes_below level) G item) (short : Shorter G) where
  link_complete : Complete Deep (goes_below level) (IsLink level G) (link_at level item)
  unfolding link_at
  link_complete ts x rest (a_link {k = k} {s = s} {e = e} {ts = ts'} {o = q} {x = y} p h) st =
      let turn : Gets Deep (link_step item (Some (q, s)) ts) ((q, s, y), rest) = gets_then _ _ (item ts') (y, rest) (whole ts' y rest h st) (inl refl) in
      subst (λ z. Gets Deep (link_step item z ts) ((q, s, y), rest)) (sym (operator_found level k q s e ts' p)) turn

  link_begins : (ts : List Token) (x : Link) (rest : List Token) → IsLink level G ts x rest → begins_link level ts ≡ true
  link_begins ts x rest (a_link {k = k} {s = s} {e = e} {ts = ts'} {o = q} p h) = ap is_some (operator_found level k q s e ts' p)

  chain_complete : Complete Deep (goes_below (suc level)) (IsChain level G) (chain_at level item)
  unfolding chain_at
  chain_complete ts v rest (a_chain {mid = mid} {x = x} {links = links} h t) st =
      gets_then _ _ (item ts) (x, mid) (whole ts x mid h (stops_at (begins_link level) (goes_below level) link_begins (link_stands level) t (below_less level rest st)))
      (gets_then _ _ (links_at level item mid) (links, rest)
      (while_complete Deep (IsLink level G) (link_at level item) (link_shorter level G short) (begins_link level) (goes_below level) link_complete link_begins (link_stands level) (length mid) mid rest links (omega arith) t (ap is_some (none_at level rest st)) (below_less level rest st)) (inl refl))

level_complete : (Deep : Type 0) (G : Gram Expression) (item : Read Expression) → Complete Deep (goes_below 0) G item → Shorter G → (level : ℕ) → Complete Deep (goes_below level) (IsLevel G level) (level_at item level)
unfolding level_at
level_complete Deep G item whole short zero ts x rest h st = whole ts x rest h st
level_complete Deep G item whole short (suc level) ts x rest h st =
    chain_complete Deep level (IsLevel G level) (level_at item level) (level_complete Deep G item whole short level) (level_shorter G short level) ts x rest h st

-- ---- operands

-- an expression begins with an operand
level_first : (G : Gram Expression) (level : ℕ) (ts : List Token) (x : Expression) (rest : List Token) → IsLevel G level ts x rest → (y : Expression) × (mid : List Token) × G ts y mid
level_first G zero ts x rest h = (x, rest, h)
level_first G (suc level) ts x rest (a_chain {mid = mid} {x = y} h t) = level_first G level ts y mid h

separated_first : {A : Type 0} {k : Mark} {G : Gram A} {ts rest : List Token} {xs : List A} → IsSeparated k G ts xs rest → (y : A) × (mid : List Token) × G ts y mid
separated_first {rest = rest} (last {x = x} h) = (x, rest, h)
separated_first {k = k} (before {mid = mid} {s = s} {e = e} {x = x} h t) = (x, token (mark k) s e ∷ mid, h)

-- What stands behind a mark is read, where one more nesting may be opened.
opened_gets : {B : Type 0} {Deep : Type 0} (f : List Token → Answer B) (w : B × List Token) (k : Mark) (depth s e : ℕ) (ts : List Token) → is k k ≡ true → (depth ≡ 0 → Deep) → (0 < depth → Gets Deep (f ts) w)
    → Gets Deep (opened_at k depth (token (mark k) s e ∷ ts) >>= f) w
opened_gets f w k zero s e ts same deep h = inr (suc (length ts), deep refl, ap (λ b. cond b (Err (too_deep (suc (length ts)))) (stuck (token (mark k) s e ∷ ts)) >>= f) same)
opened_gets {Deep = Deep} f w k (suc depth) s e ts same deep h = subst (λ b. Gets Deep (cond b (Ok ts) (stuck (token (mark k) s e ∷ ts)) >>= f) w) (sym same) (h (omega arith))

-- where the operands inside are read, and where the nesting is at its end, an operand inside tells so
module _ (Deep : Type 0) (G : Gram Expression) (inner : Read Expression) (depth : ℕ) (whole : 0 < depth → Complete Deep (goes_below 0) G inner)
    (deep : depth ≡ 0 → (ts : List Token) (x : Expression) (rest : List Token) → G ts x rest → Deep) (short : Shorter G) where
  item_deep : (ts : List Token) (x : Expression) (rest : List Token) → IsLevel G levels ts x rest → depth ≡ 0 → Deep
  item_deep ts x rest h z = let f = level_first G levels ts x rest h in deep z ts f.0 f.1 f.2

  item_complete : 0 < depth → Complete Deep (goes_below levels) (IsLevel G levels) (level_at inner levels)
  item_complete lt = level_complete Deep G inner (whole lt) short levels

  closed_complete : (k : Mark) (s e : ℕ) (ts rest : List Token) (x : Expression) → below_role levels (role k) ≡ false → is k k ≡ true → 0 < depth → IsLevel G levels ts x (token (mark k) s e ∷ rest)
      → (f : Expression → List Token → Expression) → Gets {A = Expression × List Token} Deep (level_at inner levels ts >>= λ y. expect k y.1 >>= λ end. Ok (f y.0 ts, end)) (f x ts, rest)
  closed_complete k s e ts rest x st same lt h f =
      gets_then _ _ (level_at inner levels ts) (x, token (mark k) s e ∷ rest) (item_complete lt ts x (token (mark k) s e ∷ rest) h st)
      (inl (ap (λ b. cond b (Ok rest) (stuck (token (mark k) s e ∷ rest)) >>= λ end. Ok (f x ts, end)) same))

  element_complete : (s e s' e' : ℕ) (mid rest : List Token) (x : Word) (i : Expression) → IsLevel G levels mid i (token (mark m.RBracket) s' e' ∷ rest) → Gets Deep (element_at depth (level_at inner levels) x (token (mark m.LBracket) s e ∷ mid)) (element x s i, rest)
  unfolding element_at
  element_complete s e s' e' mid rest x i h =
      opened_gets _ (element x s i, rest) m.LBracket depth s e mid refl (item_deep mid i (token (mark m.RBracket) s' e' ∷ rest) h)
      (λ lt. closed_complete m.RBracket s' e' mid rest i refl refl lt h (λ y ts. element x s y))

  call_complete : (s e s' e' : ℕ) (mid rest : List Token) (x : Word) (xs : List Expression) → IsSeparated m.Comma (IsLevel G levels) mid xs (token (mark m.RParen) s' e' ∷ rest) → Gets Deep (call_at depth (level_at inner levels) x (token (mark m.LParen) s e ∷ mid)) (call x (expressions xs), rest)
  unfolding call_at
  call_complete s e s' e' mid rest x xs h =
      opened_gets _ (call x (expressions xs), rest) m.LParen depth s e mid refl (λ z. let f = separated_first h in item_deep mid f.0 f.1 f.2 z)
      (λ lt. gets_then _ _ (list_at m.Comma (level_at inner levels) mid) (xs, token (mark m.RParen) s' e' ∷ rest)
      (separated_complete Deep m.Comma (IsLevel G levels) (level_at inner levels) (level_shorter G short levels) (goes_below levels) (item_complete lt) refl (λ s e ts. refl) (length mid) mid (token (mark m.RParen) s' e' ∷ rest) xs (omega arith) h refl refl) (inl refl))

  parentheses_complete : (s e s' e' : ℕ) (ts rest : List Token) (x : Expression) → IsLevel G levels ts x (token (mark m.RParen) s' e' ∷ rest) → Gets Deep (parentheses_at depth (level_at inner levels) (token (mark m.LParen) s e ∷ ts)) (x, rest)
  unfolding parentheses_at
  parentheses_complete s e s' e' ts rest x h =
      opened_gets _ (x, rest) m.LParen depth s e ts refl (item_deep ts x (token (mark m.RParen) s' e' ∷ rest) h) (λ lt. closed_complete m.RParen s' e' ts rest x refl refl lt h (λ y ts. y))

  signed_complete : (n s e s' e' : ℕ) (ts : List Token) (x : Expression) → G (token (number n) s' e' ∷ ts) x ts → Gets Deep (negative_at depth inner (token (mark m.Minus) s e ∷ token (number n) s' e' ∷ ts)) (literal (record { value = Whole true n; at = s' }), ts)
  unfolding negative_at
  signed_complete n s e s' e' ts x h =
      opened_gets _ (literal (record { value = Whole true n; at = s' }), ts) m.Minus depth s e (token (number n) s' e' ∷ ts) refl (λ z. deep z (token (number n) s' e' ∷ ts) x ts h) (λ lt. inl refl)

  minus_complete : (s e : ℕ) (ts rest : List Token) (x : Expression) → begins_number ts ≡ false → G ts x rest → goes_below 0 rest ≡ false → Gets Deep (negative_at depth inner (token (mark m.Minus) s e ∷ ts)) (negative s x, rest)
  unfolding negative_at
  minus_complete s e ts rest x d h st =
      opened_gets _ (negative s x, rest) m.Minus depth s e ts refl (λ z. deep z ts x rest h)
      (λ lt. let turn : Gets {A = Expression × List Token} Deep (inner ts >>= λ y. Ok (negative s y.0, y.1)) (negative s x, rest) = gets_then _ _ (inner ts) (x, rest) (whole lt ts x rest h st) (inl refl) in
      subst (λ b. Gets {A = Expression × List Token} Deep (cond b (literally (number_at true) ts) (inner ts >>= λ y. Ok (negative s y.0, y.1))) (negative s x, rest)) (sym d) turn)

  not_complete : (s e : ℕ) (ts rest : List Token) (x : Expression) → G ts x rest → goes_below 0 rest ≡ false → Gets Deep (inverse_at depth inner (token (mark m.Not) s e ∷ ts)) (inverse s x, rest)
  unfolding inverse_at
  not_complete s e ts rest x h st =
      opened_gets _ (inverse s x, rest) m.Not depth s e ts refl (λ z. deep z ts x rest h) (λ lt. gets_then _ _ (inner ts) (x, rest) (whole lt ts x rest h st) (inl refl))

  operand_complete : Complete Deep (goes_below 0) (IsOperand G) (operand_of depth inner)
  unfolding operand_of named_at literal_at
  operand_complete ts x rest (a_literal plain) st = inl refl
  operand_complete ts x rest (a_literal with_type) st = inl refl
  operand_complete ts x rest (a_literal time) st = inl refl
  operand_complete ts x rest (a_literal yes) st = inl refl
  operand_complete ts x rest (a_literal no) st = inl refl
  operand_complete ts v rest (a_variable {x = x} a_name) st =
      let none = not_open rest st in
      inl (ap (λ b. cond b (element_at depth (level_at inner levels) x rest) (cond (next_is m.LParen rest) (call_at depth (level_at inner levels) x rest) (Ok (variable x, rest)))) none.0
      ∙ ap (λ b. cond b (call_at depth (level_at inner levels) x rest) (Ok (variable x, rest))) none.1)
  operand_complete ts v rest (an_element {s = s} {e = e} {s' = s'} {e' = e'} {mid = mid} {x = x} {i = i} a_name h) st = element_complete s e s' e' mid rest x i h
  operand_complete ts v rest (a_call {s = s} {e = e} {s' = s'} {e' = e'} {mid = mid} {x = x} {xs = xs} a_name h) st = call_complete s e s' e' mid rest x xs h
  operand_complete ts x rest (in_parentheses {s = s} {e = e} {s' = s'} {e' = e'} {ts = ts'} h) st = parentheses_complete s e s' e' ts' rest x h
  operand_complete ts v rest (a_negative {n = n} {s = s} {e = e} {s' = s'} {e' = e'} h) st = signed_complete n s e s' e' rest _ h
  operand_complete ts v rest (a_minus {s = s} {e = e} {ts = ts'} {x = x} d h) st = minus_complete s e ts' rest x d h st
  operand_complete ts v rest (a_not {s = s} {e = e} {ts = ts'} {x = x} h) st = not_complete s e ts' rest x h st

-- an operand that nests n deep is read within the depth, or the depth is smaller
nested_complete : (n depth : ℕ) → Complete (depth < n) (goes_below 0) (IsNested (suc n)) (nested_at (suc depth))
unfolding nested_at
nested_complete zero depth ts x rest h st =
    operand_complete (depth < 0) (IsNested 0) (nested_at depth) depth (λ lt us y end g st'. absurd g) (λ z us y end g. absurd g) (nested_shorter 0) ts x rest h st
nested_complete (suc n) zero ts x rest h st =
    operand_complete (0 < suc n) (IsNested (suc n)) (nested_at 0) 0 (λ lt. absurd (omega (arith, lt))) (λ z us y end g. omega arith) (nested_shorter (suc n)) ts x rest h st
nested_complete (suc n) (suc depth) ts x rest h st =
    operand_complete (suc depth < suc n) (IsNested (suc n)) (nested_at (suc depth)) (suc depth)
    (λ lt us y end g st'. gets_wider (λ p. omega (arith, p)) (nested_at (suc depth) us) (y, end) (nested_complete n depth us y end g st'))
    (λ z. absurd (omega (arith, z))) (nested_shorter (suc n)) ts x rest h st

-- An expression that nests n deep is read within the depth, or the depth is smaller.
pub expression_complete : (n depth : ℕ) → Complete (depth < n) continues (IsExpression n) (expression_at depth)
unfolding expression_at
expression_complete n depth ts x rest h st =
    level_complete (depth < n) (IsNested (suc n)) (nested_at (suc depth)) (nested_complete n depth) (nested_shorter (suc n)) levels ts x rest h (continues_below levels rest st)
