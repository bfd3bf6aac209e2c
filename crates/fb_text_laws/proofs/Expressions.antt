-- Wherever reading of an expression stops, the tokens before that place begin an expression that nests no deeper than is read.
use Rattle.std.proofs.Common.{◌≡◌, ℕ, zero, suc, ◌<◌, Bool, true, false, cond, List, [], ◌∷◌, length, Some, None, is_some, Ok, Err, refl, subst, arith}
use Rattle.std.specs.Prelude.{◌==◌}
use Rattle.std.proofs.lemmas.Bool.{eqb-true}
use Rattle.fb_words.specs.declared.mark.Mark.{Mark}
use Rattle.fb_words.specs.declared.mark.Mark.TheVariants as m
use Rattle.fb_words.specs.declared.operator.Operator.{Operator}
use Rattle.fb_model.specs.Tokens.{Token, token, name, number, typed, duration, mark}
use Rattle.fb_model.specs.Productions.{Gram, Word, IsName, IsMany, IsSeparated}
use Rattle.fb_model.specs.Trees.{Whole}
use Rattle.fb_model.specs.StructuredText.{Expression, literal, variable, negative}
use Rattle.fb_model.specs.StructuredTextGrammar.{IsOperator, levels, IsLink, a_link, IsChain, a_chain, IsLevel, begins_number, IsOperand, a_literal, a_variable, an_element, a_call, in_parentheses, a_negative, a_minus, a_not, IsNested, IsExpression}
use Rattle.fb_read.specs.Reading.{too_deep, stuck, Read, ◌>>=◌, next_is, offset_at, name_at, begins_name, list_at}
use Rattle.st_parse.specs.declared.operator.Role.{Role}
use Rattle.st_parse.specs.declared.operator.Role.TheVariants.{Infix, Opener, Other}
use Rattle.st_parse.specs.ConstantReading.{number_at, literal_at}
use Rattle.st_parse.specs.ExpressionReading.{role, of_level, begins_link, link_step, link_at, links_at, chain_at, level_at, opened_at, literally, minus_step, negative_at, inverse_at, parentheses_at, element_at, call_at, named_at, unnamed_at, operand_of, nested_at, expression_at}
use Rattle.st_parse.proofs.ExpressionSound.{role_is, Accepts, accepts_number}
use Rattle.fb_text_laws.proofs.Steps.{Span, Any, Marked, Behind, Fills, GoesOn, Fine, fills_none, stopped, fine_done, fine_as, fine_then, fine_last, fine_if, goes_next, fine_expect}
use Rattle.fb_text_laws.proofs.Items.{all_fine, list_fine}
use Rattle.fb_text_laws.proofs.Words.{Num, num, Lit, lit, number_fine, literal_fine, name_fine}

-- ---- chains

module _ (level : ℕ) (G : Gram Expression) (item : Read Expression) (fine : Fine (Any G) item) where
  link_by : (k : Mark) (s e : ℕ) (ts : List Token) (r : Role) → role k ≡ r → is_some (of_level level s r) ≡ true → GoesOn (Any (IsLink level G)) (token (mark k) s e ∷ ts) (link_step item (of_level level s r) (token (mark k) s e ∷ ts))
  link_by k s e ts Opener f d = absurd cc
  link_by k s e ts Other f d = absurd cc
  link_by k s e ts (Infix l p) f d = by (l == level) refl d where
    by : (b : Bool) → (l == level) ≡ b → is_some {T = Operator × ℕ} (cond b (Some (p, s)) None) ≡ true → GoesOn (Any (IsLink level G)) (token (mark k) s e ∷ ts) (link_step item (cond b (Some (p, s)) None) (token (mark k) s e ∷ ts))
    by false h d = absurd cc
    by true h d =
        let q = subst (λ n. IsOperator n k p) (eqb-true l level h) (role_is k l p f) in
        let P : Span = λ us rest. Any (IsLink level G) (token (mark k) s e ∷ us) rest in
        goes_next (Any (IsLink level G)) (token (mark k) s e) ts (item ts >>= λ x. Ok ((p, s, x.0), x.1))
        ((fine_last P item (λ l x. (p, s, x.0)) (fine_as P item (λ us rest h. ((p, s, h.0), a_link q h.1)) fine)).goes_on ts)

  link_goes : (ts : List Token) → begins_link level ts ≡ true → GoesOn (Any (IsLink level G)) ts (link_at level item ts)
  unfolding link_at
  link_goes [] d = absurd cc
  link_goes (token (name x) s e ∷ ts) d = absurd cc
  link_goes (token (number n) s e ∷ ts) d = absurd cc
  link_goes (token (typed t b n) s e ∷ ts) d = absurd cc
  link_goes (token (duration b n) s e ∷ ts) d = absurd cc
  link_goes (token (mark k) s e ∷ ts) d = link_by k s e ts (role k) refl d

  chain_fine : Fine (Any (IsChain level G)) (chain_at level item)
  unfolding chain_at
  chain_fine =
      fine_then (Any (IsChain level G)) (Any G) item _ fine (λ l x.
      fine_then (Behind (Any G) (Any (IsChain level G))) (Any (IsMany (IsLink level G))) (links_at level item) _ (all_fine (IsLink level G) (begins_link level) (link_at level item) link_goes) (λ l' links.
      fine_done _ _ (λ us mid t all p. (_, a_chain p.1 t.1))))

level_fine : (G : Gram Expression) (item : Read Expression) → Fine (Any G) item → (level : ℕ) → Fine (Any (IsLevel G level)) (level_at item level)
unfolding level_at
level_fine G item fine zero = fine
level_fine G item fine (suc level) = chain_fine level (IsLevel G level) (level_at item level) (level_fine G item fine level)

-- ---- operands

-- a mark that opens one more nesting, and what is done behind it
fine_opened : {A : Type 0} (P : Span) (k : Mark) (depth : ℕ) (v : A) (f : List Token → Read A) → Fills P → (0 < depth → (l : List Token) → Fine (Marked k P) (f l)) → Fine P (λ ts. opened_at k depth ts >>= f ts)
fine_opened P k zero v f fills h = record { sample = v; fills = fills; goes_on = λ ts. by ts (next_is k ts) } where
  by : (ts : List Token) (b : Bool) → GoesOn P ts (cond b (Err (too_deep (length ts))) (stuck ts) >>= f ts)
  by ts true = stopped P fills ts
  by ts false = stopped P fills ts
fine_opened P k (suc depth) v f fills h = fine_expect P k f (h (omega arith))

-- An operand that begins with a number is this number.
abbrev Alone : Gram Expression → Type 0
Alone G = (n s e : ℕ) (ts rest : List Token) (x : Expression) → G (token (number n) s e ∷ ts) x rest → ts ≡ rest

zero_tree : Expression
zero_tree = literal (record { value = Whole false 0; at = 0 })

module _ (G : Gram Expression) (inner : Read Expression) (depth : ℕ) (fine : 0 < depth → Fine (Any G) inner) (accepts : 0 < depth → Accepts G) (alone : Alone G) where
  abbrev One : Span
  One = Any (IsOperand G)

  abbrev Item : Span
  Item = Any (IsLevel G levels)

  -- what stands behind a name
  abbrev Tail : Span
  Tail = Behind (Any IsName) One

  literal_of : (us rest : List Token) → Lit us rest → One us rest
  literal_of us rest (lit p) = (_, a_literal p)

  literally_fine : Fine One (literally literal_at)
  literally_fine = fine_last One literal_at _ (fine_as One literal_at literal_of literal_fine)

  fills_tail : Fills Tail
  fills_tail = fills_none Tail (λ rest all p. (_, a_variable p.1))

  abbrev item : Read Expression
  item = level_at inner levels

  item_fine : 0 < depth → Fine Item item
  item_fine lt = level_fine G inner (fine lt) levels

  -- a `-` and an operand, which is a number with a sign where it begins with one
  minus_of : 0 < depth → (us rest : List Token) → Any G us rest → (s e : ℕ) → One (token (mark m.Minus) s e ∷ us) rest
  minus_of lt [] rest h s e = (_, a_minus refl h.1)
  minus_of lt (token (number n) s' e' ∷ us) rest h s e = subst (λ l. One (token (mark m.Minus) s e ∷ token (number n) s' e' ∷ us) l) (alone n s' e' us rest h.0 h.1) (_, a_negative (accepts lt n s' e' us))
  minus_of lt (token (name x) s' e' ∷ us) rest h s e = (_, a_minus refl h.1)
  minus_of lt (token (typed t b n) s' e' ∷ us) rest h s e = (_, a_minus refl h.1)
  minus_of lt (token (duration b n) s' e' ∷ us) rest h s e = (_, a_minus refl h.1)
  minus_of lt (token (mark k) s' e' ∷ us) rest h s e = (_, a_minus refl h.1)

  number_of : 0 < depth → (us rest : List Token) → Num us rest → Any G us rest
  number_of lt us rest (num {n = n} {s = s} {e = e}) = (_, accepts lt n s e rest)

  minus_fine : 0 < depth → (at : ℕ) → Fine (Marked m.Minus One) (minus_step inner at)
  minus_fine lt at =
      fine_as (Marked m.Minus One) (minus_step inner at) (minus_of lt)
      (fine_if (Any G) begins_number (literally (number_at true)) (λ ts. inner ts >>= λ x. Ok (negative at x.0, x.1))
      (fine_last (Any G) (number_at true) _ (fine_as (Any G) (number_at true) (number_of lt) (number_fine true))) (fine_last (Any G) inner _ (fine lt)))

  negative_fine : Fine One (negative_at depth inner)
  unfolding negative_at
  negative_fine = fine_opened One m.Minus depth zero_tree (λ l. minus_step inner (offset_at l)) literally_fine.fills (λ lt l. minus_fine lt (offset_at l))

  inverse_fine : Fine One (inverse_at depth inner)
  unfolding inverse_at
  inverse_fine = fine_opened One m.Not depth zero_tree _ literally_fine.fills (λ lt l. fine_last (Marked m.Not One) inner _ (fine_as (Marked m.Not One) inner (λ us rest h s e. (_, a_not h.1)) (fine lt)))

  parentheses_fine : Fine One (parentheses_at depth item)
  unfolding parentheses_at
  parentheses_fine =
      fine_opened One m.LParen depth zero_tree _ literally_fine.fills (λ lt l.
      fine_then (Marked m.LParen One) Item item _ (item_fine lt) (λ l' x.
      fine_expect _ m.RParen _ (λ l''. fine_done _ _ (λ us s' e' all p s e. (_, in_parentheses p.1)))))

  element_fine : (x : Word) → Fine Tail (element_at depth item x)
  unfolding element_at
  element_fine x =
      fine_opened Tail m.LBracket depth zero_tree _ fills_tail (λ lt l.
      fine_then (Marked m.LBracket Tail) Item item _ (item_fine lt) (λ l' i.
      fine_expect _ m.RBracket _ (λ l''. fine_done _ _ (λ us s' e' all p s e first q. (_, an_element q.1 p.1)))))

  call_fine : (x : Word) → Fine Tail (call_at depth item x)
  unfolding call_at
  call_fine x =
      fine_opened Tail m.LParen depth zero_tree _ fills_tail (λ lt l.
      fine_then (Marked m.LParen Tail) (Any (IsSeparated m.Comma (IsLevel G levels))) (list_at m.Comma item) _ (list_fine (IsLevel G levels) item (item_fine lt) m.Comma) (λ l' xs.
      fine_expect _ m.RParen _ (λ l''. fine_done _ _ (λ us s' e' all p s e first q. (_, a_call q.1 p.1)))))

  named_fine : Fine One (named_at depth item)
  unfolding named_at
  named_fine =
      fine_then One (Any IsName) name_at _ name_fine (λ l x.
      fine_if Tail (next_is m.LBracket) (element_at depth item x) (λ ts. cond (next_is m.LParen ts) (call_at depth item x ts) (Ok (variable x, ts))) (element_fine x)
      (fine_if Tail (next_is m.LParen) (call_at depth item x) (λ ts. Ok (variable x, ts)) (call_fine x) (fine_done Tail (λ ts. variable x) (λ us all p. (_, a_variable p.1)))))

  unnamed_fine : Fine One (unnamed_at depth inner item)
  unnamed_fine =
      fine_if One (next_is m.Minus) (negative_at depth inner) (λ ts. cond (next_is m.Not ts) (inverse_at depth inner ts) (cond (next_is m.LParen ts) (parentheses_at depth item ts) (literally literal_at ts))) negative_fine
      (fine_if One (next_is m.Not) (inverse_at depth inner) (λ ts. cond (next_is m.LParen ts) (parentheses_at depth item ts) (literally literal_at ts)) inverse_fine
      (fine_if One (next_is m.LParen) (parentheses_at depth item) (literally literal_at) parentheses_fine literally_fine))

  operand_fine : Fine One (operand_of depth inner)
  unfolding operand_of
  operand_fine = fine_if One begins_name (named_at depth item) (unnamed_at depth inner item) named_fine unnamed_fine

stands_alone : (depth : ℕ) → Alone (IsNested depth)
stands_alone zero n s e ts rest x h = absurd h
stands_alone (suc depth) n s e ts rest x (a_literal p) = refl
stands_alone (suc depth) n s e ts rest x (a_variable p) = elim p [ ]
stands_alone (suc depth) n s e ts rest x (an_element p q) = elim p [ ]
stands_alone (suc depth) n s e ts rest x (a_call p q) = elim p [ ]

nested_fine : (depth : ℕ) → Fine (Any (IsNested (suc depth))) (nested_at (suc depth))
unfolding nested_at
nested_fine zero = operand_fine (IsNested zero) (nested_at zero) zero (λ lt. absurd (omega (arith, lt))) (accepts_number zero) (stands_alone zero)
nested_fine (suc depth) = operand_fine (IsNested (suc depth)) (nested_at (suc depth)) (suc depth) (λ lt. nested_fine depth) (accepts_number (suc depth)) (stands_alone (suc depth))

pub expression_fine : (depth : ℕ) → Fine (Any (IsExpression depth)) (expression_at depth)
unfolding expression_at
expression_fine depth = level_fine (IsNested (suc depth)) (nested_at (suc depth)) (nested_fine depth) levels
