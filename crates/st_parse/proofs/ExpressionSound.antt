-- What is read is in the grammar.
use Rattle.std.proofs.Common.{◌≡◌, ℕ, zero, suc, ◌<◌, Bool, true, false, cond, List, [], ◌∷◌, length, Some, None, Ok, Err, refl, sym, subst, arith}
use Rattle.std.specs.Prelude.{◌==◌}
use Rattle.std.proofs.lemmas.Bool.{eqb-true}
use Rattle.fb_words.specs.declared.mark.Mark.{Mark}
use Rattle.fb_words.specs.declared.mark.Mark.TheVariants as m
use Rattle.fb_words.specs.declared.operator.Operator.{Operator}
use Rattle.fb_words.specs.declared.operator.Operator.TheVariants as o
use Rattle.fb_model.specs.Tokens.{Token, token, name, number, typed, duration, mark}
use Rattle.fb_model.specs.Productions.{Gram, Word, IsName, IsSeparated}
use Rattle.fb_model.specs.Trees.{Whole}
use Rattle.fb_model.specs.StructuredText.{Expression, literal, element, negative, inverse}
use Rattle.fb_model.specs.StructuredTextGrammar.{IsOperator, times, over, modulo, plus, minus, less, greater, less_equal, greater_equal, equal, not_equal, and_word, and_sign, xor_word, or_word, levels, IsLink, a_link, IsChain, a_chain, IsLevel, plain, with_type, time, yes, no, begins_number, IsOperand, a_literal, a_variable, an_element, a_call, in_parentheses, a_negative, a_minus, a_not, IsNested, IsExpression}
use Rattle.fb_read.specs.Reading.{too_deep, stuck, Answer, Read, ◌>>=◌, next_is, expect, offset_at, name_at, begins_name, list_at}
use Rattle.fb_read.proofs.Readers.{Meets, Sound, meets_if, meets_then, expect_then, name_sound}
use Rattle.fb_read.proofs.Repetitions.{while_sound, separated_sound}
use Rattle.st_parse.specs.declared.operator.Role.{Role}
use Rattle.st_parse.specs.declared.operator.Role.TheVariants.{Infix, Opener, Other}
use Rattle.st_parse.specs.ConstantReading.{number_at, marked_at, literal_at}
use Rattle.st_parse.specs.ExpressionReading.{role, of_level, link_step, link_at, links_at, chain_at, level_at, opened_at, literally, minus_step, negative_at, inverse_at, parentheses_at, element_at, call_at, named_at, operand_of, nested_at, expression_at}

-- ---- operators

infix_as : (k : Mark) (a b : ℕ) (p q : Operator) → Infix a p ≡ Infix b q → IsOperator a k p → IsOperator b k q
infix_as k a b p q e h =
    let same_level : a ≡ b = cc in
    let same_operator : p ≡ q = cc in
    subst (λ n. IsOperator n k q) same_level (subst (λ r. IsOperator a k r) same_operator h)

pub role_is : (k : Mark) (level : ℕ) (q : Operator) → role k ≡ Infix level q → IsOperator level k q
role_is m.Or l q e = infix_as m.Or 6 l o.Or q e or_word
role_is m.Xor l q e = infix_as m.Xor 5 l o.Xor q e xor_word
role_is m.And l q e = infix_as m.And 4 l o.And q e and_word
role_is m.Ampersand l q e = infix_as m.Ampersand 4 l o.And q e and_sign
role_is m.Equal l q e = infix_as m.Equal 3 l o.Equal q e equal
role_is m.NotEqual l q e = infix_as m.NotEqual 3 l o.NotEqual q e not_equal
role_is m.Less l q e = infix_as m.Less 2 l o.Less q e less
role_is m.Greater l q e = infix_as m.Greater 2 l o.Greater q e greater
role_is m.LessEqual l q e = infix_as m.LessEqual 2 l o.LessEqual q e less_equal
role_is m.GreaterEqual l q e = infix_as m.GreaterEqual 2 l o.GreaterEqual q e greater_equal
role_is m.Plus l q e = infix_as m.Plus 1 l o.Plus q e plus
role_is m.Minus l q e = infix_as m.Minus 1 l o.Minus q e minus
role_is m.Star l q e = infix_as m.Star 0 l o.Times q e times
role_is m.Slash l q e = infix_as m.Slash 0 l o.Over q e over
role_is m.Mod l q e = infix_as m.Mod 0 l o.Modulo q e modulo
role_is k l q e = absurd cc

-- ---- chains

module _ (level : ℕ) (G : Gram Expression) (item : Read Expression) (sound : Sound G item) where
  link_by : (k : Mark) (s e : ℕ) (ts : List Token) (r : Role) → role k ≡ r → Meets (IsLink level G (token (mark k) s e ∷ ts)) (link_step item (of_level level s r) (token (mark k) s e ∷ ts))
  link_by k s e ts Opener f = tt
  link_by k s e ts Other f = tt
  link_by k s e ts (Infix l p) f = by (l == level) refl where
    by : (b : Bool) → (l == level) ≡ b → Meets (IsLink level G (token (mark k) s e ∷ ts)) (link_step item (cond b (Some (p, s)) None) (token (mark k) s e ∷ ts))
    by false d = tt
    by true d = let q = subst (λ n. IsOperator n k p) (eqb-true l level d) (role_is k l p f) in meets_then _ _ (item ts) (sound ts) (λ x rest h. a_link q h)

  pub link_sound : Sound (IsLink level G) (link_at level item)
  unfolding link_at
  link_sound [] = tt
  link_sound (token (name x) s e ∷ ts) = tt
  link_sound (token (number n) s e ∷ ts) = tt
  link_sound (token (typed t b n) s e ∷ ts) = tt
  link_sound (token (duration b n) s e ∷ ts) = tt
  link_sound (token (mark k) s e ∷ ts) = link_by k s e ts (role k) refl

  chain_sound : Sound (IsChain level G) (chain_at level item)
  unfolding chain_at
  chain_sound ts = meets_then _ _ (item ts) (sound ts) (λ x mid p. meets_then _ _ (links_at level item mid) (while_sound (IsLink level G) (link_at level item) link_sound _ (length mid) mid) (λ links rest q. a_chain p q))

pub level_sound : (G : Gram Expression) (item : Read Expression) → Sound G item → (level : ℕ) → Sound (IsLevel G level) (level_at item level)
unfolding level_at
level_sound G item h zero = h
level_sound G item h (suc level) = chain_sound level (IsLevel G level) (level_at item level) (level_sound G item h level)

-- ---- operands

-- what stands behind the mark that opens one more nesting
opens_nesting : {B : Type 0} (Q : B → List Token → Type 0) (f : List Token → Answer B) (k : Mark) (depth : ℕ) (ts : List Token)
    → (0 < depth → (s e : ℕ) (rest : List Token) → ts ≡ token (mark k) s e ∷ rest → Meets Q (f rest)) → Meets Q (opened_at k depth ts >>= f)
opens_nesting Q f k zero ts g = by (next_is k ts) where
  by : (b : Bool) → Meets Q (cond b (Err (too_deep (length ts))) (stuck ts) >>= f)
  by true = tt
  by false = tt
opens_nesting Q f k (suc depth) ts g = expect_then (λ l. ts ≡ l) Q f k ts refl (g (omega arith))

-- a number without a type, which may have a sign before it
abbrev pub Accepts : Gram Expression → Type 0
Accepts G = (n s e : ℕ) (ts : List Token) → G (token (number n) s e ∷ ts) (literal (record { value = Whole false n; at = s })) ts

module _ (G : Gram Expression) (inner : Read Expression) (sound : Sound G inner) where
  marked_sound : (k : Mark) (s e : ℕ) (ts : List Token) → Meets (IsOperand G (token (mark k) s e ∷ ts)) (marked_at k s ts >>= λ c. Ok (literal c.0, c.1))
  marked_sound m.True s e ts = a_literal yes
  marked_sound m.False s e ts = a_literal no
  marked_sound other s e ts = tt

  literal_sound : Sound (IsOperand G) (literally literal_at)
  unfolding literal_at
  literal_sound [] = tt
  literal_sound (token (name x) s e ∷ ts) = tt
  literal_sound (token (number n) s e ∷ ts) = a_literal plain
  literal_sound (token (typed t b n) s e ∷ ts) = a_literal with_type
  literal_sound (token (duration b n) s e ∷ ts) = a_literal time
  literal_sound (token (mark k) s e ∷ ts) = marked_sound k s e ts

  signed_sound : Accepts G → (s e : ℕ) (ts : List Token) → Meets (IsOperand G (token (mark m.Minus) s e ∷ ts)) (literally (number_at true) ts)
  signed_sound accepts s e [] = tt
  signed_sound accepts s e (token (name x) s' e' ∷ ts) = tt
  signed_sound accepts s e (token (number n) s' e' ∷ ts) = a_negative (accepts n s' e' ts)
  signed_sound accepts s e (token (typed t b n) s' e' ∷ ts) = tt
  signed_sound accepts s e (token (duration b n) s' e' ∷ ts) = tt
  signed_sound accepts s e (token (mark k) s' e' ∷ ts) = tt

  minus_sound : Accepts G → (s e : ℕ) (ts : List Token) → Meets (IsOperand G (token (mark m.Minus) s e ∷ ts)) (minus_step inner s ts)
  minus_sound accepts s e ts = by (begins_number ts) refl where
    by : (b : Bool) → begins_number ts ≡ b → Meets (IsOperand G (token (mark m.Minus) s e ∷ ts)) (cond b (literally (number_at true) ts) (inner ts >>= λ x. Ok (negative s x.0, x.1)))
    by true d = signed_sound accepts s e ts
    by false d = meets_then _ _ (inner ts) (sound ts) (λ x rest p. a_minus d p)

  negative_sound : (depth : ℕ) → (0 < depth → Accepts G) → Sound (IsOperand G) (negative_at depth inner)
  unfolding negative_at
  negative_sound depth accepts ts =
      opens_nesting (IsOperand G ts) _ m.Minus depth ts
      (λ lt s e rest d. subst (λ l. Meets (IsOperand G l) (minus_step inner (offset_at l) rest)) (sym d) (minus_sound (accepts lt) s e rest))

  inverse_sound : (depth : ℕ) → Sound (IsOperand G) (inverse_at depth inner)
  unfolding inverse_at
  inverse_sound depth ts =
      opens_nesting (IsOperand G ts) _ m.Not depth ts
      (λ lt s e rest d. subst (λ l. Meets (IsOperand G l) (inner rest >>= λ x. Ok (inverse (offset_at l) x.0, x.1))) (sym d) (meets_then _ _ (inner rest) (sound rest) (λ x end p. a_not p)))

  item_sound : Sound (IsLevel G levels) (level_at inner levels)
  item_sound = level_sound G inner sound levels

  parentheses_sound : (depth : ℕ) → Sound (IsOperand G) (parentheses_at depth (level_at inner levels))
  unfolding parentheses_at
  parentheses_sound depth ts =
      opens_nesting (IsOperand G ts) _ m.LParen depth ts
      (λ lt s e rest d. subst (λ l. Meets (IsOperand G l) (level_at inner levels rest >>= λ x. expect m.RParen x.1 >>= λ end. Ok (x.0, end))) (sym d)
      (meets_then _ _ (level_at inner levels rest) (item_sound rest) (λ x mid p. expect_then (λ l. IsLevel G levels rest x l) _ _ m.RParen mid p (λ s' e' end q. in_parentheses q))))

  element_sound : (depth : ℕ) (all : List Token) (x : Word) (ts : List Token) → IsName all x ts → Meets (IsOperand G all) (element_at depth (level_at inner levels) x ts)
  unfolding element_at
  element_sound depth all x ts h =
      opens_nesting (IsOperand G all) _ m.LBracket depth ts
      (λ lt s e rest d. subst (λ l. IsName all x l → Meets (IsOperand G all) (level_at inner levels rest >>= λ i. expect m.RBracket i.1 >>= λ end. Ok (element x (offset_at l) i.0, end))) (sym d)
      (λ h'. meets_then _ _ (level_at inner levels rest) (item_sound rest) (λ i mid p. expect_then (λ l. IsLevel G levels rest i l) _ _ m.RBracket mid p (λ s' e' end q. an_element h' q))) h)

  call_sound : (depth : ℕ) (all : List Token) (x : Word) (ts : List Token) → IsName all x ts → Meets (IsOperand G all) (call_at depth (level_at inner levels) x ts)
  unfolding call_at
  call_sound depth all x ts h =
      opens_nesting (IsOperand G all) _ m.LParen depth ts
      (λ lt s e rest d. let named = subst (λ l. IsName all x l) d h in
      meets_then _ _ (list_at m.Comma (level_at inner levels) rest) (separated_sound (IsLevel G levels) (level_at inner levels) item_sound m.Comma (length rest) rest)
      (λ xs mid p. expect_then (λ l. IsSeparated m.Comma (IsLevel G levels) rest xs l) _ _ m.RParen mid p (λ s' e' end q. a_call named q)))

  named_sound : (depth : ℕ) → Sound (IsOperand G) (named_at depth (level_at inner levels))
  unfolding named_at
  named_sound depth ts =
      meets_then _ _ (name_at ts) (name_sound ts)
      (λ x mid p. meets_if (IsOperand G ts) (next_is m.LBracket mid) _ _ (element_sound depth ts x mid p) (meets_if (IsOperand G ts) (next_is m.LParen mid) _ _ (call_sound depth ts x mid p) (a_variable p)))

  pub operand_sound : (depth : ℕ) → (0 < depth → Accepts G) → Sound (IsOperand G) (operand_of depth inner)
  unfolding operand_of
  operand_sound depth accepts ts =
      let Q = IsOperand G ts in
      meets_if Q (begins_name ts) _ _ (named_sound depth ts)
      (meets_if Q (next_is m.Minus ts) _ _ (negative_sound depth accepts ts) (meets_if Q (next_is m.Not ts) _ _ (inverse_sound depth ts) (meets_if Q (next_is m.LParen ts) _ _ (parentheses_sound depth ts) (literal_sound ts))))

pub accepts_number : (depth : ℕ) → 0 < depth → Accepts (IsNested depth)
accepts_number zero lt = absurd (omega arith)
accepts_number (suc depth) lt = λ n s e ts. a_literal plain

pub nested_sound : (depth : ℕ) → Sound (IsNested depth) (nested_at depth)
unfolding nested_at
nested_sound zero ts = tt
nested_sound (suc depth) ts = operand_sound (IsNested depth) (nested_at depth) (nested_sound depth) depth (accepts_number depth) ts

-- What is read as an expression is one.
pub expression_sound : (depth : ℕ) → Sound (IsExpression depth) (expression_at depth)
unfolding expression_at
expression_sound depth = level_sound (IsNested (suc depth)) (nested_at (suc depth)) (nested_sound (suc depth)) levels
