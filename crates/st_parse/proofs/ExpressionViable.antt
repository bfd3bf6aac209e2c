-- Where the nesting of an expression is at its end, a deeper expression begins with what was read and with the token that opens one more.
use Rattle.std.proofs.Common.{◌≡◌, ℕ, zero, suc, Bool, true, false, cond, List, [], ◌∷◌, length, Some, None, Result, Ok, Err, refl, sym, subst, ◌∙◌, arith}
use Rattle.std.specs.Prelude.{◌==◌}
use Rattle.std.proofs.lemmas.Bool.{eqb-true}
use Rattle.fb_words.specs.declared.mark.Mark.{Mark}
use Rattle.fb_words.specs.declared.mark.Mark.TheVariants as m
use Rattle.fb_model.specs.Tokens.{Token, token, name, number, typed, duration, mark}
use Rattle.fb_model.specs.Productions.{Gram, Word, none, last}
use Rattle.fb_model.specs.Trees.{Constant, Whole}
use Rattle.fb_model.specs.StructuredText.{Expression, literal, element, call, negative, inverse, expressions, grouped}
use Rattle.fb_model.specs.StructuredTextGrammar.{IsOperator, levels, IsLink, a_link, IsChain, a_chain, IsLevel, begins_number, IsOperand, an_element, a_call, in_parentheses, a_negative, a_minus, a_not, IsNested, IsExpression}
use Rattle.fb_read.specs.Reading.{Wrong, too_deep, stuck, Read, ◌>>=◌, next_is, expect, offset_at, name_at, begins_name, list_at}
use Rattle.fb_read.proofs.Readers.{Sound, Shorter, Shallow, shallow_then, shallow_name}
use Rattle.fb_read.proofs.Steady.{Steady, number_sees, steady_name}
use Rattle.fb_read.proofs.Viable.{Span, Any, GoesOn, Viable, Marked, Behind, goes_with, goes_as, goes_if, goes_shallow, goes_done, begun_at, goes_next, viable_expect, viable_then, is_read, is_name, shallow_closing, while_viable, separated_viable}
use Rattle.st_parse.specs.declared.operator.Role.{Role}
use Rattle.st_parse.specs.declared.operator.Role.TheVariants.{Infix, Opener, Other}
use Rattle.st_parse.specs.ConstantReading.{number_at, literal_at}
use Rattle.st_parse.proofs.Literals.{number_shallow, literal_shallow}
use Rattle.st_parse.specs.ExpressionReading.{role, of_level, begins_link, link_step, link_at, links_at, chain_at, level_at, opened_at, literally, minus_step, negative_at, inverse_at, parentheses_at, element_at, call_at, named_step, named_at, operand_of, nested_at, expression_at}
use Rattle.st_parse.proofs.ExpressionSound.{role_is, Accepts, accepts_number, link_sound, level_sound, operand_sound}
use Rattle.st_parse.proofs.ExpressionComplete.{level_shorter, nested_shorter}
use Rattle.st_parse.proofs.ExpressionSteady.{link_steady, level_steady, nested_steady}

-- ---- nesting

-- a mark that opens one nesting too many, with which some tokens go on, or what stands behind it
viable_opened : {A : Type 0} (P : Span) (k : Mark) (depth : ℕ) (f : List Token → Result A Wrong) → ((rest : List Token) → (q : List Token) × Marked k P q rest) → Viable (Marked k P) f → Viable P (λ ts. opened_at k depth ts >>= f)
viable_opened P k zero f finish h ts = by (next_is k ts) refl where
  by : (b : Bool) → next_is k ts ≡ b → GoesOn P ts (cond b (Err (too_deep (length ts))) (stuck ts) >>= f)
  by true e = begun_at P k ts e finish
  by false e = tt
viable_opened P k (suc depth) f finish h ts = viable_expect P k f h ts

-- ---- chains

module _ (level : ℕ) (G : Gram Expression) (item : Read Expression) (sound : Sound G item) (short : Shorter G) (steady : Steady item) (viable : Viable (Any G) item) where
  link_by : (k : Mark) (s e : ℕ) (ts : List Token) (r : Role) → role k ≡ r → GoesOn (Any (IsLink level G)) (token (mark k) s e ∷ ts) (link_step item (of_level level s r) (token (mark k) s e ∷ ts))
  link_by k s e ts Opener f = tt
  link_by k s e ts Other f = tt
  link_by k s e ts (Infix l p) f = by (l == level) refl where
    by : (b : Bool) → (l == level) ≡ b → GoesOn (Any (IsLink level G)) (token (mark k) s e ∷ ts) (link_step item (cond b (Some (p, s)) None) (token (mark k) s e ∷ ts))
    by false d = tt
    by true d =
        let q = subst (λ n. IsOperator n k p) (eqb-true l level d) (role_is k l p f) in
        goes_next (Any (IsLink level G)) (token (mark k) s e) ts (item ts >>= λ x. Ok ((p, s, x.0), x.1))
        (goes_done _ ts (λ x. Ok ((p, s, x.0), x.1)) (item ts) (λ x. tt) (goes_as ts (item ts) (λ rest. (rest, λ us h. ((p, s, h.0), a_link q h.1))) (viable ts)))

  link_viable : Viable (Any (IsLink level G)) (link_at level item)
  unfolding link_at
  link_viable [] = tt
  link_viable (token (name x) s e ∷ ts) = tt
  link_viable (token (number n) s e ∷ ts) = tt
  link_viable (token (typed t b n) s e ∷ ts) = tt
  link_viable (token (duration b n) s e ∷ ts) = tt
  link_viable (token (mark k) s e ∷ ts) = link_by k s e ts (role k) refl

  chain_viable : Viable (Any (IsChain level G)) (chain_at level item)
  unfolding chain_at
  chain_viable =
      viable_then (Any (IsChain level G)) item (λ x. links_at level item x.1 >>= λ links. Ok (grouped x.0 links.0, links.1)) steady
      (λ ts. goes_as ts (item ts) (λ rest. (rest, λ us h. (h.0, a_chain h.1 none))) (viable ts))
      (λ x mid. goes_done (Behind item x (Any (IsChain level G))) mid (λ links. Ok (grouped x links.0, links.1)) (links_at level item mid) (λ links. tt)
      (goes_as mid (links_at level item mid) (λ rest. (rest, λ us h all e. (grouped x h.0, a_chain (is_read G item sound all x us e) h.1)))
      (while_viable (IsLink level G) (link_at level item) (link_sound level G item sound) (link_steady level G item sound short steady) link_viable (begins_link level) (length mid) mid)))

level_viable : (G : Gram Expression) (item : Read Expression) → Sound G item → Shorter G → Steady item → Viable (Any G) item → (level : ℕ) → Viable (Any (IsLevel G level)) (level_at item level)
unfolding level_at
level_viable G item sound short steady viable zero = viable
level_viable G item sound short steady viable (suc level) =
    chain_viable level (IsLevel G level) (level_at item level) (level_sound G item sound level) (level_shorter G short level) (level_steady G item sound short steady level) (level_viable G item sound short steady viable level)

-- ---- operands

shallow_literally : (read : Read Constant) → Shallow read → Shallow (literally read)
shallow_literally read h ts = shallow_then _ (read ts) (h ts) (λ c. tt)

-- a number, and its tree
abbrev pub nought : Token
nought = token (number 0) 0 0

abbrev pub zero_tree : Expression
zero_tree = literal (record { value = Whole false 0; at = 0 })

-- a closing mark
abbrev pub closing : Mark → Token
closing k = token (mark k) 0 0

-- a number is an expression
level_alone : (G : Gram Expression) → Accepts G → (level : ℕ) (ts : List Token) → IsLevel G level (nought ∷ ts) zero_tree ts
level_alone G accepts zero ts = accepts 0 0 0 ts
level_alone G accepts (suc level) ts = a_chain (level_alone G accepts level ts) none

module _ (G : Gram Expression) (inner : Read Expression) (sound : Sound G inner) (short : Shorter G) (steady : Steady inner) (accepts : Accepts G) (viable : Viable (Any G) inner) where
  abbrev item : Read Expression
  item = level_at inner levels

  abbrev One : Span
  One = Any (IsOperand G)

  item_viable : Viable (Any (IsLevel G levels)) item
  item_viable = level_viable G inner sound short steady viable levels

  minus_viable : (at : ℕ) → Viable (Marked m.Minus One) (minus_step inner at)
  minus_viable at ts = by (begins_number ts) refl where
    by : (b : Bool) → begins_number ts ≡ b → GoesOn (Marked m.Minus One) ts (cond b (literally (number_at true) ts) (inner ts >>= λ x. Ok (negative at x.0, x.1)))
    by true d = goes_shallow (Marked m.Minus One) ts (literally (number_at true) ts) (shallow_literally (number_at true) (number_shallow true) ts)
    by false d =
        goes_done (Marked m.Minus One) ts (λ x. Ok (negative at x.0, x.1)) (inner ts) (λ x. tt)
        (goes_with ts (inner ts) (λ rest. (rest, λ us a h s e. (negative s h.0, a_minus (sym (number_sees a.0 a.1 a.2 ts us a.3) ∙ d) h.1))) (viable ts))

  negative_viable : (depth : ℕ) → Viable One (negative_at depth inner)
  unfolding negative_at
  negative_viable depth ts =
      viable_opened One m.Minus depth (minus_step inner (offset_at ts)) (λ rest. (nought ∷ rest, λ s e. (literal (record { value = Whole true 0; at = 0 }), a_negative (accepts 0 0 0 rest))))
      (minus_viable (offset_at ts)) ts

  inverse_viable : (depth : ℕ) → Viable One (inverse_at depth inner)
  unfolding inverse_at
  inverse_viable depth ts =
      viable_opened One m.Not depth (λ rest. inner rest >>= λ x. Ok (inverse (offset_at ts) x.0, x.1)) (λ rest. (nought ∷ rest, λ s e. (inverse s zero_tree, a_not (accepts 0 0 0 rest))))
      (λ mid. goes_done (Marked m.Not One) mid (λ x. Ok (inverse (offset_at ts) x.0, x.1)) (inner mid) (λ x. tt)
      (goes_as mid (inner mid) (λ rest. (rest, λ us h s e. (inverse s h.0, a_not h.1))) (viable mid))) ts

  parentheses_viable : (depth : ℕ) → Viable One (parentheses_at depth item)
  unfolding parentheses_at
  parentheses_viable depth =
      viable_opened One m.LParen depth (λ rest. item rest >>= λ x. expect m.RParen x.1 >>= λ end. Ok (x.0, end))
      (λ rest. (nought ∷ closing m.RParen ∷ rest, λ s e. (zero_tree, in_parentheses (level_alone G accepts levels (closing m.RParen ∷ rest)))))
      (λ mid. goes_done (Marked m.LParen One) mid (λ x. expect m.RParen x.1 >>= λ end. Ok (x.0, end)) (item mid) (λ x. shallow_closing m.RParen x.1 (λ end. (x.0, end)))
      (goes_as mid (item mid) (λ rest. (closing m.RParen ∷ rest, λ us h s e. (h.0, in_parentheses h.1))) (item_viable mid)))

  element_viable : (depth : ℕ) (x : Word) → Viable (Behind name_at x One) (element_at depth item x)
  unfolding element_at
  element_viable depth x ts =
      viable_opened (Behind name_at x One) m.LBracket depth (λ rest. item rest >>= λ i. expect m.RBracket i.1 >>= λ end. Ok (element x (offset_at ts) i.0, end))
      (λ rest. (nought ∷ closing m.RBracket ∷ rest, λ s e all d. (element x s zero_tree, an_element (is_name all x _ d) (level_alone G accepts levels (closing m.RBracket ∷ rest)))))
      (λ mid. goes_done (Marked m.LBracket (Behind name_at x One)) mid (λ i. expect m.RBracket i.1 >>= λ end. Ok (element x (offset_at ts) i.0, end)) (item mid) (λ i. shallow_closing m.RBracket i.1 (λ end. (element x (offset_at ts) i.0, end)))
      (goes_as mid (item mid) (λ rest. (closing m.RBracket ∷ rest, λ us h s e all d. (element x s h.0, an_element (is_name all x _ d) h.1))) (item_viable mid))) ts

  call_viable : (depth : ℕ) (x : Word) → Viable (Behind name_at x One) (call_at depth item x)
  unfolding call_at
  call_viable depth x =
      viable_opened (Behind name_at x One) m.LParen depth (λ rest. list_at m.Comma item rest >>= λ xs. expect m.RParen xs.1 >>= λ end. Ok (call x (expressions xs.0), end))
      (λ rest. (nought ∷ closing m.RParen ∷ rest, λ s e all d. (call x (expressions (zero_tree ∷ [])), a_call (is_name all x _ d) (last (level_alone G accepts levels (closing m.RParen ∷ rest))))))
      (λ mid. goes_done (Marked m.LParen (Behind name_at x One)) mid (λ xs. expect m.RParen xs.1 >>= λ end. Ok (call x (expressions xs.0), end)) (list_at m.Comma item mid) (λ xs. shallow_closing m.RParen xs.1 (λ end. (call x (expressions xs.0), end)))
      (goes_as mid (list_at m.Comma item mid) (λ rest. (closing m.RParen ∷ rest, λ us h s e all d. (call x (expressions h.0), a_call (is_name all x _ d) h.1)))
      (separated_viable (IsLevel G levels) item (level_sound G inner sound levels) (level_steady G inner sound short steady levels) item_viable m.Comma (length mid) mid)))

  named_viable : (depth : ℕ) → Viable One (named_at depth item)
  unfolding named_at
  named_viable depth =
      viable_then One name_at (λ x. named_step depth item x.0 x.1) steady_name (λ ts. goes_shallow One ts (name_at ts) (shallow_name ts))
      (λ x mid. goes_if (Behind name_at x One) mid (next_is m.LBracket mid) _ _ (element_viable depth x mid) (goes_if (Behind name_at x One) mid (next_is m.LParen mid) _ _ (call_viable depth x mid) tt))

  operand_viable : (depth : ℕ) → Viable One (operand_of depth inner)
  unfolding operand_of
  operand_viable depth ts =
      goes_if One ts (begins_name ts) _ _ (named_viable depth ts)
      (goes_if One ts (next_is m.Minus ts) _ _ (negative_viable depth ts)
      (goes_if One ts (next_is m.Not ts) _ _ (inverse_viable depth ts)
      (goes_if One ts (next_is m.LParen ts) _ _ (parentheses_viable depth ts) (goes_shallow One ts (literally literal_at ts) (shallow_literally literal_at literal_shallow ts)))))

-- what is read where so many nestings are allowed is in the grammar where one more is
nested_wide : (depth : ℕ) → Sound (IsNested (suc depth)) (nested_at depth)
unfolding nested_at
nested_wide zero ts = tt
nested_wide (suc depth) ts = operand_sound (IsNested (suc depth)) (nested_at depth) (nested_wide depth) depth (λ lt. accepts_number (suc depth) (omega arith)) ts

nested_viable : (depth : ℕ) → Viable (Any (IsNested (suc depth))) (nested_at depth)
unfolding nested_at
nested_viable zero ts = tt
nested_viable (suc depth) ts =
    operand_viable (IsNested (suc depth)) (nested_at depth) (nested_wide depth) (nested_shorter (suc depth)) (nested_steady depth) (accepts_number (suc depth) (omega arith)) (nested_viable depth) depth ts

-- What is read within a depth is an expression within one more.
pub expression_wide : (depth : ℕ) → Sound (IsExpression (suc depth)) (expression_at depth)
unfolding expression_at
expression_wide depth = level_sound (IsNested (suc (suc depth))) (nested_at (suc depth)) (nested_wide (suc depth)) levels

-- A number is an expression.
pub expression_alone : (depth : ℕ) (ts : List Token) → IsExpression depth (nought ∷ ts) zero_tree ts
expression_alone depth = level_alone (IsNested (suc depth)) (accepts_number (suc depth) (omega arith)) levels

-- Where an expression is too deep, one that nests one deeper begins with the tokens up to there.
pub expression_viable : (depth : ℕ) → Viable (Any (IsExpression (suc depth))) (expression_at depth)
unfolding expression_at
expression_viable depth =
    level_viable (IsNested (suc (suc depth))) (nested_at (suc depth)) (nested_wide (suc depth)) (nested_shorter (suc (suc depth))) (nested_steady (suc depth)) (nested_viable (suc depth)) levels
