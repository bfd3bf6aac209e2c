-- Each production of expressions stops at the same token whatever stands behind it.
use Rattle.std.proofs.Common.{◌≡◌, ℕ, zero, suc, ◌⊎◌, Bool, true, false, cond, List, ◌∷◌, length, Some, None, Ok, Err, refl, ap, ◌∙◌, arith, inl, inr}
use Rattle.std.specs.Prelude.{◌==◌}
use Rattle.fb_words.specs.declared.mark.Mark.{Mark}
use Rattle.fb_words.specs.declared.mark.Mark.TheVariants as m
use Rattle.fb_model.specs.Tokens.{Token, token, name, number, typed, duration, mark}
use Rattle.fb_model.specs.Productions.{Gram, Word}
use Rattle.fb_model.specs.Trees.{Constant}
use Rattle.fb_model.specs.StructuredText.{Expression, literal, variable, element, call, negative, inverse, expressions, grouped}
use Rattle.fb_model.specs.StructuredTextGrammar.{begins_number, levels, IsLink, IsLevel, IsNested}
use Rattle.fb_read.specs.Reading.{too_deep, stuck, Read, ◌>>=◌, next_is, expect, name_at, begins_name, list_at}
use Rattle.fb_read.proofs.Readers.{Sound, Shorter}
use Rattle.fb_read.proofs.Steady.{Steady, Takes, Stops, SeesFirst, sees_first, name_sees, number_sees, steady_then, steady_as, steady_done, steady_stuck, steady_deep, steady_head, steady_name, steady_test, steady_choice, cond_then, steady_expect, steady_place}
use Rattle.fb_read.proofs.SteadyLists.{Shrinks, shrinks_of, steady_all, steady_list}
use Rattle.st_parse.specs.declared.operator.Role.{Role}
use Rattle.st_parse.specs.declared.operator.Role.TheVariants.{Infix, Opener, Other}
use Rattle.st_parse.specs.ConstantReading.{number_at, literal_at}
use Rattle.st_parse.proofs.Literals.{number_steady, literal_steady}
use Rattle.st_parse.specs.ExpressionReading.{role, of_level, begins_link, link_step, link_at, links_at, chain_at, level_at, opened_at, literally, minus_step, negative_at, inverse_at, parentheses_at, element_at, call_at, named_at, unnamed_at, operand_of, nested_at, expression_at}
use Rattle.st_parse.proofs.ExpressionSound.{link_sound, level_sound, nested_sound}
use Rattle.st_parse.proofs.ExpressionComplete.{link_shorter, level_shorter, nested_shorter}

-- ---- tests of the first token

link_sees : (level : ℕ) → SeesFirst (begins_link level)
link_sees level = sees_first (begins_link level) by where
  by : (t : Token) (a b : List Token) → begins_link level (t ∷ a) ≡ begins_link level (t ∷ b)
  by (token (name x) s e) a b = refl
  by (token (number n) s e) a b = refl
  by (token (typed t c n) s e) a b = refl
  by (token (duration c n) s e) a b = refl
  by (token (mark k) s e) a b = refl

-- ---- nesting

steady_opened : {A : Type 0} (k : Mark) (depth : ℕ) (g : Read A) → Steady g → Steady (λ ts. opened_at k depth ts >>= g)
steady_opened k zero g h =
    steady_as (λ ts. cond (next_is k ts) (Err (too_deep (length ts))) (stuck ts)) (λ ts. opened_at k zero ts >>= g)
    (steady_choice k (λ ts. Err (too_deep (length ts))) (λ ts. stuck ts) steady_deep steady_stuck) (λ ts. cond_then (next_is k ts) (Err (too_deep (length ts))) (stuck ts) g)
steady_opened k (suc depth) g h = steady_expect k g h

-- ---- chains

module _ (level : ℕ) (G : Gram Expression) (item : Read Expression) (sound : Sound G item) (short : Shorter G) (steady : Steady item) where
  mark_begins : (k : Mark) (s e : ℕ) → Takes (link_at level item) (token (mark k) s e) ⊎ Stops (link_at level item) (token (mark k) s e)
  unfolding link_at
  mark_begins k s e = by (role k) refl where
    by : (r : Role) → role k ≡ r → Takes (link_at level item) (token (mark k) s e) ⊎ Stops (link_at level item) (token (mark k) s e)
    by Opener f = inr (λ ts. ap (λ r. link_step item (of_level level s r) (token (mark k) s e ∷ ts)) f)
    by Other f = inr (λ ts. ap (λ r. link_step item (of_level level s r) (token (mark k) s e ∷ ts)) f)
    by (Infix l p) f = at_level (l == level) refl where
      at_level : (b : Bool) → (l == level) ≡ b → Takes (link_at level item) (token (mark k) s e) ⊎ Stops (link_at level item) (token (mark k) s e)
      at_level true d =
          inl (
            (λ ts. item ts >>= λ x. Ok ((p, s, x.0), x.1)),
            steady_then item _ steady (λ x. steady_done (p, s, x)),
            λ ts. ap (λ r. link_step item (of_level level s r) (token (mark k) s e ∷ ts)) f ∙ ap (λ b. link_step item (cond b (Some (p, s)) None) (token (mark k) s e ∷ ts)) d,
          )
      at_level false d = inr (λ ts. ap (λ r. link_step item (of_level level s r) (token (mark k) s e ∷ ts)) f ∙ ap (λ b. link_step item (cond b (Some (p, s)) None) (token (mark k) s e ∷ ts)) d)

  link_begins : (u : Token) → Takes (link_at level item) u ⊎ Stops (link_at level item) u
  unfolding link_at
  link_begins (token (name x) s e) = inr (λ ts. refl)
  link_begins (token (number n) s e) = inr (λ ts. refl)
  link_begins (token (typed t b n) s e) = inr (λ ts. refl)
  link_begins (token (duration b n) s e) = inr (λ ts. refl)
  link_begins (token (mark k) s e) = mark_begins k s e

  pub link_steady : Steady (link_at level item)
  unfolding link_at
  link_steady = steady_head (link_at level item) (omega arith) link_begins

  chain_steady : Steady (chain_at level item)
  unfolding chain_at
  chain_steady =
      steady_then item _ steady
      (λ x. steady_then (links_at level item) _
      (steady_all (link_at level item) link_steady (shrinks_of (IsLink level G) (link_at level item) (link_sound level G item sound) (link_shorter level G short)) (begins_link level) (link_sees level))
      (λ links. steady_done (grouped x links)))

pub level_steady : (G : Gram Expression) (item : Read Expression) → Sound G item → Shorter G → Steady item → (level : ℕ) → Steady (level_at item level)
unfolding level_at
level_steady G item sound short steady zero = steady
level_steady G item sound short steady (suc level) =
    chain_steady level (IsLevel G level) (level_at item level) (level_sound G item sound level) (level_shorter G short level) (level_steady G item sound short steady level)

-- ---- operands

steady_literally : (read : Read Constant) → Steady read → Steady (literally read)
steady_literally read h = steady_then read _ h (λ c. steady_done (literal c))

module _ (G : Gram Expression) (inner : Read Expression) (sound : Sound G inner) (short : Shorter G) (steady : Steady inner) where
  minus_steady : (s : ℕ) → Steady (minus_step inner s)
  minus_steady s = steady_test begins_number number_sees (literally (number_at true)) (λ ts. inner ts >>= λ x. Ok (negative s x.0, x.1)) (steady_literally (number_at true) (number_steady true)) (steady_then inner _ steady (λ x. steady_done (negative s x)))

  negative_steady : (depth : ℕ) → Steady (negative_at depth inner)
  unfolding negative_at
  negative_steady depth = steady_place (λ at ts. opened_at m.Minus depth ts >>= minus_step inner at) (λ at. steady_opened m.Minus depth (minus_step inner at) (minus_steady at))

  inverse_steady : (depth : ℕ) → Steady (inverse_at depth inner)
  unfolding inverse_at
  inverse_steady depth =
      steady_place (λ at ts. opened_at m.Not depth ts >>= λ rest. inner rest >>= λ x. Ok (inverse at x.0, x.1)) (λ at. steady_opened m.Not depth _ (steady_then inner _ steady (λ x. steady_done (inverse at x))))

  item_steady : Steady (level_at inner levels)
  item_steady = level_steady G inner sound short steady levels

  item_shrinks : Shrinks (level_at inner levels)
  item_shrinks = shrinks_of (IsLevel G levels) (level_at inner levels) (level_sound G inner sound levels) (level_shorter G short levels)

  parentheses_steady : (depth : ℕ) → Steady (parentheses_at depth (level_at inner levels))
  unfolding parentheses_at
  parentheses_steady depth = steady_opened m.LParen depth _ (steady_then (level_at inner levels) _ item_steady (λ x. steady_expect m.RParen _ (steady_done x)))

  element_steady : (depth : ℕ) (x : Word) → Steady (element_at depth (level_at inner levels) x)
  unfolding element_at
  element_steady depth x =
      steady_place (λ at ts. opened_at m.LBracket depth ts >>= λ rest. level_at inner levels rest >>= λ i. expect m.RBracket i.1 >>= λ end. Ok (element x at i.0, end))
      (λ at. steady_opened m.LBracket depth _ (steady_then (level_at inner levels) _ item_steady (λ i. steady_expect m.RBracket _ (steady_done (element x at i)))))

  call_steady : (depth : ℕ) (x : Word) → Steady (call_at depth (level_at inner levels) x)
  unfolding call_at
  call_steady depth x =
      steady_opened m.LParen depth _ (steady_then (list_at m.Comma (level_at inner levels)) _ (steady_list (level_at inner levels) item_steady item_shrinks m.Comma) (λ xs. steady_expect m.RParen _ (steady_done (call x (expressions xs)))))

  named_steady : (depth : ℕ) → Steady (named_at depth (level_at inner levels))
  unfolding named_at
  named_steady depth =
      let item = level_at inner levels in
      steady_then name_at _ steady_name
      (λ x. steady_choice m.LBracket (element_at depth item x) (λ ts. cond (next_is m.LParen ts) (call_at depth item x ts) (Ok (variable x, ts))) (element_steady depth x)
      (steady_choice m.LParen (call_at depth item x) (λ ts. Ok (variable x, ts)) (call_steady depth x) (steady_done (variable x))))

  unnamed_steady : (depth : ℕ) → Steady (unnamed_at depth inner (level_at inner levels))
  unnamed_steady depth =
      let item = level_at inner levels in
      steady_choice m.Minus (negative_at depth inner) _ (negative_steady depth)
      (steady_choice m.Not (inverse_at depth inner) _ (inverse_steady depth) (steady_choice m.LParen (parentheses_at depth item) (literally literal_at) (parentheses_steady depth) (steady_literally literal_at literal_steady)))

  operand_steady : (depth : ℕ) → Steady (operand_of depth inner)
  unfolding operand_of
  operand_steady depth =
      let item = level_at inner levels in
      steady_test begins_name name_sees (named_at depth item) (unnamed_at depth inner item) (named_steady depth) (unnamed_steady depth)

pub nested_steady : (depth : ℕ) → Steady (nested_at depth)
unfolding nested_at
nested_steady zero = steady_stuck
nested_steady (suc depth) = operand_steady (IsNested depth) (nested_at depth) (nested_sound depth) (nested_shorter depth) (nested_steady depth) depth

-- An expression that stops at a token stops there in the same way whatever stands behind it.
pub expression_steady : (depth : ℕ) → Steady (expression_at depth)
unfolding expression_at
expression_steady depth =
    level_steady (IsNested (suc depth)) (nested_at (suc depth)) (nested_sound (suc depth)) (nested_shorter (suc depth)) (nested_steady (suc depth)) levels
