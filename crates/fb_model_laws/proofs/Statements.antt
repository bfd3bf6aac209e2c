-- Through Structured Text the names in the tokens that are left are words in capitals.
use Rattle.std.proofs.Common.{ℕ, zero, suc, List}
use Rattle.fb_words.specs.declared.mark.Mark.{Mark}
use Rattle.fb_words.specs.declared.mark.Mark.TheVariants as m
use Rattle.fb_model.specs.Tokens.{Token}
use Rattle.fb_model.specs.Productions as p
use Rattle.fb_model.specs.Productions.{Gram}
use Rattle.fb_model.specs.StructuredText.{Expression, Statement, Statements}
use Rattle.fb_model.specs.StructuredTextGrammar.{IsLink, a_link, IsChain, a_chain, IsLevel, levels, IsOperand, a_literal, a_variable, an_element, a_call, in_parentheses, a_negative, a_minus, a_not, IsNested, IsExpression, IsInteger, unsigned, signed, IsLabel, one, from_to, IsStep, no_step, a_step, IsBound, a_bound, IsList, end, lone, next, IsBranch, a_condition, IsArm, a_labelled, IsElse, absent, present, IsStatement, an_assignment, to_element, an_if, a_case, a_for, IsBody, IsAlgorithm}
use Rattle.fb_model_laws.proofs.Capitals.{AreCapitalTokens, Takes, Any, takes_many, takes_separated}

-- ---- expressions

link_takes : (level : ℕ) (G : Gram Expression) → Takes Any G → Takes Any (IsLink level G)
link_takes level G t ts x rest (a_link {ts = on} {x = y} o g) h = (tt, (t on y rest g h.1).1)

chain_takes : (level : ℕ) (G : Gram Expression) → Takes Any G → Takes Any (IsChain level G)
chain_takes level G t ts x rest (a_chain {mid = mid} {x = y} g gs) h = (tt, (takes_many Any (link_takes level G t) gs (t ts y mid g h).1).1)

level_takes : (G : Gram Expression) → Takes Any G → (level : ℕ) → Takes Any (IsLevel G level)
level_takes G t zero = t
level_takes G t (suc level) = chain_takes level (IsLevel G level) (level_takes G t level)

operand_takes : (G : Gram Expression) → Takes Any G → Takes Any (IsOperand G)
operand_takes G t ts x rest (a_literal l) h = (tt, h.1)
operand_takes G t ts x rest (a_variable p.a_name) h = (tt, h.1)
operand_takes G t ts x rest (an_element {mid = mid} {i = i} p.a_name g) h = (tt, (level_takes G t levels mid i _ g h.1.1).1.1)
operand_takes G t ts x rest (a_call p.a_name gs) h = (tt, (takes_separated Any (level_takes G t levels) gs h.1.1).1.1)
operand_takes G t ts x rest (in_parentheses {ts = on} g) h = (tt, (level_takes G t levels on x _ g h.1).1.1)
operand_takes G t ts x rest (a_negative g) h = (tt, h.1.1)
operand_takes G t ts x rest (a_minus {ts = on} {x = y} e g) h = (tt, (t on y rest g h.1).1)
operand_takes G t ts x rest (a_not {ts = on} {x = y} g) h = (tt, (t on y rest g h.1).1)

nested_takes : (depth : ℕ) → Takes Any (IsNested depth)
nested_takes zero = λ ts x rest g h. absurd g
nested_takes (suc depth) = operand_takes (IsNested depth) (nested_takes depth)

pub expression_takes : (depth : ℕ) → Takes Any (IsExpression depth)
expression_takes depth = level_takes (IsNested (suc depth)) (nested_takes (suc depth)) levels

-- ---- statements

pub integer_takes : Takes Any IsInteger
integer_takes ts x rest unsigned h = (tt, h.1)
integer_takes ts x rest signed h = (tt, h.1.1)

label_takes : Takes Any IsLabel
label_takes ts x rest (one {c = c} g) h = (tt, (integer_takes ts c rest g h).1)
label_takes ts x rest (from_to {mid = mid} {c = c} {d = d} g i) h = (tt, (integer_takes mid d rest i (integer_takes ts c _ g h).1.1).1)

step_takes : Takes Any IsStep
step_takes ts x rest no_step h = (tt, h)
step_takes ts x rest (a_step {ts = on} {c = c} g) h = (tt, (integer_takes on c rest g h.1).1)

list_takes : (G : Gram Statement) → Takes Any G → {ts rest : List Token} {xs : Statements} → IsList G ts xs rest → AreCapitalTokens ts → AreCapitalTokens rest
list_takes G t end h = h
list_takes G t (lone g) h = list_takes G t g h.1
list_takes G t (next {ts = ts} {mid = mid} {x = x} g gs) h = list_takes G t gs (t ts x _ g h).1.1

-- of expressions, and of the lists inside, this is known
module _ (E : Gram Expression) (expr : Takes Any E) (L : Gram Statements) (list : Takes Any L) where
  branch_takes : (opening : Mark) → Takes Any (IsBranch E L opening)
  branch_takes opening ts b rest (a_condition {ts = on} {mid = mid} {x = x} {xs = xs} g i) h = (tt, (list mid xs rest i (expr on x _ g h.1).1.1).1)

  arm_takes : Takes Any (IsArm E L)
  arm_takes ts a rest (a_labelled {mid = mid} {xs = xs} gs i) h = (tt, (list mid xs rest i (takes_separated Any label_takes gs h).1.1).1)

  else_takes : Takes Any (IsElse E L)
  else_takes ts xs rest absent h = (tt, h)
  else_takes ts xs rest (present {ts = on} i) h = (tt, (list on xs rest i h.1).1)

  bound_takes : Takes Any (IsBound E)
  bound_takes ts b rest (a_bound {x = x} g) h = (tt, (expr ts x rest g h).1)

  statement_takes : Takes Any (IsStatement E L)
  statement_takes ts x rest (an_assignment {mid = mid} {v = v} p.a_name g) h = (tt, (expr mid v rest g h.1.1).1)
  statement_takes ts x rest (to_element {mid = mid} {on = on} {i = i} {v = v} p.a_name g e) h = (tt, (expr on v rest e (expr mid i _ g h.1.1).1.1.1).1)
  statement_takes ts x rest (an_if {ts = ts₀} {mid = mid} {on = on} {b = b} {xs = xs} g gs e) h =
      let a = branch_takes m.If ts₀ b mid g h in
      let c = takes_many Any (branch_takes m.Elsif) gs a.1 in
      (tt, (else_takes on xs _ e c.1).1.1)
  statement_takes ts x rest (a_case {ts = ts₀} {ts₁ = ts₁} {ts₂ = ts₂} {ts₃ = ts₃} {x = y} {a = a} {xs = xs} g i gs e) h =
      let b = expr ts₀ y _ g h.1 in
      let c = arm_takes ts₁ a ts₂ i b.1.1 in
      let d = takes_many Any arm_takes gs c.1 in
      (tt, (else_takes ts₃ xs _ e d.1).1.1)
  statement_takes ts x rest (a_for {ts₁ = ts₁} {ts₂ = ts₂} {ts₃ = ts₃} {ts₄ = ts₄} {a = a} {b = b} {c = c} {xs = xs} p.a_name g i s j) h =
      let q = bound_takes ts₁ a _ g h.1.1.1 in
      let r = bound_takes ts₂ b _ i q.1.1 in
      let u = step_takes ts₃ c _ s r.1 in
      (tt, (list ts₄ xs _ j u.1.1).1.1)

body_takes : (E : Gram Expression) → Takes Any E → (depth : ℕ) → Takes Any (IsBody E depth)
body_takes E expr zero = λ ts xs rest g h. (tt, list_takes _ (statement_takes E expr (λ us ys left. ⊥) (λ us ys left i k. absurd i)) g h)
body_takes E expr (suc depth) = λ ts xs rest g h. (tt, list_takes _ (statement_takes E expr (IsBody E depth) (body_takes E expr depth)) g h)

pub algorithm_takes : (n k : ℕ) → Takes Any (IsAlgorithm n k)
algorithm_takes n k = body_takes (IsExpression n) (expression_takes n) k
