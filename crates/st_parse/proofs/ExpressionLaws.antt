-- What reading tells of expressions.
use Rattle.std.proofs.Common.{◌≡◌, ◌<◌, ◌≤◌, ℕ, suc, List, [], Ok, Err, refl, sym, ap, subst, ◌∙◌, arith, inl, inr}
use Rattle.std.proofs.lemmas.Bool.{cases_lt}
use Rattle.fb_faults.specs.declared.text.TextFault.{TextFault}
use Rattle.fb_model.specs.Tokens.{Token}
use Rattle.fb_model.specs.StructuredText.{Expression}
use Rattle.fb_model.specs.StructuredTextGrammar.{IsExpression, most_nested}
use Rattle.fb_read.specs.declared.stop.Stop.{Stop}
use Rattle.fb_read.specs.Reading.{Answer}
use Rattle.fb_read.specs.Answers.{Fails}
use Rattle.fb_read.specs.Faults.{end_of, Says}
use Rattle.fb_read.specs.Whole.{IfSyntax}
use Rattle.fb_read.proofs.Readers.{Sound, Gets, Complete, Shorter}
use Rattle.fb_read.proofs.Steady.{Steady, IsStuck, IsDeep}
use Rattle.fb_read.proofs.Viable.{Any, Viable}
use Rattle.fb_read.proofs.Whole.{Points, whole_sound, whole_complete, whole_points, whole_viable}
use Rattle.fb_read.proofs.Whole as answers
use Rattle.fb_tree.specs.declared.expression.Expr.{Expr}
use Rattle.fb_tree.specs.Algorithms.{expr_of}
use Rattle.st_parse.specs.ExpressionReading.{continues, expression_at, whole_at}
use Rattle.st_parse.specs.ExpressionAnswers.{Reads, FindsExpression, IsSomeExpression, IsWithinLimit, SyntaxAt, DeepAt}
use Rattle.st_parse.proofs.ExpressionSound as sound
use Rattle.st_parse.proofs.ExpressionComplete as complete
use Rattle.st_parse.proofs.ExpressionSteady as steady
use Rattle.st_parse.proofs.ExpressionViable.{expression_viable}

-- ---- the reader of expressions

-- What is read as an expression is one.
pub expression_sound : (depth : ℕ) → Sound (IsExpression depth) (expression_at depth)
expression_sound = sound.expression_sound

-- An expression that nests n deep is read within the depth, or the depth is smaller.
pub expression_complete : (n depth : ℕ) → Complete (depth < n) continues (IsExpression n) (expression_at depth)
expression_complete = complete.expression_complete

-- Something is taken by each expression.
pub expression_shorter : (depth : ℕ) → Shorter (IsExpression depth)
expression_shorter = complete.expression_shorter

-- An expression that stops at a token stops there in the same way whatever stands behind it.
pub expression_steady : (depth : ℕ) → Steady (expression_at depth)
expression_steady = steady.expression_steady

-- ---- all of the tokens

-- what is read is in the grammar
pub whole_spelled : (ts : List Token) (x : Expression) → whole_at ts ≡ Ok x → IsExpression most_nested ts x []
unfolding whole_at
whole_spelled = whole_sound (IsExpression most_nested) (expression_at most_nested) (expression_sound most_nested)

whole_gets : (n : ℕ) (ts : List Token) (x : Expression) → IsExpression n ts x [] → Gets (most_nested < n) (whole_at ts) x
unfolding whole_at
whole_gets n = whole_complete (most_nested < n) continues (IsExpression n) (expression_at most_nested) (expression_complete n most_nested) refl

-- what is in the grammar is read
pub whole_found : (ts : List Token) (x : Expression) → IsExpression most_nested ts x [] → whole_at ts ≡ Ok x
whole_found ts x h = elim (whole_gets most_nested ts x h) [ inl e ↦ e | inr p ↦ absurd (omega (arith, p.1)) ]

pub whole_same : (ts : List Token) (x y : Expression) → whole_at ts ≡ Ok x → IsExpression most_nested ts y [] → x ≡ y
whole_same ts x y e h = let f : Ok x ≡ Ok y = sym e ∙ whole_found ts y h in cc

-- where an answer is stuck, the tokens are no expression, however deep
not_stuck : (ts : List Token) (x : Expression) → IsStuck (whole_at ts) → IsSomeExpression ts x → ⊥
not_stuck ts x s h = elim (whole_gets h.0 ts x h.1) [ inl e ↦ subst (λ r. IsStuck r) e s | inr p ↦ subst (λ r. IsStuck r) p.2 s ]

not_deep : (ts : List Token) (x : Expression) → IsDeep (whole_at ts) → IsWithinLimit ts x → ⊥
not_deep ts x s h = subst (λ r. IsDeep r) (whole_found ts x h) s

-- Tokens that begin with those up to the one where reading stopped, and with it, are refused in the same way.
pub expression_points : Points whole_at
unfolding whole_at
expression_points = whole_points (expression_at most_nested) (expression_steady most_nested)

-- Where an expression is too deep, a deeper one goes on.
whole_goes_on : Viable (Any (IsExpression (suc most_nested))) whole_at
unfolding whole_at
whole_goes_on = whole_viable (Any (IsExpression (suc most_nested))) (expression_at most_nested) (expression_viable most_nested)

-- ---- no tokens are two expressions

expression_found : (n : ℕ) (ts : List Token) (x : Expression) → IsExpression n ts x [] → expression_at n ts ≡ Ok (x, [])
expression_found n ts x h = elim (expression_complete n n ts x [] h refl) [ inl e ↦ e | inr p ↦ absurd (omega (arith, p.1)) ]

ok_once : (r : Answer Expression) (x y : Expression) → r ≡ Ok (x, []) → r ≡ Ok (y, []) → x ≡ y
ok_once (Ok p) x y e f =
    let a : p ≡ (x, []) = cc in
    let b : p ≡ (y, []) = cc in
    ap (λ q. q.0) (sym a ∙ b)
ok_once (Err w) x y e f = absurd cc

deeper_same : (n k : ℕ) (ts : List Token) (x y : Expression) → IsExpression n ts x [] → IsExpression k ts y [] → k ≤ n → x ≡ y
deeper_same n k ts x y h g le = elim (expression_complete k n ts y [] g refl) [
  | inl e ↦ ok_once (expression_at n ts) x y (expression_found n ts x h) e
  | inr p ↦ absurd (omega (arith, p.1))
]

pub expression_once : (n k : ℕ) (ts : List Token) (x y : Expression) → IsExpression n ts x [] → IsExpression k ts y [] → x ≡ y
expression_once n k ts x y h g = elim (cases_lt n k) [ inl lt ↦ sym (deeper_same k n ts y x g h (omega (arith, lt))) | inr le ↦ deeper_same n k ts x y h g le ]

-- ---- in the words of the answers

-- the fault that a stop becomes
pub reads_of : (end : ℕ) (ts : List Token) (stop : Stop) (fault : TextFault) → end ≡ end_of ts → Says end ts stop fault → Fails stop (whole_at ts) → Reads ts (Err fault)
reads_of end ts stop fault e s h = answers.reads_of expr_of (whole_at ts) (end_of ts) ts stop fault (subst (λ n. Says n ts stop fault) e s) h

pub reads_only : (ts : List Token) (fault : TextFault) (x : Expression) → Reads ts (Err fault) → IsExpression most_nested ts x [] → FindsExpression (Err fault) x
reads_only ts fault x e h = answers.reads_only expr_of (end_of ts) ts fault (whole_at ts) x e (whole_found ts x h)

pub reads_syntax : (ts : List Token) (fault : TextFault) → Reads ts (Err fault) → IfSyntax {X = Expr} (Err fault) ((depth : ℕ) (x : Expression) → IsExpression depth ts x [] → ⊥)
reads_syntax ts fault e = answers.reads_syntax expr_of (end_of ts) ts fault (whole_at ts) _ (λ s depth x h. not_stuck ts x s (depth, h)) e

pub reads_place : (ts : List Token) (fault : TextFault) → Reads ts (Err fault) → SyntaxAt ts (Err fault)
reads_place ts fault e = answers.reads_place expr_of (end_of ts) ts fault IsSomeExpression whole_at expression_points not_stuck e

pub reads_deep : (ts : List Token) (fault : TextFault) → Reads ts (Err fault) → DeepAt ts (Err fault)
reads_deep ts fault e = answers.reads_deep expr_of (end_of ts) ts fault IsWithinLimit whole_at expression_points IsSomeExpression (Any (IsExpression (suc most_nested))) whole_goes_on (λ us h. (h.0, (suc most_nested, h.1))) not_deep e
