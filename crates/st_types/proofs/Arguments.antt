-- Lists of arguments by their lengths.
use Rattle.std.proofs.Common.{◌≡◌, ℕ, ◌<◌, ◌≤◌, List, [], ◌∷◌, length, map, get_or, refl, sym, ap, ◌∙◌, arith, Result, Err}
use Rattle.fb_words.specs.declared.operator.Operation.{Operation}
use Rattle.fb_model.specs.StructuredText.{no_expression, expression, expressions}
use Rattle.fb_model.specs.TextTyping.{Symbol, Operand}
use Rattle.fb_model.specs.TextFaults.{Fault, type_mismatch}
use Rattle.fb_tree.specs.declared.expression.Expr.{Expr}
use Rattle.fb_tree.specs.Algorithms.{expr_of}
use Rattle.st_types.specs.Elaborating.{typed_call}

pub one_argument : (es : List Expr) (a : Expr) → 1 ≤ length es → length es < 2 → a ≡ get_or es 0 a → expressions (map expr_of es) ≡ expression (expr_of a) no_expression
one_argument [] a l h e = absurd (omega arith)
one_argument (x ∷ []) a l h e = ap (λ y. expression (expr_of y) no_expression) (sym e)
one_argument (x ∷ y ∷ es) a l h e = absurd (omega arith)

pub two_arguments : (es : List Expr) (a b : Expr) → 2 ≤ length es → length es < 3 → a ≡ get_or es 0 a → b ≡ get_or es 1 b → expressions (map expr_of es) ≡ expression (expr_of a) (expression (expr_of b) no_expression)
two_arguments [] a b l h e f = absurd (omega arith)
two_arguments (x ∷ []) a b l h e f = absurd (omega arith)
two_arguments (x ∷ y ∷ []) a b l h e f = ap (λ z. expression (expr_of z) (expression (expr_of y) no_expression)) (sym e) ∙ ap (λ z. expression (expr_of a) (expression (expr_of z) no_expression)) (sym f)
two_arguments (x ∷ y ∷ z ∷ es) a b l h e f = absurd (omega arith)

pub three_arguments : (es : List Expr) (a b c : Expr) → 3 ≤ length es → length es < 4 → a ≡ get_or es 0 a → b ≡ get_or es 1 b → c ≡ get_or es 2 c
    → expressions (map expr_of es) ≡ expression (expr_of a) (expression (expr_of b) (expression (expr_of c) no_expression))
three_arguments [] a b c l h e f g = absurd (omega arith)
three_arguments (x ∷ []) a b c l h e f g = absurd (omega arith)
three_arguments (x ∷ y ∷ []) a b c l h e f g = absurd (omega arith)
three_arguments (x ∷ y ∷ z ∷ []) a b c l h e f g =
    ap (λ k. expression (expr_of k) (expression (expr_of y) (expression (expr_of z) no_expression))) (sym e)
    ∙ ap (λ k. expression (expr_of a) (expression (expr_of k) (expression (expr_of z) no_expression))) (sym f)
    ∙ ap (λ k. expression (expr_of a) (expression (expr_of b) (expression (expr_of k) no_expression))) (sym g)
three_arguments (x ∷ y ∷ z ∷ w ∷ es) a b c l h e f g = absurd (omega arith)

pub more_arguments : (env : List Symbol) (f : Operation) (s : ℕ) (es : List Expr) → 4 ≤ length es → let r : Result Operand Fault = Err (type_mismatch s) in typed_call env f s (expressions (map expr_of es)) ≡ r
more_arguments env f s [] l = absurd (omega arith)
more_arguments env f s (x ∷ []) l = absurd (omega arith)
more_arguments env f s (x ∷ y ∷ []) l = absurd (omega arith)
more_arguments env f s (x ∷ y ∷ z ∷ []) l = absurd (omega arith)
more_arguments env f s (x ∷ y ∷ z ∷ w ∷ es) l = refl
