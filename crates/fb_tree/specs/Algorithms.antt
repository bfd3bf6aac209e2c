-- What source trees are, without where they lie in memory.
use Rattle.std.specs.Prelude.{List, map}
use Rattle.fb_tree.specs.Words.{word_of, optional}
use Rattle.fb_tree.specs.declared.literal.Literal.{Literal}
use Rattle.fb_tree.specs.declared.literal.Literal.TheVariants as l
use Rattle.fb_tree.specs.declared.literal.Constant.{Constant}
use Rattle.fb_tree.specs.declared.expression.Expr.{Expr, fold-Expr}
use Rattle.fb_tree.specs.declared.expression.Expr.TheOpen.{Expr-F, Link-F}
use Rattle.fb_tree.specs.declared.expression.Link.{Link, fold-Link}
use Rattle.fb_tree.specs.declared.statement.Label.{Label}
use Rattle.fb_tree.specs.declared.statement.Bound.{Bound}
use Rattle.fb_tree.specs.declared.statement.Stmt.{Stmt, fold-Stmt}
use Rattle.fb_tree.specs.declared.statement.Stmt.TheOpen.{Stmt-F, Branch-F, Arm-F}
use Rattle.fb_tree.specs.declared.statement.Branch.{Branch, fold-Branch}
use Rattle.fb_tree.specs.declared.statement.Arm.{Arm, fold-Arm}
use Rattle.fb_model.specs.Trees as book
use Rattle.fb_model.specs.StructuredText as text

abbrev pub literal_of : Literal → book.Literal
literal_of (l.Whole negative size) = book.Whole negative size
literal_of (l.Typed type negative size) = book.Typed type negative size
literal_of (l.Duration negative size) = book.Duration negative size
literal_of (l.Truth value) = book.Truth value

abbrev pub constant_of : Constant → book.Constant
constant_of c = record { value = literal_of c.value; at = c.at }

-- ---- expressions

-- one level, with what is inside seen already
abbrev pub expr_step : Expr-F text.Expression text.Link → text.Expression
expr_step (Expr-F.Literal c) = text.literal (constant_of c)
expr_step (Expr-F.Variable x) = text.variable (word_of x)
expr_step (Expr-F.Element x s b) = text.element (word_of x) s b.value
expr_step (Expr-F.Call x v) = text.call (word_of x) (text.expressions v.items)
expr_step (Expr-F.Negative s b) = text.negative s b.value
expr_step (Expr-F.Inverse s b) = text.inverse s b.value
expr_step (Expr-F.Chain b v) = text.grouped b.value v.items

abbrev pub link_step : Link-F text.Expression text.Link → text.Link
link_step l = (l.operator, l.at, l.operand)

abbrev pub expr_of : Expr → text.Expression
expr_of = fold-Expr text.Expression text.Link expr_step link_step

abbrev pub link_of : Link → text.Link
link_of = fold-Link text.Expression text.Link expr_step link_step

abbrev pub exprs_of : List Expr → List text.Expression
exprs_of xs = map expr_of xs

abbrev pub links_of : List Link → List text.Link
links_of ls = map link_of ls

-- ---- statements

abbrev pub label_of : Label → text.Label
label_of l = record { low = constant_of l.low; high = optional constant_of l.high }

abbrev pub bound_of : Bound → text.Bound
bound_of b = record { value = expr_of b.value; plain = b.plain }

abbrev pub stmt_step : Stmt-F text.Statement text.Arm text.Branch → text.Statement
stmt_step (Stmt-F.Assign x s e) = text.assign (word_of x) s (expr_of e)
stmt_step (Stmt-F.AssignElement x b i s e) = text.assign_element (word_of x) b (expr_of i) s (expr_of e)
stmt_step (Stmt-F.If b v) = text.branch (text.branches b.items) (text.statements v.items)
stmt_step (Stmt-F.Case s e a v) = text.select s (expr_of e) (text.arms a.items) (text.statements v.items)
stmt_step (Stmt-F.For s x a b c v) = text.repeat s (word_of x) (bound_of a) (bound_of b) (optional constant_of c) (text.statements v.items)

abbrev pub branch_step : Branch-F text.Statement text.Arm text.Branch → text.Branch
branch_step b = (b.at, expr_of b.condition, text.statements b.body.items)

abbrev pub arm_step : Arm-F text.Statement text.Arm text.Branch → text.Arm
arm_step a = (map label_of a.labels.items, text.statements a.body.items)

abbrev pub stmt_of : Stmt → text.Statement
stmt_of = fold-Stmt text.Statement text.Arm text.Branch stmt_step arm_step branch_step

abbrev pub branch_of : Branch → text.Branch
branch_of = fold-Branch text.Statement text.Arm text.Branch stmt_step arm_step branch_step

abbrev pub arm_of : Arm → text.Arm
arm_of = fold-Arm text.Statement text.Arm text.Branch stmt_step arm_step branch_step

abbrev pub body_of : List Stmt → text.Statements
body_of xs = text.statements (map stmt_of xs)
