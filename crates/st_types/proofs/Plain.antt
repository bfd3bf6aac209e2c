-- Branches and arms a part at a time.
use Rattle.std.proofs.Common.{◌≡◌, ℕ, ℤ, List, map, Ok, sym, ap, subst, ◌∙◌, rules, Vec}
use Rattle.std.specs.declared.alloc.Global.{Global}
use Rattle.fb_model.specs.StructuredText.{Expression, binary, Link, grouped, statements}
use Rattle.fb_model.specs.StructuredText as text
use Rattle.fb_model.specs.Names.{Name}
use Rattle.fb_model.specs.TypedText.{Term, Commands}
use Rattle.fb_model.specs.TextTyping.{Symbol}
use Rattle.fb_faults.specs.declared.statement.TypingFault.{TypingFault}
use Rattle.st_types.specs.declared.term.TypedExpr.{TypedExpr}
use Rattle.st_types.specs.declared.command.TypedStmt.{TypedStmt}
use Rattle.st_types.specs.declared.command.TypedStmt as typed
use Rattle.st_types.specs.declared.command.TypedBranch.{roll-TypedBranch}
use Rattle.st_types.specs.declared.command.TypedArm.{roll-TypedArm}
use Rattle.st_types.specs.Answers.{Fails}
use Rattle.st_types.specs.Elaborating.{◌>>=◌, condition}
use Rattle.st_types.specs.Commanding.{all_commanded, one_chosen}
use Rattle.st_types.specs.Views.{term_of}
use Rattle.st_types.specs.CommandViews.{Chosen, commands_of, choice_of, case_of}
use Rattle.st_types.proofs.Steps.{fails_then}
use denote.Param.Weighed.{most}
use Rattle.std.specs.Prelude.{◌+◌, ◌≤◌, Option}
use Rattle.fb_tree.specs.declared.name.Name.{Name as Name_}
use Rattle.fb_tree.specs.declared.statement.Bound.{Bound}
use Rattle.fb_tree.specs.declared.literal.Constant.{Constant}
use Rattle.fb_tree.specs.declared.statement.Stmt as source_stmt
use Rattle.fb_tree.proofs.statement.Stmt.TheLaws.{the_size as stmt_size}
use Rattle.fb_tree.specs.declared.statement.Stmt.{Stmt, the_lemmas}
use Rattle.fb_tree.specs.declared.statement.Branch.{Branch}
use Rattle.fb_tree.specs.declared.statement.Arm.{Arm}
use Rattle.fb_tree.specs.Algorithms.{expr_of, branch_of, arm_of, label_of, body_of}

pub view_branch : (b : Branch) → branch_of b ≡ (b.at, expr_of b.condition, body_of b.body.items)
view_branch b = search (rules, the_lemmas)

pub view_arm : (a : Arm) → arm_of a ≡ (map label_of a.labels.items, body_of a.body.items)
view_arm a = search (rules, the_lemmas)

pub view_choice : (e : TypedExpr) (v : Vec TypedStmt Global) → choice_of (roll-TypedBranch (record { condition = e; body = v })) ≡ (term_of e, commands_of v.items)
view_choice e v = search (rules, typed.the_lemmas)

pub view_case : (ls : Vec (ℤ × ℤ) Global) (v : Vec TypedStmt Global) → case_of (roll-TypedArm (record { labels = ls; body = v })) ≡ (ls.items, commands_of v.items)
view_case ls v = search (rules, typed.the_lemmas)

-- ---- a condition and its body, step by step

pub condition_fails : (env : List Symbol) (busy : List Name) (s : ℕ) (e : Expression) (xs : text.Statements) (w : TypingFault) → Fails w (condition env s e) → Fails w (one_chosen env busy (s, e, xs))
condition_fails env busy s e xs w h = fails_then w (condition env s e) (λ y. all_commanded env busy xs >>= λ c. Ok (y, c)) h

pub body_fails : (env : List Symbol) (busy : List Name) (s : ℕ) (e : Expression) (xs : text.Statements) (y : Term) (w : TypingFault) → condition env s e ≡ Ok y → Fails w (all_commanded env busy xs) → Fails w (one_chosen env busy (s, e, xs))
body_fails env busy s e xs y w h f = subst (λ r. Fails {Y = Chosen} w (r >>= λ y. all_commanded env busy xs >>= λ c. Ok (y, c))) (sym h) (fails_then w (all_commanded env busy xs) (λ c. Ok (y, c)) f)

pub choice_is : (env : List Symbol) (busy : List Name) (s : ℕ) (e : Expression) (xs : text.Statements) (y : Term) (c : Commands) → condition env s e ≡ Ok y → all_commanded env busy xs ≡ Ok c → one_chosen env busy (s, e, xs) ≡ Ok (y, c)
choice_is env busy s e xs y c h f = ap (λ r. r >>= λ y. all_commanded env busy xs >>= λ c. Ok (y, c)) h ∙ ap (λ r. r >>= λ c. Ok (y, c)) f

-- the body of a FOR is smaller than the FOR
pub for_size : (s : ℕ) (x : Name_) (a b : Bound) (c : Option Constant) (v : Vec Stmt Global) → most stmt_size v.items + 1 ≤ stmt_size (source_stmt.For s x a b c v)
for_size s x a b c v = search (rules, the_lemmas)
