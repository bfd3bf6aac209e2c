-- What trees with slots are in the book: the same as the typed trees without slots.
use Rattle.std.specs.Prelude.{List, map, string_bytes}
use Rattle.fb_model.specs.TypedText.{Term, constant, read, part, single, Command, set, set_part, choose, match_on, Commands, done, Choices, no_choice, Cases, no_case}
use Rattle.st_types.specs.Commanding.{Counted}
use Rattle.st_types.specs.Views.{Tail, joined}
use Rattle.st_types.specs.CommandViews.{Chosen, Cased, then_all, all_choices, all_cases, counted_command}
use Rattle.st_exec.specs.declared.code.Code.{Code, fold-Code}
use Rattle.st_exec.specs.declared.code.Code.TheOpen.{Code-F, CodeLink-F}
use Rattle.st_exec.specs.declared.code.CodeLink.{CodeLink, fold-CodeLink}
use Rattle.st_exec.specs.declared.command.CodeStmt.{CodeStmt, fold-CodeStmt}
use Rattle.st_exec.specs.declared.command.CodeStmt.TheOpen.{CodeStmt-F, CodeArm-F, CodeBranch-F}
use Rattle.st_exec.specs.declared.command.CodeArm.{CodeArm, fold-CodeArm}
use Rattle.st_exec.specs.declared.command.CodeBranch.{CodeBranch, fold-CodeBranch}
use Rattle.st_exec.specs.declared.command.CodeCounting.{CodeCounting}

-- ---- expressions

abbrev pub code_step : Code-F Term Tail → Term
code_step (Code-F.Constant n) = constant n
code_step (Code-F.Read x s) = read (string_bytes x)
code_step (Code-F.Element x s low high b) = part (string_bytes x) low high b.value
code_step (Code-F.Unary f a b) = single f a b.value
code_step (Code-F.Chain b v) = joined b.value v.items

abbrev pub code_link_step : CodeLink-F Term Tail → Tail
code_link_step l = (l.operation, l.of_type, l.operand)

abbrev pub code_term : Code → Term
code_term = fold-Code Term Tail code_step code_link_step

abbrev pub code_tail : CodeLink → Tail
code_tail = fold-CodeLink Term Tail code_step code_link_step

-- ---- statements

abbrev pub code_counting : CodeCounting → Counted
code_counting k = record { variable = string_bytes k.variable; type = k.of_type; first = code_term k.first; last = code_term k.last; step = k.step; plain = k.plain }

abbrev pub stmt_step : CodeStmt-F Command Cased Chosen → Command
stmt_step (CodeStmt-F.Set x s e) = set (string_bytes x) (code_term e)
stmt_step (CodeStmt-F.SetElement x s low high i e) = set_part (string_bytes x) low high (code_term i) (code_term e)
stmt_step (CodeStmt-F.If b v) = choose (all_choices b.items no_choice) (then_all v.items done)
stmt_step (CodeStmt-F.Case e a v) = match_on (code_term e) (all_cases a.items no_case) (then_all v.items done)
stmt_step (CodeStmt-F.For k v) = counted_command (code_counting k) (then_all v.items done)

abbrev pub arm_step : CodeArm-F Command Cased Chosen → Cased
arm_step a = (a.labels.items, then_all a.body.items done)

abbrev pub branch_step : CodeBranch-F Command Cased Chosen → Chosen
branch_step b = (code_term b.condition, then_all b.body.items done)

abbrev pub code_command : CodeStmt → Command
code_command = fold-CodeStmt Command Cased Chosen stmt_step arm_step branch_step

abbrev pub code_case : CodeArm → Cased
code_case = fold-CodeArm Command Cased Chosen stmt_step arm_step branch_step

abbrev pub code_choice : CodeBranch → Chosen
code_choice = fold-CodeBranch Command Cased Chosen stmt_step arm_step branch_step

abbrev pub code_commands : List CodeStmt → Commands
code_commands cs = then_all (map code_command cs) done

abbrev pub code_choices : List CodeBranch → Choices
code_choices bs = all_choices (map code_choice bs) no_choice

abbrev pub code_cases : List CodeArm → Cases
code_cases arms = all_cases (map code_case arms) no_case
