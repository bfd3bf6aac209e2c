-- What typed statements are in the book, without where they lie in memory.
use Rattle.std.specs.Prelude.{ℤ, List, [], ◌∷◌, map, string_bytes}
use Rattle.std.specs.declared.string.String.{String}
use Rattle.std.specs.declared.alloc.Global.{Global}
use Rattle.fb_model.specs.Names.{Name}
use Rattle.fb_model.specs.TypedText.{Term, Command, set, set_part, choose, match_on, count, Commands, done, then_do, Choices, no_choice, choice, Cases, no_case, a_case}
use Rattle.st_types.specs.declared.command.TypedStmt.{TypedStmt, fold-TypedStmt}
use Rattle.st_types.specs.declared.command.TypedStmt.TheOpen.{TypedStmt-F, TypedArm-F, TypedBranch-F}
use Rattle.st_types.specs.declared.command.TypedArm.{TypedArm, fold-TypedArm}
use Rattle.st_types.specs.declared.command.TypedBranch.{TypedBranch, fold-TypedBranch}
use Rattle.st_types.specs.declared.command.Counting.{Counting}
use Rattle.st_types.specs.Commanding.{Counted}
use Rattle.st_types.specs.Views.{term_of}

-- ---- typed statements

-- a condition, and what is done where it holds
abbrev pub Chosen : Type 0
Chosen = Term × Commands

abbrev pub Cased : Type 0
Cased = List (ℤ × ℤ) × Commands

-- commands before others
abbrev pub then_all : List Command → Commands → Commands
then_all [] rest = rest
then_all (c ∷ cs) rest = then_do c (then_all cs rest)

abbrev pub all_choices : List Chosen → Choices → Choices
all_choices [] rest = rest
all_choices (c ∷ cs) rest = choice c.0 c.1 (all_choices cs rest)

abbrev pub all_cases : List Cased → Cases → Cases
all_cases [] rest = rest
all_cases (c ∷ cs) rest = a_case c.0 c.1 (all_cases cs rest)

abbrev pub counting_of : Counting → Counted
counting_of k = record { variable = string_bytes k.variable.name; type = k.of_type; first = term_of k.first; last = term_of k.last; step = k.step; plain = k.plain }

abbrev pub counted_command : Counted → Commands → Command
counted_command k c = count k.variable k.type k.first k.last k.step k.plain c

abbrev pub command_step : TypedStmt-F Command Cased Chosen → Command
command_step (TypedStmt-F.Set x e) = set (string_bytes x.name) (term_of e)
command_step (TypedStmt-F.SetElement x low high i e) = set_part (string_bytes x.name) low high (term_of i) (term_of e)
command_step (TypedStmt-F.If b v) = choose (all_choices b.items no_choice) (then_all v.items done)
command_step (TypedStmt-F.Case e a v) = match_on (term_of e) (all_cases a.items no_case) (then_all v.items done)
command_step (TypedStmt-F.For k v) = counted_command (counting_of k) (then_all v.items done)

abbrev pub case_step : TypedArm-F Command Cased Chosen → Cased
case_step a = (a.labels.items, then_all a.body.items done)

abbrev pub choice_step : TypedBranch-F Command Cased Chosen → Chosen
choice_step b = (term_of b.condition, then_all b.body.items done)

abbrev pub command_of : TypedStmt → Command
command_of = fold-TypedStmt Command Cased Chosen command_step case_step choice_step

abbrev pub case_of : TypedArm → Cased
case_of = fold-TypedArm Command Cased Chosen command_step case_step choice_step

abbrev pub choice_of : TypedBranch → Chosen
choice_of = fold-TypedBranch Command Cased Chosen command_step case_step choice_step

abbrev pub commands_of : List TypedStmt → Commands
commands_of cs = then_all (map command_of cs) done

abbrev pub choices_of : List TypedBranch → Choices
choices_of bs = all_choices (map choice_of bs) no_choice

abbrev pub cases_of : List TypedArm → Cases
cases_of arms = all_cases (map case_of arms) no_case

-- the variables with which FORs count
abbrev pub busy_of : List (String Global) → List Name
busy_of xs = map string_bytes xs
