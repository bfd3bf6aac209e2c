-- When the slots in a tree are those of the variables that it names.
use Rattle.std.specs.Prelude.{◌==◌, Bool, true, ◌&&◌, List, [], ◌∷◌, map, string_bytes}
use Rattle.st_exec.specs.declared.code.Code.{Code, fold-Code}
use Rattle.st_exec.specs.declared.code.Code.TheOpen.{Code-F, CodeLink-F}
use Rattle.st_exec.specs.declared.code.CodeLink.{CodeLink, fold-CodeLink}
use Rattle.st_exec.specs.declared.command.CodeStmt.{CodeStmt, fold-CodeStmt}
use Rattle.st_exec.specs.declared.command.CodeStmt.TheOpen.{CodeStmt-F, CodeArm-F, CodeBranch-F}
use Rattle.st_exec.specs.declared.command.CodeArm.{CodeArm, fold-CodeArm}
use Rattle.st_exec.specs.declared.command.CodeBranch.{CodeBranch, fold-CodeBranch}
use Rattle.st_exec.specs.declared.command.CodeCounting.{CodeCounting}
use Rattle.st_exec.specs.Forms.{Form, slot_in, plain_slot}

abbrev pub all_true : List Bool → Bool
all_true [] = true
all_true (b ∷ bs) = b && all_true bs

-- ---- expressions

-- a variable has its own slot, an array that of its first element
abbrev pub slots_step : List Form → Code-F Bool Bool → Bool
slots_step fs (Code-F.Constant n) = true
slots_step fs (Code-F.Read x s) = plain_slot fs (string_bytes x) == s
slots_step fs (Code-F.Element x s low high b) = (slot_in fs (string_bytes x) == s) && b.value
slots_step fs (Code-F.Unary f a b) = b.value
slots_step fs (Code-F.Chain b v) = b.value && all_true v.items

abbrev pub link_slots_step : List Form → CodeLink-F Bool Bool → Bool
link_slots_step fs l = l.operand

abbrev pub placed : List Form → Code → Bool
placed fs = fold-Code Bool Bool (slots_step fs) (link_slots_step fs)

abbrev pub placed_link : List Form → CodeLink → Bool
placed_link fs = fold-CodeLink Bool Bool (slots_step fs) (link_slots_step fs)

-- ---- statements

abbrev pub placed_counting : List Form → CodeCounting → Bool
placed_counting fs k = (plain_slot fs (string_bytes k.variable) == k.slot) && (placed fs k.first && placed fs k.last)

abbrev pub stmt_slots_step : List Form → CodeStmt-F Bool Bool Bool → Bool
stmt_slots_step fs (CodeStmt-F.Set x s e) = (plain_slot fs (string_bytes x) == s) && placed fs e
stmt_slots_step fs (CodeStmt-F.SetElement x s low high i e) = (slot_in fs (string_bytes x) == s) && (placed fs i && placed fs e)
stmt_slots_step fs (CodeStmt-F.If b v) = all_true b.items && all_true v.items
stmt_slots_step fs (CodeStmt-F.Case e a v) = placed fs e && (all_true a.items && all_true v.items)
stmt_slots_step fs (CodeStmt-F.For k v) = placed_counting fs k && all_true v.items

abbrev pub arm_slots_step : List Form → CodeArm-F Bool Bool Bool → Bool
arm_slots_step fs a = all_true a.body.items

abbrev pub branch_slots_step : List Form → CodeBranch-F Bool Bool Bool → Bool
branch_slots_step fs b = placed fs b.condition && all_true b.body.items

abbrev pub placed_stmt : List Form → CodeStmt → Bool
placed_stmt fs = fold-CodeStmt Bool Bool Bool (stmt_slots_step fs) (arm_slots_step fs) (branch_slots_step fs)

abbrev pub placed_arm : List Form → CodeArm → Bool
placed_arm fs = fold-CodeArm Bool Bool Bool (stmt_slots_step fs) (arm_slots_step fs) (branch_slots_step fs)

abbrev pub placed_branch : List Form → CodeBranch → Bool
placed_branch fs = fold-CodeBranch Bool Bool Bool (stmt_slots_step fs) (arm_slots_step fs) (branch_slots_step fs)

abbrev pub placed_all : List Form → List CodeStmt → Bool
placed_all fs cs = all_true (map (placed_stmt fs) cs)
