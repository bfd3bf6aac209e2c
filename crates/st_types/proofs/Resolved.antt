-- From the functions to the rules, in the words of the answers.
use Rattle.std.proofs.Common.{◌≡◌, Result, Ok, Err, sym, ◌∙◌}
use Rattle.std.specs.Prelude.{IfOk}
use Rattle.fb_model.specs.TextFaults.{Fault, unknown_name, type_mismatch, bad_literal, not_writable}
use Rattle.fb_faults.specs.declared.statement.TypingFault.{TypingFault}
use Rattle.fb_faults.specs.declared.statement.TypingFault.TheVariants.{OutOfMemory, UnknownName, TypeMismatch, BadLiteral, NotWritable}
use Rattle.st_types.specs.Answers.{Gives, Finds, Refuses}
use Rattle.st_types.proofs.Rules.{ok_same}
use Rattle.st_types.proofs.Refusals.{never_err}

-- where the rules give something it is found, since the function has it
pub finds : {X Y : Type 0} (view : X → Y) (r : Result X TypingFault) (said : Result Y Fault) (y : Y) → Gives view r said → said ≡ Ok y → Finds view r y
finds view (Ok x) said y g h = ok_same (view x) y (sym g ∙ h)
finds view (Err OutOfMemory) said y g h = tt
finds view (Err (UnknownName at)) said y g h = never_err y (unknown_name at) (sym h ∙ g)
finds view (Err (TypeMismatch at)) said y g h = never_err y (type_mismatch at) (sym h ∙ g)
finds view (Err (BadLiteral at)) said y g h = never_err y (bad_literal at) (sym h ∙ g)
finds view (Err (NotWritable at)) said y g h = never_err y (not_writable at) (sym h ∙ g)

-- what a refusal says holds, since it does of what the function refuses
pub refuses : {X Y : Type 0} (view : X → Y) (r : Result X TypingFault) (said : Result Y Fault) (P : Fault → Type 0) → Gives view r said → ((w : Fault) → said ≡ Err w → P w) → Refuses P r
refuses view (Ok x) said P g h = tt
refuses view (Err OutOfMemory) said P g h = tt
refuses view (Err (UnknownName at)) said P g h = h (unknown_name at) g
refuses view (Err (TypeMismatch at)) said P g h = h (type_mismatch at) g
refuses view (Err (BadLiteral at)) said P g h = h (bad_literal at) g
refuses view (Err (NotWritable at)) said P g h = h (not_writable at) g

pub found : {X Y : Type 0} (view : X → Y) (r : Result X TypingFault) (said : Result Y Fault) (Q : Y → Type 0) → Gives view r said → ((y : Y) → said ≡ Ok y → Q y) → IfOk r (λ x. Q (view x))
found view (Ok x) said Q g h = h (view x) g
found view (Err e) said Q g h = tt
