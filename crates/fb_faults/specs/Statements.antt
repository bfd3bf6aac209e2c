-- The numbers of refusals: this project's profile.
use Rattle.std.specs.Prelude.{ℕ}
use Rattle.fb_faults.specs.declared.statement.TypingFault.{TypingFault}
use Rattle.fb_faults.specs.declared.statement.TypingFault.TheVariants.{OutOfMemory, UnknownName, TypeMismatch, BadLiteral, NotWritable}

abbrev pub code_of : TypingFault → ℕ
code_of OutOfMemory = 9
code_of (UnknownName at) = 10
code_of (TypeMismatch at) = 12
code_of (BadLiteral at) = 13
code_of (NotWritable at) = 14
