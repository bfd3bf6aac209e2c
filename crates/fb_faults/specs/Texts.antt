-- The numbers of refusals, and how they are printed: this project's profile.
use Rattle.std.specs.Prelude.{ℕ, List, ◌++◌, codes}
use Rattle.std.specs.Fmt.{decimal}
use Rattle.fb_faults.specs.declared.text.TextFault.{TextFault}
use Rattle.fb_faults.specs.declared.text.TextFault.TheVariants.{OutOfMemory, BadCharacter, Syntax, TooDeep, TooLong, BigNumber}

abbrev pub code_of : TextFault → ℕ
code_of OutOfMemory = 9
code_of (BadCharacter offset) = 1
code_of (Syntax offset) = 2
code_of (TooDeep offset) = 3
code_of TooLong = 4
code_of (BigNumber offset) = 5

-- the code, and the offset where there is one
abbrev pub line_of : TextFault → List ℕ
line_of OutOfMemory = codes "9"
line_of (BadCharacter offset) = codes "1 " ++ decimal offset
line_of (Syntax offset) = codes "2 " ++ decimal offset
line_of (TooDeep offset) = codes "3 " ++ decimal offset
line_of TooLong = codes "4"
line_of (BigNumber offset) = codes "5 " ++ decimal offset
