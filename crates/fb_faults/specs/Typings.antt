-- The numbers of refusals, and how they are printed: this project's profile.
use Rattle.std.specs.Prelude.{ℕ, List, ◌++◌, codes}
use Rattle.std.specs.Fmt.{decimal}
use Rattle.fb_faults.specs.declared.statement.TypingFault.{TypingFault}
use Rattle.fb_faults.specs.declared.statement.TypingFault.TheVariants as st
use Rattle.fb_faults.specs.declared.typing.TypeFault.{TypeFault}
use Rattle.fb_faults.specs.declared.typing.TypeFault.TheVariants.{OutOfMemory, UnknownName, DuplicateName, TypeMismatch, BadLiteral, NotWritable, BadConnection, TwoSources, BadService, RecursiveComposite, Limit, ChannelShape}

abbrev pub code_of : TypeFault → ℕ
code_of OutOfMemory = 9
code_of (UnknownName offset) = 10
code_of (DuplicateName offset) = 11
code_of (TypeMismatch offset) = 12
code_of (BadLiteral offset) = 13
code_of (NotWritable offset) = 14
code_of (BadConnection offset) = 15
code_of (TwoSources offset) = 16
code_of (BadService offset) = 17
code_of (RecursiveComposite offset) = 18
code_of (Limit offset) = 19
code_of (ChannelShape offset) = 20

-- the code, and the offset where there is one
abbrev pub line_of : TypeFault → List ℕ
line_of OutOfMemory = codes "9"
line_of (UnknownName offset) = codes "10 " ++ decimal offset
line_of (DuplicateName offset) = codes "11 " ++ decimal offset
line_of (TypeMismatch offset) = codes "12 " ++ decimal offset
line_of (BadLiteral offset) = codes "13 " ++ decimal offset
line_of (NotWritable offset) = codes "14 " ++ decimal offset
line_of (BadConnection offset) = codes "15 " ++ decimal offset
line_of (TwoSources offset) = codes "16 " ++ decimal offset
line_of (BadService offset) = codes "17 " ++ decimal offset
line_of (RecursiveComposite offset) = codes "18 " ++ decimal offset
line_of (Limit offset) = codes "19 " ++ decimal offset
line_of (ChannelShape offset) = codes "20 " ++ decimal offset

-- a fault of Structured Text as one of blocks
abbrev pub fault_of : TypingFault → TypeFault
fault_of st.OutOfMemory = OutOfMemory
fault_of (st.UnknownName at) = UnknownName at
fault_of (st.TypeMismatch at) = TypeMismatch at
fault_of (st.BadLiteral at) = BadLiteral at
fault_of (st.NotWritable at) = NotWritable at
