-- The numbers of refusals, and how they are printed: this project's profile.
use Rattle.std.specs.Prelude.{ℕ, List, ◌++◌, codes}
use Rattle.std.specs.Fmt.{decimal}
use Rattle.fb_faults.specs.declared.certificate.CertFault.{CertFault}
use Rattle.fb_faults.specs.declared.certificate.CertFault.TheVariants.{OutOfMemory, TooLong, Row, DuplicateRow}

abbrev pub code_of : CertFault → ℕ
code_of OutOfMemory = 9
code_of TooLong = 4
code_of (Row line) = 30
code_of (DuplicateRow line) = 31

-- the code, and the line where there is one
abbrev pub line_of : CertFault → List ℕ
line_of OutOfMemory = codes "9"
line_of TooLong = codes "4"
line_of (Row line) = codes "30 " ++ decimal line
line_of (DuplicateRow line) = codes "31 " ++ decimal line
