-- Why a text is no certificate.
use Rattle.std.specs.Prelude.{ℕ, ◌<◌, ◌≤◌, List, length}
use Rattle.fb_model.specs.CertificateText.{IsWrong, IsRepeated, most_characters}
use Rattle.fb_faults.specs.declared.certificate.CertFault.{CertFault}
use Rattle.fb_faults.specs.declared.certificate.CertFault.TheVariants.{OutOfMemory, TooLong, Row, DuplicateRow}

-- the fault is the text's first
abbrev pub Faulty : List ℕ → CertFault → Type 0
Faulty text OutOfMemory = ⊥
Faulty text TooLong = most_characters < length text
Faulty text (Row line) = (length text ≤ most_characters) × IsWrong text line
Faulty text (DuplicateRow line) = (length text ≤ most_characters) × IsRepeated text line

-- what is told is the text's first fault, unless memory ran out
abbrev pub Refuses : List ℕ → CertFault → Type 0
Refuses text OutOfMemory = Unit {0}
Refuses text TooLong = Faulty text TooLong
Refuses text (Row line) = Faulty text (Row line)
Refuses text (DuplicateRow line) = Faulty text (DuplicateRow line)
