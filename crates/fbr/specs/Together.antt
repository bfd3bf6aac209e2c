-- The text that several files are together: this project's profile.
use Rattle.std.specs.Prelude.{◌≡◌, ◌⊎◌, ℕ, List, [], ◌∷◌, Option}
use Rattle.fb_lex.specs.Lexing.{Refuses}
use Rattle.fb_faults.specs.declared.text.TextFault.{TextFault}
use Rattle.fb_faults.specs.declared.text.TextFault.TheVariants as texts
use Rattle.fb_faults.specs.declared.refusal.Refusal.TheVariants.{Text}
use Rattle.fbr_files.specs.declared.fault.Fault.{Fault}
use Rattle.fbr_files.specs.declared.fault.Fault.TheVariants.{Memory, Refused}
use Rattle.fbr_files.specs.Outcomes.{IsContents, IsReadFault}
use Rattle.fbr_files.specs.Writing.{Holdings}
use Rattle.fbr_texts.specs.Joining.{IsAdded, IsApplication, IsTypesFault}
use Rattle.fbr_texts.specs.Once.{Written, nothing}
use Rattle.fbr_texts.specs.Parts.{Start}

-- ---- what is joined

-- the block types are added that a file of this name holds
abbrev pub IsFileAdded : Option (List ℕ) → List ℕ → Written → Written → Type 0
IsFileAdded held name w v = (text : List ℕ) × IsContents held text × IsAdded (name, text) w v

-- so are those of several files, one behind another
abbrev pub AreFilesAdded : Holdings → List (List ℕ) → Written → Written → Type 0
AreFilesAdded before [] w v = v ≡ w
AreFilesAdded before (name ∷ names) w v = (u : Written) × IsFileAdded (before name) name w u × AreFilesAdded before names u v

-- and the application that a file of this name holds
abbrev pub IsApplicationAdded : Option (List ℕ) → List ℕ → Written → Written → Type 0
IsApplicationAdded held name w v = (text : List ℕ) × IsContents held text × IsApplication (name, text) w v

-- the text that these files are together with an application, and where in it each of them begins
pub record IsJoined (before : Holdings) (names : List (List ℕ)) (app text : List ℕ) (parts : List Start) : Type 0 where
  pub types : Written
  pub all : Written
  pub added : AreFilesAdded before names nothing types
  pub last : IsApplicationAdded (before app) app types all
  pub text_is : text ≡ all.bytes
  pub parts_are : parts ≡ all.parts

-- ---- why there is none

-- want of memory, or a refusal of a text
abbrev pub fault_of : TextFault → Fault
fault_of texts.OutOfMemory = Memory
fault_of (texts.BadCharacter at) = Refused (Text (texts.BadCharacter at))
fault_of (texts.Syntax at) = Refused (Text (texts.Syntax at))
fault_of (texts.TooDeep at) = Refused (Text (texts.TooDeep at))
fault_of texts.TooLong = Refused (Text texts.TooLong)
fault_of (texts.BigNumber at) = Refused (Text (texts.BigNumber at))

-- a file of this name was not read, or holds something else than block types
abbrev pub IsFileFault : Option (List ℕ) → List ℕ → Fault → Type 0
IsFileFault held name f = IsReadFault name f ⊎ ((text : List ℕ) × IsContents held text × ((g : TextFault) × IsTypesFault text g × (f ≡ fault_of g)))

-- it is so of one of several files, which has this name
abbrev pub IsFaultAmong : Holdings → List (List ℕ) → Fault → List ℕ → Type 0
IsFaultAmong before [] f own = ⊥
IsFaultAmong before (name ∷ names) f own = (IsFileFault (before name) name f × (own ≡ name)) ⊎ IsFaultAmong before names f own

-- the file of the application was not read, or holds no tokens; or memory ran out
abbrev pub IsOwnFault : Option (List ℕ) → List ℕ → Fault → Type 0
IsOwnFault held name f = IsReadFault name f ⊎ ((text : List ℕ) × IsContents held text × ((g : TextFault) × Refuses g text × (f ≡ fault_of g)))

-- why these files are no text together with an application, and which of them is at fault
abbrev pub IsJoinFault : Holdings → List (List ℕ) → List ℕ → Fault → List ℕ → Type 0
IsJoinFault before names app f own = IsFaultAmong before names f own ⊎ (IsOwnFault (before app) app f × (own ≡ app))
