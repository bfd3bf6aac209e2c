-- What `bound` is asked for and what answers it: this project's profile.
use Rattle.std.specs.Prelude.{◌≡◌, ◌≤◌, ◌<◌, ◌⊎◌, ℕ, List, length, Option, Some, None, Result, Ok, Err}
use Rattle.fb_model.specs.Declarations.{SourceTree}
use Rattle.fb_model.specs.EventBlocks.{Elaborates}
use Rattle.fb_model.specs.Spelling.{text_limit}
use Rattle.fb_model.specs.System.{System}
use Rattle.fb_model.specs.Certificates as book
use Rattle.fb_model.specs.Certificates.{Fits}
use Rattle.fb_model.specs.CertificateText.{Spells, most_characters}
use Rattle.fb_model_lengths.specs.Lengths.{least_length}
use Rattle.fb_model.specs.Sources.{IsSource}
use Rattle.fb_types.specs.declared.typed.Configuration.{Configuration}
use Rattle.fb_types.specs.Views.{system_of}
use Rattle.fb_faults.specs.declared.certificate.CertFault.TheVariants.{TooLong}
use Rattle.fb_cert.specs.Views.{Rows, book_of}
use Rattle.fb_cert.specs.Printed.{printed}
use Rattle.fb_verdict.specs.Verdicts.{IsTypedOf}
use Rattle.fb_model.specs.Verdicts.{IsTextFault, IsCertificateFault}
use Rattle.fb_faults.specs.declared.refusal.Refusal.TheVariants as refusals
use Rattle.fb_find.specs.Bounds.{RowsStand}
use Rattle.fb_model.specs.Finding.{IsNoBound}
use Rattle.fb_model.specs.Finding.{IsFound}
use Rattle.fb_faults.specs.declared.no_bound.NoBound.{NoBound}
use Rattle.fb_faults.specs.declared.no_bound.NoBound.TheVariants.{OutOfMemory, Cycle, NoRange, Limit}
use Rattle.fb_find_room.specs.Room.{roomy_rows}
use Rattle.fb_find_search.specs.Searching.{IsFoundSomehow, IsSearched, IsNoBoundKeeping}
use Rattle.fbr_files.specs.declared.fault.Fault.{Fault}
use Rattle.fbr_files.specs.declared.fault.Fault.TheVariants.{Memory, File, Refused, Unbound}
use Rattle.fbr_files.specs.Outcomes.{IsContents, IsReadFault}
use Rattle.fbr_files.specs.Reading.{IsFile, held_by}
use Rattle.fbr_files.specs.Writing.{Holdings}
use Rattle.fbr_words.specs.Program.{Sought}
use Rattle.fbr_find.specs.declared.wanted.RangesFrom.{RangesFrom}
use Rattle.fbr_find.specs.declared.wanted.RangesFrom.TheVariants.{Rounds, Searched, Within}
use Rattle.fbr_find.specs.declared.wanted.Wanted.{Wanted}

-- ---- what was read

-- the ranges are those that are asked for, and a file that is named for them was read
abbrev pub AreRangesRead : Option (Option (List ℕ)) → Holdings → RangesFrom → Type 0
AreRangesRead asked files Rounds = asked ≡ None
AreRangesRead asked files Searched = asked ≡ Some None
AreRangesRead asked files (Within file) = (name : List ℕ) × (asked ≡ Some (Some name)) × IsFile name (files name) file

-- it is what is asked for, and its files were read
pub record IsReadFor (q : Sought) (files : Holdings) (w : Wanted) : Type 0 where
  pub app : IsFile q.app (held_by q.meant (files q.app)) w.app
  pub ranges : AreRangesRead q.ranges files w.ranges
  pub repeats : q.repeats ≡ w.repeats
  pub room : q.room ≡ w.room

-- ---- certificates

-- a file holds these rows
abbrev pub HoldsRows : Option (List ℕ) → Rows → Type 0
HoldsRows held rows = (text : List ℕ) × IsContents held text × Spells text (book_of rows)

-- the rows are those of a certificate of a system with the ranges that are asked for, whose other numbers are the least for them: the finder's own; these, unless
-- something is not clear under them; or such as keep the rows RANGE of a file
abbrev pub IsFoundBy : Option (Option (List ℕ)) → Option ℕ → Holdings → System → Rows → Type 0
IsFoundBy None repeats files system rows = IsFound repeats system (book_of rows)
IsFoundBy (Some None) repeats files system rows = IsFoundSomehow repeats system (book_of rows) × IsSearched repeats system (book_of rows)
IsFoundBy (Some (Some name)) repeats files system rows = IsFoundSomehow repeats system (book_of rows) × ((given : Rows) × HoldsRows (files name) given × RowsStand given rows)

-- the rows with the room that is asked for
abbrev pub with_room : Option ℕ → System → Rows → Rows
with_room None system rows = rows
with_room (Some times) system rows = roomy_rows times system.devices rows

-- ---- texts

-- the text is that of such a certificate of a system, with that room
pub record IsTextOf (q : Sought) (files : Holdings) (system : System) (text : List ℕ) : Type 0 where
  pub rows : Rows
  pub found : IsFoundBy q.ranges q.repeats files system rows
  pub printed_is : text ≡ printed (with_room q.room system rows)
  pub spelled : Spells text (book_of (with_room q.room system rows))

-- the text that is asked for of an application's text
pub record IsTextAsked (q : Sought) (files : Holdings) (app text : List ℕ) : Type 0 where
  pub typed : Configuration
  pub typed_is : IsTypedOf app typed
  pub short : length app ≤ text_limit
  pub text_is : IsTextOf q files (system_of typed) text

-- an application's text within the limit, and the text of a certificate that fits it
pub record IsFitting (app text : List ℕ) : Type 0 where
  pub source : SourceTree
  pub system : System
  pub rows : book.Certificate
  pub within : length app ≤ text_limit
  pub source_is : IsSource app source
  pub typed : Elaborates source system
  pub spelled : Spells text rows
  pub fits : Fits system rows

-- both are within the limits: the checker accepts them, unless memory runs out
pub record IsAccepted (app text : List ℕ) : Type 0 where
  pub fitting : IsFitting app text
  pub short : length text ≤ most_characters

-- what answers
abbrev pub IsSoughtText : Sought → Holdings → List ℕ → Type 0
IsSoughtText q files text = (app : List ℕ) × IsContents (held_by q.meant (files q.app)) app × IsTextAsked q files app text × IsAccepted app text

-- ---- faults

-- the finder's answer, with its refusal as a fault
abbrev pub fault_of : NoBound → Fault
fault_of OutOfMemory = Memory
fault_of (Cycle places) = Unbound (Cycle places)
fault_of (NoRange path) = Unbound (NoRange path)
fault_of (Limit resource) = Unbound (Limit resource)

abbrev pub bound_in : {X : Type 0} → Result X NoBound → Result X Fault
bound_in (Ok certificate) = Ok certificate
bound_in (Err fault) = Err (fault_of fault)

-- want of memory, or why there is no certificate of the system
abbrev pub IsUnbound : Option ℕ → System → Fault → Type 0
IsUnbound repeats system Memory = Unit {0}
IsUnbound repeats system (Unbound fault) = IsNoBound repeats system fault
IsUnbound repeats system other = ⊥

-- want of memory, or a fault of an application's text
abbrev pub IsTypedFault : List ℕ → Fault → Type 0
IsTypedFault app Memory = Unit {0}
IsTypedFault app (Refused refusal) = IsTextFault app refusal
IsTypedFault app other = ⊥

-- a file of this name was not read, or what it holds is no text of a certificate
abbrev pub IsGivenFault : List ℕ → Option (List ℕ) → Fault → Type 0
IsGivenFault name held Memory = Unit {0}
IsGivenFault name held (File one) = one.now ≡ name
IsGivenFault name held (Refused f) = (cert : List ℕ) × IsContents held cert × IsCertificateFault cert f
IsGivenFault name held other = ⊥

-- want of memory, or why there is no certificate of a system that keeps these rows
abbrev pub IsUnboundKeeping : Rows → Option ℕ → System → Fault → Type 0
IsUnboundKeeping given repeats system Memory = Unit {0}
IsUnboundKeeping given repeats system (Unbound f) = IsNoBoundKeeping given repeats system f
IsUnboundKeeping given repeats system other = ⊥

-- the file of this name is at fault, or this is why there is none that keeps the rows that it holds
abbrev pub IsKeptFault : List ℕ → Option (List ℕ) → Option ℕ → System → Fault → Type 0
IsKeptFault name held repeats system f = IsGivenFault name held f ⊎ ((given : Rows) × HoldsRows held given × IsUnboundKeeping given repeats system f)

-- why there is none of a system: with the finder's ranges, or where a file is named for ranges, with its rows
abbrev pub IsRangesFault : Option (Option (List ℕ)) → Option ℕ → Holdings → System → Fault → Type 0
IsRangesFault None repeats files system f = IsUnbound repeats system f
IsRangesFault (Some None) repeats files system f = IsUnbound repeats system f
IsRangesFault (Some (Some name)) repeats files system f = IsKeptFault name (files name) repeats system f

-- the text is too long for a certificate
abbrev pub IsLengthFault : List ℕ → Fault → Type 0
IsLengthFault text f = (f ≡ Refused (refusals.Certificate TooLong)) × (most_characters < length text)

-- why there is no text of a system: the rows that it must have are longer than a text may be; and if they are not, there is no certificate
pub data IsSystemFault (q : Sought) (files : Holdings) (s : System) (f : Fault) : Type 0 where
  of_rows : most_characters < least_length q.repeats s → f ≡ Refused (refusals.Certificate TooLong) → IsSystemFault q files s f
  of_ranges : least_length q.repeats s ≤ most_characters → IsRangesFault q.ranges q.repeats files s f → IsSystemFault q files s f

-- why there is no text: the application's is at fault, there is none of its system, or it is too long
pub data IsTextFaultAsked (q : Sought) (files : Holdings) (app : List ℕ) (f : Fault) : Type 0 where
  of_application : IsTypedFault app f → IsTextFaultAsked q files app f
  of_system : (typed : Configuration) → IsTypedOf app typed → IsSystemFault q files (system_of typed) f → IsTextFaultAsked q files app f
  of_length : (text : List ℕ) → IsTextAsked q files app text → IsLengthFault text f → IsTextFaultAsked q files app f

-- the application's file was not read, or what it holds is at fault so
abbrev pub IsSoughtFault : Sought → Holdings → Fault → Type 0
IsSoughtFault q files f = IsReadFault q.app f ⊎ ((app : List ℕ) × IsContents (held_by q.meant (files q.app)) app × IsTextFaultAsked q files app f)
