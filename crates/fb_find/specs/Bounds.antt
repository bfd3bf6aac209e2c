-- Why there is no certificate of a system with the finder's ranges, or with others, in the book's terms.
use Rattle.std.specs.Prelude.{ℕ, ◌≡◌, ◌⊎◌, List, Option, None, Some, string_bytes}
use Rattle.std.specs.List.{AllByRecursion, Any}
use Rattle.std.specs.declared.string.String.{String}
use Rattle.std.specs.declared.alloc.Global.{Global}
use Rattle.fb_model.specs.Names.{Name}
use Rattle.fb_model.specs.System.{System}
use Rattle.fb_model.specs.Ranges.{Range}
use Rattle.fb_model.specs.Spans.{Span}
use Rattle.fb_cert.specs.Views.{book_of, first_at, range_rows, Rows}
use Rattle.fb_model.specs.Certificates.{all_leaves}
use Rattle.fb_model.specs.CertificateText.{most_steps}
use Rattle.fb_model.specs.Columns.{network_demands}
use Rattle.fb_model.specs.Finding.{IsNoBoundWith, IsUnclearPath}
use Rattle.fb_model.specs.Finding.{AreTaken, IsFoundWithin}
use Rattle.fb_faults.specs.declared.no_bound.NoBound.{NoBound}
use Rattle.fb_faults.specs.declared.no_bound.NoBound.TheVariants.{OutOfMemory, Cycle, NoRange, Limit}
use Rattle.fb_find_demands.specs.declared.numbered.Numbering.{Numbering}
use Rattle.fb_find.specs.Columns as columns

-- a row RANGE, its path and its range, stands in a certificate
abbrev pub Stands : Rows → Name × Span → Type 0
Stands rows r = first_at r.0 rows.ranges ≡ Some r.1

-- each row RANGE of the first stands in the second
abbrev pub RowsStand : Rows → Rows → Type 0
RowsStand given rows = AllByRecursion (Stands rows) given.ranges

-- this one does not
abbrev pub IsStray : Rows → Rows → Name → Type 0
IsStray given rows path = Any (λ r. (r.0 ≡ path) × (Stands rows r → ⊥)) given.ranges

-- want of memory, or one that does not
abbrev pub IsStrayFault : Rows → Rows → NoBound → Type 0
IsStrayFault given rows OutOfMemory = Unit {0}
IsStrayFault given rows (Cycle places) = ⊥
IsStrayFault given rows (NoRange path) = IsStray given rows (string_bytes path)
IsStrayFault given rows (Limit resource) = ⊥

-- with ranges that are taken from a certificate: a path at fault is that of a row RANGE of it that the certificate with these ranges has not, or something is unclear there
abbrev pub IsPathWithin : Rows → Option ℕ → System → String Global → Type 0
IsPathWithin given repeats s path =
    ((rows : Rows) × IsFoundWithin (range_rows given.ranges) repeats s (book_of rows) × IsStray given rows (string_bytes path)) ⊎ ((ranges : List Range) × AreTaken (range_rows given.ranges) s.devices ranges × IsUnclearPath ranges s path)

abbrev pub IsNoBoundWithin : Rows → Option ℕ → System → NoBound → Type 0
IsNoBoundWithin given repeats s fault = IsNoBoundWith (AreTaken (range_rows given.ranges) s.devices) (IsPathWithin given repeats s) repeats s fault

-- ---- the network alone

-- a number of the network is above the limit
abbrev pub IsFarFault : Option ℕ → Numbering → System → List Range → NoBound → Type 0
IsFarFault None n s ranges f = f ≡ OutOfMemory
IsFarFault (Some r) n s ranges f = columns.IsPastFault n (network_demands r ranges (all_leaves s.devices)) most_steps f
