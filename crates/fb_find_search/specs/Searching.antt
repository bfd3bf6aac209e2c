-- What is said of certificates whose ranges were proposed.
use Rattle.std.specs.Prelude.{ℕ, ◌≡◌, ◌++◌, ◌⊎◌, true, List, Option, None}
use Rattle.std.specs.List.{AllByRecursion, list_any}
use Rattle.std.specs.declared.string.String.{String}
use Rattle.std.specs.declared.alloc.Global.{Global}
use Rattle.fb_model.specs.Names.{Name, place_eq}
use Rattle.fb_model.specs.System.{System}
use Rattle.fb_model.specs.Certificates.{Certificate, Range_rows, all_leaves, required}
use Rattle.fb_model.specs.CertificateText.{place_of}
use Rattle.fb_model.specs.Spans.{Span}
use Rattle.fb_cert.specs.Views.{Rows, Table}
use Rattle.fb_model.specs.Finding.{IsFound, IsFoundWith}
use Rattle.fb_faults.specs.declared.no_bound.NoBound.{NoBound}
use Rattle.fb_faults.specs.declared.no_bound.NoBound.TheVariants.{OutOfMemory, Cycle, NoRange, Limit}
use Rattle.fb_find.specs.Bounds.{IsNoBoundWithin}
use Rattle.fb_model.specs.Finding.{IsNoBound}

-- whatever its ranges are, it fits, and its other numbers are the least for these
abbrev pub IsFoundSomehow : Option ℕ → System → Certificate → Type 0
IsFoundSomehow repeats system cert = IsFoundWith (λ ranges. Unit {0}) repeats system cert

-- it is one with the finder's own ranges, or something is not clear under these
abbrev pub IsSearched : Option ℕ → System → Certificate → Type 0
IsSearched repeats system cert = IsFound repeats system cert ⊎ ((path : String Global) × IsNoBound repeats system (NoRange path))

-- a certificate of the system must have a row RANGE of this path
abbrev pub IsRanged : System → Name → Type 0
IsRanged s path = list_any (place_eq (place_of path)) (required Range_rows None (all_leaves s.devices)) ≡ true

-- the rows RANGE of the second are those of the first, and then others whose paths are so
abbrev pub AreFirstOf : (Name → Type 0) → Rows → Rows → Type 0
AreFirstOf Is given rows = (more : Table Span) × (rows.ranges ≡ given.ranges ++ more) × AllByRecursion (λ r. Is r.0) more

-- why there is none within rows of which the first are those that are given, and the others are of variables of the system
abbrev pub IsNoBoundKeeping : Rows → Option ℕ → System → NoBound → Type 0
IsNoBoundKeeping given repeats s fault = (rows : Rows) × AreFirstOf (IsRanged s) given rows × IsNoBoundWithin rows repeats s fault

-- want of memory, or the same path
abbrev pub IsStill : String Global → NoBound → Type 0
IsStill path OutOfMemory = Unit {0}
IsStill path (Cycle places) = ⊥
IsStill path (NoRange other) = other ≡ path
IsStill path (Limit resource) = ⊥
