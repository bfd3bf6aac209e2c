-- Ways that meet, each of which touches a few variables.
use Rattle.std.specs.Prelude.{◌≡◌, ℕ, zero, suc, ◌+◌, ◌<◌, ◌≤◌, nat_lt, false, List, Option, None, Some, if◌then◌else◌}
use Rattle.fb_model.specs.Names.{Name, is_in}
use Rattle.fb_model.specs.Spans.{Span, joined}
use Rattle.fb_model.specs.Clear.{Spans}
use Rattle.fb_model.specs.Asking.{Asked, point}

-- ranges are the same, but for those of these variables
abbrev pub Besides : List Name → Spans → Spans → Type 0
Besides xs spans others = (x : Name) → is_in x xs ≡ false → others x ≡ spans x

-- what a variable has come to: the smallest range that holds its own at the ends of ways, and how many these were with the last that touched it; nothing where none did
abbrev pub Mark : Type 0
Mark = Option (Span × ℕ)

-- its range after i ways, from the one that it has where none touches it
abbrev pub met : ℕ → Mark → Span → Span
met i None before = before
met i (Some m) before = if nat_lt m.1 i then joined m.0 before else m.0

abbrev pub ranges_after : ℕ → (Name → Mark) → Spans → Spans
ranges_after i marks before = λ x. met i (marks x) (before x)

-- a range at the end of one more way, joined to those of the i earlier ones
abbrev pub row_after : ℕ → Mark → Span → Span → Span
row_after zero m before end = end
row_after (suc i) m before end = joined (met (suc i) m before) end

-- one more way has touched these variables
abbrev pub marked : ℕ → List Name → Spans → Spans → (Name → Mark) → Name → Mark
marked i xs before ends marks x = if is_in x xs then Some (row_after i (marks x) (before x) (ends x), i + 1) else marks x

-- one of i ways was the last that touched a variable
abbrev pub Dated : ℕ → Mark → Type 0
Dated i None = Unit {0}
Dated i (Some m) = (0 < m.1) × (m.1 ≤ i)

-- the ranges at the end of one more way, joined to those after the i earlier ones
abbrev pub joint : ℕ → Spans → Spans → Spans
joint zero spans ends = ends
joint (suc i) spans ends = λ x. joined (spans x) (ends x)

-- i earlier ways with these ranges, before those that are still to be examined
abbrev pub met_by : ℕ → Spans → Asked → Asked
met_by i spans rest = point (joint i spans rest.spans) rest.rows
