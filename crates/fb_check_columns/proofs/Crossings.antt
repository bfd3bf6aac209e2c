-- The greatest need of crossings without an event bounds each of them.
use Rattle.std.proofs.Common.{◌≡◌, ◌≤◌, ◌+◌, ℕ, List, [], ◌∷◌, Option, None, Some, refl, string_bytes, arith}
use Rattle.std.specs.Prelude.{max}
use Rattle.std.specs.List.{AllByRecursion}
use Rattle.std.specs.declared.string.String.{String}
use Rattle.std.specs.declared.alloc.Global.{Global}
use Rattle.fb_model.specs.Names.{Name}
use Rattle.fb_types_blocks.specs.declared.typed.Transition.{Transition}
use Rattle.fb_check_columns.specs.declared.column.Column.{Column}
use Rattle.fb_check_columns.specs.Columns.{unit_of, crossing_need}
use Rattle.fb_check_columns.specs.Sums.{greater}
use Rattle.fb_check_columns.specs.Reckoning.{free_next, most_free}

max_split : (u a b row : ℕ) → u + u + max a b ≤ row → (u + u + a ≤ row) × (u + u + b ≤ row)
max_split u a b row h = (omega arith, omega arith)

max_join : (u a b row : ℕ) → u + u + a ≤ row → u + u + b ≤ row → u + u + max a b ≤ row
max_join u a b row h k = omega arith

none_is_least : (row : ℕ) → 0 ≤ row
none_is_least row = omega arith

greater_split : (c : Column) (a b : Option ℕ) (row : ℕ) → crossing_need c (greater a b) ≤ row → (crossing_need c a ≤ row) × (crossing_need c b ≤ row)
greater_split c None b row h = (none_is_least row, h)
greater_split c (Some a) None row h = (h, none_is_least row)
greater_split c (Some a) (Some b) row h = max_split (unit_of c) a b row h

greater_join : (c : Column) (a b : Option ℕ) (row : ℕ) → crossing_need c a ≤ row → crossing_need c b ≤ row → crossing_need c (greater a b) ≤ row
greater_join c None b row h k = k
greater_join c (Some a) None row h k = h
greater_join c (Some a) (Some b) row h k = max_join (unit_of c) a b row h k

-- this row pays for a transition, if that has no event
abbrev pub PaysFree : Column → (Name → ℕ) → ℕ → Transition → Type 0
PaysFree c charge row t = t.event ≡ None → crossing_need c (Some (charge (string_bytes t.target))) ≤ row

next_split : (c : Column) (n : ℕ) (row : ℕ) (o : Option (String Global)) → crossing_need c (elim o [ None ↦ Some n | Some e ↦ None ]) ≤ row → o ≡ None → crossing_need c (Some n) ≤ row
next_split c n row None h e = h
next_split c n row (Some x) h e = absurd cc

next_join : (c : Column) (n : ℕ) (row : ℕ) (o : Option (String Global)) → (o ≡ None → crossing_need c (Some n) ≤ row) → crossing_need c (elim o [ None ↦ Some n | Some e ↦ None ]) ≤ row
next_join c n row None h = h refl
next_join c n row (Some x) h = none_is_least row

most_split : (c : Column) (charge : Name → ℕ) (row : ℕ) (most : Option ℕ) (ts : List Transition) → crossing_need c (most_free charge most ts) ≤ row → (crossing_need c most ≤ row) × AllByRecursion (PaysFree c charge row) ts
most_split c charge row most [] h = (h, tt)
most_split c charge row most (t ∷ ts) h =
    let k = most_split c charge row (greater most (free_next charge t)) ts h in
    let g = greater_split c most (free_next charge t) row k.0 in
    (g.0, (next_split c (charge (string_bytes t.target)) row t.event g.1, k.1))

most_join : (c : Column) (charge : Name → ℕ) (row : ℕ) (most : Option ℕ) (ts : List Transition) → crossing_need c most ≤ row → AllByRecursion (PaysFree c charge row) ts → crossing_need c (most_free charge most ts) ≤ row
most_join c charge row most [] h k = h
most_join c charge row most (t ∷ ts) h k =
    most_join c charge row (greater most (free_next charge t)) ts (greater_join c most (free_next charge t) row h (next_join c (charge (string_bytes t.target)) row t.event k.0)) k.1

pub each_within : (c : Column) (charge : Name → ℕ) (row : ℕ) (ts : List Transition) → crossing_need c (most_free charge None ts) ≤ row → AllByRecursion (PaysFree c charge row) ts
each_within c charge row ts h = (most_split c charge row None ts h).1

pub most_within : (c : Column) (charge : Name → ℕ) (row : ℕ) (ts : List Transition) → AllByRecursion (PaysFree c charge row) ts → crossing_need c (most_free charge None ts) ≤ row
most_within c charge row ts h = most_join c charge row None ts (none_is_least row) h
