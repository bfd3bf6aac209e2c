-- What the values of the code say.
use Rattle.std.specs.Prelude.{ℕ, ◌≡◌, ◌<◌, ◌≤◌, List, length, map, slice_index}
use Rattle.std.specs.List.{All}
use Rattle.std.specs.declared.vec.Vec.{Vec}
use Rattle.std.specs.Global.{Global}
use Rattle.fb_find_graph.specs.declared.system.Alternative.{Alternative}
use Rattle.fb_find_graph.specs.declared.system.Solved.{Solved}
use Rattle.fb_find_graph.specs.declared.system.Solved.TheVariants.{Numbers, Above}
use Rattle.fb_find_graph.specs.Systems.{Inequality, System, IsLeast}

abbrev pub inequality_of : Alternative → Inequality
inequality_of a = record { constant = a.constant; terms = a.terms.items }

abbrev pub system_of : List (Vec Alternative Global) → System
system_of places = map (λ v. map inequality_of v.items) places

-- the least numbers, each within the limit, or a place whose least number is above it
abbrev pub IsSolved : System → ℕ → Solved → Type 0
IsSolved system limit (Numbers v) = (length v.items ≡ length system) × All (λ n. n ≤ limit) v.items × IsLeast system (slice_index v.items)
IsSolved system limit (Above p) = (x : ℕ → ℕ) × IsLeast system x × (limit < x p)
