-- The numbers of refusals, and how they are printed: this project's profile.
use Rattle.std.specs.Prelude.{ℕ, List, [], ◌∷◌, ◌++◌, flat_map, codes, string_bytes}
use Rattle.fb_faults.specs.declared.no_bound.NoBound.{NoBound}
use Rattle.fb_faults.specs.declared.no_bound.NoBound.TheVariants.{OutOfMemory, Cycle, NoRange, Limit}
use Rattle.fb_faults.specs.declared.place.Place.{Place}
use Rattle.fb_faults.specs.Places.{path_in}

abbrev pub code_of : NoBound → ℕ
code_of OutOfMemory = 9
code_of (Cycle places) = 43
code_of (NoRange path) = 44
code_of (Limit resource) = 19

-- places, each behind a space
abbrev pub walk_text : List Place → List ℕ
walk_text places = flat_map (λ p. codes " " ++ path_in p) places

-- the code, and the place or places, where there are some
abbrev pub line_of : NoBound → List ℕ
line_of OutOfMemory = codes "9"
line_of (Cycle places) = codes "43" ++ walk_text places.items
line_of (NoRange path) = codes "44 " ++ string_bytes path
line_of (Limit resource) = codes "19 " ++ string_bytes resource
