-- Which file of a joined text a byte is in: this project's profile.
use Rattle.std.specs.Prelude.{ℕ, nat_le, List, [], ◌∷◌, Option, Some, None, if◌then◌else◌}
use Rattle.fbr_texts.specs.declared.meant.Part.{Part}

-- the name of a file, and where it begins
abbrev pub Start : Type 0
Start = List ℕ × ℕ

abbrev pub start_of : Part → Start
start_of p = (p.name.now, p.start)

-- the last file that does not begin behind a byte, or this one where none of them does so
abbrev pub part_in : Option Start → ℕ → List Start → Option Start
part_in best at [] = best
part_in best at (s ∷ ss) = if nat_le s.1 at then part_in (Some s) at ss else best
