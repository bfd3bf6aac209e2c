-- Lines that wait to be written. This project's profile.
use Rattle.std.specs.Prelude.{ℕ, ◌+◌, List, ◌++◌, length, min, nat_le, if◌then◌else◌}

-- the bytes of the lines that wait, for how many there is room, and how many lines were lost
pub record Waiting : Type 0 where
  pub bytes : List ℕ
  pub room : ℕ
  pub lost : ℕ

-- a line stands behind the others where there is room for all of it, and is lost where there is not
abbrev pub after_put : Waiting → List ℕ → Waiting
after_put w line =
    if nat_le (length w.bytes + length line) w.room then record w { bytes = w.bytes ++ line }
    else record w { lost = min (w.lost + 1) 18446744073709551615 }
