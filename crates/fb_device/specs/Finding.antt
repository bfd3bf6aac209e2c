-- The first of a name, by its number. Letter case has no meaning in names.
use Rattle.std.specs.Prelude.{ℕ, List, [], ◌∷◌, Option, None, Some, if◌then◌else◌}
use Rattle.fb_verified.specs.Lookups.{is_same_path}
use Rattle.fb_device_tables.specs.Tables.{later}

abbrev pub first_named : List (List ℕ) → List ℕ → Option ℕ
first_named [] name = None
first_named (x ∷ xs) name = if is_same_path x name then Some 0 else later (first_named xs name)
