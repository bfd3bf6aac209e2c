-- How many characters the text of a certificate has at least, by the rows that a system must have.
-- This project's profile.
use Rattle.std.specs.Prelude.{ℕ, suc, ◌+◌, List, [], ◌∷◌, length, Option}
use Rattle.fb_model.specs.Names.{Path, Place}
use Rattle.fb_model.specs.System.{System}
use Rattle.fb_model.specs.Certificates.{PlaceRows, Range_rows, Charge_rows, Weight_rows, Far_rows, Far_state_rows, all_leaves, required}

-- names, with a dot behind each
abbrev pub path_length : Path → ℕ
path_length [] = 0
path_length (n ∷ ns) = suc (length n) + path_length ns

-- a place as it is written
abbrev pub place_length : Place → ℕ
place_length p = path_length p.path + length p.event

-- the least that a row of a kind has beside its place: its word, a digit for each number, the spaces between these, and the end of the line
abbrev pub beside : PlaceRows → ℕ
beside Range_rows = 11
beside Charge_rows = 12
beside Weight_rows = 12
beside Far_rows = 7
beside Far_state_rows = 12

-- rows of a kind with these places
abbrev pub rows_length : PlaceRows → List Place → ℕ
rows_length kind [] = 0
rows_length kind (p ∷ ps) = (beside kind + place_length p) + rows_length kind ps

-- rows of all kinds, by their places
abbrev pub all_length : (PlaceRows → List Place) → ℕ
all_length places =
    rows_length Range_rows (places Range_rows)
    + (rows_length Charge_rows (places Charge_rows)
    + (rows_length Weight_rows (places Weight_rows) + (rows_length Far_rows (places Far_rows) + rows_length Far_state_rows (places Far_state_rows))))

-- the rows that a system must have, without its rows DEPTH and CHANNEL
abbrev pub least_length : Option ℕ → System → ℕ
least_length repeats s = all_length (λ kind. required kind repeats (all_leaves s.devices))
