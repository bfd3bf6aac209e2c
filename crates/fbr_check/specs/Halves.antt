-- How standard input is divided into an application and a certificate: this project's profile.
use Rattle.std.specs.Prelude.{ℕ, ◌==◌, List, [], ◌∷◌, length, drop, Bool, ◌&&◌, nat_eq, Option, Some, None, if◌then◌else◌}
use Rattle.std.specs.List.{starts_with}

-- what comes after the line that divides the two texts, where a text begins with that line
abbrev pub fence : List ℕ → Option (List ℕ)
fence t =
    if starts_with nat_eq t (61 ∷ 61 ∷ 61 ∷ 61 ∷ 10 ∷ []) then Some (drop 5 t)
    else (if starts_with nat_eq t (61 ∷ 61 ∷ 61 ∷ 61 ∷ []) && (length t == 4) then Some [] else None)

-- the rest of a division at this byte: it stays with the first text
abbrev pub before : ℕ → List ℕ × List ℕ → List ℕ × List ℕ
before b parts = (b ∷ parts.0, parts.1)

-- the dividing line is looked for where a line begins
abbrev pub fence_here : Bool → List ℕ → Option (List ℕ)
fence_here is_start t = if is_start then fence t else None

abbrev pub divided_at : Option (List ℕ) → List ℕ × List ℕ → List ℕ × List ℕ
divided_at (Some rest) parts = ([], rest)
divided_at None parts = parts

-- the text up to the first dividing line, and what comes after it; is_start tells that a line begins here
abbrev pub divide : Bool → List ℕ → List ℕ × List ℕ
divide is_start [] = ([], [])
divide is_start (b ∷ bs) = divided_at (fence_here is_start (b ∷ bs)) (before b (divide (b == 10) bs))
