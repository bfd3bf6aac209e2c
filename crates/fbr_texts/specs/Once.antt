-- How texts are written one behind another, so that a declaration counts once: this project's profile.
use Rattle.std.specs.Prelude.{ℕ, ◌-◌, ◌==◌, nat_le, ◌&&◌, Bool, false, true, List, [], ◌∷◌, ◌++◌, map, length, take, drop, if◌then◌else◌}
use Rattle.std.specs.Str.{bytes_eq}
use Rattle.fbr_texts.specs.declared.joining.Joining.{Joining}
use Rattle.fbr_texts.specs.Fronts.{Span}
use Rattle.fbr_texts.specs.Parts.{Start, start_of}

-- the bytes that are written, the declarations that stand in them, and where each file begins
pub record Written : Type 0 where
  pub bytes : List ℕ
  pub seen : List (List ℕ)
  pub parts : List Start

abbrev pub written_of : Joining → Written
written_of w = record { bytes = w.bytes.items; seen = map (λ own. own.items) w.seen.items; parts = map start_of w.parts.items }

abbrev pub nothing : Written
nothing = record { bytes = []; seen = []; parts = [] }

-- the bytes of a text from one to before another; none where it has not so many
abbrev pub between : List ℕ → ℕ → ℕ → List ℕ
between text from to = if nat_le from to && nat_le to (length text) then take (to - from) (drop from text) else []

-- a byte that counts for nothing is a space, and a line's end stays one
abbrev pub blank : ℕ → ℕ
blank b = if b == 10 then 10 else 32

abbrev pub blanked : List ℕ → List ℕ
blanked own = map blank own

abbrev pub is_among : List ℕ → List (List ℕ) → Bool
is_among own [] = false
is_among own (other ∷ others) = if bytes_eq other own then true else is_among own others

abbrev pub put : List ℕ → Written → Written
put own w = record { bytes = w.bytes ++ own; seen = w.seen; parts = w.parts }

-- a declaration stands once, and blanks where it would stand again
abbrev pub declared : List ℕ → Written → Written
declared own w =
    if is_among own w.seen then put (blanked own) w
    else record { bytes = w.bytes ++ own; seen = w.seen ++ own ∷ []; parts = w.parts }

-- a text from a byte on, with its declarations from there on, and blanks from where it ends for the application
abbrev pub put_text : List ℕ → ℕ → ℕ → List Span → Written → Written
put_text text end at [] w = put (blanked (between text end (length text))) (put (between text at end) w)
put_text text end at (s ∷ ss) w = put_text text end s.1 ss (declared (between text s.0 s.1) (put (between text at s.0) w))

-- a file begins
abbrev pub begun : List ℕ → Written → Written
begun name w = record { bytes = w.bytes; seen = w.seen; parts = w.parts ++ (name, length w.bytes) ∷ [] }

-- a line ends
abbrev pub ended : Written → Written
ended w = put (10 ∷ []) w
