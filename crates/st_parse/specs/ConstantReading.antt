-- Reading constants: a literal is one token, and a number without a type may have a sign.
use Rattle.std.specs.Prelude.{ℕ, suc, [], ◌∷◌, length, Bool, true, false, Ok, Err}
use Rattle.fb_words.specs.declared.mark.Mark.{Mark}
use Rattle.fb_words.specs.declared.mark.Mark.TheVariants as m
use Rattle.fb_model.specs.Tokens.{token, name, number, typed, duration, mark}
use Rattle.fb_model.specs.Trees.{Constant, Whole, Typed, Duration, Truth}
use Rattle.fb_read.specs.Reading.{syntax, stuck, Read}

-- a number without a type, to which this sign belongs
abbrev pub number_at : Bool → Read Constant
number_at negative [] = stuck []
number_at negative (token (number n) s e ∷ ts) = Ok (record { value = Whole negative n; at = s }, ts)
number_at negative (token other s e ∷ ts) = stuck (token other s e ∷ ts)

-- TRUE or FALSE
abbrev pub marked_at : Mark → ℕ → Read Constant
marked_at m.True s ts = Ok (record { value = Truth true; at = s }, ts)
marked_at m.False s ts = Ok (record { value = Truth false; at = s }, ts)
marked_at other s ts = Err (syntax (suc (length ts)))

-- a literal is one token
unfoldable pub literal_at : Read Constant
literal_at [] = stuck []
literal_at (token (name x) s e ∷ ts) = stuck (token (name x) s e ∷ ts)
literal_at (token (number n) s e ∷ ts) = Ok (record { value = Whole false n; at = s }, ts)
literal_at (token (typed t b n) s e ∷ ts) = Ok (record { value = Typed t b n; at = s }, ts)
literal_at (token (duration b n) s e ∷ ts) = Ok (record { value = Duration b n; at = s }, ts)
literal_at (token (mark k) s e ∷ ts) = marked_at k s ts
