-- How a stream is read, a line at a time. This project's profile.
use Rattle.std.specs.Prelude.{◌≡◌, ◌==◌, ℕ, ◌<◌, false, List, [], ◌∷◌, ◌++◌, length, Option}
use Rattle.std.specs.List.{AllByRecursion}
use Rattle.std.specs.Io.KnownBytes.{Consumes, IsAtEnd}
use Rattle.fbr_lines.specs.declared.reading.Given.{Given}
use Rattle.fbr_lines.specs.declared.reading.Given.TheVariants.{Byte, End as Over, Failed as Broken}
use Rattle.fbr_lines.specs.declared.reading.Next.{Next}
use Rattle.fbr_lines.specs.declared.reading.Next.TheVariants.{Whole, Last, End, TooLong, Memory, Failed}

-- a byte was read, or there was none
abbrev pub IsGiven : Option (List ℕ) → Option (List ℕ) → Given → Type 0
IsGiven old new (Byte b) = Consumes old new (b ∷ [])
IsGiven old new Over = Consumes old new [] × IsAtEnd new
IsGiven old new Broken = Unit {0}

-- no byte is a line feed
abbrev pub IsUnbroken : List ℕ → Type 0
IsUnbroken line = AllByRecursion (λ b. (b == 10) ≡ false) line

-- a line is read, and the line feed behind it
pub record TakesLine (old new : Option (List ℕ)) (line : List ℕ) : Type 0 where
  pub consumed : Consumes old new (line ++ 10 ∷ [])
  pub unbroken : IsUnbroken line

-- all that is left is read, which is a line without a line feed
pub record TakesLast (old new : Option (List ℕ)) (line : List ℕ) : Type 0 where
  pub consumed : Consumes old new line
  pub unbroken : IsUnbroken line
  pub some : 0 < length line
  pub ended : IsAtEnd new

-- a line is so long that it is not read
pub record TakesPart (most : ℕ) (old new : Option (List ℕ)) (line : List ℕ) : Type 0 where
  pub consumed : Consumes old new line
  pub unbroken : IsUnbroken line
  pub long : length line ≡ most

-- what there was to be read, where a line has so many bytes at most, its line feed counted
abbrev pub IsNext : ℕ → Option (List ℕ) → Option (List ℕ) → List ℕ → Next → Type 0
IsNext most old new line Whole = TakesLine old new line
IsNext most old new line Last = TakesLast old new line
IsNext most old new line End = Consumes old new [] × IsAtEnd new
IsNext most old new line TooLong = TakesPart most old new line
IsNext most old new line Memory = Unit {0}
IsNext most old new line Failed = Unit {0}
