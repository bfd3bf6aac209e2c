-- What a line of a script says: this project's profile.
use Rattle.std.specs.Prelude.{ℕ, ◌==◌, ℤ, ◌&&◌, ◌||◌, Bool, List, [], ◌∷◌, length, codes, Option, Some, None, if◌then◌else◌}
use Rattle.std.specs.Str.{bytes_eq}
use Rattle.fb_numbers.specs.Numbers.{number_in, wide_number_in, value_in}

pub data Command : Type 0 where
  Offer : (device : List ℕ) (number : ℕ) (values : List ℤ) → Command
  -- a datagram that was sent, by its number, to a device
  Deliver : (number : ℕ) (device : List ℕ) → Command
  Tick : (device : List ℕ) (now : ℕ) → Command
  Dispatch : (device resource : List ℕ) → Command
  -- the steps of a root so far
  Root : (number : ℕ) → Command

-- ---- values

abbrev pub before : Option ℤ → Option (List ℤ) → Option (List ℤ)
before (Some v) (Some vs) = Some (v ∷ vs)
before None vs = None
before (Some v) None = None

-- each of the words is a value
abbrev pub values_in : List (List ℕ) → Option (List ℤ)
values_in [] = Some []
values_in (w ∷ ws) = before (value_in w) (values_in ws)

-- ---- commands

abbrev pub offered : List ℕ → Option ℕ → Option (List ℤ) → Option Command
offered device (Some number) (Some values) = Some (Offer device number values)
offered device None values = None
offered device (Some number) None = None

abbrev pub delivered : Option ℕ → List ℕ → Option Command
delivered (Some number) device = Some (Deliver number device)
delivered None device = None

abbrev pub ticked : List ℕ → Option ℕ → Option Command
ticked device (Some now) = Some (Tick device now)
ticked device None = None

abbrev pub rooted : Option ℕ → Option Command
rooted (Some number) = Some (Root number)
rooted None = None

-- `offer DEVICE NUMBER VALUES`, `deliver NUMBER DEVICE`, `tick DEVICE NOW`, and `dispatch DEVICE RESOURCE`
abbrev pub command_by : List ℕ → List ℕ → List ℕ → List (List ℕ) → Option Command
command_by word second third rest =
    if bytes_eq word (codes "offer") then offered second (number_in third) (values_in rest)
    else (if bytes_eq word (codes "deliver") && length rest == 0 then delivered (wide_number_in second) third
    else (if bytes_eq word (codes "tick") && length rest == 0 then ticked second (wide_number_in third)
    else (if bytes_eq word (codes "dispatch") && length rest == 0 then Some (Dispatch second third) else None)))

-- the command that the words of a line are; two words are `root NUMBER`
abbrev pub command_in : List (List ℕ) → Option Command
command_in (word ∷ second ∷ []) = if bytes_eq word (codes "root") then rooted (wide_number_in second) else None
command_in (word ∷ second ∷ third ∷ rest) = command_by word second third rest
command_in ws = None

-- whether a word is one of the five that commands begin with
abbrev pub is_verb : List ℕ → Bool
is_verb word =
    bytes_eq word (codes "offer") || bytes_eq word (codes "deliver") || bytes_eq word (codes "tick") || bytes_eq word (codes "dispatch") || bytes_eq word (codes "root")
