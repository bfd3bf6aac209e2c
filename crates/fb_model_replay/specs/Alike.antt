-- What two runs of a device over the same calls have in common: alike answers, and what these tell of effects.
use Rattle.std.specs.Prelude.{◌≡◌, ℕ, ℤ, List, [], ◌∷◌, ◌++◌, Option, Some, None}
use Rattle.fb_model.specs.Messages.{Message}
use Rattle.fb_model.specs.Serving.{Effect, Send, Write}
use Rattle.fb_model.specs.Devices.{Denial, NoCredit, NotAMessage, Stale, Answer, Denied, Ran}

-- denials for one reason say the same of it, except which value is bad
abbrev pub Agree : Denial → Denial → Type 0
Agree (NoCredit needs free) (NoCredit more left) = (needs ≡ more) × (free ≡ left)
Agree (NotAMessage fault) (NotAMessage other) = fault ≡ other
Agree (Stale boot sequence) (Stale later last) = (boot ≡ later) × (sequence ≡ last)
Agree why other = Unit {0}

-- the same answer; or both are denials, which may name different reasons if several are true
abbrev pub IsAlike : Answer → Answer → Type 0
IsAlike (Denied why) (Denied other) = Agree why other
IsAlike a b = a ≡ b

-- answer by answer
abbrev pub AreAlike : List Answer → List Answer → Type 0
AreAlike [] [] = Unit {0}
AreAlike (a ∷ as') (b ∷ bs) = IsAlike a b × AreAlike as' bs
AreAlike [] (b ∷ bs) = ⊥
AreAlike (a ∷ as') [] = ⊥

-- what an answer tells of an effect
abbrev pub effect_in : Answer → Option Effect
effect_in (Ran cause place steps effect ended) = effect
effect_in _ = None

-- the numbers that are written to OUTPUTs, and the messages that are sent
abbrev pub written : Option Effect → List (ℕ × List ℤ)
written (Some (Write number values)) = (number, values) ∷ []
written _ = []

abbrev pub sent : Option Effect → List Message
sent (Some (Send message)) = message ∷ []
sent _ = []

-- the same over a run, in order
abbrev pub writes_in : List Answer → List (ℕ × List ℤ)
writes_in [] = []
writes_in (a ∷ as') = written (effect_in a) ++ writes_in as'

abbrev pub sends_in : List Answer → List Message
sends_in [] = []
sends_in (a ∷ as') = sent (effect_in a) ++ sends_in as'
