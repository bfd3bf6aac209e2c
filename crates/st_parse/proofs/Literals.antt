-- Reading literals does not nest, and does not hang on what stands behind them.
use Rattle.std.proofs.Common.{◌≡◌, ℕ, ◌⊎◌, Bool, true, false, List, [], ◌∷◌, Ok, refl, arith, inl, inr}
use Rattle.fb_words.specs.declared.mark.Mark.{Mark}
use Rattle.fb_words.specs.declared.mark.Mark.TheVariants as m
use Rattle.fb_model.specs.Tokens.{Token, token, name, number, typed, duration, mark}
use Rattle.fb_model.specs.Trees.{Constant, Whole, Typed, Duration, Truth}
use Rattle.fb_read.specs.Reading.{Read}
use Rattle.fb_read.proofs.Readers.{Shallow}
use Rattle.fb_read.proofs.Steady.{Steady, Takes, Stops, steady_done, steady_head}
use Rattle.st_parse.specs.ConstantReading.{number_at, marked_at, literal_at}

-- ---- nothing nests

pub number_shallow : (b : Bool) → Shallow (number_at b)
number_shallow b [] = tt
number_shallow b (token (name x) s e ∷ ts) = tt
number_shallow b (token (number n) s e ∷ ts) = tt
number_shallow b (token (typed t c n) s e ∷ ts) = tt
number_shallow b (token (duration c n) s e ∷ ts) = tt
number_shallow b (token (mark k) s e ∷ ts) = tt

marked_shallow : (k : Mark) (s : ℕ) → Shallow (marked_at k s)
marked_shallow m.True s ts = tt
marked_shallow m.False s ts = tt
marked_shallow other s ts = tt

pub literal_shallow : Shallow literal_at
unfolding literal_at
literal_shallow [] = tt
literal_shallow (token (name x) s e ∷ ts) = tt
literal_shallow (token (number n) s e ∷ ts) = tt
literal_shallow (token (typed t b n) s e ∷ ts) = tt
literal_shallow (token (duration b n) s e ∷ ts) = tt
literal_shallow (token (mark k) s e ∷ ts) = marked_shallow k s ts

-- ---- nothing hangs on what stands behind

one_constant : (c : Constant) (r : Read Constant) (u : Token) → ((ts : List Token) → r (u ∷ ts) ≡ Ok (c, ts)) → Takes r u
one_constant c r u h = ((λ ts. Ok (c, ts)), steady_done c, h)

number_begins : (b : Bool) (u : Token) → Takes (number_at b) u ⊎ Stops (number_at b) u
number_begins b (token (name x) s e) = inr (λ ts. refl)
number_begins b (token (number n) s e) = inl (one_constant (record { value = Whole b n; at = s }) (number_at b) (token (number n) s e) (λ ts. refl))
number_begins b (token (typed t c n) s e) = inr (λ ts. refl)
number_begins b (token (duration c n) s e) = inr (λ ts. refl)
number_begins b (token (mark k) s e) = inr (λ ts. refl)

pub number_steady : (b : Bool) → Steady (number_at b)
number_steady b = steady_head (number_at b) (omega arith) (number_begins b)

marked_begins : (k : Mark) (s e : ℕ) → Takes literal_at (token (mark k) s e) ⊎ Stops literal_at (token (mark k) s e)
unfolding literal_at
marked_begins m.True s e = inl (one_constant (record { value = Truth true; at = s }) literal_at (token (mark m.True) s e) (λ ts. refl))
marked_begins m.False s e = inl (one_constant (record { value = Truth false; at = s }) literal_at (token (mark m.False) s e) (λ ts. refl))
marked_begins other s e = inr (λ ts. refl)

literal_begins : (u : Token) → Takes literal_at u ⊎ Stops literal_at u
unfolding literal_at
literal_begins (token (name x) s e) = inr (λ ts. refl)
literal_begins (token (number n) s e) = inl (one_constant (record { value = Whole false n; at = s }) literal_at (token (number n) s e) (λ ts. refl))
literal_begins (token (typed t b n) s e) = inl (one_constant (record { value = Typed t b n; at = s }) literal_at (token (typed t b n) s e) (λ ts. refl))
literal_begins (token (duration b n) s e) = inl (one_constant (record { value = Duration b n; at = s }) literal_at (token (duration b n) s e) (λ ts. refl))
literal_begins (token (mark k) s e) = marked_begins k s e

pub literal_steady : Steady literal_at
unfolding literal_at
literal_steady = steady_head literal_at (omega arith) literal_begins
