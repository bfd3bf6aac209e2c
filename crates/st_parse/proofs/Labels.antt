-- The laws of labels and steps.
use Rattle.std.proofs.Common.{◌≡◌, ℕ, ◌≤◌, Bool, true, false, cond, List, [], ◌∷◌, length, Option, None, Some, Ok, refl, sym, subst, arith, inl}
use Rattle.fb_words.specs.declared.mark.Mark.{Mark}
use Rattle.fb_words.specs.declared.mark.Mark.TheVariants as m
use Rattle.fb_model.specs.Tokens.{Token, token, name, number, typed, duration, mark}
use Rattle.fb_model.specs.Productions.{IsSeparated, last, before}
use Rattle.fb_model.specs.Trees.{Constant}
use Rattle.fb_model.specs.StructuredText.{Label}
use Rattle.fb_model.specs.StructuredTextGrammar.{begins_number, IsInteger, unsigned, signed, IsLabel, one, from_to, IsStep, no_step, a_step}
use Rattle.fb_read.specs.Reading.{◌>>=◌, next_is, after, list_at}
use Rattle.fb_read.proofs.Readers.{Meets, Sound, Gets, Complete, never, Shorter, meets_then, meets_as, seen, may_open}
use Rattle.fb_read.proofs.Repetitions.{IsOptional, missing, given, separated_sound, separated_complete, optional_sound}
use Rattle.fb_read.proofs.Steady.{Steady, SeesFirst, next_sees, name_sees, number_sees, either_sees, same_next, steady_then, steady_done, steady_if}
use Rattle.fb_read.proofs.SteadyLists.{shrinks_of, steady_list}
use Rattle.st_parse.specs.ConstantReading.{number_at}
use Rattle.st_parse.proofs.Literals.{number_steady}
use Rattle.st_parse.specs.Reading.{integer_at, optional_at, label_at, step_at, begins_integer, begins_block, begins_entry}

-- ---- what is read is in the grammar

unsigned_sound : (ts : List Token) → Meets (IsInteger ts) (number_at false ts)
unsigned_sound [] = tt
unsigned_sound (token (name x) s e ∷ ts) = tt
unsigned_sound (token (number n) s e ∷ ts) = unsigned
unsigned_sound (token (typed t b n) s e ∷ ts) = tt
unsigned_sound (token (duration b n) s e ∷ ts) = tt
unsigned_sound (token (mark k) s e ∷ ts) = tt

signed_sound : (s e : ℕ) (ts : List Token) → Meets (IsInteger (token (mark m.Minus) s e ∷ ts)) (number_at true ts)
signed_sound s e [] = tt
signed_sound s e (token (name x) s' e' ∷ ts) = tt
signed_sound s e (token (number n) s' e' ∷ ts) = signed
signed_sound s e (token (typed t b n) s' e' ∷ ts) = tt
signed_sound s e (token (duration b n) s' e' ∷ ts) = tt
signed_sound s e (token (mark k) s' e' ∷ ts) = tt

pub integer_sound : Sound IsInteger integer_at
unfolding integer_at
integer_sound ts = may_open IsInteger m.Minus ts _ _ (λ s e. signed_sound s e (after ts)) (λ h. unsigned_sound ts)

an_option : (k : Mark) → Sound (IsOptional k IsInteger) (optional_at k)
unfolding optional_at
an_option k ts = optional_sound IsInteger integer_at integer_sound k ts

label_of : {ts mid rest : List Token} {c : Constant} {d : Option Constant} → IsInteger ts c mid → IsOptional m.DotDot IsInteger mid d rest → IsLabel ts (record { low = c; high = d }) rest
label_of p (missing f) = one p
label_of p (given q) = from_to p q

pub label_sound : Sound IsLabel label_at
unfolding label_at
label_sound ts = meets_then _ _ (integer_at ts) (integer_sound ts) (λ c mid p. meets_then _ _ (optional_at m.DotDot mid) (an_option m.DotDot mid) (λ d rest q. label_of p q))

pub labels_sound : Sound (IsSeparated m.Comma IsLabel) (list_at m.Comma label_at)
labels_sound ts = separated_sound IsLabel label_at label_sound m.Comma (length ts) ts

step_of : (ts : List Token) (c : Option Constant) (rest : List Token) → IsOptional m.By IsInteger ts c rest → IsStep ts c rest
step_of ts c rest (missing f) = no_step
step_of ts c rest (given q) = a_step q

pub step_sound : Sound IsStep step_at
step_sound ts = meets_as _ (step_at ts) (an_option m.By ts) (step_of ts)

-- ---- how long the rest is

pub integer_shorter : Shorter IsInteger
integer_shorter ts x rest unsigned = omega arith
integer_shorter ts x rest signed = omega arith

pub label_shorter : Shorter IsLabel
label_shorter ts x rest (one {c = c} p) = integer_shorter ts c rest p
label_shorter ts x rest (from_to {s = s} {e = e} {mid = mid} {c = c} {d = d} p q) =
    let a = integer_shorter ts c (token (mark m.DotDot) s e ∷ mid) p in
    let b = integer_shorter mid d rest q in
    omega arith

pub step_shrinks : {ts rest : List Token} {c : Option Constant} → IsStep ts c rest → length rest ≤ length ts
step_shrinks no_step = omega arith
step_shrinks (a_step {ts = ts} {rest = rest} {c = c} p) = let a = integer_shorter ts c rest p in omega arith

-- ---- what they begin with

integer_first : {ts rest : List Token} {c : Constant} → IsInteger ts c rest → begins_integer ts ≡ true
integer_first unsigned = refl
integer_first signed = refl

label_first : {ts rest : List Token} {x : Label} → IsLabel ts x rest → begins_integer ts ≡ true
label_first (one p) = integer_first p
label_first (from_to p q) = integer_first p

pub labels_first : {ts rest : List Token} {xs : List Label} → IsSeparated m.Comma IsLabel ts xs rest → begins_integer ts ≡ true
labels_first (last p) = label_first p
labels_first (before p q) = label_first p

number_apart : (ts : List Token) → begins_number ts ≡ true → begins_entry ts ≡ false
number_apart [] h = absurd cc
number_apart (token (name x) s e ∷ ts) h = absurd cc
number_apart (token (number n) s e ∷ ts) h = refl
number_apart (token (typed t b n) s e ∷ ts) h = absurd cc
number_apart (token (duration b n) s e ∷ ts) h = absurd cc
number_apart (token (mark k) s e ∷ ts) h = absurd cc

-- no statement begins where a label begins
pub integer_apart : (ts : List Token) → begins_integer ts ≡ true → begins_entry ts ≡ false
integer_apart ts h = by (next_is m.Minus ts) refl h where
  by : (b : Bool) → next_is m.Minus ts ≡ b → cond b true (begins_number ts) ≡ true → begins_entry ts ≡ false
  by true e f = let q = seen (λ l. ts ≡ l) m.Minus ts e refl in subst (λ l. begins_entry l ≡ false) (sym q.2) refl
  by false e f = number_apart ts f

-- ---- what is in the grammar is read

module _ (Deep : Type 0) where
  pub integer_complete : Complete Deep never IsInteger integer_at
  unfolding integer_at
  integer_complete ts x rest unsigned st = inl refl
  integer_complete ts x rest signed st = inl refl

  pub label_complete : Complete Deep (next_is m.DotDot) IsLabel label_at
  unfolding label_at optional_at integer_at
  label_complete ts x rest (one unsigned) st = inl (rw st refl)
  label_complete ts x rest (one signed) st = inl (rw st refl)
  label_complete ts x rest (from_to unsigned unsigned) st = inl refl
  label_complete ts x rest (from_to unsigned signed) st = inl refl
  label_complete ts x rest (from_to signed unsigned) st = inl refl
  label_complete ts x rest (from_to signed signed) st = inl refl

  pub labels_complete : (ts rest : List Token) (xs : List Label) → IsSeparated m.Comma IsLabel ts xs rest → next_is m.DotDot rest ≡ false → next_is m.Comma rest ≡ false → Gets Deep (list_at m.Comma label_at ts) (xs, rest)
  labels_complete ts rest xs h st fin = separated_complete Deep m.Comma IsLabel label_at label_shorter (next_is m.DotDot) label_complete refl (λ s e l. refl) (length ts) ts rest xs (omega arith) h st fin

  pub step_complete : Complete Deep (next_is m.By) IsStep step_at
  unfolding optional_at integer_at
  step_complete ts x rest no_step st = inl (rw st refl)
  step_complete ts x rest (a_step unsigned) st = inl refl
  step_complete ts x rest (a_step signed) st = inl refl

-- ---- steady

pub integer_steady : Steady integer_at
unfolding integer_at
integer_steady = steady_if m.Minus (number_at true) (number_at false) (number_steady true) (number_steady false)

option_steady : (k : Mark) → Steady (optional_at k)
unfolding optional_at
option_steady k = steady_if k (λ ts. integer_at ts >>= λ c. Ok (Some c.0, c.1)) (λ ts. Ok (None, ts)) (steady_then integer_at _ integer_steady (λ c. steady_done (Some c))) (steady_done None)

label_steady : Steady label_at
unfolding label_at
label_steady = steady_then integer_at _ integer_steady (λ c. steady_then (optional_at m.DotDot) _ (option_steady m.DotDot) (λ d. steady_done (record { low = c; high = d })))

pub labels_steady : Steady (list_at m.Comma label_at)
labels_steady = steady_list label_at label_steady (shrinks_of IsLabel label_at label_sound label_shorter) m.Comma

pub step_steady : Steady step_at
step_steady = option_steady m.By

-- ---- tests of the first token

pub integer_sees : SeesFirst begins_integer
integer_sees = either_sees m.Minus begins_number number_sees

pub block_sees : SeesFirst begins_block
block_sees = either_sees m.If (λ ts. cond (next_is m.Case ts) true (next_is m.For ts)) (either_sees m.Case (next_is m.For) (next_sees m.For))

pub entry_sees : SeesFirst begins_entry
entry_sees t q q' ts us s = rw (same_next m.Semicolon s, name_sees t q q' ts us s, block_sees t q q' ts us s) refl
