-- A reader that stops at a token stops there whatever stands behind it.
use Rattle.std.proofs.Common.{◌≡◌, ℕ, suc, ◌≤◌, ◌⊎◌, Bool, true, false, cond, List, [], ◌∷◌, length, Result, Ok, Err, refl, sym, subst, arith, inl, inr}
use Rattle.fb_words.specs.declared.mark.Mark.{Mark}
use Rattle.fb_model.specs.Tokens.{Token, token, name, number, typed, duration, mark}
use Rattle.fb_model.specs.StructuredTextGrammar.{begins_number}
use Rattle.fb_read.specs.Reading.{Wrong, syntax, too_deep, stuck, Answer, Read, ◌>>=◌, next_is, after, expect, offset_at, name_at, begins_name}

-- two texts that are the same up to this token, with what stands behind it in each
pub data Same (t : Token) (q q' : List Token) : List Token → List Token → Type 0 where
  here : Same t q q' (t ∷ q) (t ∷ q')
  there : {u : Token} {ts us : List Token} → Same t q q' ts us → Same t q q' (u ∷ ts) (u ∷ us)

-- no more tokens are left than so many
abbrev pub Within : {A : Type 0} → ℕ → Answer A → Type 0
Within n (Ok x) = length x.1 ≤ n
Within n (Err (syntax left)) = left ≤ n
Within n (Err (too_deep left)) = left ≤ n

abbrev pub IsStuck : {A : Type 0} → Result A Wrong → Type 0
IsStuck (Ok x) = ⊥
IsStuck (Err (syntax left)) = Unit {0}
IsStuck (Err (too_deep left)) = ⊥

abbrev pub IsDeep : {A : Type 0} → Result A Wrong → Type 0
IsDeep (Ok x) = ⊥
IsDeep (Err (syntax left)) = ⊥
IsDeep (Err (too_deep left)) = Unit {0}

-- What is answered on the first text is answered on the second, unless the token has been passed.
abbrev pub Goes : {A : Type 0} → Token → List Token → List Token → Answer A → Answer A → Type 0
Goes t q q' (Ok x) r = (length x.1 ≤ length q) ⊎ ((rest : List Token) × Same t q q' x.1 rest × (r ≡ Ok (x.0, rest)))
Goes t q q' (Err (syntax left)) r = (left ≤ length q) ⊎ IsStuck r
Goes t q q' (Err (too_deep left)) r = (left ≤ length q) ⊎ IsDeep r

pub record Steady {A : Type 0} (r : Read A) : Type 0 where
  pub bounded : (ts : List Token) → Within (length ts) (r ts)
  pub local : (t : Token) (q q' ts us : List Token) → Same t q q' ts us → Goes t q q' (r ts) (r us)

-- ---- steps

pub within_more : {A : Type 0} (m n : ℕ) (r : Answer A) → m ≤ n → Within m r → Within n r
within_more m n (Ok x) le h = omega arith
within_more m n (Err (syntax left)) le h = omega arith
within_more m n (Err (too_deep left)) le h = omega arith

pub within_then : {A B : Type 0} (n : ℕ) (f : A × List Token → Answer B) (r : Answer A) → Within n r → ((x : A) (rest : List Token) → length rest ≤ n → Within n (f (x, rest))) → Within n (r >>= f)
within_then n f (Ok x) h g = g x.0 x.1 h
within_then n f (Err (syntax left)) h g = h
within_then n f (Err (too_deep left)) h g = h

pub past : {A : Type 0} (t : Token) (q q' : List Token) (r r' : Answer A) → Within (length q) r → Goes t q q' r r'
past t q q' (Ok x) r' h = inl h
past t q q' (Err (syntax left)) r' h = inl h
past t q q' (Err (too_deep left)) r' h = inl h

stuck_then : {A B : Type 0} (f : A × List Token → Answer B) (r : Answer A) → IsStuck r → IsStuck (r >>= f)
stuck_then f (Ok x) h = absurd h
stuck_then f (Err (syntax left)) h = tt
stuck_then f (Err (too_deep left)) h = h

deep_then : {A B : Type 0} (f : A × List Token → Answer B) (r : Answer A) → IsDeep r → IsDeep (r >>= f)
deep_then f (Ok x) h = absurd h
deep_then f (Err (syntax left)) h = h
deep_then f (Err (too_deep left)) h = tt

pub goes_then : {A B : Type 0} (t : Token) (q q' : List Token) (f f' : A × List Token → Answer B) (r r' : Answer A) → Goes t q q' r r' → ((x : A) (rest : List Token) → length rest ≤ length q → Within (length q) (f (x, rest)))
    → ((x : A) (rest rest' : List Token) → r ≡ Ok (x, rest) → r' ≡ Ok (x, rest') → Same t q q' rest rest' → Goes t q q' (f (x, rest)) (f' (x, rest'))) → Goes t q q' (r >>= f) (r' >>= f')
goes_then t q q' f f' (Ok x) r' (inl le) w g = past t q q' (f x) (r' >>= f') (w x.0 x.1 le)
goes_then t q q' f f' (Ok x) r' (inr p) w g = subst (λ z. Goes t q q' (f x) (z >>= f')) (sym p.2) (g x.0 x.1 p.0 refl p.2 p.1)
goes_then t q q' f f' (Err (syntax left)) r' (inl le) w g = inl le
goes_then t q q' f f' (Err (syntax left)) r' (inr e) w g = inr (stuck_then f' r' e)
goes_then t q q' f f' (Err (too_deep left)) r' (inl le) w g = inl le
goes_then t q q' f f' (Err (too_deep left)) r' (inr e) w g = inr (deep_then f' r' e)

pub steady_then : {A B : Type 0} (r : Read A) (f : A × List Token → Answer B) → Steady r → ((x : A) → Steady (λ ts. f (x, ts))) → Steady (λ ts. r ts >>= f)
steady_then r f h g =
    let behind : (n : ℕ) → (x : _) (rest : List Token) → length rest ≤ n → Within n (f (x, rest)) = λ n x rest le. within_more (length rest) n (f (x, rest)) le ((g x).bounded rest) in
    record {
      bounded = λ ts. within_then (length ts) f (r ts) (h.bounded ts) (behind (length ts));
      local = λ t q q' ts us s. goes_then t q q' f f (r ts) (r us) (h.local t q q' ts us s) (behind (length q)) (λ x rest rest' e e' s'. (g x).local t q q' rest rest' s');
    }

pub steady_as : {A : Type 0} (r r' : Read A) → Steady r → ((ts : List Token) → r ts ≡ r' ts) → Steady r'
steady_as r r' h e =
    record {
      bounded = λ ts. subst (λ z. Within (length ts) z) (e ts) (h.bounded ts);
      local = λ t q q' ts us s. subst (λ z. Goes t q q' z (r' us)) (e ts) (subst (λ z. Goes t q q' (r ts) z) (e us) (h.local t q q' ts us s));
    }

pub steady_done : {A : Type 0} (x : A) → Steady (λ ts. Ok (x, ts))
steady_done x = record { bounded = λ ts. omega arith; local = λ t q q' ts us s. inr (us, s, refl) }

pub steady_stuck : {A : Type 0} → Steady {A = A} (λ ts. stuck ts)
steady_stuck = record { bounded = λ ts. omega arith; local = λ t q q' ts us s. inr tt }

-- too deep before the next token
pub steady_deep : {A : Type 0} → Steady {A = A} (λ ts. Err (too_deep (length ts)))
steady_deep = record { bounded = λ ts. omega arith; local = λ t q q' ts us s. inr tt }

-- ---- the first token

-- the token is taken, and what is read behind it
abbrev pub Takes : {A : Type 0} → Read A → Token → Type 0
Takes {A} r u = (g : Read A) × Steady g × ((ts : List Token) → r (u ∷ ts) ≡ g ts)

abbrev pub Stops : {A : Type 0} → Read A → Token → Type 0
Stops r u = (ts : List Token) → r (u ∷ ts) ≡ Err (syntax (suc (length ts)))

pub steady_head : {A : Type 0} (r : Read A) → Within 0 (r []) → ((u : Token) → Takes r u ⊎ Stops r u) → Steady r
steady_head {A} r none h = record { bounded = bounded; local = local } where
  bounded : (ts : List Token) → Within (length ts) (r ts)
  bounded [] = none
  bounded (u ∷ ts) = elim (h u) [
    | inl p ↦ subst (λ z. Within (suc (length ts)) z) (sym (p.2 ts)) (within_more (length ts) (suc (length ts)) (p.0 ts) (omega arith) (p.1.bounded ts))
    | inr e ↦ subst (λ z. Within (suc (length ts)) z) (sym (e ts)) (let le : suc (length ts) ≤ suc (length ts) = omega arith in le)
  ]

  local : (t : Token) (q q' ts us : List Token) → Same t q q' ts us → Goes t q q' (r ts) (r us)
  local t q q' ts us here = elim (h t) [
    | inl p ↦ past t q q' (r (t ∷ q)) (r (t ∷ q')) (subst (λ z. Within (length q) z) (sym (p.2 q)) (p.1.bounded q))
    | inr e ↦ subst (λ z. Goes t q q' z (r (t ∷ q'))) (sym (e q)) (subst (λ z. Goes {A = A} t q q' (Err (syntax (suc (length q)))) z) (sym (e q')) (inr tt))
  ]
  local t q q' ts us (there {u = u} {ts = ts'} {us = us'} s) = elim (h u) [
    | inl p ↦ subst (λ z. Goes t q q' z (r (u ∷ us'))) (sym (p.2 ts')) (subst (λ z. Goes t q q' (p.0 ts') z) (sym (p.2 us')) (p.1.local t q q' ts' us' s))
    | inr e ↦ subst (λ z. Goes t q q' z (r (u ∷ us'))) (sym (e ts')) (subst (λ z. Goes {A = A} t q q' (Err (syntax (suc (length ts')))) z) (sym (e us')) (inr tt))
  ]

name_begins : (u : Token) → Takes name_at u ⊎ Stops name_at u
name_begins (token (name x) s e) = inl ((λ ts. Ok (record { text = x; at = s }, ts)), steady_done (record { text = x; at = s }), λ ts. refl)
name_begins (token (number n) s e) = inr (λ ts. refl)
name_begins (token (typed t b n) s e) = inr (λ ts. refl)
name_begins (token (duration b n) s e) = inr (λ ts. refl)
name_begins (token (mark k) s e) = inr (λ ts. refl)

pub steady_name : Steady name_at
steady_name = steady_head name_at (omega arith) name_begins

-- ---- tests of the first token

-- The test sees no more than the first token.
abbrev pub SeesFirst : (List Token → Bool) → Type 0
SeesFirst test = (t : Token) (q q' ts us : List Token) → Same t q q' ts us → test ts ≡ test us

pub sees_first : (test : List Token → Bool) → ((t : Token) (a b : List Token) → test (t ∷ a) ≡ test (t ∷ b)) → SeesFirst test
sees_first test h t q q' ts us here = h t q q'
sees_first test h t q q' ts us (there {u = u} {ts = ts'} {us = us'} s) = h u ts' us'

pub next_sees : (k : Mark) → SeesFirst (next_is k)
next_sees k = sees_first (next_is k) by where
  by : (t : Token) (a b : List Token) → next_is k (t ∷ a) ≡ next_is k (t ∷ b)
  by (token (name x) s e) a b = refl
  by (token (number n) s e) a b = refl
  by (token (typed t c n) s e) a b = refl
  by (token (duration c n) s e) a b = refl
  by (token (mark l) s e) a b = refl

pub name_sees : SeesFirst begins_name
name_sees = sees_first begins_name by where
  by : (t : Token) (a b : List Token) → begins_name (t ∷ a) ≡ begins_name (t ∷ b)
  by (token (name x) s e) a b = refl
  by (token (number n) s e) a b = refl
  by (token (typed t c n) s e) a b = refl
  by (token (duration c n) s e) a b = refl
  by (token (mark k) s e) a b = refl

pub number_sees : SeesFirst begins_number
number_sees = sees_first begins_number by where
  by : (t : Token) (a b : List Token) → begins_number (t ∷ a) ≡ begins_number (t ∷ b)
  by (token (name x) s e) a b = refl
  by (token (number n) s e) a b = refl
  by (token (typed t c n) s e) a b = refl
  by (token (duration c n) s e) a b = refl
  by (token (mark k) s e) a b = refl

-- this mark, or what another test sees
pub either_sees : (k : Mark) (test : List Token → Bool) → SeesFirst test → SeesFirst (λ ts. cond (next_is k ts) true (test ts))
either_sees k test h t q q' ts us s = rw (next_sees k t q q' ts us s, h t q q' ts us s) refl

pub same_next : (k : Mark) {t : Token} {q q' ts us : List Token} → Same t q q' ts us → next_is k ts ≡ next_is k us
same_next k {t = t} {q = q} {q' = q'} {ts = ts} {us = us} s = next_sees k t q q' ts us s

head_place : (t : Token) (a b : List Token) → offset_at (t ∷ a) ≡ offset_at (t ∷ b)
head_place (token k s e) a b = refl

same_place : {t : Token} {q q' ts us : List Token} → Same t q q' ts us → offset_at ts ≡ offset_at us
same_place {t = t} {q = q} {q' = q'} here = head_place t q q'
same_place (there {u = u} {ts = ts} {us = us} s) = head_place u ts us

pub steady_after : {A : Type 0} (g : Read A) → Steady g → Steady (λ ts. g (after ts))
steady_after {A} g h = record { bounded = bounded; local = local } where
  bounded : (ts : List Token) → Within (length ts) (g (after ts))
  bounded [] = h.bounded []
  bounded (t ∷ ts) = within_more (length ts) (suc (length ts)) (g ts) (omega arith) (h.bounded ts)

  local : (t : Token) (q q' ts us : List Token) → Same t q q' ts us → Goes t q q' (g (after ts)) (g (after us))
  local t q q' ts us here = past t q q' (g q) (g q') (h.bounded q)
  local t q q' ts us (there {ts = ts'} {us = us'} s) = h.local t q q' ts' us' s

-- a test decides how reading goes on
pub steady_test : {A : Type 0} (test : List Token → Bool) → SeesFirst test → (g h : Read A) → Steady g → Steady h → Steady (λ ts. cond (test ts) (g ts) (h ts))
steady_test {A} test sees g h sg sh = record { bounded = λ ts. bounded (test ts) ts; local = λ t q q' ts us s. subst (λ b. Goes t q q' (cond (test ts) (g ts) (h ts)) (cond b (g us) (h us))) (sees t q q' ts us s) (local (test ts) t q q' ts us s) } where
  bounded : (b : Bool) (ts : List Token) → Within (length ts) (cond b (g ts) (h ts))
  bounded true ts = sg.bounded ts
  bounded false ts = sh.bounded ts

  local : (b : Bool) (t : Token) (q q' ts us : List Token) → Same t q q' ts us → Goes t q q' (cond b (g ts) (h ts)) (cond b (g us) (h us))
  local true t q q' ts us s = sg.local t q q' ts us s
  local false t q q' ts us s = sh.local t q q' ts us s

pub steady_choice : {A : Type 0} (k : Mark) (g h : Read A) → Steady g → Steady h → Steady (λ ts. cond (next_is k ts) (g ts) (h ts))
steady_choice k g h sg sh = steady_test (next_is k) (next_sees k) g h sg sh

pub steady_if : {A : Type 0} (k : Mark) (g h : Read A) → Steady g → Steady h → Steady (λ ts. cond (next_is k ts) (g (after ts)) (h ts))
steady_if k g h sg sh = steady_choice k (λ ts. g (after ts)) h (steady_after g sg) sh

pub cond_then : {A B : Type 0} (b : Bool) (x y : Result A Wrong) (f : A → Result B Wrong) → cond b (x >>= f) (y >>= f) ≡ (cond b x y >>= f)
cond_then true x y f = refl
cond_then false x y f = refl

pub steady_expect : {A : Type 0} (k : Mark) (g : Read A) → Steady g → Steady (λ ts. expect k ts >>= g)
steady_expect k g h = steady_as (λ ts. cond (next_is k ts) (g (after ts)) (stuck ts)) (λ ts. expect k ts >>= g) (steady_if k g (λ ts. stuck ts) h steady_stuck) (λ ts. cond_then (next_is k ts) (Ok (after ts)) (stuck ts) g)

-- what is read may hold the place of the next token
pub steady_place : {A : Type 0} (g : ℕ → Read A) → ((at : ℕ) → Steady (g at)) → Steady (λ ts. g (offset_at ts) ts)
steady_place g h = record { bounded = λ ts. (h (offset_at ts)).bounded ts; local = λ t q q' ts us s. subst (λ n. Goes t q q' (g (offset_at ts) ts) (g n us)) (same_place s) ((h (offset_at ts)).local t q q' ts us s) }
