-- Where the nesting is at its end, a deeper tree begins with what was read and with the token that opens one more.
use Rattle.std.proofs.Common.{◌≡◌, ℕ, zero, suc, ◌<◌, ◌≤◌, Bool, true, false, cond, List, [], ◌∷◌, length, Result, Ok, Err, refl, sym, ap, subst, arith, inl, inr}
use Rattle.std.proofs.lemmas.Bool.{cases_lt}
use Rattle.fb_words.specs.declared.mark.Mark.{Mark}
use Rattle.fb_model.specs.Tokens.{Token, token, mark}
use Rattle.fb_model.specs.Productions.{Gram, Word, IsName, IsMany, none, more, IsSeparated, last, before}
use Rattle.fb_read.specs.Reading.{Wrong, syntax, too_deep, stuck, Answer, Read, ◌>>=◌, next_is, after, expect, name_at, many_step, many_at, while_step, while_at, separated_step, separated_at}
use Rattle.fb_read.proofs.Readers.{Meets, Sound, NotDeep, seen, shallow_expect, shallow_then, name_sound}
use Rattle.fb_read.proofs.Steady.{Same, here, there, Within, Goes, Steady}

-- what stands from these tokens up to a rest
abbrev pub Span : Type 1
Span = List Token → List Token → Type 0

-- a tree of the grammar stands there
abbrev pub Any : {A : Type 0} → Gram A → Span
Any {A} G us rest = (x : A) × G us x rest

-- The tokens up to one of them, and with it, are gone on with up to a rest.
pub record Finished (P : Span) (t : Token) (q ts rest : List Token) : Type 0 where
  pub all : List Token
  pub others : List Token
  pub same : Same t q others ts all
  pub done : P all rest

-- The tokens up to the one before which so many are left, and with it, are gone on with up to any rest.
pub record Begun (P : Span) (ts : List Token) (left : ℕ) : Type 0 where
  pub opener : Token
  pub behind : List Token
  pub left_is : left ≡ suc (length behind)
  pub ends : (rest : List Token) → Finished P opener behind ts rest

-- Where the nesting is at its end, the tokens up to there can be gone on with.
abbrev pub GoesOn : {A : Type 0} → Span → List Token → Result A Wrong → Type 0
GoesOn P ts (Ok x) = Unit {0}
GoesOn P ts (Err (syntax left)) = Unit {0}
GoesOn P ts (Err (too_deep left)) = Begun P ts left

-- the same of every answer of a reader
abbrev pub Viable : {A : Type 0} → Span → (List Token → Result A Wrong) → Type 0
Viable P r = (ts : List Token) → GoesOn P ts (r ts)

-- what stands behind a mark
abbrev pub Marked : Mark → Span → Span
Marked k P us rest = (s e : ℕ) → P (token (mark k) s e ∷ us) rest

-- what stands behind a tree that was read
abbrev pub Behind : {A : Type 0} → Read A → A → Span → Span
Behind r x P us rest = (all : List Token) → r all ≡ Ok (x, us) → P all rest

-- two texts are the same up to some token
abbrev pub Alike : List Token → List Token → Type 0
Alike ts us = (t : Token) × (q : List Token) × (q' : List Token) × Same t q q' ts us

-- ---- texts that are the same up to a token

some_behind : {t : Token} {q q' ts us : List Token} → Same t q q' ts us → length q < length ts
some_behind here = omega arith
some_behind (there s) = let a = some_behind s in omega arith

-- before a token that has so many behind it, other tokens can be put in their place
cut : (q' : List Token) (n : ℕ) (ts : List Token) → n < length ts → (t : Token) × (q : List Token) × (us : List Token) × (length q ≡ n) × Same t q q' ts us
cut q' n [] lt = absurd (omega arith)
cut q' n (u ∷ ts) lt = elim (cases_lt n (length ts)) [
  | inl less ↦ let c = cut q' n ts less in (c.0, c.1, u ∷ c.2, c.3, there c.4)
  | inr le ↦ (u, ts, u ∷ q', omega arith, here)
]

aligned : {t t' : Token} {q q' p l us vs : List Token} → Same t q q' l us → Same t' p q' l vs → length p ≡ length q → (vs ≡ us) × ((ls ws : List Token) → Same t' p q' ls ws → Same t q q' ls ws)
aligned here here e = (refl, λ ls ws s. s)
aligned here (there s) e = let a = some_behind s in absurd (omega arith)
aligned (there s) here e = let a = some_behind s in absurd (omega arith)
aligned (there {u = u} s) (there s') e = let p = aligned s s' e in (ap (λ l. u ∷ l) p.0, p.1)

-- What was read before a token is read in the same way where other tokens stand behind that token.
pub rebase : {A : Type 0} (r : Read A) → Steady r → (t : Token) (q q' ts mid us : List Token) (x : A) → r ts ≡ Ok (x, mid) → Same t q q' mid us → (all : List Token) × Same t q q' ts all × (r all ≡ Ok (x, us))
rebase {A} r steady t q q' ts mid us x e s =
    let short = some_behind s in
    let within : length mid ≤ length ts = subst (λ z. Within (length ts) z) e (steady.bounded ts) in
    let c = cut q' (length q) ts (omega arith) in
    by c.0 c.1 c.2 c.3 c.4 (subst (λ z. Goes c.0 c.1 q' z (r c.2)) e (steady.local c.0 c.1 q' ts c.2 c.4)) where
      by : (t' : Token) (p all : List Token) → length p ≡ length q → Same t' p q' ts all → Goes t' p q' (Ok (x, mid)) (r all) → (all : List Token) × Same t q q' ts all × (r all ≡ Ok (x, us))
      by t' p all n f (inl le) = let short = some_behind s in absurd (omega arith)
      by t' p all n f (inr g) =
          let a = aligned s g.1 n in
          (all, a.1 ts all f, subst (λ l. r all ≡ Ok (x, l)) a.0 g.2)

-- ---- steps

-- what goes on with one span goes on with another that it is a beginning of
pub goes_with : {A : Type 0} {P Q : Span} (ts : List Token) (r : Result A Wrong) → ((rest : List Token) → (q : List Token) × ((us : List Token) → Alike ts us → P us q → Q us rest)) → GoesOn P ts r → GoesOn Q ts r
goes_with ts (Ok x) f h = tt
goes_with ts (Err (syntax left)) f h = tt
goes_with {P = P} {Q = Q} ts (Err (too_deep left)) f h = record { opener = h.opener; behind = h.behind; left_is = h.left_is; ends = ends } where
  ends : (rest : List Token) → Finished Q h.opener h.behind ts rest
  ends rest =
      let g = f rest in
      let b = h.ends g.0 in
      record { all = b.all; others = b.others; same = b.same; done = g.1 b.all (h.opener, h.behind, b.others, b.same) b.done }

pub goes_as : {A : Type 0} {P Q : Span} (ts : List Token) (r : Result A Wrong) → ((rest : List Token) → (q : List Token) × ((us : List Token) → P us q → Q us rest)) → GoesOn P ts r → GoesOn Q ts r
goes_as ts r f h = goes_with ts r (λ rest. let g = f rest in (g.0, λ us s p. g.1 us p)) h

-- one way of reading or another
pub goes_if : {A : Type 0} (P : Span) (ts : List Token) (b : Bool) (x y : Result A Wrong) → GoesOn P ts x → GoesOn P ts y → GoesOn P ts (cond b x y)
goes_if P ts true x y h g = h
goes_if P ts false x y h g = g

-- where the nesting is never at its end
pub goes_shallow : {A : Type 0} (P : Span) (ts : List Token) (r : Result A Wrong) → NotDeep r → GoesOn P ts r
goes_shallow P ts (Ok x) h = tt
goes_shallow P ts (Err (syntax left)) h = tt
goes_shallow P ts (Err (too_deep left)) h = absurd h

-- and what is done then never is too deep
pub goes_done : {A B : Type 0} (P : Span) (ts : List Token) (f : A → Result B Wrong) (r : Result A Wrong) → ((x : A) → NotDeep (f x)) → GoesOn P ts r → GoesOn P ts (r >>= f)
goes_done P ts f (Ok x) g h = goes_shallow P ts (f x) (g x)
goes_done P ts f (Err (syntax left)) g h = tt
goes_done P ts f (Err (too_deep left)) g h = h

-- a mark that stands next and that some tokens go on with
pub begun_at : (P : Span) (k : Mark) (ts : List Token) → next_is k ts ≡ true → ((rest : List Token) → (q : List Token) × Marked k P q rest) → Begun P ts (length ts)
begun_at P k ts e finish =
    let first = seen (λ l. ts ≡ l) k ts e refl in
    record { opener = token (mark k) first.0 first.1; behind = after ts; left_is = ap length first.2; ends = ends first.0 first.1 first.2 } where
      ends : (s e : ℕ) → ts ≡ token (mark k) s e ∷ after ts → (rest : List Token) → Finished P (token (mark k) s e) (after ts) ts rest
      ends s e d rest =
          let t = token (mark k) s e in
          let g = finish rest in
          record { all = t ∷ g.0; others = g.0; same = subst (λ l. Same t (after ts) g.0 l (t ∷ g.0)) (sym d) here; done = g.1 s e }

-- what stands behind a token
pub goes_next : {A : Type 0} (P : Span) (t : Token) (ts : List Token) (r : Result A Wrong) → GoesOn (λ us rest. P (t ∷ us) rest) ts r → GoesOn P (t ∷ ts) r
goes_next P t ts (Ok x) h = tt
goes_next P t ts (Err (syntax left)) h = tt
goes_next P t ts (Err (too_deep left)) h = record { opener = h.opener; behind = h.behind; left_is = h.left_is; ends = ends } where
  ends : (rest : List Token) → Finished P h.opener h.behind (t ∷ ts) rest
  ends rest = let b = h.ends rest in record { all = t ∷ b.all; others = b.others; same = there b.same; done = b.done }

-- what stands behind a mark that a test has seen
pub goes_marked : {A : Type 0} (P : Span) (k : Mark) (ts : List Token) → next_is k ts ≡ true → (r : Result A Wrong) → GoesOn (Marked k P) (after ts) r → GoesOn P ts r
goes_marked P k ts e (Ok x) h = tt
goes_marked P k ts e (Err (syntax left)) h = tt
goes_marked P k ts e (Err (too_deep left)) h = record { opener = h.opener; behind = h.behind; left_is = h.left_is; ends = ends } where
  ends : (rest : List Token) → Finished P h.opener h.behind ts rest
  ends rest =
      let first = seen (λ l. ts ≡ l) k ts e refl in
      let b = h.ends rest in
      let t = token (mark k) first.0 first.1 in
      record { all = t ∷ b.all; others = b.others; same = subst (λ l. Same h.opener h.behind b.others l (t ∷ b.all)) (sym first.2) (there b.same); done = b.done first.0 first.1 }

-- this mark, and what is done behind it
pub viable_expect : {A : Type 0} (P : Span) (k : Mark) (f : List Token → Result A Wrong) → Viable (Marked k P) f → Viable P (λ ts. expect k ts >>= f)
viable_expect P k f h ts = by (next_is k ts) refl where
  by : (b : Bool) → next_is k ts ≡ b → GoesOn P ts (cond b (Ok (after ts)) (stuck ts) >>= f)
  by true e = goes_marked P k ts e (f (after ts)) (h (after ts))
  by false e = tt

-- a mark that may stand next
pub viable_may : {A : Type 0} (P : Span) (k : Mark) (f g : List Token → Result A Wrong) → Viable (Marked k P) f → Viable P g → Viable P (λ ts. cond (next_is k ts) (f (after ts)) (g ts))
viable_may P k f g h i ts = by (next_is k ts) refl where
  by : (b : Bool) → next_is k ts ≡ b → GoesOn P ts (cond b (f (after ts)) (g ts))
  by true e = goes_marked P k ts e (f (after ts)) (h (after ts))
  by false e = i ts

-- what was read is read again before what goes on
goes_behind : {A B : Type 0} (P : Span) (r : Read A) → Steady r → (ts mid : List Token) (x : A) → r ts ≡ Ok (x, mid) → (w : Result B Wrong) → GoesOn (Behind r x P) mid w → GoesOn P ts w
goes_behind P r steady ts mid x e (Ok y) h = tt
goes_behind P r steady ts mid x e (Err (syntax left)) h = tt
goes_behind P r steady ts mid x e (Err (too_deep left)) h = record { opener = h.opener; behind = h.behind; left_is = h.left_is; ends = ends } where
  ends : (rest : List Token) → Finished P h.opener h.behind ts rest
  ends rest =
      let b = h.ends rest in
      let a = rebase r steady h.opener h.behind b.others ts mid b.all x e b.same in
      record { all = a.0; others = b.others; same = a.1; done = b.done a.0 a.2 }

-- a step, and what is done behind it
pub viable_then : {A B : Type 0} (P : Span) (r : Read A) (f : A × List Token → Result B Wrong) → Steady r → Viable P r → ((x : A) → Viable (Behind r x P) (λ mid. f (x, mid))) → Viable P (λ ts. r ts >>= f)
viable_then {A} P r f steady h g ts = by (r ts) refl (h ts) where
  by : (a : Answer A) → r ts ≡ a → GoesOn P ts a → GoesOn P ts (a >>= f)
  by (Ok x) e p = goes_behind P r steady ts x.1 x.0 e (f x) (g x.0 x.1)
  by (Err (syntax left)) e p = tt
  by (Err (too_deep left)) e p = p

-- what is read is in the grammar
pub is_read : {A : Type 0} (G : Gram A) (r : Read A) → Sound G r → (ts : List Token) (x : A) (rest : List Token) → r ts ≡ Ok (x, rest) → G ts x rest
is_read G r sound ts x rest e = subst (λ z. Meets (G ts) z) e (sound ts)

pub is_name : (ts : List Token) (x : Word) (rest : List Token) → name_at ts ≡ Ok (x, rest) → IsName ts x rest
is_name = is_read IsName name_at name_sound

-- a closing mark, and what is done behind it
pub shallow_closing : {A : Type 0} (k : Mark) (ts : List Token) (f : List Token → A) → NotDeep (expect k ts >>= λ end. Ok (f end))
shallow_closing k ts f = shallow_then (λ end. Ok (f end)) (expect k ts) (shallow_expect k ts) (λ end. tt)

-- ---- lists of items

module _ {A : Type 0} (G : Gram A) (item : Read A) (sound : Sound G item) (steady : Steady item) (viable : Viable (Any G) item) where
  first_viable : Viable (Any (IsMany G)) item
  first_viable ts = goes_as ts (item ts) (λ rest. (rest, λ us p. (p.0 ∷ [], more p.1 none))) (viable ts)

  rest_viable : (others : Read (List A)) → Viable (Any (IsMany G)) others → (x : A) → Viable {A = List A × List Token} (Behind item x (Any (IsMany G))) (λ mid. others mid >>= λ xs. Ok (x ∷ xs.0, xs.1))
  rest_viable others h x mid =
      goes_done (Behind item x (Any (IsMany G))) mid (λ xs. Ok (x ∷ xs.0, xs.1)) (others mid) (λ xs. tt)
      (goes_as mid (others mid) (λ rest. (rest, λ us p all e. (x ∷ p.0, more (is_read G item sound all x us e) p.1))) (h mid))

  turn_viable : (others : Read (List A)) → Viable (Any (IsMany G)) others → Viable {A = List A × List Token} (Any (IsMany G)) (λ ts. item ts >>= λ x. others x.1 >>= λ xs. Ok (x.0 ∷ xs.0, xs.1))
  turn_viable others h = viable_then (Any (IsMany G)) item (λ x. others x.1 >>= λ xs. Ok (x.0 ∷ xs.0, xs.1)) steady first_viable (λ x. rest_viable others h x)

  many_turn : (others : Read (List A)) → Viable (Any (IsMany G)) others → (ts : List Token) (b : Bool) → GoesOn (Any (IsMany G)) ts (many_step item others b ts)
  many_turn others h ts true = tt
  many_turn others h ts false = turn_viable others h ts

  pub many_viable : (close : Mark) (n : ℕ) → Viable (Any (IsMany G)) (many_at close item n)
  unfolding many_at
  many_viable close zero ts = tt
  many_viable close (suc n) ts = many_turn (many_at close item n) (many_viable close n) ts (next_is close ts)

  while_turn : (others : Read (List A)) → Viable (Any (IsMany G)) others → (ts : List Token) (b : Bool) → GoesOn (Any (IsMany G)) ts (while_step item others b ts)
  while_turn others h ts false = tt
  while_turn others h ts true = turn_viable others h ts

  pub while_viable : (begins : List Token → Bool) (n : ℕ) → Viable (Any (IsMany G)) (while_at begins item n)
  unfolding while_at
  while_viable begins zero ts = tt
  while_viable begins (suc n) ts = while_turn (while_at begins item n) (while_viable begins n) ts (begins ts)

  separated_turn : (k : Mark) (others : Read (List A)) → Viable (Any (IsSeparated k G)) others → (x : A) (mid : List Token) (b : Bool) → next_is k mid ≡ b → GoesOn (Behind item x (Any (IsSeparated k G))) mid (separated_step others x b mid)
  separated_turn k others h x mid true e =
      goes_marked (Behind item x (Any (IsSeparated k G))) k mid e (others (after mid) >>= λ xs. Ok (x ∷ xs.0, xs.1))
      (goes_done (Marked k (Behind item x (Any (IsSeparated k G)))) (after mid) (λ xs. Ok (x ∷ xs.0, xs.1)) (others (after mid)) (λ xs. tt)
      (goes_as (after mid) (others (after mid)) (λ rest. (rest, λ us p s e' all d. (x ∷ p.0, before (is_read G item sound all x (token (mark k) s e' ∷ us) d) p.1))) (h (after mid))))
  separated_turn k others h x mid false e = tt

  pub separated_viable : (k : Mark) (n : ℕ) → Viable (Any (IsSeparated k G)) (separated_at k item n)
  unfolding separated_at
  separated_viable k zero ts = tt
  separated_viable k (suc n) ts =
      viable_then (Any (IsSeparated k G)) item (λ x. separated_step (separated_at k item n) x.0 (next_is k x.1) x.1) steady
      (λ ts. goes_as ts (item ts) (λ rest. (rest, λ us p. (p.0 ∷ [], last p.1))) (viable ts))
      (λ x mid. separated_turn k (separated_at k item n) (separated_viable k n) x mid (next_is k mid) refl) ts
