-- Wherever a reader stops, the tokens before that place can be gone on with.
use Rattle.std.proofs.Common.{◌≡◌, ℕ, Bool, true, false, cond, List, [], ◌∷◌, ◌++◌, length, Ok, Err, refl, sym, subst}
use Rattle.fb_words.specs.declared.mark.Mark.{Mark}
use Rattle.fb_model.specs.Tokens.{Kind, mark, Token, token}
use Rattle.fb_model.specs.Productions.{Gram}
use Rattle.fb_read.specs.Reading.{Wrong, syntax, too_deep, stuck, Answer, Read, ◌>>=◌, next_is, after, expect}
use Rattle.fb_read.proofs.Readers.{seen}
use Rattle.fb_text_laws.proofs.Fronts.{Front, here, there, onward}
use Rattle.fb_text_laws.proofs.Lexemes.{Spelled, mark_spelled}
use Rattle.fb_text_laws.proofs.Placed.{Placed, all_placed, one_placed, AllSpelled, all_spelled, one_spelled, both_spelled, parts}

-- what stands from these tokens up to a rest
abbrev pub Span : Type 1
Span = List Token → List Token → Type 0

-- a tree of the grammar stands there
abbrev pub Any : {A : Type 0} → Gram A → Span
Any {A} G us rest = (x : A) × G us x rest

-- what stands behind a mark
abbrev pub Marked : Mark → Span → Span
Marked k P us rest = (s e : ℕ) → P (token (mark k) s e ∷ us) rest

-- what stands behind what another span says
abbrev pub Behind : Span → Span → Span
Behind Q P us rest = (all : List Token) → Q all us → P all rest

-- ---- what is proved of readers

-- With other tokens in the place of those behind an end, the tokens are as the span says up to a rest.
pub record Reached (P : Span) (ts end others rest : List Token) : Type 0 where
  pub all : List Token
  pub same : Front end others ts all
  pub done : P all rest

-- The tokens before the last so many go on with tokens of some kinds, wherever these stand, up to any rest.
pub record Stopped (P : Span) (ts : List Token) (left : ℕ) : Type 0 where
  pub end : List Token
  pub left_is : left ≡ length end
  pub kinds : List Kind
  pub spelled : AllSpelled kinds
  pub ends : (rest others : List Token) → Placed rest kinds others → Reached P ts end others rest

-- how many tokens were left where reading stopped
abbrev pub left_of : Wrong → ℕ
left_of (syntax left) = left
left_of (too_deep left) = left

-- What was read is as the span says before any rest, and where reading stopped the tokens up to there can be gone on with.
abbrev pub GoesOn : {A : Type 0} → Span → List Token → Answer A → Type 0
GoesOn P ts (Ok x) = (rest : List Token) → Reached P ts x.1 rest rest
GoesOn P ts (Err e) = Stopped P ts (left_of e)

-- Tokens of some kinds, wherever they stand, are as the span says up to any rest.
pub record Fills (P : Span) : Type 0 where
  pub kinds : List Kind
  pub spelled : AllSpelled kinds
  pub holds : (rest us : List Token) → Placed rest kinds us → P us rest

-- This is so of all answers of a reader, which reads something.
pub record Fine {A : Type 0} (P : Span) (r : Read A) : Type 0 where
  pub sample : A
  pub fills : Fills P
  pub goes_on : (ts : List Token) → GoesOn P ts (r ts)

-- ---- tokens that fill a span

pub fills_none : (P : Span) → ((rest : List Token) → P rest rest) → Fills P
fills_none P h = record { kinds = []; spelled = all_spelled; holds = holds } where
  holds : (rest us : List Token) → Placed rest [] us → P us rest
  holds rest us all_placed = h rest

pub fills_next : (P : Span) (k : Kind) → Spelled k → Fills (λ us rest. (s e : ℕ) → P (token k s e ∷ us) rest) → Fills P
fills_next P k spelled f = record { kinds = k ∷ f.kinds; spelled = one_spelled spelled f.spelled; holds = holds } where
  holds : (rest us : List Token) → Placed rest (k ∷ f.kinds) us → P us rest
  holds rest us (one_placed {s = s} {e = e} {us = vs} p) = f.holds rest vs p s e

-- one token
pub fills_token : (P : Span) (k : Kind) → Spelled k → ((s e : ℕ) (rest : List Token) → P (token k s e ∷ rest) rest) → Fills P
fills_token P k spelled h = fills_next P k spelled (fills_none (λ us rest. (s e : ℕ) → P (token k s e ∷ us) rest) (λ rest s e. h s e rest))

pub fills_mark : (P : Span) (k : Mark) → Fills (Marked k P) → Fills P
fills_mark P k f = fills_next P (mark k) (mark_spelled k) f

pub fills_as : {P : Span} (Q : Span) → ((us rest : List Token) → P us rest → Q us rest) → Fills P → Fills Q
fills_as Q h f = record { kinds = f.kinds; spelled = f.spelled; holds = λ rest us p. h us rest (f.holds rest us p) }

pub fills_then : (P Q : Span) → Fills Q → Fills (Behind Q P) → Fills P
fills_then P Q f g =
    record {
      kinds = f.kinds ++ g.kinds;
      spelled = both_spelled f.spelled g.spelled;
      holds = λ rest us p. let q = parts f.kinds g.kinds rest us p in g.holds rest q.0 q.2 us (f.holds q.0 us q.1);
    }

-- ---- the place where reading begins

pub stopped : (P : Span) → Fills P → (ts : List Token) → Stopped P ts (length ts)
stopped P fills ts = record { end = ts; left_is = refl; kinds = fills.kinds; spelled = fills.spelled; ends = λ rest others p. record { all = others; same = here; done = fills.holds rest others p } }

pub fine_done : {A : Type 0} (P : Span) (v : List Token → A) → ((us : List Token) → P us us) → Fine P (λ ts. Ok (v ts, ts))
fine_done P v h = record { sample = v []; fills = fills_none P h; goes_on = λ ts rest. record { all = rest; same = here; done = h rest } }

pub fine_stuck : {A : Type 0} (P : Span) → A → Fills P → Fine {A = A} P (λ ts. stuck ts)
fine_stuck P v fills = record { sample = v; fills = fills; goes_on = λ ts. stopped P fills ts }

-- ---- steps

reached_as : (P Q : Span) (ts end others rest : List Token) → ((us rest : List Token) → P us rest → Q us rest) → Reached P ts end others rest → Reached Q ts end others rest
reached_as P Q ts end others rest f h = record { all = h.all; same = h.same; done = f h.all rest h.done }

pub goes_as : {A : Type 0} {P Q : Span} (ts : List Token) (r : Answer A) → ((us rest : List Token) → P us rest → Q us rest) → GoesOn P ts r → GoesOn Q ts r
goes_as {P = P} {Q = Q} ts (Ok x) f h = λ rest. reached_as P Q ts x.1 rest rest f (h rest)
goes_as {P = P} {Q = Q} ts (Err e) f h = record { end = h.end; left_is = h.left_is; kinds = h.kinds; spelled = h.spelled; ends = λ rest others p. reached_as P Q ts h.end others rest f (h.ends rest others p) }

-- what is as one span says is as another says
pub fine_as : {A : Type 0} {P : Span} (Q : Span) (r : Read A) → ((us rest : List Token) → P us rest → Q us rest) → Fine P r → Fine Q r
fine_as Q r f h = record { sample = h.sample; fills = fills_as Q f h.fills; goes_on = λ ts. goes_as ts (r ts) f (h.goes_on ts) }

-- what was read, and what stands behind it
reached_behind : (P Q : Span) (ts mid end others rest : List Token) → ((rest : List Token) → Reached Q ts mid rest rest) → Reached (Behind Q P) mid end others rest → Reached P ts end others rest
reached_behind P Q ts mid end others rest m a = let b = m a.all in record { all = b.all; same = onward b.same a.same; done = a.done b.all b.done }

goes_behind : {B : Type 0} (P Q : Span) (ts mid : List Token) → ((rest : List Token) → Reached Q ts mid rest rest) → (w : Answer B) → GoesOn (Behind Q P) mid w → GoesOn P ts w
goes_behind P Q ts mid m (Ok y) h = λ rest. reached_behind P Q ts mid y.1 rest rest m (h rest)
goes_behind P Q ts mid m (Err e) h = record { end = h.end; left_is = h.left_is; kinds = h.kinds; spelled = h.spelled; ends = λ rest others p. reached_behind P Q ts mid h.end others rest m (h.ends rest others p) }

-- a step, and what is done behind it
pub goes_then : {A B : Type 0} (P Q : Span) (f : A × List Token → Answer B) (ts : List Token) (r : Answer A) → Fills (Behind Q P) → GoesOn Q ts r → ((x : A) (mid : List Token) → GoesOn (Behind Q P) mid (f (x, mid))) → GoesOn P ts (r >>= f)
goes_then P Q f ts (Ok x) fills h g = goes_behind P Q ts x.1 h (f x) (g x.0 x.1)
goes_then P Q f ts (Err e) fills h g = record { end = h.end; left_is = h.left_is; kinds = h.kinds ++ fills.kinds; spelled = both_spelled h.spelled fills.spelled; ends = ends } where
  ends : (rest others : List Token) → Placed rest (h.kinds ++ fills.kinds) others → Reached P ts h.end others rest
  ends rest others p =
      let q = parts h.kinds fills.kinds rest others p in
      let a = h.ends q.0 others q.1 in
      record { all = a.all; same = a.same; done = fills.holds rest q.0 q.2 a.all a.done }

pub fine_then : {A B : Type 0} (P Q : Span) (r : Read A) (f : List Token → A × List Token → Answer B) → Fine Q r → ((l : List Token) (x : A) → Fine (Behind Q P) (λ mid. f l (x, mid))) → Fine P (λ ts. r ts >>= f ts)
fine_then P Q r f h g =
    let first = g [] h.sample in
    record { sample = first.sample; fills = fills_then P Q h.fills first.fills; goes_on = λ ts. goes_then P Q (f ts) ts (r ts) first.fills (h.goes_on ts) (λ x mid. (g ts x).goes_on mid) }

-- the value alone is another
pub fine_last : {A B : Type 0} (P : Span) (r : Read A) (v : List Token → A × List Token → B) → Fine P r → Fine P (λ ts. r ts >>= λ x. Ok (v ts x, x.1))
fine_last P r v h = record { sample = v [] (h.sample, []); fills = h.fills; goes_on = λ ts. by ts (r ts) (h.goes_on ts) } where
  by : (ts : List Token) (a : Answer _) → GoesOn P ts a → GoesOn P ts (a >>= λ x. Ok (v ts x, x.1))
  by ts (Ok x) p = p
  by ts (Err e) p = p

-- what is read may hang on what stands there
pub fine_by : {A I : Type 0} (P : Span) (r : I → Read A) (of : List Token → I) → ((i : I) → Fine P (r i)) → Fine P (λ ts. r (of ts) ts)
fine_by P r of h = let first = h (of []) in record { sample = first.sample; fills = first.fills; goes_on = λ ts. (h (of ts)).goes_on ts }

-- one way of reading or another
pub fine_if : {A : Type 0} (P : Span) (test : List Token → Bool) (r r' : Read A) → Fine P r → Fine P r' → Fine P (λ ts. cond (test ts) (r ts) (r' ts))
fine_if {A} P test r r' h h' = fine_by P (λ b ts. cond b (r ts) (r' ts)) test by where
  by : (b : Bool) → Fine P (λ ts. cond b (r ts) (r' ts))
  by true = h
  by false = h'

-- ---- marks

-- what stands behind a token
reached_next : (P : Span) (t : Token) (ts end others rest : List Token) → Reached (λ us rest. P (t ∷ us) rest) ts end others rest → Reached P (t ∷ ts) end others rest
reached_next P t ts end others rest h = record { all = t ∷ h.all; same = there h.same; done = h.done }

pub goes_next : {A : Type 0} (P : Span) (t : Token) (ts : List Token) (r : Answer A) → GoesOn (λ us rest. P (t ∷ us) rest) ts r → GoesOn P (t ∷ ts) r
goes_next P t ts (Ok x) h = λ rest. reached_next P t ts x.1 rest rest (h rest)
goes_next P t ts (Err e) h = record { end = h.end; left_is = h.left_is; kinds = h.kinds; spelled = h.spelled; ends = λ rest others p. reached_next P t ts h.end others rest (h.ends rest others p) }

-- what stands behind a mark that a test has seen
pub goes_marked : {A : Type 0} (P : Span) (k : Mark) (ts : List Token) → next_is k ts ≡ true → (r : Answer A) → GoesOn (Marked k P) (after ts) r → GoesOn P ts r
goes_marked P k ts e r h =
    let first = seen (λ l. ts ≡ l) k ts e refl in
    subst (λ l. GoesOn P l r) (sym first.2) (goes_next P (token (mark k) first.0 first.1) (after ts) r (goes_as (after ts) r (λ us rest p. p first.0 first.1) h))

-- this mark, and what is done behind it
pub fine_expect : {A : Type 0} (P : Span) (k : Mark) (f : List Token → Read A) → ((l : List Token) → Fine (Marked k P) (f l)) → Fine P (λ ts. expect k ts >>= f ts)
fine_expect {A} P k f h = record { sample = (h []).sample; fills = fills_mark P k (h []).fills; goes_on = λ ts. by ts (next_is k ts) refl } where
  by : (ts : List Token) (b : Bool) → next_is k ts ≡ b → GoesOn P ts (cond b (Ok (after ts)) (stuck ts) >>= f ts)
  by ts true e = goes_marked P k ts e (f ts (after ts)) ((h ts).goes_on (after ts))
  by ts false e = stopped P (fills_mark P k (h []).fills) ts

-- a mark that may stand next
pub fine_may : {A : Type 0} (P : Span) (k : Mark) (f : List Token → Read A) (g : Read A) → ((l : List Token) → Fine (Marked k P) (f l)) → Fine P g → Fine P (λ ts. cond (next_is k ts) (f ts (after ts)) (g ts))
fine_may {A} P k f g h i = record { sample = i.sample; fills = i.fills; goes_on = λ ts. by ts (next_is k ts) refl } where
  by : (ts : List Token) (b : Bool) → next_is k ts ≡ b → GoesOn P ts (cond b (f ts (after ts)) (g ts))
  by ts true e = goes_marked P k ts e (f ts (after ts)) ((h ts).goes_on (after ts))
  by ts false e = i.goes_on ts
