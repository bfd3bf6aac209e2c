-- What reading tells of all of the tokens, once for all grammars.
use Rattle.std.proofs.Common.{◌≡◌, ◌⊎◌, ◌-◌, ◌<◌, ◌≤◌, ℕ, suc, Bool, false, List, [], ◌∷◌, ◌++◌, drop, length, Result, Ok, Err, refl, sym, ap, subst, ◌∙◌, arith, inl, inr}
use Rattle.std.proofs.lemmas.List.{length-drop}
use Rattle.fb_faults.specs.declared.text.TextFault.{TextFault}
use Rattle.fb_faults.specs.declared.text.TextFault.TheVariants as faults
use Rattle.fb_model.specs.Tokens.{Token, token}
use Rattle.fb_model.specs.Productions.{Gram}
use Rattle.fb_read.specs.declared.stop.Stop.{Stop}
use Rattle.fb_read.specs.declared.stop.Stop.TheVariants.{Memory, Syntax, TooDeep}
use Rattle.fb_read.specs.Reading.{Wrong, syntax, too_deep, Answer, Read, ◌>>=◌, ended, whole_of}
use Rattle.fb_read.specs.Answers.{Fails}
use Rattle.fb_read.specs.Faults.{start_or, start_of, offset_of, Says}
use Rattle.fb_read.specs.Whole.{Tells, Finds, IfSyntax, CannotStand, OpensTooMany, PlacesSyntax, PlacesTooDeep}
use Rattle.fb_read.proofs.Fronts.{front, same_front}
use Rattle.fb_read.proofs.Readers.{Meets, Sound, Gets, Complete, NotDeep, gets_then}
use Rattle.fb_read.proofs.Steady.{Same, here, there, Goes, Steady, IsStuck, IsDeep}
use Rattle.fb_read.proofs.Viable.{Span, Begun, GoesOn, Viable, goes_done}

-- ---- what is found

-- The tree of an answer is as the predicate says.
abbrev MeetsAll : {A : Type 0} → (A → Type 0) → Result A Wrong → Type 0
MeetsAll P (Ok x) = P x
MeetsAll P (Err e) = Unit {0}

ended_meets : {A : Type 0} (P : A → List Token → Type 0) (r : Answer A) → Meets P r → MeetsAll (λ x. P x []) (r >>= λ x. ended x.0 x.1)
ended_meets P (Err e) h = tt
ended_meets {A} P (Ok x) h = by x.0 x.1 h where
  by : (y : A) (rest : List Token) → P y rest → MeetsAll (λ z. P z []) (ended y rest)
  by y [] p = p
  by y (t ∷ rest) p = tt

-- what is read is in the grammar
pub whole_sound : {A : Type 0} (G : Gram A) (read : Read A) → Sound G read → (ts : List Token) (x : A) → whole_of read ts ≡ Ok x → G ts x []
whole_sound G read sound ts x e = subst (λ r. MeetsAll (λ y. G ts y []) r) e (ended_meets (G ts) (read ts) (sound ts))

-- what is in the grammar is read, or the nesting is at its end
pub whole_complete : {A : Type 0} (Deep : Type 0) (goes_on : List Token → Bool) (G : Gram A) (read : Read A) → Complete Deep goes_on G read → goes_on [] ≡ false → (ts : List Token) (x : A) → G ts x [] → Gets Deep (whole_of read ts) x
whole_complete Deep goes_on G read complete stops ts x h = gets_then _ _ (read ts) (x, []) (complete ts x [] h stops) (inl refl)

-- ---- where reading stopped

module _ {A : Type 0} where
  ended_left : (x : A) (rest : List Token) (left : ℕ) → ended x rest ≡ Err (syntax left) → left ≤ length rest
  ended_left x [] left e = absurd cc
  ended_left x (u ∷ rest) left e = let f : suc (length rest) ≡ left = cc in omega arith

  ended_shallow : (x : A) (rest : List Token) (left : ℕ) → ended x rest ≡ Err (too_deep left) → ⊥
  ended_shallow x [] left e = absurd cc
  ended_shallow x (u ∷ rest) left e = absurd cc

  shallow_ended : (x : A) (rest : List Token) → NotDeep (ended x rest)
  shallow_ended x [] = tt
  shallow_ended x (t ∷ rest) = tt

  ended_same : (x : A) {t : Token} {q q' ts us : List Token} → Same t q q' ts us → IsStuck (ended x us)
  ended_same x here = tt
  ended_same x (there s) = tt

  stuck_goes : (t : Token) (q q' : List Token) (r r' : Answer A) → Goes t q q' r r' → (left : ℕ) → (r >>= λ x. ended x.0 x.1) ≡ Err (syntax left) → length q < left → IsStuck (r' >>= λ x. ended x.0 x.1)
  stuck_goes t q q' (Ok x) r' (inl le) left e lt = let f = ended_left x.0 x.1 left e in absurd (omega arith)
  stuck_goes t q q' (Ok x) r' (inr p) left e lt = subst (λ z. IsStuck (z >>= λ x. ended x.0 x.1)) (sym p.2) (ended_same x.0 p.1)
  stuck_goes t q q' (Err (syntax l)) r' (inl le) left e lt = let f : l ≡ left = cc in absurd (omega arith)
  stuck_goes t q q' (Err (syntax l)) (Ok x) (inr h) left e lt = absurd h
  stuck_goes t q q' (Err (syntax l)) (Err (syntax k)) (inr h) left e lt = tt
  stuck_goes t q q' (Err (syntax l)) (Err (too_deep k)) (inr h) left e lt = h
  stuck_goes t q q' (Err (too_deep l)) r' h left e lt = absurd cc

  deep_goes : (t : Token) (q q' : List Token) (r r' : Answer A) → Goes t q q' r r' → (left : ℕ) → (r >>= λ x. ended x.0 x.1) ≡ Err (too_deep left) → length q < left → IsDeep (r' >>= λ x. ended x.0 x.1)
  deep_goes t q q' (Ok x) r' h left e lt = absurd (ended_shallow x.0 x.1 left e)
  deep_goes t q q' (Err (syntax l)) r' h left e lt = absurd cc
  deep_goes t q q' (Err (too_deep l)) r' (inl le) left e lt = let f : l ≡ left = cc in absurd (omega arith)
  deep_goes t q q' (Err (too_deep l)) (Ok x) (inr h) left e lt = absurd h
  deep_goes t q q' (Err (too_deep l)) (Err (syntax k)) (inr h) left e lt = h
  deep_goes t q q' (Err (too_deep l)) (Err (too_deep k)) (inr h) left e lt = tt

-- What refuses tokens at one of them refuses, for the same reason, all tokens that begin with those up to it, and with it.
pub record Points {A : Type 0} (read : List Token → Result A Wrong) : Type 0 where
  pub stuck_stays : (t : Token) (q q' ts us : List Token) → Same t q q' ts us → (left : ℕ) → read ts ≡ Err (syntax left) → length q < left → IsStuck (read us)
  pub deep_stays : (t : Token) (q q' ts us : List Token) → Same t q q' ts us → (left : ℕ) → read ts ≡ Err (too_deep left) → length q < left → IsDeep (read us)

pub whole_points : {A : Type 0} (read : Read A) → Steady read → Points (whole_of read)
whole_points read steady =
    record {
      stuck_stays = λ t q q' ts us s left e lt. stuck_goes t q q' (read ts) (read us) (steady.local t q q' ts us s) left e lt;
      deep_stays = λ t q q' ts us s left e lt. deep_goes t q q' (read ts) (read us) (steady.local t q q' ts us s) left e lt;
    }

-- where no token is left, the place is the end
abbrev AtEnd : ℕ → List Token → ℕ → ℕ → Type 0
AtEnd end ts left offset = (drop (length ts - left) ts ≡ []) × (offset ≡ end)

-- The first of the tokens that are left cannot stand there, or none is left.
stands_not : {A : Type 0} (Kind : List Token → A → Type 0) (end : ℕ) (ts : List Token) (left offset : ℕ) → offset ≡ offset_of end ts left
    → ((t : Token) (q q' us : List Token) → Same t q q' ts us → length q < left → (x : A) → Kind us x → ⊥) → AtEnd end ts left offset ⊎ CannotStand Kind ts offset
stands_not Kind end ts left offset o refused = by (drop (length ts - left) ts) refl o where
  by : (l : List Token) → drop (length ts - left) ts ≡ l → offset ≡ start_or end l → AtEnd end ts left offset ⊎ CannotStand Kind ts offset
  by [] d f = inl (d, f)
  by (token k s e ∷ q) d f =
      let p = front (length ts - left) ts in
      let whole : ts ≡ p.0 ++ token k s e ∷ q = subst (λ l. ts ≡ p.0 ++ l) d p.1 in
      let long : suc (length q) ≡ length ts - (length ts - left) = ap length (sym d) ∙ length-drop (length ts - left) ts in
      inr (record {
        before = p.0;
        wrong = token k s e;
        behind = q;
        tokens_are = whole;
        begins = f;
        never = λ others x h. refused (token k s e) q others (p.0 ++ token k s e ∷ others) (subst (λ l. Same (token k s e) q others l (p.0 ++ token k s e ∷ others)) (sym whole) (same_front p.0)) (omega arith) x h;
      })

-- what stands before a token
front_of : {t : Token} {q q' ts us : List Token} → Same t q q' ts us → (p : List Token) × (ts ≡ p ++ t ∷ q) × (us ≡ p ++ t ∷ q')
front_of here = ([], refl, refl)
front_of (there {u = u} s) = let f = front_of s in (u ∷ f.0, ap (λ l. u ∷ l) f.1, ap (λ l. u ∷ l) f.2)

some_more : (p : List Token) (t : Token) (q : List Token) → suc (length q) ≤ length (p ++ t ∷ q)
some_more [] t q = omega arith
some_more (u ∷ p) t q = let a = some_more p t q in omega arith

-- where a token begins that has so many behind it
begins_at : (end : ℕ) (p : List Token) (t : Token) (q : List Token) → offset_of end (p ++ t ∷ q) (suc (length q)) ≡ start_of t
begins_at end p (token k s e) q = ap (start_or end) (drops p) where
  drops : (p : List Token) → drop (length (p ++ token k s e ∷ q) - suc (length q)) (p ++ token k s e ∷ q) ≡ token k s e ∷ q
  drops [] = let none : suc (length q) - suc (length q) ≡ 0 = omega arith in ap (λ n. drop n (token k s e ∷ q)) none
  drops (u ∷ p) =
      let le : suc (length q) ≤ length (p ++ token k s e ∷ q) = some_more p (token k s e) q in
      let less : suc (length (p ++ token k s e ∷ q)) - suc (length q) ≡ suc (length (p ++ token k s e ∷ q) - suc (length q)) = omega arith in
      ap (λ n. drop n (u ∷ (p ++ token k s e ∷ q))) less ∙ drops p

-- The token before which the nesting is at its end opens one too many.
opens_too_many : {A : Type 0} (Kind Deeper : List Token → A → Type 0) (end : ℕ) (ts : List Token) (left offset : ℕ) → offset ≡ offset_of end ts left → (P : Span) (b : Begun P ts left) → ((us : List Token) → P us [] → (x : A) × Deeper us x)
    → ((q' us : List Token) → Same b.opener b.behind q' ts us → (x : A) → Kind us x → ⊥) → OpensTooMany Kind Deeper ts offset
opens_too_many Kind Deeper end ts left offset o P b deeper refused =
    let f = b.ends [] in
    let p = front_of f.same in
    let d = deeper f.all f.done in
    record {
      before = p.0;
      opener = b.opener;
      behind = b.behind;
      tokens_are = p.1;
      begins = o ∙ (ap (λ n. offset_of end ts n) b.left_is ∙ (ap (λ l. offset_of end l (suc (length b.behind))) p.1 ∙ begins_at end p.0 b.opener b.behind));
      never = λ others x h. refused others (p.0 ++ b.opener ∷ others) (subst (λ l. Same b.opener b.behind others l (p.0 ++ b.opener ∷ others)) (sym p.1) (same_front p.0)) x h;
      others = f.others;
      tree = d.0;
      goes_on = subst (λ l. Deeper l d.0) p.2 d.1;
    }

-- what goes on goes on where all of the tokens are to be read
pub whole_viable : {A : Type 0} (P : Span) (read : Read A) → Viable P read → Viable P (whole_of read)
whole_viable P read h ts = goes_done P ts (λ x. ended x.0 x.1) (read ts) (λ x. shallow_ended x.0 x.1) (h ts)

-- ---- in the words of the answers

-- the fault that a stop becomes
pub reads_of : {X Y : Type 0} (view : X → Y) (read : Result Y Wrong) (end : ℕ) (ts : List Token) (stop : Stop) (fault : TextFault) → Says end ts stop fault → Fails stop read → Tells view read end ts (Err fault)
reads_of view read end ts Memory faults.OutOfMemory s h = tt
reads_of view read end ts (Syntax left) (faults.Syntax offset) s h = (left, h, s)
reads_of view read end ts (TooDeep left) (faults.TooDeep offset) s h = (left, h, s)
reads_of view read end ts stop fault s h = absurd s

module _ {X Y : Type 0} (view : X → Y) (end : ℕ) (ts : List Token) (fault : TextFault) where
  -- what is read of the tokens is found
  pub reads_only : (read : Result Y Wrong) (x : Y) → Tells view read end ts (Err fault) → read ≡ Ok x → Finds view (Err fault) x
  reads_only read x e h = by fault e where
    refused : (w : Wrong) → read ≡ Err w → ⊥
    refused w f = let g : Err w ≡ Ok x = sym f ∙ h in absurd cc

    by : (f : TextFault) → Tells view read end ts (Err f) → Finds view (Err f) x
    by faults.OutOfMemory p = tt
    by (faults.Syntax offset) p = refused (syntax p.0) p.1
    by (faults.TooDeep offset) p = refused (too_deep p.0) p.1
    by f p = p

  pub reads_syntax : (read : Result Y Wrong) (P : Type 0) → (IsStuck read → P) → Tells view read end ts (Err fault) → IfSyntax {X = X} (Err fault) P
  reads_syntax read P refused e = by fault e where
    by : (f : TextFault) → Tells view read end ts (Err f) → IfSyntax {X = X} (Err f) P
    by (faults.Syntax offset) p = refused (subst (λ r. IsStuck r) (sym p.1) tt)
    by f p = tt

  module _ (Kind : List Token → Y → Type 0) (read : List Token → Result Y Wrong) (points : Points read) where
    pub reads_place : ((us : List Token) (x : Y) → IsStuck (read us) → Kind us x → ⊥) → Tells view (read ts) end ts (Err fault) → PlacesSyntax {X = X} Kind end ts (Err fault)
    reads_place refused e = by fault e where
      by : (f : TextFault) → Tells view (read ts) end ts (Err f) → PlacesSyntax {X = X} Kind end ts (Err f)
      by (faults.Syntax offset) p = elim (stands_not Kind end ts p.0 offset p.2 (λ t q q' us s lt x h. refused us x (points.stuck_stays t q q' ts us s p.0 p.1 lt) h)) [ inl a ↦ inl a.1 | inr c ↦ inr c ]
      by f p = tt

    pub reads_deep : (Deeper : List Token → Y → Type 0) (P : Span) → ((us : List Token) → GoesOn P us (read us)) → ((us : List Token) → P us [] → (x : Y) × Deeper us x) → ((us : List Token) (x : Y) → IsDeep (read us) → Kind us x → ⊥)
        → Tells view (read ts) end ts (Err fault) → PlacesTooDeep {X = X} Kind Deeper ts (Err fault)
    reads_deep Deeper P viable deeper refused e = by fault e where
      by : (f : TextFault) → Tells view (read ts) end ts (Err f) → PlacesTooDeep {X = X} Kind Deeper ts (Err f)
      by (faults.TooDeep offset) p =
          let b : Begun P ts p.0 = subst (λ r. GoesOn P ts r) p.1 (viable ts) in
          opens_too_many Kind Deeper end ts p.0 offset p.2 P b deeper
          (λ q' us s x h. refused us x (points.deep_stays b.opener b.behind q' ts us s p.0 p.1 (let n = b.left_is in omega arith)) h)
      by f p = tt
