-- Where texts that are no tree go wrong, and where they nest too deep.
use Rattle.std.proofs.Common.{◌≡◌, ◌⊎◌, ℕ, suc, ◌-◌, ◌<◌, List, [], ◌∷◌, ◌++◌, take, drop, length, Result, Ok, Err, refl, sym, ap, subst, ◌∙◌, arith, inl, inr}
use Rattle.std.proofs.lemmas.List.{append_assoc, append-nil, length-drop, take-append-drop}
use Rattle.fb_faults.specs.declared.text.TextFault.TheVariants as faults
use Rattle.fb_lex.proofs.Whole.{spelled_once}
use Rattle.fb_model.specs.Tokens.{Token, token}
use Rattle.fb_model.specs.Declarations.{SourceTree}
use Rattle.fb_model.specs.Spelling.{Spells}
use Rattle.fb_model.specs.StructuredTextGrammar.{most_nested, most_nested_statements}
use Rattle.fb_read.specs.Reading.{Wrong, syntax, too_deep}
use Rattle.fb_read.specs.Faults.{start_or, offset_of}
use Rattle.fb_read.proofs.Fronts.{same_front}
use Rattle.fb_read.proofs.Steady.{Same, IsStuck}
use Rattle.fb_model.specs.Sources.{IsNested, IsTree, IsSource}
use Rattle.fb_text.specs.Reading.{whole_at}
use Rattle.fb_text.specs.Answers.{ReadsText}
use Rattle.fb_text.proofs.Laws.{tree_spelled}
use Rattle.fb_model.specs.RefusedTexts.{Begins, StartsTree, IsWrongToken, IsNoTree, IsTooDeep}
use Rattle.fb_text_laws.proofs.Fronts.{cut, compare}
use Rattle.fb_text_laws.proofs.Whole.{source_points, not_stuck, not_deep, deeper, goes_on, begins, text_goes_on}

-- ---- what a refusal says

-- Where reading stopped at a token, no tree, however deep, begins with the tokens before it and with it.
wrong_never : (ts : List Token) (left : ℕ) → whole_at ts ≡ Err (syntax left) → (p : List Token) (t : Token) (q : List Token) → ts ≡ p ++ t ∷ q → length q < left → (others : List Token) (n k : ℕ) (x : SourceTree) → IsNested n k (p ++ t ∷ others) x → ⊥
wrong_never ts left e p t q whole lt others =
    let s : Same t q others ts (p ++ t ∷ others) = subst (λ l. Same t q others l (p ++ t ∷ others)) (sym whole) (same_front p) in
    not_stuck (p ++ t ∷ others) (source_points.stuck_stays t q others ts (p ++ t ∷ others) s left e lt)

-- And where it was too deep there, no tree within the limits does.
deep_never : (ts : List Token) (left : ℕ) → whole_at ts ≡ Err (too_deep left) → (p : List Token) (t : Token) (q : List Token) → ts ≡ p ++ t ∷ q → length q < left → (others : List Token) (x : SourceTree) → IsTree (p ++ t ∷ others) x → ⊥
deep_never ts left e p t q whole lt others x h =
    let s : Same t q others ts (p ++ t ∷ others) = subst (λ l. Same t q others l (p ++ t ∷ others)) (sym whole) (same_front p) in
    not_deep (p ++ t ∷ others) x (source_points.deep_stays t q others ts (p ++ t ∷ others) s left e lt) h

-- where the first of the tokens that were left begins, or the end where none was
place_of : (end : ℕ) (ts : List Token) (left at : ℕ) → whole_at ts ≡ Err (syntax left) → at ≡ offset_of end ts left → ((at ≡ end) × Begins ts) ⊎ IsWrongToken ts at
place_of end ts left at e o = by (drop (length ts - left) ts) refl o where
  by : (l : List Token) → drop (length ts - left) ts ≡ l → at ≡ start_or end l → ((at ≡ end) × Begins ts) ⊎ IsWrongToken ts at
  by [] d f =
      let p = take (length ts - left) ts in
      let all : p ≡ ts = sym (append-nil p) ∙ (ap (λ l. p ++ l) (sym d) ∙ take-append-drop (length ts - left) ts) in
      inl (f, subst (λ l. Begins l) all (begins _ (goes_on ts (syntax left) e)))
  by (token kind start finish ∷ behind) d f =
      let p = take (length ts - left) ts in
      let t = token kind start finish in
      let whole : ts ≡ p ++ t ∷ behind = sym (take-append-drop (length ts - left) ts) ∙ ap (λ l. p ++ l) d in
      let long : suc (length behind) ≡ length ts - (length ts - left) = ap length (sym d) ∙ length-drop (length ts - left) ts in
      let found : IsWrongToken ts start = record { before = p; kind = kind; end = finish; behind = behind; tokens_are = whole; goes_on = begins p (goes_on ts (syntax left) e); never = wrong_never ts left e p t behind whole (omega arith) } in
      inr (subst (λ a. IsWrongToken ts a) (sym f) found)

pub syntax_is_so : (text : List ℕ) (at : ℕ) → ReadsText text (Err (faults.Syntax at)) → IsNoTree text at
syntax_is_so text at h =
    let ts = h.tokens in
    let r = h.read_is in
    record { tokens = ts; spelled = h.spelled; none = λ n k x g. not_stuck ts (subst (λ r. IsStuck r) (sym r.1) tt) n k x g; place = place_of (length text) ts r.0 at r.1 r.2 }

deep_of : (text : List ℕ) (ts : List Token) → Spells 0 text ts → (left at : ℕ) → whole_at ts ≡ Err (too_deep left) → at ≡ offset_of (length text) ts left → (before : List Token) (opener : Token) (behind : List Token) → ts ≡ before ++ opener ∷ behind → left ≡ suc (length behind)
    → (others : List Token) (tree : SourceTree) → IsNested (suc most_nested) (suc most_nested_statements) (before ++ opener ∷ others) tree → IsTooDeep text at
deep_of text ts spelled left at e o p (token kind start end) behind whole left_is others tree nested =
    let t = token kind start end in
    let c = cut p (t ∷ behind) in
    let starts : offset_of (length text) ts left ≡ start = ap (λ n. offset_of (length text) ts n) left_is ∙ (ap (λ l. offset_of (length text) l (suc (length behind))) whole ∙ ap (λ l. start_or (length text) l) c.1) in
    let before : take (length ts - left) ts ≡ p = ap (λ n. take (length ts - n) ts) left_is ∙ (ap (λ l. take (length l - suc (length behind)) l) whole ∙ c.0) in
    let found : IsTooDeep text start = record {
      tokens = ts;
      spelled = spelled;
      before = p;
      kind = kind;
      end = end;
      behind = behind;
      tokens_are = whole;
      goes_on = subst (λ l. Begins l) before (begins _ (goes_on ts (too_deep left) e));
      never = deep_never ts left e p t behind whole (omega (arith, left_is));
      deeper = (others, suc most_nested, suc most_nested_statements, tree, nested);
    } in
    subst (λ a. IsTooDeep text a) (sym (o ∙ starts)) found

pub deep_is_so : (text : List ℕ) (at : ℕ) → ReadsText text (Err (faults.TooDeep at)) → IsTooDeep text at
deep_is_so text at h =
    let r = h.read_is in
    let b = deeper h.tokens r.0 r.1 in
    deep_of text h.tokens h.spelled r.0 at r.1 r.2 b.before b.opener b.behind b.tokens_are b.left_is b.others b.tree b.goes_on

-- ---- one place

-- a tree that begins with more than these tokens and a token begins with them
goes_with : (p q m : List Token) (t : Token) → q ≡ p ++ t ∷ m → Begins q → (others : List Token) × (x : SourceTree) × IsTree (p ++ t ∷ others) x
goes_with p q m t e b = (m ++ b.0, b.1, subst (λ l. IsTree l b.1) (ap (λ l. l ++ b.0) e ∙ append_assoc p (t ∷ m) b.0) b.2)

-- where a token is wrong, no tree goes on with it
wrong_ends : (ts : List Token) (a : ℕ) (v : IsWrongToken ts a) (q m : List Token) → q ≡ v.before ++ token v.kind a v.end ∷ m → Begins q → ⊥
wrong_ends ts a v q m e b = let g = goes_with v.before q m (token v.kind a v.end) e b in v.never g.0 most_nested most_nested_statements g.1 g.2

deep_ends : (text : List ℕ) (a : ℕ) (v : IsTooDeep text a) (q m : List Token) → q ≡ v.before ++ token v.kind a v.end ∷ m → Begins q → ⊥
deep_ends text a v q m e b = let g = goes_with v.before q m (token v.kind a v.end) e b in v.never g.0 g.1 g.2

abbrev Place : ℕ → List Token → ℕ → Type 0
Place end ts a = ((a ≡ end) × Begins ts) ⊎ IsWrongToken ts a

place_once : (end : ℕ) (ts : List Token) (a b : ℕ) → Place end ts a → Place end ts b → a ≡ b
place_once end ts a b (inl f) (inl g) = f.0 ∙ sym g.0
place_once end ts a b (inl f) (inr w) = absurd (wrong_ends ts b w ts w.behind w.tokens_are f.1)
place_once end ts a b (inr v) (inl g) = absurd (wrong_ends ts a v ts v.behind v.tokens_are g.1)
place_once end ts a b (inr v) (inr w) = elim (compare v.before w.before v.behind w.behind (token v.kind a v.end) (token w.kind b w.end) (sym v.tokens_are ∙ w.tokens_are)) [
  | inl s ↦ let same : token v.kind a v.end ≡ token w.kind b w.end = s.1 in cc
  | inr (inl m) ↦ absurd (wrong_ends ts a v w.before m.0 m.1 w.goes_on)
  | inr (inr m) ↦ absurd (wrong_ends ts b w v.before m.0 m.1 v.goes_on)
]

pub syntax_once : (text : List ℕ) (a b : ℕ) → IsNoTree text a → IsNoTree text b → a ≡ b
syntax_once text a b g h = place_once (length text) g.tokens a b g.place (subst (λ ts. Place (length text) ts b) (spelled_once h.spelled g.spelled) h.place)

pub deep_once : (text : List ℕ) (a b : ℕ) → IsTooDeep text a → IsTooDeep text b → a ≡ b
deep_once text a b v w = elim (compare v.before w.before v.behind w.behind (token v.kind a v.end) (token w.kind b w.end) (sym v.tokens_are ∙ (spelled_once v.spelled w.spelled ∙ w.tokens_are))) [
  | inl s ↦ let same : token v.kind a v.end ≡ token w.kind b w.end = s.1 in cc
  | inr (inl m) ↦ absurd (deep_ends text a v w.before m.0 m.1 w.goes_on)
  | inr (inr m) ↦ absurd (deep_ends text b w v.before m.0 m.1 v.goes_on)
]

-- a text that goes wrong at a token does not nest too deep
wrong_not_deep : (text : List ℕ) (ts : List Token) (a b : ℕ) → Spells 0 text ts → IsWrongToken ts a → IsTooDeep text b → ⊥
wrong_not_deep text ts a b spelled v w = elim (compare v.before w.before v.behind w.behind (token v.kind a v.end) (token w.kind b w.end) (sym v.tokens_are ∙ (spelled_once spelled w.spelled ∙ w.tokens_are))) [
  | inl s ↦
      let d = w.deeper in
      let same : w.before ++ token w.kind b w.end ∷ d.0 ≡ v.before ++ token v.kind a v.end ∷ d.0 = ap (λ l. l ++ token w.kind b w.end ∷ d.0) (sym s.0) ∙ ap (λ t. v.before ++ t ∷ d.0) (sym s.1) in
      v.never d.0 d.1 d.2 d.3 (subst (λ l. IsNested d.1 d.2 l d.3) same d.4)
  | inr (inl m) ↦ wrong_ends ts a v w.before m.0 m.1 w.goes_on
  | inr (inr m) ↦ deep_ends text b w v.before m.0 m.1 v.goes_on
]

pub never_both : (text : List ℕ) (a b : ℕ) → IsNoTree text a → IsTooDeep text b → ⊥
never_both text a b g w = elim g.place [
  | inl f ↦ deep_ends text b w g.tokens w.behind (spelled_once g.spelled w.spelled ∙ w.tokens_are) f.1
  | inr v ↦ wrong_not_deep text g.tokens a b g.spelled v w
]

-- ---- no tree

pub no_tree : (text : List ℕ) (at : ℕ) → IsNoTree text at → (x : SourceTree) → IsSource text x → ⊥
no_tree text at g x h = g.none most_nested most_nested_statements x (subst (λ ts. IsTree ts x) (spelled_once h.1 g.spelled) h.2)

pub not_too_deep : (text : List ℕ) (at : ℕ) → IsTooDeep text at → (x : SourceTree) → IsSource text x → ⊥
not_too_deep text at g x h = g.never g.behind x (subst (λ ts. IsTree ts x) (spelled_once h.1 g.spelled ∙ g.tokens_are) h.2)

-- ---- all refusals

-- the answer that a stop becomes
syntax_answer : (text : List ℕ) (ts : List Token) → Spells 0 text ts → (left : ℕ) → whole_at ts ≡ Err (syntax left) → ReadsText text (Err (faults.Syntax (offset_of (length text) ts left)))
syntax_answer text ts spelled left e = record { tokens = ts; spelled = spelled; read_is = (left, e, refl) }

deep_answer : (text : List ℕ) (ts : List Token) → Spells 0 text ts → (left : ℕ) → whole_at ts ≡ Err (too_deep left) → ReadsText text (Err (faults.TooDeep (offset_of (length text) ts left)))
deep_answer text ts spelled left e = record { tokens = ts; spelled = spelled; read_is = (left, e, refl) }

pub syntax_is_all : (text : List ℕ) (at : ℕ) → IsNoTree text at → ReadsText text (Err (faults.Syntax at))
syntax_is_all text at g = by (whole_at g.tokens) refl where
  by : (r : Result SourceTree Wrong) → whole_at g.tokens ≡ r → ReadsText text (Err (faults.Syntax at))
  by (Ok x) e = absurd (no_tree text at g x (g.tokens, g.spelled, tree_spelled g.tokens x e))
  by (Err (syntax left)) e =
      let other = offset_of (length text) g.tokens left in
      record { tokens = g.tokens; spelled = g.spelled; read_is = (left, e, syntax_once text at other g (syntax_is_so text other (syntax_answer text g.tokens g.spelled left e))) }
  by (Err (too_deep left)) e =
      let other = offset_of (length text) g.tokens left in
      absurd (never_both text at other g (deep_is_so text other (deep_answer text g.tokens g.spelled left e)))

pub deep_is_all : (text : List ℕ) (at : ℕ) → IsTooDeep text at → ReadsText text (Err (faults.TooDeep at))
deep_is_all text at g = by (whole_at g.tokens) refl where
  by : (r : Result SourceTree Wrong) → whole_at g.tokens ≡ r → ReadsText text (Err (faults.TooDeep at))
  by (Ok x) e = absurd (not_too_deep text at g x (g.tokens, g.spelled, tree_spelled g.tokens x e))
  by (Err (syntax left)) e =
      let other = offset_of (length text) g.tokens left in
      absurd (never_both text other at (syntax_is_so text other (syntax_answer text g.tokens g.spelled left e)) g)
  by (Err (too_deep left)) e =
      let other = offset_of (length text) g.tokens left in
      record { tokens = g.tokens; spelled = g.spelled; read_is = (left, e, deep_once text at other g (deep_is_so text other (deep_answer text g.tokens g.spelled left e))) }

-- ---- how the text goes on

pub wrong_goes_on : (text : List ℕ) (at : ℕ) → IsNoTree text at → StartsTree (take at text)
wrong_goes_on text at g = let h = syntax_is_all text at g in text_goes_on text h.tokens h.spelled (syntax h.read_is.0) h.read_is.1 at h.read_is.2

pub deep_goes_on : (text : List ℕ) (at : ℕ) → IsTooDeep text at → StartsTree (take at text)
deep_goes_on text at g = let h = deep_is_all text at g in text_goes_on text h.tokens h.spelled (too_deep h.read_is.0) h.read_is.1 at h.read_is.2
