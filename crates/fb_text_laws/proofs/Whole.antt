-- What is kept by reading all of the tokens of a text.
use Rattle.std.proofs.Common.{◌≡◌, ℕ, suc, ◌+◌, ◌-◌, List, [], ◌∷◌, ◌++◌, take, drop, length, Result, Ok, Err, refl, sym, ap, subst, ◌∙◌, arith}
use Rattle.std.proofs.lemmas.List.{take-append-drop}
use Rattle.std.proofs.Math.Seq.{take-append_seam}
use Rattle.fb_faults.specs.declared.text.TextFault.TheVariants as faults
use Rattle.fb_model.specs.Tokens.{Kind, Token}
use Rattle.fb_model.specs.Spelling.{Spells}
use Rattle.fb_model.specs.Declarations.{SourceTree}
use Rattle.fb_model.specs.DeclarationGrammar.{IsSystem, a_file}
use Rattle.fb_model.specs.StructuredTextGrammar.{IsExpression, IsAlgorithm, most_nested, most_nested_statements}
use Rattle.fb_read.specs.Reading.{Wrong, syntax, too_deep, Answer, ◌>>=◌, ended}
use Rattle.fb_read.specs.Faults.{start_or, offset_of}
use Rattle.fb_read.proofs.Steady.{Same, here, there, IsStuck, IsDeep}
use Rattle.fb_read.proofs.Viable as opening
use Rattle.fb_read.proofs.Whole.{Points, whole_points, whole_viable}
use Rattle.st_parse.specs.ExpressionReading.{expression_at}
use Rattle.st_parse.specs.Reading.{algorithm_at}
use Rattle.st_parse.proofs.ExpressionLaws.{expression_sound, expression_shorter, expression_steady}
use Rattle.st_parse.proofs.ExpressionViable.{expression_wide, expression_viable}
use Rattle.st_parse.proofs.Laws.{algorithm_sound, algorithm_no_longer, algorithm_steady}
use Rattle.st_parse.proofs.Viable.{algorithm_wide, algorithm_viable}
use Rattle.fb_model.specs.Sources.{IsNested, IsTree}
use Rattle.fb_text.specs.Reading.{file_at, whole_at}
use Rattle.fb_text.proofs.Sound.{IsFront, a_front}
use Rattle.fb_text.proofs.Steady.{file_steady}
use Rattle.fb_text.proofs.Viable.{file_viable}
use Rattle.fb_text.proofs.Laws.{tree_read, reads_syntax}
use Rattle.fb_model.specs.RefusedTexts.{Begins, StartsTree}
use Rattle.fb_text_laws.proofs.Fronts.{same_part, cut}
use Rattle.fb_text_laws.proofs.Cuts.{cut_spelled, write}
use Rattle.fb_text_laws.proofs.Placed.{Placed, all_placed, AllSpelled, all_spelled}
use Rattle.fb_text_laws.proofs.Steps.{Any, Reached, left_of, GoesOn, Fine}
use Rattle.fb_text_laws.proofs.Expressions.{expression_fine}
use Rattle.fb_text_laws.proofs.Statements.{algorithm_fine}
use Rattle.fb_text_laws.proofs.Texts.{file_fine}

-- ---- texts that are refused

abbrev FrontOf : ℕ → ℕ → List Token → SourceTree → List Token → Type 0
FrontOf n k = IsFront (IsExpression n) (IsAlgorithm n k)

file_of : (n k : ℕ) (ts : List Token) (x : SourceTree) (rest : List Token) → rest ≡ [] → FrontOf n k ts x rest → IsNested n k ts x
file_of n k ts x rest e (a_front {mid = mid} {bs = bs} {y = y} p q) = a_file p (subst (λ l. IsSystem mid y l) e q)

pub source_points : Points whole_at
unfolding whole_at
source_points =
    let d = most_nested in
    let k = most_nested_statements in
    whole_points (file_at (expression_at d) (algorithm_at d k))
    (file_steady (IsExpression d) (IsAlgorithm d k) (expression_at d) (expression_sound d) (expression_shorter d) (expression_steady d) (algorithm_at d k) (algorithm_sound d k) (algorithm_no_longer d k) (algorithm_steady d k))

-- where a text is too deep, a deeper tree goes on
deeper_goes_on : opening.Viable (opening.Any (FrontOf (suc most_nested) (suc most_nested_statements))) whole_at
unfolding whole_at
deeper_goes_on =
    let d = most_nested in
    let k = most_nested_statements in
    whole_viable (opening.Any (FrontOf (suc d) (suc k))) (file_at (expression_at d) (algorithm_at d k))
    (file_viable (IsExpression (suc d)) (IsAlgorithm (suc d) (suc k)) (expression_at d) (expression_wide d) (expression_shorter (suc d)) (expression_steady d) (expression_viable d)
    (algorithm_at d k) (algorithm_wide d k) (algorithm_no_longer (suc d) (suc k)) (algorithm_steady d k) (algorithm_viable d k))

-- where an answer is stuck, the tokens are no tree, however deep
pub not_stuck : (ts : List Token) → IsStuck (whole_at ts) → (n k : ℕ) (x : SourceTree) → IsNested n k ts x → ⊥
not_stuck ts s = by (whole_at ts) refl s where
  by : (r : Result SourceTree Wrong) → whole_at ts ≡ r → IsStuck r → (n k : ℕ) (x : SourceTree) → IsNested n k ts x → ⊥
  by (Ok x) e s = absurd s
  by (Err (syntax left)) e s = reads_syntax 0 ts (faults.Syntax (offset_of 0 ts left)) (left, e, refl)
  by (Err (too_deep left)) e s = absurd s

pub not_deep : (ts : List Token) (x : SourceTree) → IsDeep (whole_at ts) → IsTree ts x → ⊥
not_deep ts x s h = subst (λ r. IsDeep r) (tree_read ts x h) s

-- A deeper tree begins with the tokens before the last so many, and with the first of these.
pub record Deeper (ts : List Token) (left : ℕ) : Type 0 where
  pub before : List Token
  pub opener : Token
  pub behind : List Token
  pub tokens_are : ts ≡ before ++ opener ∷ behind
  pub left_is : left ≡ suc (length behind)
  pub others : List Token
  pub tree : SourceTree
  pub goes_on : IsNested (suc most_nested) (suc most_nested_statements) (before ++ opener ∷ others) tree

-- what stands before a token
token_part : {t : Token} {q q' ts us : List Token} → Same t q q' ts us → (p : List Token) × (ts ≡ p ++ t ∷ q) × (us ≡ p ++ t ∷ q')
token_part here = ([], refl, refl)
token_part (there {u = u} s) = let f = token_part s in (u ∷ f.0, ap (λ l. u ∷ l) f.1, ap (λ l. u ∷ l) f.2)

pub deeper : (ts : List Token) (left : ℕ) → whole_at ts ≡ Err (too_deep left) → Deeper ts left
deeper ts left e =
    let P : opening.Span = opening.Any (FrontOf (suc most_nested) (suc most_nested_statements)) in
    let b : opening.Begun P ts left = subst (λ r. opening.GoesOn P ts r) e (deeper_goes_on ts) in
    let f = b.ends [] in
    let s = token_part f.same in
    record {
      before = s.0;
      opener = b.opener;
      behind = b.behind;
      tokens_are = s.1;
      left_is = b.left_is;
      others = f.others;
      tree = f.done.0;
      goes_on = subst (λ l. IsNested (suc most_nested) (suc most_nested_statements) l f.done.0) s.2 (file_of (suc most_nested) (suc most_nested_statements) f.all f.done.0 [] refl f.done.1);
    }

-- ---- what was read goes on

abbrev Whole : List Token → List Token → Type 0
Whole = Any (FrontOf most_nested most_nested_statements)

-- the tokens that were left where reading stopped, and how those before them go on
abbrev Rests : List Token → Wrong → Type 0
Rests ts w = (end : List Token) × (left_of w ≡ length end) × (kinds : List Kind) × AllSpelled kinds × ((others : List Token) → Placed [] kinds others → Reached Whole ts end others [])

ended_rests : (ts end : List Token) (x : SourceTree) → ((rest : List Token) → Reached Whole ts end rest rest) → (w : Wrong) → ended x end ≡ Err w → Rests ts w
ended_rests ts [] x h w e = absurd cc
ended_rests ts (t ∷ end) x h w e =
    let same : syntax (suc (length end)) ≡ w = cc in
    (t ∷ end, sym (ap left_of same), [], all_spelled, nothing) where
      nothing : (others : List Token) → Placed [] [] others → Reached Whole ts (t ∷ end) others []
      nothing others all_placed = h []

rests : (ts : List Token) (r : Answer SourceTree) → GoesOn Whole ts r → (w : Wrong) → (r >>= λ x. ended x.0 x.1) ≡ Err w → Rests ts w
rests ts (Ok x) h w e = ended_rests ts x.1 x.0 h w e
rests ts (Err v) h w e = let same : v ≡ w = cc in (h.end, sym (ap left_of same) ∙ h.left_is, h.kinds, h.spelled, h.ends [])

-- Tokens of some kinds, wherever they stand, end a tree that begins with these.
pub record Continued (ts : List Token) : Type 0 where
  pub kinds : List Kind
  pub spelled : AllSpelled kinds
  pub holds : (others : List Token) → Placed [] kinds others → (x : SourceTree) × IsTree (ts ++ others) x

continued : (ts : List Token) (w : Wrong) → Rests ts w → Continued (take (length ts - left_of w) ts)
continued ts w r = record { kinds = r.2; spelled = r.3; holds = holds } where
  holds : (others : List Token) → Placed [] r.2 others → (x : SourceTree) × IsTree (take (length ts - left_of w) ts ++ others) x
  holds others p =
      let f = r.4 others p in
      let s = same_part f.same in
      let before : take (length ts - left_of w) ts ≡ s.0 = ap (λ n. take (length ts - n) ts) r.1 ∙ (ap (λ l. take (length l - length r.0) l) s.1 ∙ (cut s.0 r.0).0) in
      (f.done.0, subst (λ p. IsTree (p ++ others) f.done.0) (sym before) (subst (λ l. IsTree l f.done.0) s.2 (file_of most_nested most_nested_statements f.all f.done.0 [] refl f.done.1)))

-- Where reading stops, the tokens before that place are the beginning of a tree.
pub goes_on : (ts : List Token) (w : Wrong) → whole_at ts ≡ Err w → Continued (take (length ts - left_of w) ts)
unfolding whole_at
goes_on ts w e =
    let d = most_nested in
    let k = most_nested_statements in
    let fine : Fine Whole (file_at (expression_at d) (algorithm_at d k)) = file_fine (IsExpression d) (IsAlgorithm d k) (expression_at d) (expression_fine d) (algorithm_at d k) (algorithm_fine d k) in
    continued ts w (rests ts (file_at (expression_at d) (algorithm_at d k) ts) (fine.goes_on ts) w e)

-- some tree begins so
pub begins : (ts : List Token) → Continued ts → Begins ts
begins ts c = let w = write 0 c.kinds c.spelled in let h = c.holds w.tokens w.placed in (w.tokens, h.0, h.1)

-- The characters before the place where reading stopped, a space and some more are the text of a tree.
pub text_goes_on : (text : List ℕ) (ts : List Token) → Spells 0 text ts → (w : Wrong) → whole_at ts ≡ Err w → (at : ℕ) → at ≡ offset_of (length text) ts (left_of w) → StartsTree (take at text)
text_goes_on text ts spelled w e at o =
    let n = length ts - left_of w in
    let c = goes_on ts w e in
    let k = cut_spelled spelled (take n ts) (drop n ts) (sym (take-append-drop n ts)) in
    let more = write (0 + length k.front + 1) c.kinds c.spelled in
    let h = c.holds more.tokens more.placed in
    let all : length text ≡ 0 + length text = omega arith in
    let some : 0 + length k.front ≡ length k.front = omega arith in
    let place : at ≡ length k.front = o ∙ (ap (λ n. start_or n (drop (length ts - left_of w) ts)) all ∙ (k.place ∙ some)) in
    let front : take at text ≡ k.front = ap (λ n. take n text) place ∙ (ap (λ l. take (length k.front) l) k.is ∙ take-append_seam k.front k.left) in
    subst (λ l. StartsTree l) (sym front) (more.bytes, h.0, (take n ts ++ more.tokens, k.goes_on more.bytes more.tokens more.spells, h.1))
