-- What reading tells of trees.
use Rattle.std.proofs.Common.{◌≡◌, ◌⊎◌, ◌+◌, ◌<◌, ℕ, suc, List, [], Ok, Err, refl, sym, ap, subst, ◌∙◌, arith, inl, inr}
use Rattle.fb_model.specs.Tokens.{Token}
use Rattle.fb_model.specs.Declarations.{SourceTree}
use Rattle.fb_model.specs.DeclarationGrammar.{IsSystem, a_file}
use Rattle.fb_model.specs.StructuredTextGrammar.{IsExpression, IsAlgorithm, most_nested, most_nested_statements}
use Rattle.fb_lex.proofs.Whole.{spelled_once}
use Rattle.fb_faults.specs.declared.text.TextFault.{TextFault}
use Rattle.fb_read.specs.declared.stop.Stop.{Stop}
use Rattle.fb_read.specs.Reading.{Answer}
use Rattle.fb_read.specs.Answers.{Fails}
use Rattle.fb_read.specs.Faults.{Says}
use Rattle.fb_read.specs.Whole.{IfSyntax}
use Rattle.fb_read.proofs.Readers.{Gets, Complete, never}
use Rattle.fb_read.proofs.Steady.{IsStuck, IsDeep}
use Rattle.fb_read.proofs.Viable.{Any, Viable}
use Rattle.fb_read.proofs.Whole.{Points, whole_sound, whole_complete, whole_points, whole_viable}
use Rattle.fb_read.proofs.Whole as answers
use Rattle.st_parse.specs.ExpressionReading.{continues, expression_at}
use Rattle.st_parse.proofs.ExpressionLaws.{expression_sound, expression_complete, expression_shorter, expression_steady}
use Rattle.st_parse.proofs.ExpressionViable.{expression_wide, expression_viable}
use Rattle.st_parse.specs.Reading.{algorithm_at}
use Rattle.st_parse.proofs.Complete.{deeper}
use Rattle.st_parse.proofs.Laws.{algorithm_sound, algorithm_complete, algorithm_no_longer, algorithm_steady}
use Rattle.fb_tree.specs.declared.tree.FileTree.{FileTree}
use Rattle.fb_tree.specs.Files.{source_of}
use Rattle.fb_text.specs.Reading.{file_at, whole_at}
use Rattle.fb_model.specs.Sources.{IsNested, IsTree, IsNestedSource}
use Rattle.fb_text.specs.Answers.{IsSomeTree, Reads, FindsTree, SyntaxAt, TooDeepAt}
use Rattle.fb_text.proofs.Sound.{IsFront, a_front, file_sound}
use Rattle.fb_text.proofs.Complete.{file_complete}
use Rattle.fb_text.proofs.Steady.{file_steady}
use Rattle.st_parse.proofs.Viable.{algorithm_wide, algorithm_viable}
use Rattle.fb_text.proofs.Viable.{file_viable}

-- ---- files that nest so deep

-- the front of a text
abbrev Front : ℕ → ℕ → List Token → SourceTree → List Token → Type 0
Front n k = IsFront (IsExpression n) (IsAlgorithm n k)

front_of : (n k : ℕ) (ts : List Token) (x : SourceTree) → IsNested n k ts x → Front n k ts x []
front_of n k ts x (a_file p q) = a_front p q

file_of : (n k : ℕ) (ts : List Token) (x : SourceTree) (rest : List Token) → rest ≡ [] → Front n k ts x rest → IsNested n k ts x
file_of n k ts x rest e (a_front {mid = mid} {bs = bs} {y = y} p q) = a_file p (subst (λ l. IsSystem mid y l) e q)

-- what nests no deeper than is read is read
front_complete : (n k d j : ℕ) → Complete ((d < n) ⊎ (j < k)) never (Front n k) (file_at (expression_at d) (algorithm_at d j))
front_complete n k d j =
    file_complete ((d < n) ⊎ (j < k)) (IsExpression n) (IsAlgorithm n k) (expression_at d) (expression_shorter n)
    (deeper continues (IsExpression n) (expression_at d) (λ h. inl h) (expression_complete n d)) (algorithm_at d j) (algorithm_no_longer n k) (algorithm_complete n k d j)

-- ---- trees that are all of the tokens

-- the tree that was read
answered : SourceTree → Answer SourceTree → SourceTree
answered other (Ok x) = x.0
answered other (Err e) = other

pub tree_once : (n k n' k' : ℕ) (ts : List Token) (x y : SourceTree) → IsNested n k ts x → IsNested n' k' ts y → x ≡ y
unfolding answered
tree_once n k n' k' ts x y h g =
    let all = file_at (expression_at (n + n')) (algorithm_at (n + n') (k + k')) ts in
    let a : all ≡ Ok (x, []) = elim (front_complete n k (n + n') (k + k') ts x [] (front_of n k ts x h) refl) [ inl e ↦ e | inr q ↦ absurd (elim q.1 [ inl lt ↦ omega arith | inr lt ↦ omega arith ]) ] in
    let b : all ≡ Ok (y, []) = elim (front_complete n' k' (n + n') (k + k') ts y [] (front_of n' k' ts y g) refl) [ inl e ↦ e | inr q ↦ absurd (elim q.1 [ inl lt ↦ omega arith | inr lt ↦ omega arith ]) ] in
    ap (answered x) (sym a ∙ b)

whole_gets : (n k : ℕ) (ts : List Token) (x : SourceTree) → IsNested n k ts x → Gets ((most_nested < n) ⊎ (most_nested_statements < k)) (whole_at ts) x
unfolding whole_at
whole_gets n k ts x h =
    whole_complete ((most_nested < n) ⊎ (most_nested_statements < k)) never (Front n k) (file_at (expression_at most_nested) (algorithm_at most_nested most_nested_statements)) (front_complete n k most_nested most_nested_statements) refl ts x (front_of n k ts x h)

-- what is in the grammar is read, where it nests no deeper than the limits
pub tree_read : (ts : List Token) (x : SourceTree) → IsTree ts x → whole_at ts ≡ Ok x
tree_read ts x h = elim (whole_gets most_nested most_nested_statements ts x h) [ inl e ↦ e | inr q ↦ absurd (elim q.1 [ inl lt ↦ omega arith | inr lt ↦ omega arith ]) ]

-- what is read is in the grammar
pub tree_spelled : (ts : List Token) (x : SourceTree) → whole_at ts ≡ Ok x → IsTree ts x
unfolding whole_at
tree_spelled ts x e =
    let d = most_nested in
    let k = most_nested_statements in
    file_of d k ts x [] refl (whole_sound (Front d k) (file_at (expression_at d) (algorithm_at d k)) (file_sound (IsExpression d) (IsAlgorithm d k) (expression_at d) (expression_sound d) (algorithm_at d k) (algorithm_sound d k)) ts x e)

pub tree_same : (ts : List Token) (x y : SourceTree) → whole_at ts ≡ Ok x → IsTree ts y → x ≡ y
tree_same ts x y e h = let f : Ok x ≡ Ok y = sym e ∙ tree_read ts y h in cc

-- where an answer is stuck, the tokens are no tree, however deep
not_stuck : (ts : List Token) (x : SourceTree) → IsStuck (whole_at ts) → IsSomeTree ts x → ⊥
not_stuck ts x s h = elim (whole_gets h.0 h.1 ts x h.2) [ inl e ↦ subst (λ r. IsStuck r) e s | inr q ↦ subst (λ r. IsStuck r) q.2 s ]

not_deep : (ts : List Token) (x : SourceTree) → IsDeep (whole_at ts) → IsTree ts x → ⊥
not_deep ts x s h = subst (λ r. IsDeep r) (tree_read ts x h) s

-- Tokens that begin with those up to the one where reading stopped, and with it, are refused too, and for the same reason.
source_points : Points whole_at
unfolding whole_at
source_points =
    let d = most_nested in
    let k = most_nested_statements in
    whole_points (file_at (expression_at d) (algorithm_at d k))
    (file_steady (IsExpression d) (IsAlgorithm d k) (expression_at d) (expression_sound d) (expression_shorter d) (expression_steady d) (algorithm_at d k) (algorithm_sound d k) (algorithm_no_longer d k) (algorithm_steady d k))

-- Where a text is too deep, a deeper tree goes on.
whole_goes_on : Viable (Any (Front (suc most_nested) (suc most_nested_statements))) whole_at
unfolding whole_at
whole_goes_on =
    let d = most_nested in
    let k = most_nested_statements in
    whole_viable (Any (Front (suc d) (suc k))) (file_at (expression_at d) (algorithm_at d k))
    (file_viable (IsExpression (suc d)) (IsAlgorithm (suc d) (suc k)) (expression_at d) (expression_wide d) (expression_shorter (suc d)) (expression_steady d) (expression_viable d)
    (algorithm_at d k) (algorithm_wide d k) (algorithm_no_longer (suc d) (suc k)) (algorithm_steady d k) (algorithm_viable d k))

-- ---- in the words of the answers

-- the fault that a stop becomes
pub reads_of : (end : ℕ) (ts : List Token) (stop : Stop) (fault : TextFault) → Says end ts stop fault → Fails stop (whole_at ts) → Reads end ts (Err fault)
reads_of end ts stop fault s h = answers.reads_of source_of (whole_at ts) end ts stop fault s h

pub reads_only : (end : ℕ) (ts : List Token) (fault : TextFault) (x : SourceTree) → Reads end ts (Err fault) → IsTree ts x → FindsTree (Err fault) x
reads_only end ts fault x e h = answers.reads_only source_of end ts fault (whole_at ts) x e (tree_read ts x h)

pub reads_syntax : (end : ℕ) (ts : List Token) (fault : TextFault) → Reads end ts (Err fault) → IfSyntax {X = FileTree} (Err fault) ((n k : ℕ) (x : SourceTree) → IsNested n k ts x → ⊥)
reads_syntax end ts fault e = answers.reads_syntax source_of end ts fault (whole_at ts) _ (λ s n k x h. not_stuck ts x s (n, k, h)) e

pub reads_place : (end : ℕ) (ts : List Token) (fault : TextFault) → Reads end ts (Err fault) → SyntaxAt end ts (Err fault)
reads_place end ts fault e = answers.reads_place source_of end ts fault IsSomeTree whole_at source_points not_stuck e

pub reads_deep : (end : ℕ) (ts : List Token) (fault : TextFault) → Reads end ts (Err fault) → TooDeepAt ts (Err fault)
reads_deep end ts fault e = answers.reads_deep source_of end ts fault IsTree whole_at source_points IsSomeTree (Any (Front (suc most_nested) (suc most_nested_statements))) whole_goes_on
    (λ us h. (h.0, (suc most_nested, suc most_nested_statements, file_of (suc most_nested) (suc most_nested_statements) us h.0 [] refl h.1))) not_deep e

-- ---- of texts

pub source_once : (n k n' k' : ℕ) (text : List ℕ) (x y : SourceTree) → IsNestedSource n k text x → IsNestedSource n' k' text y → x ≡ y
source_once n k n' k' text x y h g = tree_once n k n' k' h.0 x y h.2 (subst (λ ts. IsNested n' k' ts y) (spelled_once g.1 h.1) g.2)
