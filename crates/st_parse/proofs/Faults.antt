-- What the answers about algorithms say, in the words of the grammar.
use Rattle.std.proofs.Common.{◌≡◌, ℕ, suc, List, [], Ok, Err, sym, subst, ◌∙◌, inl, inr}
use Rattle.std.specs.Prelude.{Vec}
use Rattle.std.specs.Global.{Global}
use Rattle.fb_faults.specs.declared.text.TextFault.{TextFault}
use Rattle.fb_model.specs.Tokens.{Token}
use Rattle.fb_model.specs.StructuredText.{Statements}
use Rattle.fb_model.specs.StructuredTextGrammar.{IsAlgorithm, most_nested, most_nested_statements}
use Rattle.fb_read.specs.declared.stop.Stop.{Stop}
use Rattle.fb_read.specs.Answers.{Fails}
use Rattle.fb_read.specs.Faults.{end_of, Says}
use Rattle.fb_read.specs.Whole.{IfSyntax}
use Rattle.fb_read.proofs.Steady.{IsStuck, IsDeep}
use Rattle.fb_read.proofs.Viable.{Any, Viable}
use Rattle.fb_read.proofs.Whole.{whole_viable}
use Rattle.fb_read.proofs.Whole as answers
use Rattle.fb_tree.specs.declared.statement.Stmt.{Stmt}
use Rattle.st_parse.specs.Reading.{algorithm_at, whole_at}
use Rattle.st_parse.specs.Answers.{listed, Reads, FindsAlgorithm, IsSomeAlgorithm, IsWithinLimits, SyntaxAt, TooDeepAt}
use Rattle.st_parse.proofs.Laws.{whole_read, whole_any, algorithm_points}
use Rattle.st_parse.proofs.Viable.{algorithm_viable}

pub same_read : {ts : List Token} {x y : Statements} → whole_at ts ≡ Ok x → IsWithinLimits ts y → x ≡ y
same_read {x = x} {y = y} e h = let f : Ok x ≡ Ok y = sym e ∙ whole_read h in cc

-- what stops at a token that cannot stand there is no algorithm at all
not_stuck : (ts : List Token) (x : Statements) → IsStuck (whole_at ts) → IsSomeAlgorithm ts x → ⊥
not_stuck ts x r h = elim (whole_any h.0 h.1 ts x h.2) [ inl e ↦ subst (λ z. IsStuck z) e r | inr q ↦ subst (λ z. IsStuck z) q.1 r ]

not_deep : (ts : List Token) (x : Statements) → IsDeep (whole_at ts) → IsWithinLimits ts x → ⊥
not_deep ts x r h = subst (λ z. IsDeep z) (whole_read h) r

-- where an algorithm is too deep, a deeper one goes on
whole_goes_on : Viable (Any (IsAlgorithm (suc most_nested) (suc most_nested_statements))) whole_at
unfolding whole_at
whole_goes_on = whole_viable (Any (IsAlgorithm (suc most_nested) (suc most_nested_statements))) (algorithm_at most_nested most_nested_statements) (algorithm_viable most_nested most_nested_statements)

-- the fault that a stop becomes
pub reads_of : (end : ℕ) (ts : List Token) (stop : Stop) (fault : TextFault) → end ≡ end_of ts → Says end ts stop fault → Fails stop (whole_at ts) → Reads ts (Err fault)
reads_of end ts stop fault e s h = answers.reads_of listed (whole_at ts) (end_of ts) ts stop fault (subst (λ n. Says n ts stop fault) e s) h

pub reads_only : (ts : List Token) (fault : TextFault) (x : Statements) → Reads ts (Err fault) → IsWithinLimits ts x → FindsAlgorithm (Err fault) x
reads_only ts fault x e h = answers.reads_only listed (end_of ts) ts fault (whole_at ts) x e (whole_read h)

pub reads_syntax : (ts : List Token) (fault : TextFault) → Reads ts (Err fault) → IfSyntax {X = Vec Stmt Global} (Err fault) ((n k : ℕ) (x : Statements) → IsAlgorithm n k ts x [] → ⊥)
reads_syntax ts fault e = answers.reads_syntax listed (end_of ts) ts fault (whole_at ts) _ (λ s n k x h. not_stuck ts x s (n, k, h)) e

pub reads_place : (ts : List Token) (fault : TextFault) → Reads ts (Err fault) → SyntaxAt ts (Err fault)
reads_place ts fault e = answers.reads_place listed (end_of ts) ts fault IsSomeAlgorithm whole_at algorithm_points not_stuck e

pub reads_deep : (ts : List Token) (fault : TextFault) → Reads ts (Err fault) → TooDeepAt ts (Err fault)
reads_deep ts fault e = answers.reads_deep listed (end_of ts) ts fault IsWithinLimits whole_at algorithm_points IsSomeAlgorithm (Any (IsAlgorithm (suc most_nested) (suc most_nested_statements))) whole_goes_on (λ us h. (h.0, (suc most_nested, suc most_nested_statements, h.1))) not_deep e
