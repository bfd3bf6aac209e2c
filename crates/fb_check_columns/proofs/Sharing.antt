-- Costs that leaves share.
use Rattle.std.proofs.Common.{◌≡◌, ◌⊎◌, inl, inr, ◌+◌, ◌*◌, ℕ, zero, suc, List, [], ◌∷◌, ◌++◌, map, length, Option, Some, Result, Ok, Err, Global, refl, sym, ap, subst, ap₂, ◌∙◌, arith}
use Rattle.std.specs.Prelude.{IfOk, replicate}
use Rattle.std.specs.List.{AllByRecursion}
use Rattle.std.specs.declared.string.String.{String}
use Rattle.std.specs.declared.vec.Vec.{Vec}
use Rattle.fb_model.specs.System as book
use Rattle.fb_model.specs.Clear.{Spans, cost}
use Rattle.fb_model.specs.Ranges.{IsClearAlgorithm}
use Rattle.st_types.specs.declared.whole.Algo.{Algo}
use Rattle.fb_check_columns.specs.declared.column.Column.{Column}
use Rattle.fb_check_columns.specs.declared.column.Column.TheVariants.{Steps, Far}
use Rattle.fb_faults.specs.declared.shortfall.Shortfall.{Shortfall}
use Rattle.fb_check_columns.specs.Columns.{unit_of}
use Rattle.fb_check_columns.specs.Reckoning.{AreSums}
use Rattle.fb_check_columns.specs.Sharing.{HasCosts}
use Rattle.fb_check_columns.proofs.Costing.{procedure_of}

-- what one block costs, another that is alike does
pub costs_alike : (r s : Spans) (a b : book.Block) (sums : List (Option ℕ)) → r ≡ s → a ≡ b → HasCosts r a sums → HasCosts s b sums
costs_alike r s a b sums rows block h = subst (λ (x : book.Block). HasCosts s x sums) block (subst (λ (x : Spans). HasCosts x a sums) rows h)

-- steps count once
pub once : (u : ℕ) (spans : Spans) (ps : List book.Procedure) → 1 ≡ u → map (λ (p : book.Procedure). cost spans p.algorithm) ps ≡ map (λ (p : book.Procedure). u * cost spans p.algorithm) ps
once u spans [] e = refl
once u spans (p ∷ ps) e = ap₂ (λ n ns. n ∷ ns) (by (cost spans p.algorithm)) (once u spans ps e) where
  by : (n : ℕ) → n ≡ u * n
  by n = rw (sym e) (omega arith)

-- places do not count
pub none : (spans : Spans) (es : List (String Global × Algo)) → AreSums (replicate (length es) (Some 0)) (map (λ (p : book.Procedure). 0 * cost spans p.algorithm) (map procedure_of es))
none spans [] = tt
none spans (e ∷ es) = (omega arith, none spans es)

-- the columns that count steps
pub counts : (c : Column) → (c ≡ Steps) ⊎ (c ≡ Far) → 1 ≡ unit_of c
counts c (inl e) = sym (ap unit_of e)
counts c (inr e) = sym (ap unit_of e)

-- what a block costs in a column that counts steps, where it is clear under its rows
pub counted : (u : ℕ) (r s : Spans) (block : book.Block) (result : Result (Vec (Option ℕ) Global) Shortfall) → 1 ≡ u → r ≡ s → AllByRecursion (λ (p : book.Procedure). IsClearAlgorithm s p.algorithm) block.procedures → IfOk result (λ v. HasCosts r block v.items)
    → IfOk result (λ v. AreSums v.items (map (λ (p : book.Procedure). u * cost s p.algorithm) block.procedures))
counted u r s block (Ok v) one rows clear h = subst (AreSums v.items) (once u s block.procedures one) (subst (λ (x : Spans). HasCosts x block v.items) rows h clear)
counted u r s block (Err e) one rows clear h = tt

zeros_end : (n : ℕ) → ◌≡◌ {A = List (Option ℕ)} (replicate n (Some 0) ++ Some 0 ∷ []) (replicate (suc n) (Some 0))
zeros_end zero = refl
zeros_end (suc n) = ap (λ xs. Some 0 ∷ xs) (zeros_end n)

pub one_zero_more : (n : ℕ) → ◌≡◌ {A = List (Option ℕ)} (replicate n (Some 0) ++ Some 0 ∷ []) (replicate (n + 1) (Some 0))
one_zero_more n = let next : suc n ≡ n + 1 = omega arith in zeros_end n ∙ ap (λ k. replicate k (Some 0)) next

-- what a block costs in a column that counts no steps
pub free : (u : ℕ) (spans : Spans) (es : List (String Global × Algo)) (sums : List (Option ℕ)) → u ≡ 0 → sums ≡ replicate (length es) (Some 0) → AreSums sums (map (λ (p : book.Procedure). u * cost spans p.algorithm) (map procedure_of es))
free u spans es sums nothing zeros =
    subst (λ n. AreSums sums (map (λ (p : book.Procedure). n * cost spans p.algorithm) (map procedure_of es))) (sym nothing)
    (subst (λ xs. AreSums xs (map (λ (p : book.Procedure). 0 * cost spans p.algorithm) (map procedure_of es))) (sym zeros) (none spans es))
