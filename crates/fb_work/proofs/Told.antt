-- What is told where there is no answer.
use Rattle.std.proofs.Common.{◌≡◌, Result, Ok, Err, IfOk, IfErr, sym, ◌∙◌, subst}
use Rattle.std.specs.Result.{IsErrAnd}
use Rattle.fb_work.specs.declared.refusal.NoWork.{NoWork}
use Rattle.fb_work.specs.declared.refusal.NoWork.TheVariants.{OutOfMemory, TooMuch}
use Rattle.fb_work.specs.Algorithms.{OrMemory}

-- want of memory
pub told_memory : {T : Type 0} (r : Result T NoWork) (IsSo : Type 0) → IsErrAnd r (λ w. w ≡ OutOfMemory) → IfErr r (OrMemory IsSo)
told_memory (Ok x) IsSo h = tt
told_memory (Err w) IsSo h = subst (OrMemory IsSo) (sym h) tt

-- what a callee tells
pub told_same : {T : Type 0} (r : Result T NoWork) (w : NoWork) (P : NoWork → Type 0) → IsErrAnd r (λ v. v ≡ w) → P w → IfErr r P
told_same (Ok x) w P h p = tt
told_same (Err v) w P h p = subst P (sym h) p

-- the one comes of the other
pub told_of : (w : NoWork) (A B : Type 0) → (A → B) → OrMemory A w → OrMemory B w
told_of w A B f h = elim w as (λ v. OrMemory A v → OrMemory B v) [ OutOfMemory ↦ λ k. tt | TooMuch ↦ f ] h

-- a number that is told, read by another name
pub ok_is : {X Y E : Type 0} (f : X → Y) (a b : Y) → a ≡ b → (r : Result X E) → IfOk r (λ x. f x ≡ a) → IfOk r (λ x. f x ≡ b)
ok_is f a b e (Ok x) h = h ∙ e
ok_is f a b e (Err x) h = tt
