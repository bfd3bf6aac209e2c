-- What the answers say of runs.
use Rattle.std.proofs.Common.{◌≡◌, ℕ, Bool, true, false, Option, Some, None, IsSome, refl, subst, rules}
use Rattle.std.specs.Prelude.{if◌then◌else◌, nat_le}
use Rattle.fb_model.specs.Values.{Values}
use Rattle.fb_model.specs.Language.{Algorithm, Guard, holds, run}
use Rattle.fb_model.specs.Spans.{Span}
use Rattle.fb_model.specs.Clear.{Spans, Found, Clear, Leaves, Traps, examined, guard_range}
use Rattle.fb_model.specs.Shapes.{AlgorithmFits, HasShape, Keeps, Lies, Shape, TermFits, written}
use Rattle.fb_model.proofs.Sound.{algorithms_keep}
use Rattle.fb_model.proofs.Terms.{guard_answers}
use Rattle.fb_ranges.specs.Answers.{IsClear, most_steps}

pub guards : (rows : Spans) (shape : Shape) (g : Guard) (values : Values) → IsSome (guard_range rows g) → TermFits shape g → HasShape shape values → Lies rows values → (b : Bool) × (holds g values ≡ Some b)
guards rows shape g values some fits has lie = by (guard_range rows g) refl some where
  by : (o : Option Span) → guard_range rows g ≡ o → IsSome o → (b : Bool) × (holds g values ≡ Some b)
  by None e s = absurd (search rules)
  by (Some r) e s = guard_answers rows shape g r values e fits has lie

pub keeping : (rows : Spans) (shape : Shape) (a : Algorithm) (values : Values) → IsClear (examined rows a) → AlgorithmFits shape a → HasShape shape values → Lies rows values → (n : ℕ) × Keeps rows shape (written a) n values (run a values)
keeping rows shape a values c fits has lie = (c.1, algorithms_keep rows shape a c.0 c.1 fits c.2 values has lie)

pub enough : (rows : Spans) (shape : Shape) (a : Algorithm) (values : Values) (most : ℕ) → most_steps (examined rows a) ≡ Some most → AlgorithmFits shape a → HasShape shape values → Lies rows values → Keeps rows shape (written a) most values (run a values)
enough rows shape a values most is fits has lie = by (examined rows a) refl is where
  told : (n : ℕ) (b : Bool) → (if b then Some n else None) ≡ Some most → n ≡ most
  told n true e = cc
  told n false e = cc

  by : (found : Found) → examined rows a ≡ found → most_steps found ≡ Some most → Keeps rows shape (written a) most values (run a values)
  by (Clear end n) e m = subst (λ k. Keeps rows shape (written a) k values (run a values)) (told n (nat_le n 1000000000000) m) (algorithms_keep rows shape a end n fits e values has lie)
  by Leaves e m = cc
  by Traps e m = cc
