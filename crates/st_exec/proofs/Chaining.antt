-- Values that come from other values.
use Rattle.std.proofs.Common.{Option, None, Some, IsSome, refl}
use Rattle.fb_model.specs.Language.{given}

pub some_given : {A B : Type 0} (o : Option A) (f : A → Option B) → IsSome (given o f) → IsSome o
some_given None f h = absurd (cc)
some_given (Some x) f h = refl
