-- Where nothing that was proposed is clear, the path that was told before is told.
use Rattle.std.proofs.Common.{ℕ, sym, subst, inr, Option, Result, Ok, Err, IfOk}
use Rattle.std.specs.declared.string.String.{String}
use Rattle.std.specs.declared.alloc.Global.{Global}
use Rattle.fb_model.specs.System.{System}
use Rattle.fb_model.specs.Certificates.{Certificate, Fits}
use Rattle.fb_faults.specs.declared.no_bound.NoBound.{NoBound}
use Rattle.fb_faults.specs.declared.no_bound.NoBound.TheVariants.{OutOfMemory, Cycle, NoRange, Limit}
use Rattle.fb_model.specs.Finding.{IsRuledOut, IsNoBound, IsWalk}
use Rattle.fb_find_search.specs.Searching.{IsSearched, IsStill}

pub still_told : (repeats : Option ℕ) (s : System) (path : String Global) → IsNoBound repeats s (NoRange path) → (fault : NoBound) → IsStill path fault → IsNoBound repeats s fault
still_told repeats s path before OutOfMemory h = tt
still_told repeats s path before (Cycle places) h = absurd h
still_told repeats s path before (NoRange other) h = subst (λ p. IsNoBound repeats s (NoRange p)) (sym h) before
still_told repeats s path before (Limit resource) h = absurd h

pub still_denies : (repeats : Option ℕ) (s : System) (path : String Global) (fault : NoBound) → IsStill path fault → IsWalk fault → (cert : Certificate) → IsRuledOut repeats cert → Fits s cert → ⊥
still_denies repeats s path OutOfMemory h w cert d fits = absurd w
still_denies repeats s path (Cycle places) h w cert d fits = absurd h
still_denies repeats s path (NoRange other) h w cert d fits = absurd w
still_denies repeats s path (Limit resource) h w cert d fits = absurd w

-- where something is not clear under the finder's ranges, what is found is found by searching
pub unclear_told : {X E : Type 0} (view : X → Certificate) (path : String Global) (repeats : Option ℕ) (s : System) (r : Result X E) → IsNoBound repeats s (NoRange path) → IfOk r (λ c. IsSearched repeats s (view c))
unclear_told view path repeats s (Ok c) h = inr (path, h)
unclear_told view path repeats s (Err e) h = tt
