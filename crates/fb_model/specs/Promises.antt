-- What is promised: five records, which the public calls cite. What they speak of is defined in the chapters before.
use Rattle.std.specs.Prelude.{ℕ, ◌≡◌, ◌≤◌, List, Option, Some}
use Rattle.std.specs.declared.string.String.{String}
use Rattle.std.specs.declared.alloc.Global.{Global}
use Rattle.fb_faults.specs.declared.refusal.Refusal.{Refusal}
use Rattle.fb_faults.specs.declared.refusal.Refusal.TheVariants.{OutOfMemory}
use Rattle.fb_faults.specs.declared.no_bound.NoBound.{NoBound}
use Rattle.fb_model.specs.System.{Device, System}
use Rattle.fb_model.specs.Ranges.{Range}
use Rattle.fb_model.specs.Certificates.{Certificate, Fits, far_of}
use Rattle.fb_model.specs.Devices.{Machine}
use Rattle.fb_model.specs.Headline.{BoundsSteps, Drains, EndsInTime, Answers, StaysWithin}
use Rattle.fb_model.specs.World.{World, AreWithin}
use Rattle.fb_model.specs.Worlds.{IsOpened}
use Rattle.fb_model.specs.Causes.{IsTold, BoundsArrivals}
use Rattle.fb_model.specs.Finding.{IsFoundWith, IsNoBoundWith, IsWalk, IsRuledOut}

-- what a verdict answers: a system and a certificate, or a refusal
pub data Verdict : Type 0 where
  accepted : System → Certificate → Verdict
  refused : Refusal → Verdict

-- 1. A certificate is accepted exactly if it fits the system, where this system and this certificate are what was given.
pub record AcceptsExactly (Given : System → Certificate → Type 0) (answer : Verdict) : Type 0 where
  -- what is accepted was given, and fits
  pub only : (system : System) (rows : Certificate) → answer ≡ accepted system rows → Given system rows × Fits system rows
  -- what was given and fits is refused only where memory runs out
  pub always : (system : System) (rows : Certificate) (f : Refusal) → Given system rows → Fits system rows → answer ≡ refused f → f ≡ OutOfMemory

-- 2. A refusal is true: what it says is so.
pub record RefusesTruly (IsSo : Refusal → Type 0) (answer : Verdict) : Type 0 where
  pub so : (f : Refusal) → answer ≡ refused f → IsSo f

-- 3. A device keeps its bounds, from this state on and whatever comes.
pub record IsBounded (cert : Certificate) (device : Device) (m : Machine) : Type 0 where
  -- at every moment of a run each cause takes at most the steps of its opening arrival
  pub steps : BoundsSteps cert device m
  -- as many dispatches as the pending entries weigh leave nothing pending
  pub drains : Drains cert device m
  -- with any events between, a cause has ended at the latest with so many dispatches of its resource as its steps times the depth
  pub in_time : EndsInTime cert device m
  -- a dispatch of a queue that is not empty is answered
  pub answers : Answers cert device m
  -- no more is pending than the depth, and nothing traps at a dispatch
  pub within : StaysWithin cert device m

-- 4. A world keeps FAR: what one event causes on all devices.
pub record KeepsFar (system : System) (cert : Certificate) (w : World) : Type 0 where
  -- a run from a first world leads to this one, and its roots are the arrivals of that run, with the steps that were told of what belongs to them
  pub told : IsTold system cert w
  -- over every run from that first world, the steps that are told of what belongs to an arrival are at most the FAR of its opening
  pub arrivals : BoundsArrivals system cert told.first
  -- so are the steps of a root of this world, if no device admitted one of its datagrams without a stamp more than REPEATS times
  pub far : (repeats root : ℕ) → cert.repeats ≡ Some repeats → IsOpened w root → AreWithin repeats root w.datagrams → (w.roots root).steps ≤ (far_of cert).weight (w.roots root).opening

-- what a finder answers: a certificate, or why there is none
pub data Found : Type 0 where
  found : Certificate → Found
  not_found : NoBound → Found

-- 5. The numbers are the least for ranges of which this is so; or there is a reason why there are none, of a path that such a thing is said of.
pub record FindsLeast (Are : List Range → Type 0) (Fails : String Global → Type 0) (repeats : Option ℕ) (system : System) (answer : Found) : Type 0 where
  -- what is found fits, and no other number of a certificate that fits with these ranges is less
  pub least : (cert : Certificate) → answer ≡ found cert → IsFoundWith Are repeats system cert
  -- the reason is so: a closed walk of demands, a path, or a number above its limit
  pub so : (f : NoBound) → answer ≡ not_found f → IsNoBoundWith Are Fails repeats system f
  -- where it is a walk, no certificate fits, or with REPEATS none that has a row REPEATS
  pub none : (f : NoBound) (cert : Certificate) → answer ≡ not_found f → IsWalk f → IsRuledOut repeats cert → Fits system cert → ⊥
