-- What a simulation tells: this project's profile.
use Rattle.std.specs.Prelude.{◌≡◌, ℕ, List, [], Option}
use Rattle.std.specs.Io.KnownBytes.{Appends}
use Rattle.fb_verified.specs.declared.verified.Verified.{Verified}
use Rattle.fb_model.specs.World.{IsFirst}
use Rattle.fb_world_course.specs.Scenes.{Scene, system_of, world_of}
use Rattle.fb_script.specs.Runs.{IsRun}
use Rattle.fb_script.specs.declared.run.End.{End}
use Rattle.fb_script.specs.declared.run.End.TheVariants as ends
use Rattle.fbr_files.specs.declared.fault.Fault.TheVariants.{Memory, Input, Line}
use Rattle.fbr_files.specs.Outcomes.{Tells, refusal}

-- the end of a script is told: nothing where every line was run, and else a refusal
abbrev pub TellsEnd : End → Option (List ℕ) → Option (List ℕ) → ℕ → Type 0
TellsEnd ends.Done old new status = (status ≡ 0) × Appends old new []
TellsEnd (ends.Line n) old new status = Tells (refusal (Line n)) old new status
TellsEnd ends.Unreadable old new status = Tells (refusal Input) old new status
TellsEnd ends.OutOfMemory old new status = Tells (refusal Memory) old new status

-- the first world of what was verified
pub record IsFresh (v : Verified) (s : Scene) : Type 0 where
  pub verified : s.verified ≡ v
  pub first : IsFirst (system_of s) (world_of s)

-- it runs the script that a stream holds to this end
abbrev pub RunsTo : Verified → Option (List ℕ) → Option (List ℕ) → Option (List ℕ) → End → Type 0
RunsTo v held old new end = (first : Scene) × (last : Scene) × IsFresh v first × IsRun first held old new end last

-- what is told over the script that a stream holds
pub data TellsScript (v : Verified) (held old new : Option (List ℕ)) (status : ℕ) : Type 0 where
  -- the first world runs it, and its end is told behind its answers
  a_run : (end : End) (mid : Option (List ℕ)) → RunsTo v held old mid end → TellsEnd end mid new status → TellsScript v held old new status
  -- there is no memory for a world
  no_world : Tells (refusal Memory) old new status → TellsScript v held old new status

-- the same from a scene on
abbrev pub TellsRunFrom : Scene → Option (List ℕ) → Option (List ℕ) → Option (List ℕ) → ℕ → Type 0
TellsRunFrom first held old new status = (end : End) × (mid : Option (List ℕ)) × (last : Scene) × IsRun first held old mid end last × TellsEnd end mid new status
