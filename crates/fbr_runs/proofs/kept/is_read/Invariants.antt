use Rattle.std.proofs.Common.{drop, map}
use Rattle.std.specs.Prelude.{option_map}
use Rattle.fbr_runs.specs.Running.{AllApart}
use Rattle.fbr_runs.proofs.kept.is_read.Given as goal

-- what is written is none of those that were looked at
abbrev pub invariant-loop-name : goal.invariant-loop-name
invariant-loop-name g l =
    AllApart (g.S.Sources.same l.files) (option_map (λ name. name.now) l.into) (map (λ name. name.now) (drop l.name-index l.others)) → AllApart (g.S.Sources.same l.files) (option_map (λ name. name.now) l.into) (map (λ name. name.now) l.others)
