use Rattle.std.proofs.Common.{◌≡◌, drop}
use Rattle.fb_model.specs.Language.{labelled}
use Rattle.st_exec.proofs.iterations.is_labelled.Given as goal

abbrev pub invariant-loop-label : goal.invariant-loop-label
invariant-loop-label l = labelled (drop l.label-index l.labels) l.number ≡ labelled l.labels l.number
