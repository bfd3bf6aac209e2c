use Rattle.std.proofs.Common.{◌≡◌, drop}
use Rattle.fb_flat.specs.Tables.{targets_of}
use Rattle.fb_work_charts.proofs.output.target_count.Given as goal

abbrev pub invariant-loop-output : goal.invariant-loop-output
invariant-loop-output l = targets_of (drop l.output-index l.outputs) l.name ≡ targets_of l.outputs l.name
