use Rattle.std.proofs.Common.{◌≡◌, drop}
use Rattle.fb_check_columns.specs.Reckoning.{load_at}
use Rattle.fb_check_columns.proofs.weights.load_named.Given as goal

-- what is looked for among those left is looked for among all
abbrev pub invariant-loop-output : goal.invariant-loop-output
invariant-loop-output l = load_at l.column l.certificate (drop l.output-index l.outputs) l.name ≡ load_at l.column l.certificate l.outputs l.name
