use Rattle.std.proofs.Common.{◌≡◌, drop}
use Rattle.fb_flat.specs.Tables.{targets_of}
use Rattle.fb_find_demands.proofs.scene.add_output.Given as goal

abbrev pub invariant-loop-output : goal.invariant-loop-output
invariant-loop-output l = (targets_of (drop l.output-index l.outputs) l.name ≡ targets_of l.outputs l.name) × (l.terms.items ≡ l.fn.terms.items)
