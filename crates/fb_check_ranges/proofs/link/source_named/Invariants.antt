use Rattle.std.proofs.Common.{◌≡◌, drop}
use Rattle.fb_flat.specs.Tables.{source_at}
use Rattle.fb_check_ranges.proofs.link.source_named.Given as goal

abbrev pub invariant-loop-input : goal.invariant-loop-input
invariant-loop-input l = source_at (drop l.input-index l.inputs) l.name ≡ source_at l.inputs l.name
