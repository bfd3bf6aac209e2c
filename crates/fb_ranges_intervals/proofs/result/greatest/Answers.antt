use Rattle.std.proofs.Common.{arith}
use Rattle.std.proofs.lemmas.Int.{ints, clamps}
use Rattle.fb_ranges_intervals.proofs.result.greatest.Goals as goal

pub returns : goal.returns
returns c = omega (arith, ints, clamps)
