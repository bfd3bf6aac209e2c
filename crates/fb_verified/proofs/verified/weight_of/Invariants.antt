use Rattle.std.proofs.Common.{◌≡◌, drop}
use Rattle.fb_cert.specs.Views.{rows_of}
use Rattle.fb_verified.specs.Lookups.{row_at}
use Rattle.fb_verified.proofs.verified.weight_of.Given as goal

abbrev pub invariant-loop-index : goal.invariant-loop-index
invariant-loop-index l = row_at l.path (drop l.index (rows_of l.certificate).weights) ≡ row_at l.path (rows_of l.certificate).weights
