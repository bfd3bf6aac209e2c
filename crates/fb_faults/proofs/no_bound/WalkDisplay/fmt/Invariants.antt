use Rattle.std.proofs.Common.{take}
use Rattle.std.specs.Fmt.{HasWritten, IsPlainFormatter}
use Rattle.fb_faults.specs.NoBounds.{walk_text}
use Rattle.fb_faults.proofs.no_bound.WalkDisplay.fmt.Given as goal

abbrev pub invariant-loop-place : goal.invariant-loop-place
invariant-loop-place g l = IsPlainFormatter l.fn.f → HasWritten g.W.Write.write_str_gives l.fn.f (walk_text (take l.place-index l.place-items)) l.f
