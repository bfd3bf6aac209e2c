use Rattle.std.proofs.Common.{take}
use Rattle.std.specs.Fmt.{HasWritten, IsPlainFormatter}
use Rattle.fb_script.specs.Texts.{values_text}
use Rattle.fb_script.proofs.told.RowDisplay.fmt.Given as goal

abbrev pub invariant-loop-value : goal.invariant-loop-value
invariant-loop-value g l = IsPlainFormatter l.fn.f → HasWritten g.W.Write.write_str_gives l.fn.f (values_text (take l.value-index l.value-items)) l.f
