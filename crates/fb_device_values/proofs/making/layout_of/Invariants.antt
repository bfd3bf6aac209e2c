use Rattle.std.proofs.Common.{take}
use Rattle.fb_device_values.specs.Drafts.{IsLaidOut, forms_in}
use Rattle.fb_device_values.proofs.making.layout_of.Given as goal

abbrev pub invariant-loop-draft : goal.invariant-loop-draft
invariant-loop-draft l = IsLaidOut l.layout (forms_in (take l.draft-index l.drafts))
