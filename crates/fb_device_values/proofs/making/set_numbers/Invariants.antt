use Rattle.std.proofs.Common.{drop}
use Rattle.st_exec.specs.Cells.{forms_of}
use Rattle.fb_device_values.specs.Drafts.{IsLaidOut, IsSetFrom, forms_in}
use Rattle.fb_device_values.proofs.making.set_numbers.Given as goal

abbrev pub invariant-loop-index : goal.invariant-loop-index
invariant-loop-index l = record { laid : IsLaidOut (forms_of l.store) (forms_in l.drafts); set : IsSetFrom l.store (drop l.index l.drafts) }
