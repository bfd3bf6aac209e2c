use Rattle.fb_model.specs.Serving.{stamped}
use Rattle.st_exec.specs.Cells.{values_of}
use Rattle.fb_chart.specs.Responses.{stamps_in}
use Rattle.fb_chart.proofs.Sending.{IsFilled}
use Rattle.fb_chart.proofs.quality.message.Given as goal

-- the values that are left are still to come
abbrev pub invariant-loop-at : goal.invariant-loop-at
invariant-loop-at l = IsFilled l.message l.channel (stamped (stamps_in l.fn.stamps)) l.types (values_of l.own) l.at
