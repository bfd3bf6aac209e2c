use Rattle.std.proofs.Common.{ℕ, ◌≡◌, ◌<◌, Some, slice_get}
use Rattle.fb_sched.specs.Agenda.{Agenda, IsNew}
use Rattle.fb_device.proofs.names.opening.Given as goal

-- the queues so far do not have the cause
abbrev pub invariant-loop-queue : goal.invariant-loop-queue
invariant-loop-queue l = (q : ℕ) (a : Agenda) → q < l.queue-index → slice_get l.queues q ≡ Some a → IsNew l.cause a.slots
