use Rattle.std.proofs.Common.{◌-◌, ℕ, ◌≡◌, ◌<◌, ◌≤◌, length, Some, slice_get}
use Rattle.fb_sched.specs.declared.ticket.Ticket.{Ticket}
use Rattle.fb_sched.specs.Agenda.{cause_in, Rises}
use Rattle.fb_sched.proofs.ticket.entries_before.Given as goal

-- the place lies between both, where it is one
abbrev pub invariant-loop-low : goal.invariant-loop-low
invariant-loop-low l =
    (1 ≤ l.step) ×
    (l.low ≤ l.high) ×
    (l.high ≤ length l.ring.items) ×
    (Rises l.cause l.reactions.slots l.ring.items → (k : ℕ) (t : Ticket) → k < l.low → slice_get l.ring.items k ≡ Some t → cause_in l.reactions.slots t < l.cause) ×
    (Rises l.cause l.reactions.slots l.ring.items → (k : ℕ) (t : Ticket) → l.high ≤ k → slice_get l.ring.items k ≡ Some t → l.cause ≤ cause_in l.reactions.slots t)

abbrev pub decreases-loop-low : goal.decreases-loop-low
decreases-loop-low l = l.high - l.low
