-- What is taken off a queue.
use Rattle.std.proofs.Common.{◌≡◌, ℕ, List, [], set, slice_get, Option, Some, None, refl, ◌∙◌, ap}
use Rattle.std.specs.Prelude.{IfSome, IfNone, MatchOption}
use Rattle.fb_sched.specs.declared.ticket.Ticket.{Ticket}
use Rattle.fb_sched.specs.Agenda.{Agenda, IsAgenda}
use Rattle.fb_sched.specs.Changes.{Takes}
use Rattle.fb_device_dispatch.specs.Taking.{IsIdle, HasTaken}
use Rattle.fb_lists.proofs.Lists.{same_at, set_same}

pub taken : (old : List Agenda) (q : ℕ) (was new : Agenda) → slice_get old q ≡ Some was → (o : Option Ticket) → IfNone o ((was.tickets ≡ []) × (new ≡ was)) → IfSome o (λ first. Takes was first new) → IsAgenda new
    → MatchOption o (IsIdle old q (set old q new)) (λ first. HasTaken old q first (set old q new))
taken old q was new stands None none some agenda = record { empty = λ queue h. ap (λ (a : Agenda). a.tickets) (same_at old q queue was h stands) ∙ none.0; same = ap (set old q) none.1 ∙ set_same old q was stands }
taken old q was new stands (Some first) none some agenda = record { was = was; left = new; stands = stands; takes = some; agenda = agenda; new_is = refl }
