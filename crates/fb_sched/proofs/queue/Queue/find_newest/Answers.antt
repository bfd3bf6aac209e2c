use Rattle.std.proofs.Common.{◌≢◌, Option, Some, None, ap, sym, subst, ◌∙◌}
use Rattle.std.specs.Option.{option_copied}
use Rattle.fb_sched.specs.declared.reaction.Reaction.{Reaction}
use Rattle.fb_sched.specs.Agenda.{Agenda, slot_at, cause_in, Rises, HasNone}
use Rattle.fb_sched.proofs.Halving.{none_at, none_behind, open_at}
use Rattle.fb_sched.proofs.queue.Queue.find_newest.Goals as goal

pub returns-in_default-clause-none : goal.returns-in_default-clause-none
returns-in_default-clause-none c =
    subst (λ (a : Agenda). Rises c.args.cause a.slots a.tickets → HasNone c.args.cause a.slots a.tickets) c.self.view_is
    (λ rises. none_behind c.args.cause c.entries_before-place.result c.self.inside.reactions.slots c.self.inside.ring.items (c.entries_before-place.ensures.before rises) (sym c.get.ensures ∙ ap option_copied c.in_default.is))

pub reaction_in-reaction-requires : goal.reaction_in-reaction-requires
reaction_in-reaction-requires c =
    open_at c.self.inside.reactions.slots c.self.inside.ring.items c.entries_before-place.result c.in-Some.ticket.now c.self.invariant.agenda.open_slots (sym c.get.ensures ∙ ap option_copied c.in-Some.is)

pub returns-then-reaction-cause-clause-found : goal.returns-then-reaction-cause-clause-found
returns-then-reaction-cause-clause-found c =
    (c.in-Some.ticket.now.slot, ap (λ (a : Agenda). slot_at a.slots c.in-Some.ticket.now.slot) (sym c.self.view_is) ∙ c.reaction_in-reaction.ensures, c.if-reaction-cause.true)

pub returns-else-reaction-cause-clause-none : goal.returns-else-reaction-cause-clause-none
returns-else-reaction-cause-clause-none c =
    let slots = c.self.inside.reactions.slots in
    let other : cause_in slots c.in-Some.ticket.now ≢ c.args.cause = λ same. c.if-reaction-cause.false (ap (λ (o : Option Reaction). elim o [ None ↦ 0 | Some r ↦ r.cause ]) (sym c.reaction_in-reaction.ensures) ∙ same) in
    subst (λ (a : Agenda). Rises c.args.cause a.slots a.tickets → HasNone c.args.cause a.slots a.tickets) c.self.view_is
    (λ rises. none_at c.args.cause c.entries_before-place.result slots c.self.inside.ring.items c.in-Some.ticket.now rises (c.entries_before-place.ensures.before rises) (c.entries_before-place.ensures.behind rises) (sym c.get.ensures ∙ ap option_copied c.in-Some.is) other)
