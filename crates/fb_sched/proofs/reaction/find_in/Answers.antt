use Rattle.std.proofs.Common.{ap, inl, inr, ◌∙◌, refl, arith}
use Rattle.slab.proofs.SlabLemmas.{Contains-cons, Contains-cons_cases, Contains-entries}
use Rattle.fb_sched.proofs.reaction.find_in.Goals as goal

pub loop-reaction-init : goal.loop-reaction-init
loop-reaction-init c =
    let left = c.into_iter-reaction-iterator.ensures.into_iter_gives ∙ c.iter-reaction-items.ensures.rest in (
      tt,
      tt,
      λ slot r found same. rw left ((Contains-entries c.args.reactions.now slot r).1 found),
      λ slot r there. (Contains-entries c.args.reactions.now slot r).0 (rw left at there),
    )

pub loop-reaction-preserved : goal.loop-reaction-preserved
loop-reaction-preserved c =
    let at = c.in-Some.ensures.steps in (
      tt,
      tt,
      λ slot r found same. elim (Contains-cons_cases _ _ _ (rw at at (c.loop-reaction.invariant.2 slot r found same))) [
        | inl here ↦ elim (c.if-reaction-cause.false (ap (λ e. e.1.cause) here ∙ same)) [ ]
        | inr rest ↦ rest
      ],
      λ slot r there. c.loop-reaction.invariant.3 slot r (rw at (Contains-cons _ _ _ there)),
    )

pub returns-then-reaction-cause-clause-found : goal.returns-then-reaction-cause-clause-found
returns-then-reaction-cause-clause-found c = (
  c.in-Some.field-0-0,
  c.loop-reaction.invariant.3 c.in-Some.field-0-0 c.in-Some.reaction.now (rw (c.in-Some.ensures.steps) (0, omega arith, refl)),
  c.if-reaction-cause.true,
)
