use Rattle.fb_types_events.proofs.resolving.resolve.Goals as goal

pub returns-in-Ok-clause-only : goal.returns-in-Ok-clause-only
returns-in-Ok-clause-only c = rw c.new.ensures (rw c.tree.ensures at c.in-Ok.ensures.only)
