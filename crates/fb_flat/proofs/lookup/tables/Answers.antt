use Rattle.std.proofs.Common.{subst}
use Rattle.fb_flat.specs.Placed.{AreNames}
use Rattle.fb_flat.proofs.lookup.tables.Goals as goal

pub returns-in-Ok-clause-positions_are : goal.returns-in-Ok-clause-positions_are
returns-in-Ok-clause-positions_are c = subst (λ l. AreNames l c.in_ok-positions.positions) c.deref.ensures.value c.in_ok-positions.ensures
