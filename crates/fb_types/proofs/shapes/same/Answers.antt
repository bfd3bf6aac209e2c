use Rattle.fb_types.proofs.Shaped.{types_decide, types_differ}
use Rattle.fb_types.proofs.shapes.same.Goals as goal

pub returns-clause-same : goal.returns-clause-same
returns-clause-same c = λ e. (types_decide c.args.first.now c.args.second.now c.eq.result c.eq.ensures).0 e

pub returns-clause-differ : goal.returns-clause-differ
returns-clause-differ c = λ e f. types_differ c.args.first.now c.args.second.now c.eq.result c.eq.ensures e f
