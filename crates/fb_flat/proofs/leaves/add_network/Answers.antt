use Rattle.std.proofs.Common.{◌<◌, IfErr, subst}
use Rattle.fb_model.specs.Wires.{count_of}
use Rattle.fb_flat.specs.Walks.{IsStop}
use Rattle.fb_flat.specs.Leaves.{composed}
use Rattle.fb_flat.proofs.leaves.add_network.Goals as goal

pub returns-clause-refused : goal.returns-clause-refused
returns-clause-refused c = subst (λ n. IfErr c.collect_all-added.result (IsStop (c.args.table.now.left < count_of (composed n) (λ o. 0)))) c.in_ok-indexed.ensures c.collect_all-added.ensures.refused
