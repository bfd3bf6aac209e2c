use Rattle.std.proofs.Common.{arith, refl}
use Rattle.fb_find_demands.specs.Rights.{right_of}
use Rattle.fb_find_demands.proofs.Grouped.{put_set}
use Rattle.fb_find_demands.proofs.grouping.put.Goals as goal

pub returns-in_ok-push-clause-grouped : goal.returns-in_ok-push-clause-grouped
returns-in_ok-push-clause-grouped c =
    λ rs g. put_set c.args.places.now.items c.push.new.self (record { constant = c.args.right.constant; terms = c.args.right.terms }) c.index_mut.result.now (right_of c.args.right) rs (omega (arith, c.if-node-len.true, c.len.ensures)) c.index_mut.ensures.value c.in_ok-push.ensures.items refl g
