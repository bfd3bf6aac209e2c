use Rattle.std.proofs.Common.{◌≤◌, length, subst}
use Rattle.fb_cert.specs.Views.{rows_of}
use Rattle.fb_find_room.proofs.Roomy.{part_next, part_last}
use Rattle.fb_find_room.proofs.room.deepen_all.Goals as goal

pub loop-index-preserved : goal.loop-index-preserved
loop-index-preserved c = λ ds are.
    part_next c.args.times ds c.loop-index.index (rows_of c.args.certificate.now) (rows_of c.loop-index.certificate) (rows_of c.deepen.new.certificate) (c.loop-index.invariant ds are) (c.in_ok-deepen.ensures ds are)

pub returns : goal.returns
returns c = λ ds are.
    let all : length (rows_of c.args.certificate.now).depths ≤ c.loop-index.index = subst (λ n. n ≤ c.loop-index.index) c.depth_count-index-end.ensures c.loop-index-test.false in
    part_last c.args.times ds c.loop-index.index (rows_of c.args.certificate.now) (rows_of c.loop-index.certificate) all (c.loop-index.invariant ds are)
