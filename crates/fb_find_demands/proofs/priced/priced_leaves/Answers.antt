use Rattle.fb_find_demands.specs.Rights.{rights_of}
use Rattle.fb_find_demands.proofs.Loops.{rest_of}
use Rattle.fb_find_demands.proofs.Answering.{got, turn_priced}
use Rattle.fb_find_demands.proofs.priced.priced_leaves.Goals as goal

pub loop-index-preserved : goal.loop-index-preserved
loop-index-preserved c =
    let xs = c.args.leaves.now in
    let i = c.loop-index.index in
    let x = c.index-leaves-index.result in
    record {
      known = c.in_ok-add_priced.ensures.known;
      all =
          turn_priced c.args.numbering.now c.args.follows xs c.args.tables.now i x c.get.result (rights_of c.loop-index.rights.items) (rights_of c.add_priced.new.rights.items) _ (rest_of xs i x c.loop-index-test.true c.index-leaves-index.is)
          (got _ c.get.result c.args.tables.now i c.get.ensures.lookup.3 c.get.ensures.lookup.1) c.in_ok-add_priced.ensures.rights c.loop-index.invariant.all;
    }
