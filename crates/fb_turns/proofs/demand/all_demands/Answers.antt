use Rattle.std.proofs.Common.{List, [], ◌∷◌, map, refl}
use Rattle.fb_find_demands.specs.declared.right.Right.{Right}
use Rattle.fb_find_demands.proofs.Loops.{rest_of, turn, ends}
use Rattle.fb_find_demands.specs.Rights.{right_of, rights_of}
use Rattle.fb_turns.specs.Counting.{all_right}
use Rattle.fb_turns.proofs.demand.all_demands.Goals as goal

pub loop-right-preserved : goal.loop-right-preserved
loop-right-preserved c =
    let f = all_right c.args.states in
    let xs = c.args.asked.now in
    let i = c.loop-right.right-index in
    let x : Right = c.right-item.result in
    turn (λ (rs : List Right). map f (rights_of rs)) xs i x (f (right_of x) ∷ []) (rights_of c.loop-right.rights.items) (rights_of c.add_all.new.rights.items) _ (rest_of xs i x c.loop-right-test.true c.right-item.is) refl c.in_ok-add_all.ensures c.loop-right.invariant

pub returns : goal.returns
returns c =
    ends (λ (rs : List Right). map (all_right c.args.states) (rights_of rs)) c.args.asked.now c.loop-right.right-index (rights_of c.loop-right.rights.items) _ c.loop-right-test.false refl c.loop-right.invariant
