use Rattle.std.proofs.Common.{List, [], map, Bor, refl}
use Rattle.std.specs.List.{flat_map}
use Rattle.fb_flat.specs.declared.flat.Leaf.{Leaf}
use Rattle.fb_find_demands.specs.Rights.{rights_of}
use Rattle.fb_find_demands.proofs.Loops.{rest_of, turn}
use Rattle.fb_find_demands.specs.Leaves.{leaf_rights}
use Rattle.fb_find_demands.proofs.plain.plain_leaves.Goals as goal

pub loop-leaf-preserved : goal.loop-leaf-preserved
loop-leaf-preserved c =
    let f = leaf_rights c.args.numbering.now c.args.unit c.args.follows [] in
    let xs = c.args.leaves.now in
    let i = c.loop-leaf.leaf-index in
    let x : Bor Leaf = c.leaf-item.result in
    turn (λ (ls : List (Bor Leaf)). flat_map f (map (λ l. l.now) ls)) xs i x (f x.now) (rights_of c.loop-leaf.rights.items) (rights_of c.add_leaf.new.rights.items) _ (rest_of xs i x c.loop-leaf-test.true c.leaf-item.is) refl c.in_ok-add_leaf.ensures c.loop-leaf.invariant
