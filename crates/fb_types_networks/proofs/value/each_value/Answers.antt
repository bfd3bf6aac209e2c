use Rattle.std.proofs.Common.{◌≡◌, ◌++◌, ◌∷◌, [], map, drop, ◌+◌, inr, subst}
use Rattle.std.proofs.lemmas.List.{map_push}
use Rattle.std.proofs.lemmas.Result.{err_from_is_err_and}
use Rattle.fb_types_blocks.specs.Views.{face_of}
use Rattle.fb_tree.specs.Files as trees_of
use Rattle.fb_types_networks.specs.Views.{connection_of}
use Rattle.fb_types_networks.specs.Ends.{inner_of, ends_of}
use Rattle.fb_types_networks.proofs.Loops.{ValuesSo, values_more, values_done, values_wrong, next_left, none_left}
use Rattle.fb_types_networks.proofs.value.each_value.Goals as goal

pub returns-in_err-value-clause-refused : goal.returns-in_err-value-clause-refused
returns-in_err-value-clause-refused c =
    let p = err_from_is_err_and c.from_residual.result c.from_residual.ensures.1 in
    let f = face_of c.args.site.now.face.now in
    let inner = inner_of c.args.site.now.instances.now in
    let all = map trees_of.connection_of c.args.trees.now in
    let i = c.loop-tree.tree-index in
    let x = c.tree-item.result in
    let made = map connection_of c.loop-tree.connections.items in
    let taken = ends_of c.loop-tree.taken in
    let left = map trees_of.connection_of (drop (i + 1) c.args.trees.now) in
    λ t.
    let so = subst (λ l. ValuesSo f inner (ends_of c.args.taken.now) all made taken l) (next_left trees_of.connection_of c.args.trees.now i x c.loop-tree-test.true c.tree-item.is) (c.loop-tree.invariant t) in
    rw (p.1, p.2) (inr (values_wrong f inner (ends_of c.args.taken.now) all made taken (trees_of.connection_of x) left c.in_err-value.field-0.0 so (c.in_err-value.ensures.refused t)))

pub loop-tree-preserved : goal.loop-tree-preserved
loop-tree-preserved c =
    let f = face_of c.args.site.now.face.now in
    let inner = inner_of c.args.site.now.instances.now in
    let all = map trees_of.connection_of c.args.trees.now in
    let i = c.loop-tree.tree-index in
    let x = c.tree-item.result in
    let d = c.in_ok-value.field-0 in
    let made = map connection_of c.loop-tree.connections.items in
    let taken = ends_of c.loop-tree.taken in
    let left = map trees_of.connection_of (drop (i + 1) c.args.trees.now) in
    let e : map connection_of c.push.new.self.items ≡ made ++ connection_of d ∷ [] = rw c.in_ok-push.ensures.items (map_push connection_of c.loop-tree.connections.items d) in
    λ t.
    let so = subst (λ l. ValuesSo f inner (ends_of c.args.taken.now) all made taken l) (next_left trees_of.connection_of c.args.trees.now i x c.loop-tree-test.true c.tree-item.is) (c.loop-tree.invariant t) in
    let h = c.in_ok-value.ensures.typed t in
    rw (e, h.2) (values_more f inner (ends_of c.args.taken.now) all made taken (trees_of.connection_of x) left (connection_of d) so h.0 h.1)

pub returns-clause-typed : goal.returns-clause-typed
returns-clause-typed c =
    let f = face_of c.args.site.now.face.now in
    let inner = inner_of c.args.site.now.instances.now in
    let all = map trees_of.connection_of c.args.trees.now in
    let made = map connection_of c.loop-tree.connections.items in
    let taken = ends_of c.loop-tree.taken in
    λ t.
    values_done f inner (ends_of c.args.taken.now) all made taken
    (subst (λ l. ValuesSo f inner (ends_of c.args.taken.now) all made taken l) (none_left trees_of.connection_of c.args.trees.now c.loop-tree.tree-index c.loop-tree-test.false) (c.loop-tree.invariant t))
