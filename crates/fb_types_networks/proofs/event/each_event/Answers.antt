use Rattle.std.proofs.Common.{◌≡◌, ◌++◌, ◌∷◌, [], ◌+◌, map, drop, inr, subst}
use Rattle.std.proofs.lemmas.List.{map_push}
use Rattle.std.proofs.lemmas.Result.{err_from_is_err_and}
use Rattle.fb_types_blocks.specs.Views.{face_of}
use Rattle.fb_tree.specs.Files as trees_of
use Rattle.fb_types_networks.specs.Views.{connection_of}
use Rattle.fb_types_networks.specs.Ends.{inner_of}
use Rattle.fb_model.specs.NetworkFaults.{IsEventFault}
use Rattle.fb_types_networks.proofs.Loops.{EventsSo, events_more, events_done, next_left, none_left, any_at}
use Rattle.fb_types_networks.proofs.event.each_event.Goals as goal

pub returns-in_err-event-clause-refused : goal.returns-in_err-event-clause-refused
returns-in_err-event-clause-refused c =
    let p = err_from_is_err_and c.from_residual.result c.from_residual.ensures.1 in
    let f = face_of c.args.site.now.face.now in
    let inner = inner_of c.args.site.now.instances.now in
    let w = c.in_err-event.field-0.0 in
    λ t. rw (p.1, p.2) (inr (any_at (λ k. IsEventFault f inner k w) trees_of.connection_of c.args.trees.now c.loop-tree.tree-index c.tree-item.result c.loop-tree-test.true c.tree-item.is (c.in_err-event.ensures.refused t)))

pub loop-tree-preserved : goal.loop-tree-preserved
loop-tree-preserved c =
    let f = face_of c.args.site.now.face.now in
    let inner = inner_of c.args.site.now.instances.now in
    let all = map trees_of.connection_of c.args.trees.now in
    let i = c.loop-tree.tree-index in
    let x = c.tree-item.result in
    let d = c.in_ok-event.field-0 in
    let made = map connection_of c.loop-tree.connections.items in
    let left = map trees_of.connection_of (drop (i + 1) c.args.trees.now) in
    let e : map connection_of c.push.new.self.items ≡ made ++ connection_of d ∷ [] = rw c.in_ok-push.ensures.items (map_push connection_of c.loop-tree.connections.items d) in
    λ t.
    let so = subst (λ l. EventsSo f inner all made l) (next_left trees_of.connection_of c.args.trees.now i x c.loop-tree-test.true c.tree-item.is) (c.loop-tree.invariant t) in
    rw e (events_more f inner all made (trees_of.connection_of x) left (connection_of d) so (c.in_ok-event.ensures.typed t))

pub returns-clause-typed : goal.returns-clause-typed
returns-clause-typed c =
    let f = face_of c.args.site.now.face.now in
    let inner = inner_of c.args.site.now.instances.now in
    let all = map trees_of.connection_of c.args.trees.now in
    let made = map connection_of c.loop-tree.connections.items in
    λ t.
    events_done f inner all made
    (subst (λ l. EventsSo f inner all made l) (none_left trees_of.connection_of c.args.trees.now c.loop-tree.tree-index c.loop-tree-test.false) (c.loop-tree.invariant t))
