use Rattle.std.proofs.Common.{map}
use Rattle.std.proofs.lemmas.Result.{err_from_is_err_and}
use Rattle.fb_tree.specs.Files as trees_of
use Rattle.fb_types_blocks.specs.Views.{face_of}
use Rattle.fb_types_blocks.proofs.Refused.{either_of}
use Rattle.fb_model.specs.NetworkTyping.{given_in}
use Rattle.fb_types_networks.specs.Views.{names_of, connection_of, wired_of}
use Rattle.fb_types_networks.specs.Ends.{inner_of, ends_of}
use Rattle.fb_model.specs.NetworkFaults.{no_memory_for_network, faulty_events, faulty_values_of}
use Rattle.fb_types_networks.proofs.Giving.{faults_same, values_same}
use Rattle.fb_types_networks.proofs.Networks.{tabled, wired_of_parts}
use Rattle.fb_types_networks.proofs.wiring.joined.Goals as goal

pub returns-in_err-events-clause-refused : goal.returns-in_err-events-clause-refused
returns-in_err-events-clause-refused c =
    let p = err_from_is_err_and c.from_residual-in_err-events.result c.from_residual-in_err-events.ensures.1 in
    let n = trees_of.network_of c.args.source.now in
    λ named.
    rw (p.1, p.2)
    (faulty_events (rw (c.deref-3.ensures.value, c.deref-4.ensures.value) at c.in_err-events.ensures.refused (tabled n (names_of c.in_ok-names.names) c.args.instances.items (rw c.deref.ensures.value at c.in_ok-names.ensures.names) named)))

pub returns-in_err-values-clause-refused : goal.returns-in_err-values-clause-refused
returns-in_err-values-clause-refused c =
    let p = err_from_is_err_and c.from_residual-in_err-values.result c.from_residual-in_err-values.ensures.1 in
    let n = trees_of.network_of c.args.source.now in
    let f = face_of c.args.face.now in
    let inner = inner_of c.args.instances.items in
    λ named.
    let t = tabled n (names_of c.in_ok-names.names) c.args.instances.items (rw c.deref.ensures.value at c.in_ok-names.ensures.names) named in
    rw (p.1, p.2)
    (either_of no_memory_for_network
    (λ h. faulty_values_of (faults_same f inner (ends_of c.in_ok-taken.taken) (given_in inner) n.values c.in_err-values.field-0.0 (rw c.deref-2.ensures.value at c.in_ok-taken.ensures) h))
    (rw (c.deref-3.ensures.value, c.deref-5.ensures.value) at c.in_err-values.ensures.refused t))

pub returns-clause-typed : goal.returns-clause-typed
returns-clause-typed c =
    let n = trees_of.network_of c.args.source.now in
    let f = face_of c.args.face.now in
    let inner = inner_of c.args.instances.items in
    let es = map connection_of c.in_ok-events.events.items in
    let vs = map connection_of c.in_ok-values.values.items in
    λ named.
    let t = tabled n (names_of c.in_ok-names.names) c.args.instances.items (rw c.deref.ensures.value at c.in_ok-names.ensures.names) named in
    wired_of_parts f n c.args.instances.items es vs (wired_of c.network.result) c.network.ensures.parts (rw c.deref.ensures.value at c.in_ok-names.ensures.new) (rw (c.deref-3.ensures.value, c.deref-4.ensures.value) at c.in_ok-events.ensures.typed t)
    (values_same f inner (ends_of c.in_ok-taken.taken) (given_in inner) n.values vs (rw c.deref-2.ensures.value at c.in_ok-taken.ensures) (rw (c.deref-3.ensures.value, c.deref-5.ensures.value) at c.in_ok-values.ensures.typed t))
