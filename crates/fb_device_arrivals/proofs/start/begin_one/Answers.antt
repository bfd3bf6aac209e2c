use Rattle.std.proofs.Common.{◌≡◌, ◌<◌, length, ℤ, List, true, false, cond, sym, ◌∙◌, ap, subst, arith}
use Rattle.fb_model.specs.Wires.{Leaf, leaves}
use Rattle.fb_model.specs.Certificates.{is_restart}
use Rattle.fb_model.specs.Devices.{admitted, beginning}
use Rattle.fb_lists.proofs.Lists.{stands_at, same_at}
use Rattle.fb_device_state.specs.Sessions.{session_of}
use Rattle.fb_device_state.specs.Machines.{device_in, cert_in, machine_of}
use Rattle.fb_device_state.specs.Arrivals.{IsArrival}
use Rattle.fb_device_arrivals.proofs.SameKinds.{same_kinds, leaf_at_block, kind_count}
use Rattle.fb_device_arrivals.proofs.Beginning.{beginning_arrives, admitted_where_room}
use Rattle.fb_device_arrivals.proofs.start.begin_one.Goals as goal

pub index-requires : goal.index-requires
index-requires c = omega (arith, c.requires.within, kind_count c.args.program.now.tables.blocks.items (leaves (device_in (session_of c.args.program.now c.args.running.now))) (same_kinds c.args.program.now c.args.running.now c.requires.good), c.args.program.now.tables.blocks.ok)

pub admit-requires-clause-arrival : goal.admit-requires-clause-arrival
admit-requires-clause-arrival c =
    let inside : c.args.block < length c.args.program.now.tables.blocks.items = omega (arith, c.requires.within, kind_count c.args.program.now.tables.blocks.items (leaves (device_in (session_of c.args.program.now c.args.running.now))) (same_kinds c.args.program.now c.args.running.now c.requires.good)) in
    let stands = stands_at c.args.program.now.tables.blocks.items c.args.block c.index.result.now c.index.result.now inside c.index.ensures in
    let l = leaf_at_block c.args.program.now.tables.blocks.items (leaves (device_in (session_of c.args.program.now c.args.running.now))) c.args.block c.index.result.now (same_kinds c.args.program.now c.args.running.now c.requires.good) stands in
    let begins : is_restart l.0.kind ≡ true = ap is_restart (sym l.2) ∙ sym c.begins.ensures ∙ c.if-begins.true in
    (beginning l.0, subst (λ (vs : List ℤ). IsArrival (leaves (device_in (session_of c.args.program.now c.args.running.now))) (record { block = c.args.block; event = 0 }) vs (beginning l.0)) (sym c.new.ensures) (beginning_arrives (leaves (device_in (session_of c.args.program.now c.args.running.now))) c.args.block l.0 l.1 begins))

pub returns-then-begins-clause-begun : goal.returns-then-begins-clause-begun
returns-then-begins-clause-begun c = λ leaf at.
    let inside : c.args.block < length c.args.program.now.tables.blocks.items = omega (arith, c.requires.within, kind_count c.args.program.now.tables.blocks.items (leaves (device_in (session_of c.args.program.now c.args.running.now))) (same_kinds c.args.program.now c.args.running.now c.requires.good)) in
    let stands = stands_at c.args.program.now.tables.blocks.items c.args.block c.index.result.now c.index.result.now inside c.index.ensures in
    let l = leaf_at_block c.args.program.now.tables.blocks.items (leaves (device_in (session_of c.args.program.now c.args.running.now))) c.args.block c.index.result.now (same_kinds c.args.program.now c.args.running.now c.requires.good) stands in
    let same = same_at (leaves (device_in (session_of c.args.program.now c.args.running.now))) c.args.block l.0 leaf l.1 at in
    let begins : is_restart leaf.kind ≡ true = ap (λ (o : Leaf). is_restart o.kind) (sym same) ∙ ap is_restart (sym l.2) ∙ sym c.begins.ensures ∙ c.if-begins.true in
    let arr = subst (λ (vs : List ℤ). IsArrival (leaves (device_in (session_of c.args.program.now c.args.running.now))) (record { block = c.args.block; event = 0 }) vs (beginning leaf)) (sym c.new.ensures) (beginning_arrives (leaves (device_in (session_of c.args.program.now c.args.running.now))) c.args.block leaf at begins) in
    admitted_where_room (cert_in (session_of c.args.program.now c.args.running.now)) (device_in (session_of c.args.program.now c.args.running.now)) (machine_of (session_of c.args.program.now c.args.running.now)) leaf (machine_of (session_of c.args.program.now c.admit.new.running)) c.admit.result
    (c.requires.room leaf at begins) (c.admit.ensures.admits (beginning leaf) arr) (c.admit.ensures.short (beginning leaf) arr)
    ∙ ap (λ b. cond b (admitted (machine_of (session_of c.args.program.now c.args.running.now)) (beginning leaf)) (machine_of (session_of c.args.program.now c.args.running.now))) (sym begins)

pub returns-else-begins-clause-begun : goal.returns-else-begins-clause-begun
returns-else-begins-clause-begun c = λ leaf at.
    let inside : c.args.block < length c.args.program.now.tables.blocks.items = omega (arith, c.requires.within, kind_count c.args.program.now.tables.blocks.items (leaves (device_in (session_of c.args.program.now c.args.running.now))) (same_kinds c.args.program.now c.args.running.now c.requires.good)) in
    let stands = stands_at c.args.program.now.tables.blocks.items c.args.block c.index.result.now c.index.result.now inside c.index.ensures in
    let l = leaf_at_block c.args.program.now.tables.blocks.items (leaves (device_in (session_of c.args.program.now c.args.running.now))) c.args.block c.index.result.now (same_kinds c.args.program.now c.args.running.now c.requires.good) stands in
    let same = same_at (leaves (device_in (session_of c.args.program.now c.args.running.now))) c.args.block l.0 leaf l.1 at in
    let begins : is_restart leaf.kind ≡ false = ap (λ (o : Leaf). is_restart o.kind) (sym same) ∙ ap is_restart (sym l.2) ∙ sym c.begins.ensures ∙ c.if-begins.false in
    ap (λ b. cond b (admitted (machine_of (session_of c.args.program.now c.args.running.now)) (beginning leaf)) (machine_of (session_of c.args.program.now c.args.running.now))) (sym begins)
