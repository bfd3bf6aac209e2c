use Rattle.std.proofs.Common.{arith}
use Rattle.fb_model.specs.Wires.{leaves}
use Rattle.fb_device_state.specs.Sessions.{session_of}
use Rattle.fb_device_state.specs.Machines.{device_in}
use Rattle.fb_device_state.proofs.Blocks.{standing}
use Rattle.fb_device_arrivals.proofs.SameKinds.{same_kinds, kind_count}
use Rattle.fb_device_arrivals.proofs.Beginning.{begins, all_begun, begun_next, has_room}
use Rattle.fb_device_arrivals.proofs.start.begin.Goals as goal

pub loop-at-init : goal.loop-at-init
loop-at-init c = begins c.args.program.now c.args.running.now c.requires.good c.requires.silent c.requires.numbers

pub overflow_cast-at : goal.overflow_cast-at
overflow_cast-at c =
    let few = kind_count c.args.program.now.tables.blocks.items (leaves (device_in (session_of c.args.program.now c.args.running.now))) (same_kinds c.args.program.now c.args.running.now c.requires.good) in
    omega (arith, few, c.loop-at-test.true, c.requires.good.program.tables.few)

pub begin_one-requires-clause-within : goal.begin_one-requires-clause-within
begin_one-requires-clause-within c =
    let few = kind_count c.args.program.now.tables.blocks.items (leaves (device_in (session_of c.args.program.now c.args.running.now))) (same_kinds c.args.program.now c.args.running.now c.requires.good) in
    omega (arith, few, c.loop-at-test.true)

pub begin_one-requires-clause-room : goal.begin_one-requires-clause-room
begin_one-requires-clause-room c = λ leaf at begins_here. has_room c.args.program.now c.args.running.now c.loop-at.running c.loop-at.at c.loop-at.invariant leaf at begins_here

pub loop-at-preserved : goal.loop-at-preserved
loop-at-preserved c =
    let few = kind_count c.args.program.now.tables.blocks.items (leaves (device_in (session_of c.args.program.now c.args.running.now))) (same_kinds c.args.program.now c.args.running.now c.requires.good) in
    let l = standing (leaves (device_in (session_of c.args.program.now c.args.running.now))) c.loop-at.at (omega (arith, few, c.loop-at-test.true)) in
    begun_next c.args.program.now c.args.running.now c.loop-at.running c.loop-at.at c.loop-at.invariant l.0 l.1 c.begin_one.new.running c.begin_one.ensures.good (c.begin_one.ensures.begun l.0 l.1)

pub returns-clause-begun : goal.returns-clause-begun
returns-clause-begun c =
    let few = kind_count c.args.program.now.tables.blocks.items (leaves (device_in (session_of c.args.program.now c.args.running.now))) (same_kinds c.args.program.now c.args.running.now c.requires.good) in
    all_begun c.args.program.now c.args.running.now c.loop-at.running c.loop-at.at c.loop-at.invariant (omega (arith, few, c.loop-at-test.false))
