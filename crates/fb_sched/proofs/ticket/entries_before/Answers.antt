use Rattle.std.proofs.Common.{◌<◌, ◌≤◌, ◌-◌, length, arith}
use Rattle.fb_sched.specs.Agenda.{cause_in}
use Rattle.fb_sched.proofs.Halving.{older_before, not_behind, has_ticket}
use Rattle.fb_sched.proofs.ticket.entries_before.Goals as goal

pub loop-low-preserved-then-cause_at-cause : goal.loop-low-preserved-then-cause_at-cause
loop-low-preserved-then-cause_at-cause c =
    let m = c.look_at-place.result in
    let inside : m < length c.args.ring.now.items = omega (arith, c.look_at-place.ensures.high, c.loop-low.invariant.2) in
    let one = has_ticket c.args.ring.now.items m inside in
    let older : cause_in c.args.reactions.now.slots one.0 < c.args.cause = omega (arith, c.cause_at.ensures one.0 one.1, c.if-cause_at-cause.true) in (
      c.loop-low.invariant.0,
      omega (arith, c.look_at-place.ensures.high),
      c.loop-low.invariant.2,
      λ rises k t before here. older_before c.args.cause c.args.reactions.now.slots c.args.ring.now.items m one.0 rises one.1 older k t (omega (arith, before)) here,
      c.loop-low.invariant.4,
    )

pub loop-low-preserved : goal.loop-low-preserved
loop-low-preserved c =
    let m = c.look_at-place.result in
    let inside : m < length c.args.ring.now.items = omega (arith, c.look_at-place.ensures.high, c.loop-low.invariant.2) in
    let one = has_ticket c.args.ring.now.items m inside in
    let later : c.args.cause ≤ cause_in c.args.reactions.now.slots one.0 = omega (arith, c.cause_at.ensures one.0 one.1, c.if-cause_at-cause.false) in (
      omega (arith, c.loop-low.invariant.0),
      c.look_at-place.ensures.low,
      omega (arith, inside),
      c.loop-low.invariant.3,
      λ rises k t behind here. not_behind c.args.cause c.args.reactions.now.slots c.args.ring.now.items m one.0 rises one.1 later k t behind here,
    )
