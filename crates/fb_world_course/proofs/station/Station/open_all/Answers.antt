use Rattle.std.proofs.Common.{◌≡◌, ◌+◌, subst, sym, ◌∙◌, arith}
use Rattle.fb_device_state.specs.Sessions.{Session}
use Rattle.fb_world_course.specs.Roots.{IsPending}
use Rattle.fb_world_course.proofs.Stations.{opened_more}
use Rattle.fb_world_course.proofs.station.Station.open_all.Goals as goal

pub open-requires-clause-pending : goal.open-requires-clause-pending
open-requires-clause-pending c =
    subst (λ (s : Session). IsPending s (c.loop.self.causes + 1)) (sym c.loop.invariant.opens.device)
    (subst (IsPending c.args.self.now.device) (let e : c.args.self.now.causes + 1 + c.loop.counter ≡ c.loop.self.causes + 1 = omega (arith, c.loop.invariant.opens.causes) in e) (c.requires.pending c.loop.counter (omega (arith, c.loop-test.true))))

pub loop-preserved : goal.loop-preserved
loop-preserved c =
    record {
      opens = opened_more c.args.self.now c.loop.self c.open.new.self c.args.number c.loop.counter 1 c.args.roots.now.items c.loop.roots.items c.open.new.roots.items c.loop.invariant.opens c.open.ensures.opens;
      spare = omega (arith, c.loop.invariant.spare, c.open.ensures.spare);
      room = c.open.ensures.room ∙ c.loop.invariant.room;
    }
