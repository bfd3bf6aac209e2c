use Rattle.std.proofs.Common.{subst}
use Rattle.fb_model.specs.World.{Answered}
use Rattle.fb_verified.specs.declared.verified.Verified.{Verified}
use Rattle.fb_verified.specs.Checked.{system_in}
use Rattle.fb_device_dispatch.specs.Answers.{dispatched_of}
use Rattle.fb_world_course.specs.Scenes.{system_of, cert_of, world_of}
use Rattle.fb_world_course.specs.Answers.{leaves_at}
use Rattle.fb_drain.specs.Draining.{WasTold}
use Rattle.fb_drain.proofs.Served.{dispatch_stops, one_served, if_ok, on_err}
use Rattle.fb_drain.proofs.draining.serve.Goals as goal

pub returns-in-Ok-clause-served : goal.returns-in-Ok-clause-served
returns-in-Ok-clause-served g c =
    let old = c.args.world.now in
    let new = c.dispatch.new.self in
    if_ok c.tell.result (λ ran. WasTold g.W.Witness.sees (Answered (dispatched_of (leaves_at (system_of new) c.args.device) c.dispatch.new.answer) c.in-Ok.sent) ran c.args.witness.now c.tell.new.witness) _
    (λ ran t. one_served (system_of old) (cert_of old) c.args.device c.args.resource g.W.Witness.sees (world_of old) (world_of new) (dispatched_of (leaves_at (system_of old) c.args.device) c.dispatch.new.answer) c.in-Ok.sent ran c.args.witness.now c.tell.new.witness c.in-Ok.ensures.happens
    (subst (λ (v : Verified). WasTold g.W.Witness.sees (Answered (dispatched_of (leaves_at (system_in v) c.args.device) c.dispatch.new.answer) c.in-Ok.sent) ran c.args.witness.now c.tell.new.witness) c.dispatch.ensures.same t))
    c.tell.ensures

pub returns-in-Ok-clause-stopped : goal.returns-in-Ok-clause-stopped
returns-in-Ok-clause-stopped g c =
    let old = c.args.world.now in
    on_err c.tell.result (dispatch_stops (system_of old) (cert_of old) c.args.device c.args.resource (world_of old) (world_of c.dispatch.new.self) (dispatched_of (leaves_at (system_of old) c.args.device) c.dispatch.new.answer) c.in-Ok.sent c.in-Ok.ensures.happens)
