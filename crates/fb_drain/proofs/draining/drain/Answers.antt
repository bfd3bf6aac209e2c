use Rattle.std.proofs.Common.{◌∙◌, subst, false, true}
use Rattle.fb_world_course.specs.Scenes.{system_of, cert_of, world_of}
use Rattle.fb_drain.specs.Draining.{HasStopped, IsOneServed}
use Rattle.fb_drain.proofs.Served.{stops_more, one_more, drained, on_err, along}
use Rattle.fb_drain.proofs.draining.drain.Goals as goal

pub returns-in_err-serve-clause-stopped : goal.returns-in_err-serve-clause-stopped
returns-in_err-serve-clause-stopped g c =
    let old = c.args.world.now in
    let mid = c.loop-count.world in
    let h = c.loop-count.invariant in
    on_err c.from_residual.result
    (stops_more (system_of old) (cert_of old) c.args.device c.args.resource c.loop-count.count h.0 (world_of old) (world_of mid) (world_of c.serve.new.world) h.1
    (along mid old (λ system cert. HasStopped system cert c.args.device c.args.resource (world_of mid) (world_of c.serve.new.world)) h.3 c.in_err-serve.ensures.stopped))

pub returns-then-not-branch-clause-drained : goal.returns-then-not-branch-clause-drained
returns-then-not-branch-clause-drained g c =
    let old = c.args.world.now in
    let mid = c.loop-count.world in
    let h = c.loop-count.invariant in
    drained (system_of old) (cert_of old) c.args.device c.args.resource g.W.Witness.sees c.loop-count.count h.0 (world_of old) (world_of mid) (world_of c.serve.new.world) c.args.witness.now c.loop-count.witness c.serve.new.witness c.keeps_bounds.ensures h.1 h.2
    (along mid old (λ system cert. IsOneServed g.W.Witness.sees system cert c.args.device c.args.resource false (world_of mid) c.loop-count.witness (world_of c.serve.new.world) c.serve.new.witness) h.3
    (subst (λ b. IsOneServed g.W.Witness.sees (system_of mid) (cert_of mid) c.args.device c.args.resource b (world_of mid) c.loop-count.witness (world_of c.serve.new.world) c.serve.new.witness) c.if-not-branch.true c.in_ok-serve.ensures.served))

pub loop-count-preserved : goal.loop-count-preserved
loop-count-preserved g c =
    let old = c.args.world.now in
    let mid = c.loop-count.world in
    let h = c.loop-count.invariant in
    let more = one_more (system_of old) (cert_of old) c.args.device c.args.resource g.W.Witness.sees c.loop-count.count h.0 (world_of old) (world_of mid) (world_of c.serve.new.world) c.args.witness.now c.loop-count.witness c.serve.new.witness h.1 h.2
    (along mid old (λ system cert. IsOneServed g.W.Witness.sees system cert c.args.device c.args.resource true (world_of mid) c.loop-count.witness (world_of c.serve.new.world) c.serve.new.witness) h.3
    (subst (λ b. IsOneServed g.W.Witness.sees (system_of mid) (cert_of mid) c.args.device c.args.resource b (world_of mid) c.loop-count.witness (world_of c.serve.new.world) c.serve.new.witness) c.if-not-branch.false c.in_ok-serve.ensures.served))
    in
    (more.0, more.1, more.2, c.serve.ensures.same ∙ h.3)
