use Rattle.std.proofs.Common.{arith, [], ◌∷◌, ◌++◌, ◌∙◌, ap, length-append}
use Rattle.std.proofs.lemmas.List.Sums.{sum_by_push}
use Rattle.fb_device_state.specs.Machines.{device_in, cert_in, machine_of}
use Rattle.fb_turn.specs.Turns.{ServesOne}
use Rattle.fb_model.specs.Turning.{runs, takings, losses}
use Rattle.fb_turn.specs.declared.turning.Services.{Services}
use Rattle.fb_turn.proofs.Turned.{along, serves_more}
use Rattle.fb_turn.proofs.turning.serve_all.Goals as goal

pub loop-resource-preserved : goal.loop-resource-preserved
loop-resource-preserved g c =
    let h = c.loop-resource.invariant in
    let o = c.serve_one-one.ensures.served in
    let few = c.serve_one-one.ensures.few in
    let told = o.2 in
    let ran = ap (λ (s : Services). s.ran) told in
    let sent = ap (λ (s : Services). s.sent) told in
    let lost = ap (λ (s : Services). s.lost) told in
    let one = along c.loop-resource.device c.args.device.now (λ cert device. ServesOne cert device g.L.Link.steps g.L.Link.count g.W.Watch.sees c.loop-resource.resource (machine_of c.loop-resource.device) c.loop-resource.link c.loop-resource.watch o.0 (machine_of c.serve_one-one.new.device) c.serve_one-one.new.link c.serve_one-one.new.watch) h.7 h.8 o.1 in (
      h.0 ++ o.0 ∷ [],
      serves_more (cert_in c.args.device.now) (device_in c.args.device.now) g.L.Link.steps g.L.Link.count g.W.Watch.sees (machine_of c.args.device.now) c.args.link.now c.args.watch.now h.0 (machine_of c.loop-resource.device) c.loop-resource.link c.loop-resource.watch c.loop-resource.resource o.0 (machine_of c.serve_one-one.new.device) c.serve_one-one.new.link c.serve_one-one.new.watch h.1 h.2 one,
      length-append h.0 (o.0 ∷ []) ∙ omega (arith, h.2),
      omega (arith, sum_by_push runs h.0 o.0, h.3, ran),
      omega (arith, sum_by_push takings h.0 o.0, h.4, sent),
      omega (arith, sum_by_push losses h.0 o.0, h.5, lost),
      (omega (arith, h.6.0, few.0), omega (arith, h.6.1, few.1), omega (arith, h.6.2, few.2)),
      c.serve_one-one.ensures.same.0 ∙ h.7,
      c.serve_one-one.ensures.same.1 ∙ h.8,
    )
