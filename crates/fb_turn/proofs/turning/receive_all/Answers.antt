use Rattle.std.proofs.Common.{arith, List, ℕ, [], ◌∷◌, ◌++◌, refl, sym, ◌∙◌, subst, length-append, take}
use Rattle.std.proofs.lemmas.Grind.{common_steps}
use Rattle.std.proofs.lemmas.List.Sums.{sum_by_push}
use Rattle.fb_model.specs.Devices.{Happens, Deliver}
use Rattle.fb_words.specs.Links.{Handed}
use Rattle.fb_device_arrivals.specs.Answers.{admission_of}
use Rattle.fb_device_state.specs.Machines.{device_in, cert_in, machine_of}
use Rattle.fb_model.specs.Turning.{Receipt, Quiet, Cut, denials}
use Rattle.fb_turn.proofs.Turned.{along, receives_more, receives_quiet, receives_cut, denied_err, denied_ok}
use Rattle.fb_turn.proofs.turning.receive_all.Goals as goal
use Rattle.fb_turn.proofs.turning.receive_all.Goals.{then-is_err, else-is_err}

pub returns-in-Nothing-clause-received : goal.returns-in-Nothing-clause-received
returns-in-Nothing-clause-received g c =
    let h = c.loop.invariant in (
      h.0,
      Quiet,
      receives_quiet (cert_in c.args.device.now) (device_in c.args.device.now) g.L.Link.steps g.L.Link.count g.W.Watch.sees (machine_of c.args.device.now) c.args.link.now c.args.watch.now h.0 (machine_of c.loop.device) c.loop.link c.loop.watch c.receive.new.self h.1 c.in-Nothing.ensures.told c.in-Nothing.ensures.counted (omega (arith, h.2, c.loop-test.true)),
      h.3,
      h.4,
      refl,
    )

pub returns-in-Failed-clause-received : goal.returns-in-Failed-clause-received
returns-in-Failed-clause-received g c =
    let h = c.loop.invariant in (
      h.0,
      Cut,
      receives_cut (cert_in c.args.device.now) (device_in c.args.device.now) g.L.Link.steps g.L.Link.count g.W.Watch.sees (machine_of c.args.device.now) c.args.link.now c.args.watch.now h.0 (machine_of c.loop.device) c.loop.link c.loop.watch c.receive.new.self h.1 c.in-Failed.ensures.told c.in-Failed.ensures.counted (omega (arith, h.2, c.loop-test.true)),
      h.3,
      h.4,
      refl,
    )

pub loop-preserved : goal.loop-preserved
loop-preserved g c =
    let h = c.loop.invariant in
    let b : List ℕ = take c.in-Got.count c.receive.new.buffer in
    let r : Receipt = record { bytes = b; answer = admission_of c.deliver-answer.result } in
    let step = along c.loop.device c.args.device.now (λ cert device. Happens cert device (machine_of c.loop.device) (Deliver b) (admission_of c.deliver-answer.result) (machine_of c.deliver-answer.new.self)) h.7 h.8 c.deliver-answer.ensures.step in
    let told = subst (λ n. g.L.Link.steps c.loop.link (Handed n b) c.receive.new.self) h.5 c.in-Got.ensures.told in
    let pushed = sum_by_push denials h.0 r in
    let longer = length-append h.0 (r ∷ []) in (
      h.0 ++ r ∷ [],
      receives_more (cert_in c.args.device.now) (device_in c.args.device.now) g.L.Link.steps g.L.Link.count g.W.Watch.sees (machine_of c.args.device.now) c.args.link.now c.args.watch.now h.0 (machine_of c.loop.device) c.loop.link c.loop.watch r (machine_of c.deliver-answer.new.self) c.receive.new.self c.came.new.self h.1 step told c.came.ensures c.in-Got.ensures.counted (grind (arith, common_steps)),
      longer ∙ omega (arith, h.2),
      omega (arith, h.3, longer),
      elim c.if-is_err.branch [
        | then-is_err w ↦ let e = denied_err c.deliver-answer.result (sym c.is_err.ensures.value ∙ w.if-is_err.true) in omega (arith, pushed, e, h.4, w.denied-is)
        | else-is_err w ↦ let e = denied_ok c.deliver-answer.result (sym c.is_err.ensures.value ∙ w.if-is_err.false) in omega (arith, pushed, e, h.4, w.denied-is)
      ],
      c.receive.auto.buffer ∙ h.5,
      elim c.if-is_err.branch [
        | then-is_err w ↦ omega (arith, longer, h.6, w.denied-is)
        | else-is_err w ↦ omega (arith, longer, h.6, w.denied-is)
      ],
      c.deliver-answer.ensures.same.0 ∙ h.7,
      c.deliver-answer.ensures.same.1 ∙ h.8,
    )
