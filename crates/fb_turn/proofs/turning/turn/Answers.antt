use Rattle.std.proofs.Common.{◌≡◌, [], refl, sym, ◌∙◌, subst}
use Rattle.fb_model.proofs.Ending.{keeps_bounds}
use Rattle.fb_model.proofs.Admitting.{sound_after}
use Rattle.fb_model.proofs.Starting.{stays_within_all}
use Rattle.fb_device_state.specs.Machines.{device_in, cert_in, machine_of}
use Rattle.fb_turn.specs.Turns.{Receives, Serves}
use Rattle.fb_model.specs.Turning.{Turn, Cut, events_of, answers_of}
use Rattle.fb_device.proofs.Promised.{promised}
use Rattle.fb_turn.proofs.Turned.{along, turn_down, turn_whole, cut_is}
use Rattle.fb_turn.proofs.turning.turn.Goals as goal

pub returns-then-receipts-clause-turn : goal.returns-then-receipts-clause-turn
returns-then-receipts-clause-turn g c =
    let self = c.args.device.now in
    let fits = c.keeps_bounds.ensures.holds in
    let sound = c.keeps_bounds.ensures.sound in
    let ticked = c.tick-fired.new.self in
    let received = c.receive_all-receipts.new.device in
    let h = c.receive_all-receipts.ensures.received in
    let cut : h.1 ≡ Cut = cut_is h.1 (sym h.5 ∙ c.if-receipts.true) in
    let all = subst (λ close. Receives (cert_in ticked) (device_in ticked) g.L.Link.steps g.L.Link.count g.W.Watch.sees (machine_of ticked) c.args.link.now c.args.watch.now h.0 close (machine_of received) c.receive_all-receipts.new.link c.receive_all-receipts.new.watch) cut h.2 in
    let here = along ticked self (λ cert device. Receives cert device g.L.Link.steps g.L.Link.count g.W.Watch.sees (machine_of ticked) c.args.link.now c.args.watch.now h.0 Cut (machine_of received) c.receive_all-receipts.new.link c.receive_all-receipts.new.watch) c.tick-fired.ensures.same.0 c.tick-fired.ensures.same.1 all in
    let turn : Turn = record { fired = c.tick-fired.result; receipts = h.0; close = Cut; services = [] } in
    let is = turn_down (cert_in self) (device_in self) g.L.Link.steps g.L.Link.count g.W.Watch.sees (machine_of self) c.args.link.now c.args.watch.now c.args.now c.tick-fired.result (machine_of ticked) h.0 (machine_of received) c.receive_all-receipts.new.link c.receive_all-receipts.new.watch c.tick-fired.ensures.step here in
    (turn, is, (refl, refl), keeps_bounds (cert_in self) (device_in self) fits (events_of c.args.now turn) (answers_of turn) _ _ sound is.device_run, stays_within_all _ _ fits _ _ sound)

pub returns-then-receipts-clause-bounded : goal.returns-then-receipts-clause-bounded
returns-then-receipts-clause-bounded g c =
    let self = c.args.device.now in
    let fits = c.keeps_bounds.ensures.holds in
    let sound = c.keeps_bounds.ensures.sound in
    let ticked = c.tick-fired.new.self in
    let received = c.receive_all-receipts.new.device in
    let h = c.receive_all-receipts.ensures.received in
    let cut : h.1 ≡ Cut = cut_is h.1 (sym h.5 ∙ c.if-receipts.true) in
    let all = subst (λ close. Receives (cert_in ticked) (device_in ticked) g.L.Link.steps g.L.Link.count g.W.Watch.sees (machine_of ticked) c.args.link.now c.args.watch.now h.0 close (machine_of received) c.receive_all-receipts.new.link c.receive_all-receipts.new.watch) cut h.2 in
    let here = along ticked self (λ cert device. Receives cert device g.L.Link.steps g.L.Link.count g.W.Watch.sees (machine_of ticked) c.args.link.now c.args.watch.now h.0 Cut (machine_of received) c.receive_all-receipts.new.link c.receive_all-receipts.new.watch) c.tick-fired.ensures.same.0 c.tick-fired.ensures.same.1 all in
    let turn : Turn = record { fired = c.tick-fired.result; receipts = h.0; close = Cut; services = [] } in
    let is = turn_down (cert_in self) (device_in self) g.L.Link.steps g.L.Link.count g.W.Watch.sees (machine_of self) c.args.link.now c.args.watch.now c.args.now c.tick-fired.result (machine_of ticked) h.0 (machine_of received) c.receive_all-receipts.new.link c.receive_all-receipts.new.watch c.tick-fired.ensures.step here in
    promised _ _ _ fits (sound_after (cert_in self) (device_in self) fits (events_of c.args.now turn) (answers_of turn) _ _ sound is.device_run)

pub returns-clause-turn : goal.returns-clause-turn
returns-clause-turn g c =
    let self = c.args.device.now in
    let fits = c.keeps_bounds.ensures.holds in
    let sound = c.keeps_bounds.ensures.sound in
    let ticked = c.tick-fired.new.self in
    let received = c.receive_all-receipts.new.device in
    let h = c.receive_all-receipts.ensures.received in
    let served = c.serve_all-services.new.device in
    let k = c.serve_all-services.ensures.served in
    let here = along ticked self (λ cert device. Receives cert device g.L.Link.steps g.L.Link.count g.W.Watch.sees (machine_of ticked) c.args.link.now c.args.watch.now h.0 h.1 (machine_of received) c.receive_all-receipts.new.link c.receive_all-receipts.new.watch) c.tick-fired.ensures.same.0 c.tick-fired.ensures.same.1 h.2 in
    let there = along received self (λ cert device. Serves cert device g.L.Link.steps g.L.Link.count g.W.Watch.sees (machine_of received) c.receive_all-receipts.new.link c.receive_all-receipts.new.watch k.0 (machine_of served) c.serve_all-services.new.link c.serve_all-services.new.watch)
    (c.receive_all-receipts.ensures.same.0 ∙ c.tick-fired.ensures.same.0) (c.receive_all-receipts.ensures.same.1 ∙ c.tick-fired.ensures.same.1) k.1 in
    let turn : Turn = record { fired = c.tick-fired.result; receipts = h.0; close = h.1; services = k.0 } in
    let is = turn_whole (cert_in self) (device_in self) g.L.Link.steps g.L.Link.count g.W.Watch.sees (machine_of self) c.args.link.now c.args.watch.now c.args.now c.tick-fired.result (machine_of ticked) h.0 h.1 (machine_of received) c.receive_all-receipts.new.link c.receive_all-receipts.new.watch k.0 (machine_of served) c.serve_all-services.new.link c.serve_all-services.new.watch c.tick-fired.ensures.step here there in (
      turn,
      is,
      (sym h.5 ∙ c.if-receipts.false, k.2 ∙ c.resources-resources.ensures, rw (h.3, h.4, k.3) refl),
      keeps_bounds (cert_in self) (device_in self) fits (events_of c.args.now turn) (answers_of turn) _ _ sound is.device_run,
      stays_within_all _ _ fits _ _ sound,
    )

pub returns-clause-bounded : goal.returns-clause-bounded
returns-clause-bounded g c =
    let self = c.args.device.now in
    let fits = c.keeps_bounds.ensures.holds in
    let sound = c.keeps_bounds.ensures.sound in
    let ticked = c.tick-fired.new.self in
    let received = c.receive_all-receipts.new.device in
    let h = c.receive_all-receipts.ensures.received in
    let served = c.serve_all-services.new.device in
    let k = c.serve_all-services.ensures.served in
    let here = along ticked self (λ cert device. Receives cert device g.L.Link.steps g.L.Link.count g.W.Watch.sees (machine_of ticked) c.args.link.now c.args.watch.now h.0 h.1 (machine_of received) c.receive_all-receipts.new.link c.receive_all-receipts.new.watch) c.tick-fired.ensures.same.0 c.tick-fired.ensures.same.1 h.2 in
    let there = along received self (λ cert device. Serves cert device g.L.Link.steps g.L.Link.count g.W.Watch.sees (machine_of received) c.receive_all-receipts.new.link c.receive_all-receipts.new.watch k.0 (machine_of served) c.serve_all-services.new.link c.serve_all-services.new.watch)
    (c.receive_all-receipts.ensures.same.0 ∙ c.tick-fired.ensures.same.0) (c.receive_all-receipts.ensures.same.1 ∙ c.tick-fired.ensures.same.1) k.1 in
    let turn : Turn = record { fired = c.tick-fired.result; receipts = h.0; close = h.1; services = k.0 } in
    let is = turn_whole (cert_in self) (device_in self) g.L.Link.steps g.L.Link.count g.W.Watch.sees (machine_of self) c.args.link.now c.args.watch.now c.args.now c.tick-fired.result (machine_of ticked) h.0 h.1 (machine_of received) c.receive_all-receipts.new.link c.receive_all-receipts.new.watch k.0 (machine_of served) c.serve_all-services.new.link c.serve_all-services.new.watch c.tick-fired.ensures.step here there in
    promised _ _ _ fits (sound_after (cert_in self) (device_in self) fits (events_of c.args.now turn) (answers_of turn) _ _ sound is.device_run)
