use Rattle.std.proofs.Common.{◌<◌, length, ◌∙◌, subst, arith}
use Rattle.fb_model.specs.Wires.{leaves}
use Rattle.fb_model.specs.Certificates.{DeviceHolds}
use Rattle.fb_model.specs.Headline.{IsSound}
use Rattle.fb_model.proofs.Ending.{keeps_bounds}
use Rattle.fb_model.proofs.Admitting.{sound_after}
use Rattle.fb_model.proofs.Starting.{stays_within_all}
use Rattle.fb_device_state.specs.Sessions.{Session}
use Rattle.fb_device_state.specs.Machines.{device_in, cert_in, machine_of}
use Rattle.fb_device.specs.Answers.{event_of, answer_of, HasPlace}
use Rattle.std.proofs.lemmas.List.{drop-set-lt}
use Rattle.fb_model.specs.Devices.{Happens}
use Rattle.fb_device.proofs.Promised.{promised, run_stored, run_whole, same_program, all_stored, same_places}
use Rattle.fb_device.proofs.device.Device.run.Goals as goal

pub loop-at-preserved : goal.loop-at-preserved
loop-at-preserved c =
    let h = same_program c.loop-at.self c.args.self.now _ _ _ c.serve.result c.loop-at.invariant.verified c.loop-at.invariant.number c.serve.ensures.step in
    let within : c.loop-at.at < length c.loop-at.answers = omega (arith, c.loop-at.auto.answers, c.requires, c.loop-at-test.true) in
    record {
      run = run_stored event_of (answer_of (leaves (device_in c.args.self.now))) _ _ c.args.steps.now c.loop-at.answers c.loop-at.at c.index-steps-at.result c.serve.result _ _ _ (omega arith) within c.loop-at.invariant.run (subst (λ e. Happens (cert_in c.args.self.now) (device_in c.args.self.now) (machine_of c.loop-at.self) (event_of e) (answer_of (leaves (device_in c.args.self.now)) c.serve.result) (machine_of c.serve.new.self)) c.index-steps-at.is h);
      points = all_stored (HasPlace (leaves (device_in c.args.self.now))) c.loop-at.answers c.loop-at.at c.serve.result within c.loop-at.invariant.points (same_places c.loop-at.self c.args.self.now c.serve.result c.loop-at.invariant.verified c.loop-at.invariant.number c.serve.ensures.point);
      verified = c.serve.ensures.same.0 ∙ c.loop-at.invariant.verified;
      number = c.serve.ensures.same.1 ∙ c.loop-at.invariant.number;
      later = drop-set-lt (length c.args.steps.now) c.loop-at.answers c.loop-at.at c.serve.result c.loop-at-test.true ∙ c.loop-at.invariant.later;
    }

pub returns-clause-bounds : goal.returns-clause-bounds
returns-clause-bounds c =
    let fits : DeviceHolds (cert_in c.args.self.now) (device_in c.args.self.now) = subst (λ (s : Session). DeviceHolds (cert_in s) (device_in s)) c.self.view_is c.self.invariant.program.holds in
    let sound : IsSound (cert_in c.args.self.now) (device_in c.args.self.now) (machine_of c.args.self.now) = subst (λ (s : Session). IsSound (cert_in s) (device_in s) (machine_of s)) c.self.view_is c.self.invariant.sound in
    keeps_bounds _ _ fits _ _ _ _ sound
    (run_whole event_of (answer_of (leaves (device_in c.args.self.now))) _ _ c.args.steps.now c.loop-at.answers c.loop-at.at _ _ c.loop-at-test.false c.loop-at.auto.at-end c.loop-at.invariant.run)

pub returns-clause-bounded : goal.returns-clause-bounded
returns-clause-bounded c =
    let fits : DeviceHolds (cert_in c.args.self.now) (device_in c.args.self.now) = subst (λ (s : Session). DeviceHolds (cert_in s) (device_in s)) c.self.view_is c.self.invariant.program.holds in
    let sound : IsSound (cert_in c.args.self.now) (device_in c.args.self.now) (machine_of c.args.self.now) = subst (λ (s : Session). IsSound (cert_in s) (device_in s) (machine_of s)) c.self.view_is c.self.invariant.sound in
    promised _ _ _ fits (sound_after _ _ fits _ _ _ _ sound c.loop-at.invariant.run)

pub returns-clause-between : goal.returns-clause-between
returns-clause-between c =
    let fits : DeviceHolds (cert_in c.args.self.now) (device_in c.args.self.now) = subst (λ (s : Session). DeviceHolds (cert_in s) (device_in s)) c.self.view_is c.self.invariant.program.holds in
    let sound : IsSound (cert_in c.args.self.now) (device_in c.args.self.now) (machine_of c.args.self.now) = subst (λ (s : Session). IsSound (cert_in s) (device_in s) (machine_of s)) c.self.view_is c.self.invariant.sound in
    stays_within_all _ _ fits _ _ sound
