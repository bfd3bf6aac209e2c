use Rattle.std.proofs.Common.{sym, ◌∙◌, ap, subst}
use Rattle.fb_model.specs.Wires.{leaves}
use Rattle.fb_model.specs.Devices.{Machine, with_stamp}
use Rattle.fb_wire.specs.Views.{stamp_of}
use Rattle.fb_device_state.specs.Sessions.{session_of}
use Rattle.fb_device_state.specs.Machines.{device_in, machine_of}
use Rattle.fb_device_arrivals.specs.Stamping.{CanKeep}
use Rattle.fb_device_arrivals.proofs.Stamped.{can_keep}
use Rattle.fb_device_arrivals.proofs.stamps.admit_stamped.Goals as goal

pub keep-requires-clause-keeps : goal.keep-requires-clause-keeps
keep-requires-clause-keeps c =
    let all = leaves (device_in (session_of c.args.program.now c.args.running.now)) in
    let m = machine_of (session_of c.args.program.now c.args.running.now) in
    let a = c.requires.arrival in
    subst (λ (n : Machine). CanKeep all n c.args.point.block (stamp_of c.args.stamp)) (sym (c.in-Ok.ensures.admits a.0 a.1).new_is) (can_keep all m a.0 c.args.point.block (stamp_of c.args.stamp) c.requires.keeps)

pub returns-in-Ok-clause-admits : goal.returns-in-Ok-clause-admits
returns-in-Ok-clause-admits c = λ a is.
    let admits = c.in-Ok.ensures.admits a is in
    record {
      room = record { credit = admits.room.credit; number = admits.room.number };
      cause_is = admits.cause_is;
      new_is = c.keep.ensures.machine a.leaf is.leaf ∙ ap (λ (n : Machine). with_stamp n a.leaf (stamp_of c.args.stamp)) admits.new_is;
    }
