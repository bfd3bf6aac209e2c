use Rattle.fb_model.specs.Wires.{leaves}
use Rattle.fb_device_state.specs.Sessions.{session_of}
use Rattle.fb_device_state.specs.Machines.{device_in, machine_of}
use Rattle.fb_device.proofs.device.Device.next_due.Goals as goal

pub returns : goal.returns
returns c =
    let session = session_of c.self.inside.program c.self.inside.running in
    rw (← c.self.view_is) (c.next_due.ensures (machine_of session).store (leaves (device_in session)) c.self.invariant.armed)
