use Rattle.std.proofs.Common.{◌∙◌, length, arith}
use Rattle.fb_device_state.specs.Sessions.{session_of}
use Rattle.fb_device_state.specs.Machines.{cert_in, device_in}
use Rattle.fb_device_state.proofs.Arriving.{resource_count}
use Rattle.fb_device.proofs.device.Device.resources.Goals as goal

pub returns : goal.returns
returns c =
    rw (← c.self.view_is) (omega (
      arith,
      resource_count (cert_in (session_of c.self.inside.program c.self.inside.running)) (device_in (session_of c.self.inside.program c.self.inside.running)) 0 c.self.inside.program.tables.resources.items
          (device_in (session_of c.self.inside.program c.self.inside.running)).resources c.self.invariant.program.tables.resources,
      c.self.invariant.program.few,
    ))
