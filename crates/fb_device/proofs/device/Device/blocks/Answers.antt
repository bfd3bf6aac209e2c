use Rattle.std.proofs.Common.{map, arith}
use Rattle.fb_model.specs.Wires.{leaves}
use Rattle.st_exec.specs.Cells.{forms_of}
use Rattle.fb_device_state.specs.Sessions.{session_of}
use Rattle.fb_device_state.specs.Machines.{cert_in, device_in}
use Rattle.fb_device_state.proofs.Blocks.{block_count}
use Rattle.fb_device.proofs.device.Device.blocks.Goals as goal

pub returns : goal.returns
returns c =
    let program = c.self.inside.program in
    let running = c.self.inside.running in
    let all = leaves (device_in (session_of program running)) in
    let issued = map forms_of running.memory.issued.items in
    rw (← c.self.view_is) (omega (arith, c.len.ensures, (block_count (cert_in (session_of program running)) all issued (map forms_of running.memory.own.items) issued program.tables.blocks.items program.tables.ports.items all c.self.invariant.program.tables.blocks).0))
