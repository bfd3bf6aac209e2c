use Rattle.std.proofs.Common.{map, sym, subst}
use Rattle.fb_model.specs.Wires.{leaves}
use Rattle.st_exec.specs.Cells.{forms_of}
use Rattle.fb_device_tables.specs.Tables.{AreBlocks}
use Rattle.fb_device_state.specs.Sessions.{session_of}
use Rattle.fb_device_state.specs.Machines.{cert_in, device_in}
use Rattle.fb_device.proofs.device.Device.path.Goals as goal

pub returns : goal.returns
returns c =
    let p = c.self.inside.program in
    let r = c.self.inside.running in
    let cert = cert_in (session_of p r) in
    let all = leaves (device_in (session_of p r)) in
    let owns = map forms_of r.memory.own.items in
    let issues = map forms_of r.memory.issued.items in
    rw (← c.self.view_is) (c.path.ensures cert all issues owns issues p.tables.ports.items (subst (λ xs. AreBlocks cert all issues owns issues xs p.tables.ports.items all) (sym c.deref.ensures.value) c.self.invariant.program.tables.blocks))
