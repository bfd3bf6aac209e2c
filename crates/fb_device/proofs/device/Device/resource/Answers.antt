use Rattle.std.proofs.Common.{map, ap, ◌∙◌, string_bytes}
use Rattle.fb_device.specs.Finding.{first_named}
use Rattle.fb_device_state.specs.Sessions.{session_of}
use Rattle.fb_device_state.specs.Machines.{cert_in, device_in}
use Rattle.fb_device.proofs.Finding.{number_of}
use Rattle.fb_device.proofs.device.Device.resource.Goals as goal

pub returns : goal.returns
returns c = rw (← c.self.view_is) (number_of (cert_in (session_of c.self.inside.program c.self.inside.running)) (device_in (session_of c.self.inside.program c.self.inside.running)) c.self.inside.program.tables.resources.items (device_in (session_of c.self.inside.program c.self.inside.running)).resources c.args.name.now c.resource.result c.self.invariant.program.tables.resources (c.resource.ensures ∙ ap (λ xs. first_named (map (λ r. string_bytes r.name) xs) c.args.name.now) c.deref.ensures.value))
