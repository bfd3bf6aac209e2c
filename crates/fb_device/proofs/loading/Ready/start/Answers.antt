use Rattle.std.proofs.Common.{ap, ◌∙◌}
use Rattle.fb_model.specs.Wires.{leaves}
use Rattle.fb_model.specs.Devices.{begun}
use Rattle.fb_device_state.specs.Machines.{device_in}
use Rattle.fb_device.proofs.loading.Ready.start.Goals as goal

pub returns-clause-first : goal.returns-clause-first
returns-clause-first c = rw (← c.self.view_is) (λ first stamp h. c.begin.ensures.first ∙ ap (begun (leaves (device_in c.self.inside.device))) h)
