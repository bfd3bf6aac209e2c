use Rattle.std.proofs.Common.{sym, ap, ◌∙◌}
use Rattle.fb_model.specs.System.{start_in}
use Rattle.fb_model.specs.Wires.{inputs_of}
use Rattle.fb_types_services.specs.Views.{service_of}
use Rattle.fb_types_networks.specs.Views.{body_of}
use Rattle.fb_flat.specs.Sources.{Fixed}
use Rattle.fb_flat.proofs.Following.{view_served}
use Rattle.fb_flat.proofs.Sources.{service_start}
use Rattle.fb_flat.proofs.constant.input_start.Goals as goal

pub returns-in-Served : goal.returns-in-Served
returns-in-Served c =
    let port = c.args.port.now in
    let service = c.in-Served.field-0 in
    ap Fixed (sym (ap (λ b. start_in (inputs_of (body_of b)) port) c.in-Served.is ∙ ap (λ b. start_in (inputs_of b) port) (view_served service) ∙ service_start (service_of service) port))
