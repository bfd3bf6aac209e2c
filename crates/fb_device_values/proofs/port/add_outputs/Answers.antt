use Rattle.std.proofs.Common.{◌≡◌, List, ◌++◌, OnOk, subst, arith}
use Rattle.fb_model.specs.Services.{service_outputs}
use Rattle.fb_model.specs.Store.{variable_names}
use Rattle.st_exec.specs.Cells.{Cell}
use Rattle.fb_types_services.specs.Views.{service_of}
use Rattle.fb_device_values.specs.Drafts.{cells_in}
use Rattle.fb_device_values.proofs.Starts.{cells_named}
use Rattle.fb_device_values.proofs.port.add_outputs.Goals as goal

pub returns : goal.returns
returns c =
    λ few.
    subst (λ (cs : List Cell). OnOk c.add_ports.result (cells_in c.add_ports.new.drafts.items ≡ cells_in c.args.drafts.now.items ++ cs))
    (cells_named c.in_ok-names.names.items (variable_names (service_outputs (service_of c.args.service.now))) (c.in_ok-names.ensures (omega (arith, few)))) (rw c.deref.ensures.value at c.add_ports.ensures)
