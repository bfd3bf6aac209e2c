use Rattle.std.proofs.Common.{[], ◌++◌}
use Rattle.fb_model.specs.Services.{service_inputs, service_outputs}
use Rattle.fb_types_services.specs.Views.{service_of}
use Rattle.fb_check_ranges.proofs.Rowing.{type_first, type_next, type_last}
use Rattle.fb_check_ranges.proofs.row.port_type.Goals as goal

pub returns-in-Some : goal.returns-in-Some
returns-in-Some c = let s = service_of c.args.service.now in type_first (service_inputs s) (service_outputs s ++ []) c.args.name.now c.input.result c.in-Some.of c.input.ensures c.in-Some.is

pub returns-in-None : goal.returns-in-None
returns-in-None c =
    let s = service_of c.args.service.now in
    type_next (service_inputs s) (service_outputs s ++ []) c.args.name.now c.input.result c.output.result c.input.ensures c.in-None.is (type_last (service_outputs s) c.args.name.now c.output.result c.output.ensures)
