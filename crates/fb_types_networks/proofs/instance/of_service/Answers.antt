use Rattle.std.proofs.lemmas.Result.{err_from_is_err_and}
use Rattle.fb_types_blocks.proofs.Refused.{either_of}
use Rattle.fb_types_services.specs.Views.{service_of}
use Rattle.fb_model.specs.NetworkFaults.{no_memory_for_served, faulty_values}
use Rattle.fb_types_networks.proofs.instance.of_service.Goals as goal

pub returns-in_err-with_service-in-Some-clause-refused : goal.returns-in_err-with_service-in-Some-clause-refused
returns-in_err-with_service-in-Some-clause-refused c =
    let p = err_from_is_err_and c.from_residual-in_err-with_service-in-Some.result c.from_residual-in_err-with_service-in-Some.ensures.1 in
    rw (p.1, p.2) (either_of no_memory_for_served (faulty_values {s = service_of c.in-Some.service} (rw c.in-Some.is at c.in_ok-service.ensures.is)) c.in_err-with_service-in-Some.ensures.refused)
