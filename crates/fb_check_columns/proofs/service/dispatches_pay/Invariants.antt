use Rattle.std.proofs.Common.{map, take}
use Rattle.std.specs.List.{AllByRecursion}
use Rattle.fb_types_services.specs.Views.{service_of}
use Rattle.fb_check_columns.specs.Paying.{DispatchPays}
use Rattle.fb_check_columns.proofs.service.dispatches_pay.Given as goal

abbrev pub invariant-loop-event : goal.invariant-loop-event
invariant-loop-event l = AllByRecursion (DispatchPays l.column l.certificate l.leaf.path.now (service_of l.leaf.service.now) l.leaf.outputs.now) (take l.event-index (map (λ e. e.now) l.events))
