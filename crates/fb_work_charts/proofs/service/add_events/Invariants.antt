use Rattle.std.proofs.Common.{◌≡◌, ◌++◌, [], map, drop}
use Rattle.std.specs.List.{flat_map}
use Rattle.fb_types_services.specs.Views.{service_of}
use Rattle.fb_work_charts.specs.Charges.{event_works}
use Rattle.fb_work_charts.specs.Reckoning.{all_capped, tariff_of}
use Rattle.fb_work_charts.proofs.service.add_events.Given as goal

abbrev pub invariant-loop-event : goal.invariant-loop-event
invariant-loop-event l =
    l.works.items ++ all_capped (flat_map (event_works (tariff_of [] l.scene) (service_of l.service)) (map (λ e. e.now) (drop l.event-index l.events)))
    ≡ l.initial.works.items ++ all_capped (flat_map (event_works (tariff_of [] l.scene) (service_of l.service)) (map (λ e. e.now) l.events))
