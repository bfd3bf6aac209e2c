use Rattle.std.proofs.Common.{◌≡◌, ◌++◌, map, drop}
use Rattle.std.specs.List.{flat_map}
use Rattle.fb_model.specs.Demands.{of_dispatch}
use Rattle.fb_types_services.specs.Views.{service_of}
use Rattle.fb_find_demands.specs.Grounds.{ground_in}
use Rattle.fb_find_demands.specs.Rights.{numbered, rights_of}
use Rattle.fb_find_demands.proofs.service.add_dispatches.Given as goal

abbrev pub invariant-loop-event : goal.invariant-loop-event
invariant-loop-event l =
    rights_of l.rights.items ++ numbered l.scene.numbering.now (flat_map (of_dispatch (ground_in l.scene) (service_of l.service)) (map (λ e. e.now) (drop l.event-index l.events)))
    ≡ rights_of l.initial.rights.items ++ numbered l.scene.numbering.now (flat_map (of_dispatch (ground_in l.scene) (service_of l.service)) (map (λ e. e.now) l.events))
