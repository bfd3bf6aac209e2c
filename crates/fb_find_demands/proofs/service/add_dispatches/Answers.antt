use Rattle.std.proofs.Common.{◌+◌, List, map, drop, get_or, [], Bor}
use Rattle.std.specs.List.{flat_map}
use Rattle.std.proofs.lemmas.List.{map-append}
use Rattle.fb_model.specs.Names.{Name}
use Rattle.fb_model.specs.Demands.{of_dispatch}
use Rattle.fb_find_laws.specs.Nodes.{by_number}
use Rattle.fb_types_services.specs.Views.{service_of}
use Rattle.fb_find_demands.specs.Grounds.{ground_in}
use Rattle.fb_find_demands.specs.Rights.{numbered, numbers_of, rights_of}
use Rattle.fb_find_demands.proofs.Loops.{rest_got, turn}
use Rattle.fb_find_demands.proofs.service.add_dispatches.Goals as goal

pub loop-event-preserved : goal.loop-event-preserved
loop-event-preserved c =
    let n = c.args.scene.now.numbering.now in
    let f = of_dispatch (ground_in c.args.scene.now) (service_of c.args.service.now) in
    let xs = c.args.events.now in
    let i = c.loop-event.event-index in
    let x : Bor Name = get_or xs i (record { ref_ptr = (0, 0); now = [] }) in
    turn (λ (es : List (Bor Name)). numbered n (flat_map f (map (λ e. e.now) es))) xs i x (numbered n (f x.now)) (rights_of c.loop-event.rights.items) (rights_of c.add_dispatch.new.rights.items) _ (rest_got xs i (record { ref_ptr = (0, 0); now = [] }) c.loop-event-test.true)
    (map-append (by_number (numbers_of n)) (f x.now) (flat_map f (map (λ (e : Bor Name). e.now) (drop (i + 1) xs)))) c.in_ok-add_dispatch.ensures c.loop-event.invariant
