use Rattle.std.proofs.Common.{◌≡◌, ◌+◌, ◌++◌, map, sym, ap, ap₂, ◌∙◌, arith}
use Rattle.std.proofs.lemmas.List.{map-append}
use Rattle.fb_model.specs.Services.{can_emit}
use Rattle.fb_model.specs.Certificates.{reached}
use Rattle.fb_model.specs.Demands.{event, sent, sending_demand}
use Rattle.fb_find_laws.specs.Nodes.{capped}
use Rattle.fb_types_services.specs.Views.{service_of}
use Rattle.fb_find_demands.specs.Grounds.{ground_in}
use Rattle.fb_find_demands.specs.Rights.{numbers_of}
use Rattle.fb_find_demands.proofs.Charts.{says, map_map}
use Rattle.fb_find_demands.proofs.service.sending_right.Goals as goal

pub returns : goal.returns
returns c =
    let f = numbers_of c.args.scene.now.numbering.now in
    let g = ground_in c.args.scene.now in
    let service = service_of c.args.service.now in
    let datagram = sent g service c.args.event.now in
    let outputs = can_emit service c.args.event.now in
    says f (sending_demand g c.args.event.now datagram outputs) (record { node = c.in_ok-event.field-0; constant = c.added.result; terms = c.add_reached.new.terms }) c.in_ok-event.ensures
    (c.added.ensures ∙ ap capped (let e : g.unit + 0 ≡ g.unit = omega arith in e))
    (c.in_ok-add_reached.ensures
    ∙ (ap₂ (λ xs os. xs ++ map (λ p. f (event p)) (reached g.targets os)) c.in_ok-terms.ensures c.emitted-emitted.ensures
    ∙ (ap (λ xs. map f datagram ++ xs) (sym (map_map f event (reached g.targets outputs))) ∙ sym (map-append f datagram (map event (reached g.targets outputs))))))
