use Rattle.std.proofs.Common.{◌≡◌, [], ◌∷◌, ◌++◌, ap, ◌∙◌, append_assoc}
use Rattle.std.specs.List.{flat_map}
use Rattle.fb_model.specs.Certificates.{event_names}
use Rattle.fb_model.specs.Demands.{event, of_least}
use Rattle.fb_types_blocks.specs.Views.{events_of}
use Rattle.fb_find_laws.specs.Nodes.{Numbered, by_number, index_in}
use Rattle.fb_find_demands.specs.Crossed.{crossed}
use Rattle.fb_find_demands.specs.Grounds.{ground_in}
use Rattle.fb_find_demands.specs.Rights.{numbers_of, rights_of}
use Rattle.fb_find_demands.proofs.Answering.{on_ok_is}
use Rattle.fb_find_demands.proofs.Charts.{pushed}
use Rattle.fb_find_demands.proofs.crossings.add_input.Goals as goal

pub returns : goal.returns
returns c =
    let n = c.args.scene.now.numbering.now in
    let g = ground_in c.args.scene.now in
    let e = c.args.event.now in
    let unit = c.args.scene.now.unit in
    let crossings = c.args.crossings.now in
    let names = event_names (events_of c.args.inputs.now) in
    let least = c.in_ok-least.least in
    let old = rights_of c.args.rights.now.items in
    let here = by_number (numbers_of n) (of_least g e) in
    let node : least.node ≡ numbers_of n (event (g.own e)) = ap (λ (r : Numbered). r.node) c.in_ok-least.ensures in
    let behind : flat_map (crossed least.node unit c.place.result) crossings ≡ flat_map (crossed (numbers_of n (event (g.own e))) unit (index_in names e)) crossings =
    ap (λ k. flat_map (crossed k unit c.place.result) crossings) node ∙ ap (λ k. flat_map (crossed (numbers_of n (event (g.own e))) unit k) crossings) c.place.ensures in
    on_ok_is (rights_of c.add_crossings.new.rights.items) (rights_of c.push.new.self.items ++ flat_map (crossed least.node unit c.place.result) crossings) (old ++ here ∷ flat_map (crossed (numbers_of n (event (g.own e))) unit (index_in names e)) crossings)
    (ap (λ rs. rs ++ flat_map (crossed least.node unit c.place.result) crossings) (pushed n c.args.rights.now.items c.push.new.self.items least (of_least g e) c.in_ok-push.ensures.items c.in_ok-least.ensures)
    ∙ append_assoc old (here ∷ []) (flat_map (crossed least.node unit c.place.result) crossings)
    ∙ ap (λ ys. old ++ here ∷ ys) behind)
    c.add_crossings.result c.add_crossings.ensures
