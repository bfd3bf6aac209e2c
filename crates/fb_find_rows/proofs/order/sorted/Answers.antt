use Rattle.std.proofs.Common.{ap, ◌∙◌, sym, subst, ◌≡◌, length, map, ◌+◌, ◌<◌}
use Rattle.std.proofs.lemmas.List.{length-map}
use Rattle.fb_find_graph.specs.Graphs.{InRange, IsClosed}
use Rattle.fb_find_graph.specs.Searches.{rows_of, IsSorted}
use Rattle.fb_find_graph.specs.Systems.{needed, needs}
use Rattle.fb_find_graph.specs.Views.{system_of}
use Rattle.fb_find_graph.proofs.Solving.{needs_in_range}
use Rattle.std.specs.List.{All}
use Rattle.fb_model.specs.Demands.{node_in}
use Rattle.fb_find_laws.specs.Nodes.{nodes_of}
use Rattle.fb_find_rows.specs.Places.{texts_of}
use Rattle.fb_model.specs.Finding.{node_of}
use Rattle.fb_find_rows.proofs.Walks.{all_known}
use Rattle.fb_find_rows.proofs.order.sorted.Goals as goal

pub sort_places-requires : goal.sort_places-requires
sort_places-requires c =
    let e : rows_of c.as_slice.result.now ≡ needs (system_of c.args.system.now) = ap rows_of c.as_slice.ensures.value ∙ c.in_ok-graph.ensures in
    subst InRange (sym e) (needs_in_range (system_of c.args.system.now) c.requires)

pub returns-clause-walk : goal.returns-clause-walk
returns-clause-walk c =
    let system = system_of c.args.system.now in
    let e : rows_of c.as_slice.result.now ≡ needs system = ap rows_of c.as_slice.ensures.value ∙ c.in_ok-graph.ensures in
    let found = subst (IsSorted (rows_of c.as_slice.result.now)) c.in-Walk.is c.in_ok-order.ensures in
    let closed = subst (λ rows. IsClosed rows c.in-Walk.walk.items) e found.0 in (
      c.in-Walk.walk.items,
      closed,
      found.1,
      λ sized. subst (λ ns. map node_of c.in_ok-places-in-Walk.field-0.items ≡ map (node_in (nodes_of (texts_of c.args.states.now) (texts_of c.args.events.now) c.args.channels.now)) ns) c.as_slice-in-Walk.ensures.value (c.in_ok-places-in-Walk.ensures (subst (λ ns. All (λ n. n < length (texts_of c.args.states.now) + (length (texts_of c.args.events.now) + length c.args.channels.now)) ns) (sym c.as_slice-in-Walk.ensures.value) (all_known (needs system) c.in-Walk.walk.items (length (texts_of c.args.states.now) + (length (texts_of c.args.events.now) + length c.args.channels.now)) closed (length-map system needed ∙ sized)))),
    )
