use Rattle.std.proofs.Common.{◌≡◌, Some, drop, map, string_bytes}
use Rattle.fb_model.specs.System.{constant}
use Rattle.fb_model.specs.Wires.{Constant, fed, given_in, inputs_of}
use Rattle.fb_types_networks.specs.Views.{parameter_of, body_of}
use Rattle.fb_flat.specs.Sites.{path_of, inner_of}
use Rattle.fb_flat.specs.Leaves.{values_in, held_by}
use Rattle.fb_flat.specs.Bundled.{seen}
use Rattle.fb_flat.proofs.hold.+hold.Given as goal

-- what the connections left give is what all give
abbrev pub invariant-loop-connection : goal.invariant-loop-connection
invariant-loop-connection l =
    let name = string_bytes l.instance.now.name in
    let other = Constant (constant (map parameter_of l.instance.now.parameters.items) (inputs_of (body_of l.instance.now.body)) l.port) in
    fed (map seen (drop l.connection-index l.connection-items)) (Some name) l.port (given_in (inner_of l.indexed.now) (path_of l.trail.now)) (held_by l.outer.now) other
    ≡ fed (values_in l.indexed.now) (Some name) l.port (given_in (inner_of l.indexed.now) (path_of l.trail.now)) (held_by l.outer.now) other
