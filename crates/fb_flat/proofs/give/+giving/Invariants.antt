use Rattle.std.proofs.Common.{◌≡◌, ◌+◌, ◌*◌, [], None, drop, map}
use Rattle.fb_model.specs.System.{constant}
use Rattle.fb_model.specs.Names.{Name}
use Rattle.fb_model.specs.Wires.{Source, Constant, fed, given_in}
use Rattle.fb_types_blocks.specs.Views.{variables_of}
use Rattle.fb_flat.specs.Sites.{path_of, inner_of}
use Rattle.fb_flat.specs.Leaves.{values_in}
use Rattle.fb_flat.specs.Bundled.{seen}
use Rattle.fb_flat.specs.Indexes.{sized, size_of}
use Rattle.fb_flat.proofs.give.+giving.Given as goal

-- what the connections left give is what all give
abbrev pub invariant-pass-loop-connection : goal.invariant-pass-loop-connection
invariant-pass-loop-connection l =
    let outer : Name → Source = λ i. Constant (constant [] (variables_of l.face.inputs) i) in
    let other : Source = Constant (constant [] (variables_of l.face.outputs) l.port) in
    fed (map seen (drop l.connection-index l.connection-items)) None l.port (given_in (inner_of l.indexed) (path_of l.trail)) outer other
    ≡ fed (values_in l.indexed) None l.port (given_in (inner_of l.indexed) (path_of l.trail)) outer other

-- larger composites give before smaller ones
abbrev pub decreases-give : goal.decreases-give
decreases-give l = 3 * sized l.instance.now

abbrev pub decreases-pass : goal.decreases-pass
decreases-pass l = 3 * size_of l.indexed.now + 2

abbrev pub decreases-give_named : goal.decreases-give_named
decreases-give_named l = 3 * size_of l.indexed.now + 1
