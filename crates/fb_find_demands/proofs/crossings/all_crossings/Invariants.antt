use Rattle.std.proofs.Common.{◌≡◌, map, take}
use Rattle.fb_model.specs.Certificates.{event_names}
use Rattle.fb_types_blocks.specs.Views.{events_of, transition_of}
use Rattle.fb_find_demands.specs.Crossed.{crossing_of}
use Rattle.fb_find_demands.specs.Grounds.{ground_in}
use Rattle.fb_find_demands.specs.Rights.{numbers_of}
use Rattle.fb_find_demands.proofs.crossings.all_crossings.Given as goal

-- the first transitions stand there
abbrev pub invariant-loop-transition : goal.invariant-loop-transition
invariant-loop-transition l = l.crossings.items ≡ map (λ t. crossing_of (numbers_of l.scene.numbering.now) (ground_in l.scene) (event_names (events_of l.inputs)) (transition_of t)) (take l.transition-index l.transitions)
