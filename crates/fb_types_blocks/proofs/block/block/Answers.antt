use Rattle.std.proofs.Common.{refl}
use Rattle.fb_model.specs.BlockTyping.{scope}
use Rattle.fb_tree.specs.Files as tree
use Rattle.fb_types_blocks.specs.Views.{declared_in, face_of}
use Rattle.fb_types_blocks.proofs.Blocks.{scope_apart, same_length, typed_block, in_chart}
use Rattle.fb_types_blocks.proofs.block.block.Goals as goal

pub chart_within-requires-clause-names : goal.chart_within-requires-clause-names
chart_within-requires-clause-names c =
    let face = c.in_ok-face.face in
    scope_apart (tree.block_of c.args.source.now) (tree.chart_of c.args.chart.now) (declared_in face.inputs) (declared_in face.outputs) (declared_in c.in_ok-face.internals) (face_of face) c.in_ok-face.ensures.face c.in_ok-face.ensures.internals c.in_ok-apart.ensures.names

pub returns-in-Err-clause-refused : goal.returns-in-Err-clause-refused
returns-in-Err-clause-refused c =
    let face = c.in_ok-face.face in
    let inner = declared_in c.in_ok-face.internals in
    in_chart (tree.block_of c.args.source.now) (tree.chart_of c.args.chart.now) face inner (scope (declared_in face.inputs) (declared_in face.outputs) inner) c.in-Err.fault c.in_ok-face.ensures.face c.in_ok-face.ensures.internals refl c.in-Err.ensures.refused

pub returns-in-Ok-clause-found : goal.returns-in-Ok-clause-found
returns-in-Ok-clause-found c =
    let face = c.in_ok-face.face in
    let internals = c.in_ok-face.internals in
    let k = c.in-Ok.control in
    typed_block (tree.block_of c.args.source.now) (tree.chart_of c.args.chart.now)
    (record { face = face; internals = internals; states = k.states; transitions = k.transitions; procedures = k.procedures }) (scope (declared_in face.inputs) (declared_in face.outputs) (declared_in internals)) c.in_ok-face.ensures.face c.in_ok-face.ensures.internals c.in_ok-apart.ensures.names c.in_ok-apart.ensures.states c.in_ok-apart.ensures.algorithms
    (same_length tree.state_of c.args.chart.now.states.items 256 c.in_ok-limits.ensures.few_states) (same_length tree.transition_of c.args.chart.now.transitions.items 1024 c.in_ok-limits.ensures.few_transitions) (same_length tree.algorithm_of c.args.chart.now.algorithms.items 256 c.in_ok-limits.ensures.few_algorithms)
    refl c.in-Ok.ensures.found
