use Rattle.std.proofs.Common.{map, drop}
use Rattle.fb_tree.specs.Files as trees_of
use Rattle.fb_types_networks.specs.Views.{names_of, parameter_of}
use Rattle.fb_types_networks.specs.Answers.{inputs_in, reserved_in}
use Rattle.fb_types_networks.proofs.Parameters.{ParametersSo}
use Rattle.fb_types_networks.proofs.instance.parameters.Given as goal

-- what is so of the parameters that are left is so of all
abbrev pub invariant-loop-source : goal.invariant-loop-source
invariant-loop-source l =
    ParametersSo (inputs_in l.initial.owner) (reserved_in l.initial.owner) (map trees_of.parameter_of l.initial.sources) (map parameter_of l.parameters.items) (names_of l.given)
    (map trees_of.parameter_of (drop l.source-index l.initial.sources))
