use Rattle.std.proofs.Common.{◌≡◌, drop, map}
use Rattle.fb_model.specs.System.{constant}
use Rattle.fb_model.specs.Wires.{inputs_of}
use Rattle.fb_types_networks.specs.Views.{parameter_of, body_of}
use Rattle.fb_flat.proofs.constant.given.Given as goal

-- the parameters left give what all give
abbrev pub invariant-loop-parameter : goal.invariant-loop-parameter
invariant-loop-parameter l =
    constant (map parameter_of (drop l.parameter-index l.instance.parameters.items)) (inputs_of (body_of l.instance.body)) l.port
    ≡ constant (map parameter_of l.instance.parameters.items) (inputs_of (body_of l.instance.body)) l.port
