use Rattle.std.proofs.Common.{map, drop, string_bytes}
use Rattle.fb_types_networks.specs.declared.typed.Instance.{out-Instance}
use Rattle.fb_types_networks.specs.Views.{parameter_of}
use Rattle.fb_types_networks.specs.Ends.{ends_of}
use Rattle.fb_types_networks.proofs.Giving.{GivesSo, ends_at}
use Rattle.fb_types_networks.proofs.wiring.give.Given as goal

-- what is so of the parameters that are left is so of all
abbrev pub invariant-loop-parameter : goal.invariant-loop-parameter
invariant-loop-parameter l =
    GivesSo (ends_at (string_bytes (out-Instance l.initial.instance).name)) (ends_of l.initial.taken) (map parameter_of (out-Instance l.initial.instance).parameters.items) (ends_of l.taken)
    (map parameter_of (drop l.parameter-index (out-Instance l.initial.instance).parameters.items))
