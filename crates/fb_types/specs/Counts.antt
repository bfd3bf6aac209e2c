-- How many instances there are, with those inside composites, and which one passes the limit.
use Rattle.std.specs.Prelude.{ℕ, suc, ◌+◌, ◌≡◌, ◌<◌, ◌≤◌, List, ◌∷◌, ◌++◌}
use Rattle.fb_model.specs.NetworkTyping.{inner_count, instance_count}
use Rattle.fb_faults.specs.declared.typing.TypeFault.{TypeFault}
use Rattle.fb_faults.specs.declared.typing.TypeFault.TheVariants.{Limit}
use Rattle.fb_types_networks.specs.declared.typed.Instance.{Instance, out-Instance}
use Rattle.fb_types_networks.specs.Views.{placed_of, instances_of}

-- an instance and those inside it
abbrev pub one_count : Instance → ℕ
one_count i = suc (inner_count ((placed_of i).2))

-- with this one there are more than as many, and without it not yet, at its name
pub data IsCrowded (most : ℕ) (is : List Instance) (f : TypeFault) : Type 0 where
  crowded : (before after : List Instance) (i : Instance) → is ≡ before ++ i ∷ after → instance_count (instances_of before) ≤ most → most < instance_count (instances_of before) + one_count i → f ≡ Limit (out-Instance i).at → IsCrowded most is f
