use Rattle.std.proofs.Common.{◌≡◌, ◌≤◌, ◌+◌, drop}
use Rattle.fb_types_networks.specs.Views.{instances_of}
use Rattle.fb_find_length.specs.Counting.{inner_length}
use Rattle.fb_find_length.proofs.system.+spending.Given as goal

-- what is left, with what all have, is the budget with what those left have
abbrev pub invariant-instances-loop-each : goal.invariant-instances-loop-each
invariant-instances-loop-each l =
    (l.left ≤ 16777216)
    × (l.left + inner_length l.initial.repeats l.initial.path (instances_of l.initial.instances) ≡ l.initial.left + inner_length l.initial.repeats l.initial.path (instances_of (drop l.each-index l.initial.instances)))
