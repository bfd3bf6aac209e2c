use Rattle.std.proofs.Common.{◌≡◌, ◌≤◌, ◌+◌, map, drop}
use Rattle.fb_types.specs.Views.{resource_of}
use Rattle.fb_find_length.specs.Counting.{resources_length}
use Rattle.fb_find_length.proofs.system.resources.Given as goal

-- what is left, with what all have, is the budget with what those left have
abbrev pub invariant-loop-each : goal.invariant-loop-each
invariant-loop-each l =
    (l.left ≤ 16777216)
    × (l.left + resources_length l.repeats l.path (map resource_of l.resources) ≡ l.initial.left + resources_length l.repeats l.path (map resource_of (drop l.each-index l.resources)))
