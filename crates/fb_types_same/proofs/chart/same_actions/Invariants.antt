use Rattle.std.proofs.Common.{◌≡◌, map, take}
use Rattle.fb_types_blocks.specs.Views.{action_of}
use Rattle.fb_types_same.proofs.chart.same_actions.Given as goal

abbrev pub invariant-loop-at : goal.invariant-loop-at
invariant-loop-at l = map action_of (take l.at l.one) ≡ map action_of (take l.at l.other)
