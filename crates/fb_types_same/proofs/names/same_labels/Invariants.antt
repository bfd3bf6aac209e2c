use Rattle.std.proofs.Common.{◌≡◌, map, take}
use Rattle.fb_types_same.proofs.names.same_labels.Given as goal

abbrev pub invariant-loop-at : goal.invariant-loop-at
invariant-loop-at l = map (λ x. x) (take l.at l.one) ≡ map (λ x. x) (take l.at l.other)
