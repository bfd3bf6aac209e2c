use Rattle.std.proofs.Common.{◌≡◌, drop, map}
use Rattle.fbr_texts.specs.Once.{is_among}
use Rattle.fbr_texts.proofs.joining.is_among.Given as goal

-- none of those that were looked at
abbrev pub invariant-loop-other : goal.invariant-loop-other
invariant-loop-other l = is_among l.own (map (λ other. other.items) (drop l.other-index l.others)) ≡ is_among l.own (map (λ other. other.items) l.others)
