use Rattle.std.proofs.Common.{◌≡◌, map, take}
use Rattle.st_types.specs.Views.{tail_of}
use Rattle.fb_types_same.proofs.term.+terms.Given as goal

abbrev pub invariant-same_links-loop-at : goal.invariant-same_links-loop-at
invariant-same_links-loop-at l = map tail_of (take l.at l.one) ≡ map tail_of (take l.at l.other)
