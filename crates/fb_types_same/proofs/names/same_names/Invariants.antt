use Rattle.std.proofs.Common.{◌≡◌, map, take, string_bytes}
use Rattle.fb_types_same.proofs.names.same_names.Given as goal

abbrev pub invariant-loop-at : goal.invariant-loop-at
invariant-loop-at l = map string_bytes (take l.at l.one) ≡ map string_bytes (take l.at l.other)
