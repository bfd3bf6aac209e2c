use Rattle.std.proofs.Common.{◌≡◌, true, take}
use Rattle.fb_model.specs.Values.{all_in}
use Rattle.fb_device_arrivals.proofs.input.taken.Given as goal

-- the values so far are taken, and have their types
abbrev pub invariant-loop-at : goal.invariant-loop-at
invariant-loop-at l = record {
  items : l.taken.items ≡ take l.at l.values;
  fit : all_in (take l.at l.types) (take l.at l.values) ≡ true;
}
