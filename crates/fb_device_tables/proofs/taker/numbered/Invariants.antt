use Rattle.std.proofs.Common.{◌≡◌, ◌≤◌, ℕ, nat_eq, length, drop}
use Rattle.indexmap.specs.IndexMap.{get}
use Rattle.fb_device_tables.specs.Tables.{first_at}
use Rattle.fb_device_tables.specs.Takers.{is_taker}
use Rattle.fb_device_tables.specs.Filling.{most_numbers}
use Rattle.fb_device_tables.proofs.Numbered.{moved_by}
use Rattle.fb_device_tables.proofs.taker.numbered.Given as goal

abbrev pub invariant-loop-at : goal.invariant-loop-at
invariant-loop-at l = length l.blocks ≤ most_numbers → (n : ℕ) → get nat_eq l.found n ≡ moved_by l.at (first_at (is_taker l.taker n) (drop l.at l.blocks))
