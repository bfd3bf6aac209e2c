use Rattle.std.proofs.Common.{◌≡◌, ◌++◌, List, drop, length}
use Rattle.fb_model.specs.Names.{Name}
use Rattle.st_exec.specs.Cells.{values_of, forms_of}
use Rattle.fb_chart.specs.Ports.{slots_of, numbers_at}
use Rattle.fb_chart.proofs.transfer.sent_values.Given as goal

-- the values that are left are still to come
abbrev pub invariant-loop-slot : goal.invariant-loop-slot
invariant-loop-slot l = record {
  told : (names : List Name) → l.slots ≡ slots_of (forms_of l.own) names → l.values.items ++ numbers_at (drop l.slot-index names) (values_of l.own) ≡ numbers_at names (values_of l.own);
  len : length l.values.items ≡ l.slot-index;
}
