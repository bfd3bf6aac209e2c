use Rattle.std.proofs.Common.{◌≡◌, List, drop}
use Rattle.fb_model.specs.Names.{Name}
use Rattle.st_exec.specs.Cells.{values_of, forms_of}
use Rattle.fb_chart.specs.Ports.{slots_of, received_in}
use Rattle.fb_chart.proofs.transfer.receive.Given as goal

-- the values that are left are still to come
abbrev pub invariant-loop-at : goal.invariant-loop-at
invariant-loop-at l = record {
  values : (names : List Name) → l.slots ≡ slots_of (forms_of l.fn.own) names → received_in (drop l.at names) (drop l.at l.values) (values_of l.own) ≡ received_in names l.values (values_of l.fn.own);
  forms : forms_of l.own ≡ forms_of l.fn.own;
}
