use Rattle.std.proofs.Common.{◌≡◌, map, take}
use Rattle.fb_ranges.specs.Views.{spans_of}
use Rattle.fb_find_ranges.specs.AddedRows.{flat_leaves}
use Rattle.fb_find.specs.Parts.{table_in}
use Rattle.fb_find.proofs.table.tables_in.Given as goal

abbrev pub invariant-loop-device : goal.invariant-loop-device
invariant-loop-device l = map spans_of l.all.items ≡ map (table_in l.certificate) (flat_leaves (take l.device-index l.flat.devices.items))
