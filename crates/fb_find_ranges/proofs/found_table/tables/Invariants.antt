use Rattle.std.proofs.Common.{map, List, drop, ◌++◌}
use Rattle.fb_model.specs.Clear.{Spans}
use Rattle.fb_ranges.specs.Views.{spans_of}
use Rattle.fb_find_ranges.specs.FoundTables.{AreGiven}
use Rattle.fb_find_ranges.proofs.found_table.tables.Given as goal

-- with the tables of the devices that are left, all are there
abbrev pub invariant-loop-device : goal.invariant-loop-device
invariant-loop-device l = (more : List Spans) → AreGiven (drop l.device-index l.flat.devices.items) more → AreGiven l.flat.devices.items (map spans_of l.all.items ++ more)
