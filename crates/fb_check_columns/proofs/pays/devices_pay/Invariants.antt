use Rattle.std.proofs.Common.{drop}
use Rattle.std.specs.List.{AllByRecursion}
use Rattle.fb_check_columns.specs.Sharing.{IsCosted}
use Rattle.fb_check_columns.specs.Tables.{DevicePays}
use Rattle.fb_check_columns.proofs.pays.devices_pay.Given as goal

abbrev pub invariant-loop-device : goal.invariant-loop-device
invariant-loop-device l = record {
  pay : AllByRecursion (DevicePays l.column l.certificate) (drop l.device-index l.devices) → AllByRecursion (DevicePays l.column l.certificate) l.devices;
  known : AllByRecursion IsCosted l.known.items;
}
