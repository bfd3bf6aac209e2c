use Rattle.std.proofs.Common.{drop}
use Rattle.std.specs.List.{AllByRecursion}
use Rattle.fb_check_columns.specs.Sharing.{IsCosted}
use Rattle.fb_check_columns.specs.Tables.{ResourcePays}
use Rattle.fb_check_columns.proofs.pays.resources_pay.Given as goal

abbrev pub invariant-loop-resource : goal.invariant-loop-resource
invariant-loop-resource l = record {
  pay : AllByRecursion (ResourcePays l.column l.certificate) (drop l.resource-index l.resources) → AllByRecursion (ResourcePays l.column l.certificate) l.resources;
  known : AllByRecursion IsCosted l.known.items;
}
