use Rattle.std.proofs.Common.{drop}
use Rattle.std.specs.List.{AllByRecursion}
use Rattle.fb_check_columns.specs.Sharing.{IsCosted}
use Rattle.fb_check_columns.specs.Tables.{LeafPays}
use Rattle.fb_check_columns.proofs.pays.leaves_pay.Given as goal

abbrev pub invariant-loop-leaf : goal.invariant-loop-leaf
invariant-loop-leaf l = record {
  pay : AllByRecursion (LeafPays l.column l.certificate) (drop l.leaf-index l.leaves) → AllByRecursion (LeafPays l.column l.certificate) l.leaves;
  known : AllByRecursion IsCosted l.known.items;
}
