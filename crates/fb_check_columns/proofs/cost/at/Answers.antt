use Rattle.std.proofs.Common.{Some, sym, ◌∙◌}
use Rattle.fb_check_columns.specs.Reckoning.{table_names}
use Rattle.fb_check_columns.proofs.Values.{placed, value_some, value_none, value_past}
use Rattle.fb_check_columns.proofs.cost.at.Goals as goal

pub returns-in-Some-get : goal.returns-in-Some-get
returns-in-Some-get g c =
    let x = c.args.name.now in
    let m = c.args.table.now in
    value_some (table_names m) c.args.sums.now (Some 0) c.in-Some-get.sum.now x c.in-Some.index (placed m x ∙ sym c.in-Some.ensures.index) (c.in-Some-get.ensures.lookup.3.1 (Some 0))

pub returns-in-None-get : goal.returns-in-None-get
returns-in-None-get g c =
    let x = c.args.name.now in
    let m = c.args.table.now in
    value_past (table_names m) c.args.sums.now (Some 0) x c.in-Some.index (placed m x ∙ sym c.in-Some.ensures.index) c.in-None-get.ensures.lookup.3

pub returns-in-None : goal.returns-in-None
returns-in-None g c =
    let x = c.args.name.now in
    let m = c.args.table.now in
    value_none (table_names m) c.args.sums.now (Some 0) x (placed m x ∙ sym c.in-None.ensures.index)
