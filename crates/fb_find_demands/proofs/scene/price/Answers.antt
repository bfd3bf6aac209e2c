use Rattle.std.proofs.Common.{sym, ◌∙◌}
use Rattle.fb_find_demands.specs.Grounds.{table_names}
use Rattle.fb_find_demands.proofs.Values.{placed, value_some, value_none, value_past}
use Rattle.fb_find_demands.proofs.scene.price.Goals as goal

pub returns-in-Some-get : goal.returns-in-Some-get
returns-in-Some-get c =
    let x = c.args.name.now in
    let m = c.args.procedures.now in
    value_some (table_names m) c.args.prices.now c.in-Some-get.price.now x c.in-Some.index (placed m x ∙ sym c.in-Some.ensures.index) (c.in-Some-get.ensures.lookup.3.1 0)

pub returns-in-None-get : goal.returns-in-None-get
returns-in-None-get c =
    let x = c.args.name.now in
    let m = c.args.procedures.now in
    value_past (table_names m) c.args.prices.now x c.in-Some.index (placed m x ∙ sym c.in-Some.ensures.index) c.in-None-get.ensures.lookup.3

pub returns-in-None : goal.returns-in-None
returns-in-None c =
    let x = c.args.name.now in
    let m = c.args.procedures.now in
    value_none (table_names m) c.args.prices.now x (placed m x ∙ sym c.in-None.ensures.index)
