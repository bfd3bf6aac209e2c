use Rattle.std.proofs.Common.{sym, ◌∙◌, string_bytes, ap}
use Rattle.fb_find_demands.specs.Grounds.{table_names, priced}
use Rattle.fb_types_blocks.specs.Views.{name_of}
use Rattle.fb_find_demands.proofs.Values.{placed, value_some, value_none, value_past}
use Rattle.fb_work_charts.proofs.action.algorithm_work.Goals as goal

pub returns-in-Some-get : goal.returns-in-Some-get
returns-in-Some-get c =
    let x = string_bytes c.in-Some.name in
    let m = c.args.block.now.procedures in
    let sums = c.args.scene.now.algorithms.now in
    let place = rw c.as_str.ensures.value at c.in-Some-get_index_of.ensures.index in
    value_some (table_names m) sums c.in-Some-get.work.now x c.in-Some-get_index_of.index (placed m x ∙ sym place) (c.in-Some-get.ensures.lookup.3.1 0)
    ∙ ap (λ o. priced (table_names m) sums (name_of o)) (sym c.in-Some.is)

pub returns-in-None-get : goal.returns-in-None-get
returns-in-None-get c =
    let x = string_bytes c.in-Some.name in
    let m = c.args.block.now.procedures in
    let sums = c.args.scene.now.algorithms.now in
    let place = rw c.as_str.ensures.value at c.in-Some-get_index_of.ensures.index in
    value_past (table_names m) sums x c.in-Some-get_index_of.index (placed m x ∙ sym place) c.in-None-get.ensures.lookup.3
    ∙ ap (λ o. priced (table_names m) sums (name_of o)) (sym c.in-Some.is)

pub returns-in-None-get_index_of : goal.returns-in-None-get_index_of
returns-in-None-get_index_of c =
    let x = string_bytes c.in-Some.name in
    let m = c.args.block.now.procedures in
    let sums = c.args.scene.now.algorithms.now in
    let place = rw c.as_str.ensures.value at c.in-None-get_index_of.ensures.index in
    value_none (table_names m) sums x (placed m x ∙ sym place)
    ∙ ap (λ o. priced (table_names m) sums (name_of o)) (sym c.in-Some.is)
