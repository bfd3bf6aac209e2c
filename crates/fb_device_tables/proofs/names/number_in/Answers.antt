use Rattle.std.proofs.Common.{sym, ◌∙◌}
use Rattle.fb_types_blocks.specs.Answers.{names_in_map}
use Rattle.fb_device_tables.proofs.Numbers.{placed, number_some, number_none}
use Rattle.fb_device_tables.proofs.names.number_in.Goals as goal

pub returns-in-Some : goal.returns-in-Some
returns-in-Some g c =
    let x = c.args.name.now in
    let m = c.args.table.now in
    number_some x (names_in_map m) c.in-Some.index c.short.result (placed m x ∙ sym c.in-Some.ensures.index) c.short.ensures

pub returns-in-None : goal.returns-in-None
returns-in-None g c =
    let x = c.args.name.now in
    let m = c.args.table.now in
    number_none x (names_in_map m) 0 (placed m x ∙ sym c.in-None.ensures.index)
