use Rattle.std.proofs.Common.{◌++◌}
use Rattle.fb_types_blocks.specs.Views.{block_of}
use Rattle.fb_check_ranges.proofs.Rowing.{type_first, type_next}
use Rattle.fb_check_ranges.proofs.row.type_named.Goals as goal

pub returns-in-Some : goal.returns-in-Some
returns-in-Some c = let k = block_of c.args.block.now in type_first k.inputs (k.outputs ++ k.internals) c.args.name.now c.type_in.result c.in-Some.of c.type_in.ensures c.in-Some.is

pub returns-in-Some-type_in : goal.returns-in-Some-type_in
returns-in-Some-type_in c =
    let k = block_of c.args.block.now in
    type_next k.inputs (k.outputs ++ k.internals) c.args.name.now c.type_in.result _ c.type_in.ensures c.in-None.is
    (type_first k.outputs k.internals c.args.name.now c.type_in-in-None.result c.in-Some-type_in.of c.type_in-in-None.ensures c.in-Some-type_in.is)

pub returns-in-None-type_in : goal.returns-in-None-type_in
returns-in-None-type_in c =
    let k = block_of c.args.block.now in
    type_next k.inputs (k.outputs ++ k.internals) c.args.name.now c.type_in.result c.type_in-in-None-type_in.result c.type_in.ensures c.in-None.is
    (type_next k.outputs k.internals c.args.name.now c.type_in-in-None.result c.type_in-in-None-type_in.result c.type_in-in-None.ensures c.in-None-type_in.is c.type_in-in-None-type_in.ensures)
