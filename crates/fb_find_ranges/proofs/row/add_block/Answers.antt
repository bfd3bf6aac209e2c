use Rattle.fb_types_blocks.specs.Views.{block_of}
use Rattle.fb_ranges.specs.Views.{spans_of}
use Rattle.fb_cert.specs.Views.{rows_of}
use Rattle.fb_find_ranges.proofs.Added.{block_added}
use Rattle.std.proofs.lemmas.Result.{on_ok_weaker}
use Rattle.fb_find_ranges.proofs.row.add_block.Goals as goal

pub returns : goal.returns
returns c =
    let s = spans_of c.args.table.now in
    let p = c.args.path.now in
    let k = block_of c.args.block.now in
    on_ok_weaker c.add_variables-3.result
    (block_added s p k.inputs k.outputs k.internals (rows_of c.args.certificate.now) (rows_of c.add_variables.new.certificate) (rows_of c.add_variables-2.new.certificate) (rows_of c.add_variables-3.new.certificate) c.in_ok-add_variables.ensures c.in_ok-add_variables-2.ensures)
    c.add_variables-3.ensures
