use Rattle.std.proofs.Common.{sym}
use Rattle.std.specs.declared.string.String.{String}
use Rattle.std.specs.declared.alloc.Global.{Global}
use Rattle.fb_types_blocks.specs.declared.typed.Variable.{Variable}
use Rattle.fb_types_blocks.specs.Views.{variables_of}
use Rattle.fb_ranges.specs.Views.{spans_of}
use Rattle.fb_cert.specs.Views.{rows_of}
use Rattle.fb_check_rows.proofs.Members.{rest_at}
use Rattle.fb_find_ranges.specs.AddedRows.{adding, variable_rows}
use Rattle.fb_find_ranges.proofs.Added.{next_variable}
use Rattle.fb_find_ranges.proofs.row.add_variables.Goals as goal

pub loop-index-preserved : goal.loop-index-preserved
loop-index-preserved c =
    let xs = c.args.variables.now.entries in
    let i = c.loop-index.index in
    let x : String Global × Variable = (c.in-Some.name.now, c.in-Some.variable.now) in
    next_variable (spans_of c.args.table.now) c.args.path.now xs i x (rows_of c.loop-index.certificate) (rows_of c.add_variable.new.certificate)
    (adding (variable_rows (spans_of c.args.table.now) c.args.path.now (variables_of c.args.variables.now)) (rows_of c.args.certificate.now)) (rest_at xs i x (sym c.in-Some.ensures.entry))
    (rw c.as_str.ensures.value at c.in_ok-add_variable.ensures) c.loop-index.invariant
