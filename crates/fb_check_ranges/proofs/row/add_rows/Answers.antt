use Rattle.std.proofs.Common.{sym, ap, ◌∙◌, arith}
use Rattle.fb_model.specs.Clear.{reset}
use Rattle.fb_ranges_intervals.specs.Views.{span_of}
use Rattle.fb_ranges.specs.Views.{spans_of}
use Rattle.fb_check_ranges.specs.Beginning.{NamedVariable}
use Rattle.fb_check_ranges.specs.Clearing.{rows_of_block}
use Rattle.fb_check_ranges.proofs.Rowing.{next_entry, all_entries}
use Rattle.fb_check_ranges.proofs.row.add_rows.Goals as goal

pub loop-index-preserved : goal.loop-index-preserved
loop-index-preserved c =
    let rows = rows_of_block c.args.certificate.now c.args.path.now c.args.block.now in
    let e : NamedVariable = (c.in-Some.name.now, c.in-Some.field-0-1.now) in
    next_entry c.args.variables.now.entries c.loop-index.index e rows (spans_of c.loop-index.rows) (spans_of c.insert.new.self) (spans_of c.args.rows.now) c.as_str-in-loop-index.result.now c.as_str.result.now (span_of c.in_ok-row.row)
    c.in-Some.ensures.entry c.as_str-in-loop-index.ensures.value c.as_str.ensures.value c.in_ok-row.ensures c.loop-index.invariant c.in_ok-insert.ensures.set

pub returns : goal.returns
returns c =
    c.loop-index.invariant
    ∙ ap (λ ns. reset ns (rows_of_block c.args.certificate.now c.args.path.now c.args.block.now) (spans_of c.args.rows.now))
    (all_entries c.args.variables.now.entries c.loop-index.index (let l = c.loop-index-test.false in let e = c.len-index-end.ensures.len in omega (arith, l, e)))
