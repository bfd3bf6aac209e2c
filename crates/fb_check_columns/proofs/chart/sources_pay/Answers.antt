use Rattle.std.proofs.Common.{string_bytes}
use Rattle.std.proofs.lemmas.Result.{err_from_is_err_and}
use Rattle.fb_types_blocks.specs.declared.typed.Transition.{Transition}
use Rattle.fb_check_columns.specs.Reckoning.{table_names, value_at}
use Rattle.fb_check_columns.specs.Paying.{SourcePays}
use Rattle.fb_check_columns.proofs.Each.{all_more, one_charge}
use Rattle.fb_check_columns.proofs.chart.sources_pay.Goals as goal

pub returns-in_err-source_pays : goal.returns-in_err-source_pays
returns-in_err-source_pays c =
    λ ns h.
    let p = err_from_is_err_and c.from_residual.result c.from_residual.ensures.1 in
    let name = λ (t : Transition). string_bytes t.source in
    let pays = SourcePays c.args.rows.now.column c.args.rows.now.certificate.now c.args.rows.now.path.now (value_at (table_names c.args.rows.now.block.now.states) ns 0) in
    rw (p.1, p.2) (one_charge c.args.rows.now.path.now name pays c.args.transitions.now c.loop-transition.transition-index c.transition-item.result c.in_err-source_pays.field-0.0 c.loop-transition-test.true c.transition-item.is (c.in_err-source_pays.ensures ns h))

pub loop-transition-preserved : goal.loop-transition-preserved
loop-transition-preserved c =
    λ ns h.
    let pays = SourcePays c.args.rows.now.column c.args.rows.now.certificate.now c.args.rows.now.path.now (value_at (table_names c.args.rows.now.block.now.states) ns 0) in
    all_more pays c.args.transitions.now c.loop-transition.transition-index c.transition-item.result c.loop-transition-test.true c.transition-item.is (c.loop-transition.invariant ns h) (c.in_ok-source_pays.ensures ns h)
