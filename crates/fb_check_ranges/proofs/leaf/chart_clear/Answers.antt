use Rattle.std.proofs.Common.{inl, inr, string_bytes}
use Rattle.std.proofs.lemmas.Result.{err_from_is_err_and}
use Rattle.fb_flat.specs.Tables.{source_at}
use Rattle.fb_check_ranges.specs.Reasons.{OneFails}
use Rattle.fb_check_ranges.specs.Beginning.{entry_name}
use Rattle.fb_check_ranges.specs.Clearing.{VariableFails, LinkFails, BlockFails}
use Rattle.fb_check_ranges.proofs.Blaming.{blames_weaker, chart_all}
use Rattle.fb_check_ranges.proofs.leaf.chart_clear.Goals as goal

pub returns-in_err-variables_begin-clause-clears : goal.returns-in_err-variables_begin-clause-clears
returns-in_err-variables_begin-clause-clears c =
    λ ls h.
    let p = err_from_is_err_and c.from_residual.result c.from_residual.ensures.1 in
    let cert = c.args.certificate.now in
    let path = string_bytes c.args.leaf.now.path in
    let k = c.args.block.now.value in
    let source = source_at c.args.leaf.now.inputs.items in
    rw (p.1, p.2) (blames_weaker path (VariableFails cert path source k) (BlockFails cert path ls source k) c.in_err-variables_begin.field-0.0 (λ reason y q. inl q) (rw (c.as_str-path.ensures.value, c.as_slice-inputs.ensures.value, c.deref.ensures) at c.in_err-variables_begin.ensures))

pub returns-in_err-links_lie-clause-clears : goal.returns-in_err-links_lie-clause-clears
returns-in_err-links_lie-clause-clears c =
    λ ls h.
    let p = err_from_is_err_and c.from_residual-in_err-links_lie.result c.from_residual-in_err-links_lie.ensures.1 in
    let cert = c.args.certificate.now in
    let path = string_bytes c.args.leaf.now.path in
    let k = c.args.block.now.value in
    let source = source_at c.args.leaf.now.inputs.items in
    rw (p.1, p.2) (blames_weaker path (OneFails entry_name (LinkFails cert path ls source) k.face.inputs.entries) (BlockFails cert path ls source k) c.in_err-links_lie.field-0.0 (λ reason y q. inr (inl q)) (rw (c.as_str-path.ensures.value, c.as_slice-inputs.ensures.value, c.deref-2.ensures) at (c.in_err-links_lie.ensures ls h)))

pub returns-clause-clears : goal.returns-clause-clears
returns-clause-clears c =
    λ ls h.
    chart_all c.args.certificate.now (string_bytes c.args.leaf.now.path) ls (source_at c.args.leaf.now.inputs.items) c.args.block.now.value c.runs_clear.result
    (rw (c.as_str-path.ensures.value, c.as_slice-inputs.ensures.value, c.deref.ensures) at c.in_ok-variables_begin.ensures)
    (rw (c.as_str-path.ensures.value, c.as_slice-inputs.ensures.value, c.deref-2.ensures) at (c.in_ok-links_lie.ensures ls h)) (rw c.as_str-path.ensures.value at c.runs_clear.ensures.runs)
