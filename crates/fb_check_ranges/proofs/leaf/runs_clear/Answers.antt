use Rattle.std.proofs.Common.{◌≡◌, inl, inr, refl, subst, string_bytes}
use Rattle.std.proofs.lemmas.Result.{err_from_is_err_and}
use Rattle.fb_model.specs.Clear.{Spans}
use Rattle.fb_types_blocks.specs.declared.typed.Transition.{Transition}
use Rattle.fb_types_blocks.specs.Views.{block_of}
use Rattle.fb_ranges.specs.Views.{spans_of}
use Rattle.fb_check_ranges.specs.Reasons.{OneFails}
use Rattle.fb_check_ranges.specs.Clearing.{rows_of_block, procedure_name, procedure_text, guard_in, AlgorithmFails, RunFails}
use Rattle.fb_model.specs.Misfits.{GuardFails}
use Rattle.fb_check_ranges.specs.Examining.{AreClear}
use Rattle.fb_check_ranges.proofs.Blaming.{blames_weaker}
use Rattle.fb_check_ranges.proofs.Sharing.{clear_shown, runs_shown}
use Rattle.fb_check_ranges.proofs.leaf.runs_clear.Goals as goal

pub returns-then-was_examined-clause-runs : goal.returns-then-was_examined-clause-runs
returns-then-was_examined-clause-runs c =
    let cert = c.args.certificate.now in
    let path = c.args.path.now in
    let k = c.args.block.now.value in
    let table : spans_of c.in_ok-rows.rows ≡ rows_of_block cert path k = rw c.deref.ensures at c.in_ok-rows.ensures.table in
    runs_shown cert path k (subst (λ (r : Spans). AreClear r (block_of k)) table (c.if-was_examined.ensures refl))

pub returns-in_err-algorithms_clear-clause-runs : goal.returns-in_err-algorithms_clear-clause-runs
returns-in_err-algorithms_clear-clause-runs c =
    let p = err_from_is_err_and c.from_residual-in_err-algorithms_clear.result c.from_residual-in_err-algorithms_clear.ensures.1 in
    let cert = c.args.certificate.now in
    let path = c.args.path.now in
    let k = c.args.block.now.value in
    let table : spans_of c.in_ok-rows.rows ≡ rows_of_block cert path k = rw c.deref.ensures at c.in_ok-rows.ensures.table in
    rw (p.1, p.2) (blames_weaker path (OneFails procedure_name (λ q. AlgorithmFails (rows_of_block cert path k) (procedure_text q)) k.procedures.entries) (RunFails cert path k) c.in_err-algorithms_clear.field-0.0 (λ reason y q. inl q)
    (rw (table, c.deref-3.ensures) at c.in_err-algorithms_clear.ensures))

pub returns-in_err-guards_clear-clause-runs : goal.returns-in_err-guards_clear-clause-runs
returns-in_err-guards_clear-clause-runs c =
    let p = err_from_is_err_and c.from_residual-in_err-guards_clear.result c.from_residual-in_err-guards_clear.ensures.1 in
    let cert = c.args.certificate.now in
    let path = c.args.path.now in
    let k = c.args.block.now.value in
    let table : spans_of c.in_ok-rows.rows ≡ rows_of_block cert path k = rw c.deref.ensures at c.in_ok-rows.ensures.table in
    rw (p.1, p.2) (blames_weaker path (OneFails (λ (t : Transition). string_bytes t.source) (λ t. GuardFails (rows_of_block cert path k) (guard_in t)) k.transitions.items) (RunFails cert path k) c.in_err-guards_clear.field-0.0 (λ reason y q. inr q)
    (rw (table, c.as_slice.ensures.value, c.deref-4.ensures) at c.in_err-guards_clear.ensures))

pub note-requires-clause-clear : goal.note-requires-clause-clear
note-requires-clause-clear c =
    clear_shown (spans_of c.in_ok-rows.rows) c.args.block.now.value (rw c.deref-3.ensures at c.in_ok-algorithms_clear.ensures) (rw (c.as_slice.ensures.value, c.deref-4.ensures) at c.in_ok-guards_clear.ensures)

pub returns-clause-runs : goal.returns-clause-runs
returns-clause-runs c =
    let cert = c.args.certificate.now in
    let path = c.args.path.now in
    let k = c.args.block.now.value in
    let table : spans_of c.in_ok-rows.rows ≡ rows_of_block cert path k = rw c.deref.ensures at c.in_ok-rows.ensures.table in
    record { algorithms = rw (table, c.deref-3.ensures) at c.in_ok-algorithms_clear.ensures; guards = rw (table, c.as_slice.ensures.value, c.deref-4.ensures) at c.in_ok-guards_clear.ensures }
