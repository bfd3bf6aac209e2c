use Rattle.std.proofs.Common.{string_bytes}
use Rattle.std.proofs.lemmas.Result.{err_from_is_err_and}
use Rattle.fb_types_blocks.specs.declared.typed.Transition.{Transition}
use Rattle.fb_ranges.specs.Views.{spans_of}
use Rattle.fb_check_ranges.specs.Clearing.{guard_in}
use Rattle.fb_model.specs.Misfits.{GuardFails}
use Rattle.fb_check_ranges.proofs.Blaming.{one_named}
use Rattle.fb_check_ranges.proofs.run.guards_clear.Goals as goal

pub returns-in_err-guard_clear : goal.returns-in_err-guard_clear
returns-in_err-guard_clear c =
    let p = err_from_is_err_and c.from_residual.result c.from_residual.ensures.1 in
    rw (p.1, p.2) (one_named c.args.path.now (λ (t : Transition). string_bytes t.source) (λ (t : Transition). GuardFails (spans_of c.args.rows.now) (guard_in t)) c.args.transitions.now c.loop-transition.transition-index c.transition-item.result
    c.in_err-guard_clear.field-0.0 c.loop-transition-test.true c.transition-item.is c.in_err-guard_clear.ensures)
