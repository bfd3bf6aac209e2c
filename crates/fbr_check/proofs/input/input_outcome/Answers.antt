use Rattle.std.proofs.Common.{subst}
use Rattle.fbr_check.specs.Verdicts.{IsInputVerdict}
use Rattle.fbr_check.proofs.Verdicts.{input_read, input_memory}
use Rattle.fbr_check.proofs.input.input_outcome.Goals as goal

pub returns-in-Ok : goal.returns-in-Ok
returns-in-Ok g c =
    input_read _ (g.I.Read.remaining c.args.input.now) c.in-Ok.bytes.items c.check_bytes.result c.in-Ok.ensures
    (subst (λ b. IsInputVerdict b c.check_bytes.result) c.deref.ensures.value c.check_bytes.ensures)

pub returns-in-Err-Memory : goal.returns-in-Err-Memory
returns-in-Err-Memory g c = input_memory _ (g.I.Read.remaining c.args.input.now)
