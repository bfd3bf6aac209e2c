use Rattle.fbr_check.proofs.verdict.texts_outcome.Goals as goal

pub returns-in-Ok : goal.returns-in-Ok
returns-in-Ok c = (c.in-Ok.verified, c.in-Ok.ensures)
