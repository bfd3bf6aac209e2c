use Rattle.fb_script.proofs.Lines.{halted, halts, next, shown, stopped}
use Rattle.fb_script.specs.Runs.{unreadable}
use Rattle.fb_script.specs.declared.run.End.TheVariants.{Unreadable}
use Rattle.fb_script.proofs.run.simulate.Goals as goal

pub returns-in-Err-clause-runs : goal.returns-in-Err-clause-runs
returns-in-Err-clause-runs g c = halted c.in-Err.end c.loop-number.invariant (halts c.in-Err.end c.in-Err.ensures)

pub returns-in-Ok-Some-clause-runs : goal.returns-in-Ok-Some-clause-runs
returns-in-Ok-Some-clause-runs g c = stopped c.in-Ok-Some.end c.loop-number.invariant c.in-Ok.ensures (rw c.in-Ok-Some.field-0-is at c.in-Ok-Some.ensures.steps)

pub loop-number-preserved : goal.loop-number-preserved
loop-number-preserved g c = shown (next c.loop-number.invariant c.in-Ok.ensures (rw c.in-Ok-None.field-0-is at c.in-Ok-None.ensures.steps) c.step.ensures.same) c.in_ok-show.ensures

pub returns-clause-runs : goal.returns-clause-runs
returns-clause-runs g c = halted Unreadable c.loop-number.invariant unreadable
