use Rattle.fb_model_worlds.proofs.Running.{measure_event, measure_run}
use Rattle.fb_model_worlds.proofs.measure_falls_over_runs.Goals as goal

pub returns-clause-event : goal.returns-clause-event
returns-clause-event c = λ system cert repeats hold far few old new event answer s h. measure_event system cert hold repeats far few old event answer new s h

pub returns-clause-run : goal.returns-clause-run
returns-clause-run c = λ system cert repeats hold far few old new events answers s r. measure_run system cert hold repeats far few events answers old new s r
