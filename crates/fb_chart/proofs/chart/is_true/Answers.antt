use Rattle.std.proofs.Common.{ap, ◌∙◌}
use Rattle.std.specs.Option.{option_map}
use Rattle.fb_model.specs.Charts.{tested}
use Rattle.st_exec.specs.CodeViews.{code_term}
use Rattle.st_exec.specs.Cells.{values_of}
use Rattle.fb_chart.proofs.Choosing.{guard_some}
use Rattle.fb_chart.proofs.chart.is_true.Goals as goal

pub truth-requires-clause-defined : goal.truth-requires-clause-defined
truth-requires-clause-defined c = guard_some (code_term c.in-Some.guard) (values_of c.args.own.now) (λ e. c.requires.clear (ap (λ o. tested (option_map code_term o) (values_of c.args.own.now)) c.in-Some.is ∙ e))
