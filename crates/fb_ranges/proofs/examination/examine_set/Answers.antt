use Rattle.std.proofs.Common.{ap, ◌∙◌, string_bytes}
use Rattle.fb_model.specs.Spans.{Span}
use Rattle.fb_model.specs.Clear.{changed}
use Rattle.fb_ranges.specs.Views.{spans_of}
use Rattle.fb_ranges.proofs.examination.examine_set.Goals as goal

pub returns-clause-ranges : goal.returns-clause-ranges
returns-clause-ranges c = c.in_ok-insert_at.ensures.set ∙ ap (λ (r : Span). changed (string_bytes c.args.name.now.name) (λ b. r) (spans_of c.args.ranges.now)) c.range-value.ensures.range
