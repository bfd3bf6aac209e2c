use Rattle.std.proofs.Common.{[], Some, sym, ap, ◌∙◌}
use Rattle.fb_model.specs.System as system
use Rattle.fb_model.specs.Services.{sent, numbered}
use Rattle.fb_model.specs.Serving as book
use Rattle.st_exec.specs.Cells.{values_of}
use Rattle.fb_chart.specs.Responses.{leaf_of}
use Rattle.fb_chart.proofs.Replies.{typed_numbers}
use Rattle.fb_chart.proofs.response.write.Goals as goal

pub returns-clause-reply : goal.returns-clause-reply
returns-clause-reply c = λ clock event types values issued is.
    let own = values_of c.args.own.now in
    ap (λ vs. book.emits (system.Output c.args.number types) [] (Some (book.Write c.args.number vs)) (leaf_of own issued c.args.standing))
    (sym (typed_numbers 1 types own) ∙ sym (c.sent_values.ensures (numbered sent 1 types) is))
