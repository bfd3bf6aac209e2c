use Rattle.std.proofs.Common.{[], ◌∷◌, None, sym, ap, ◌∙◌}
use Rattle.fb_model.specs.System as system
use Rattle.fb_model.specs.Services.{ind, received, numbered}
use Rattle.fb_model.specs.Serving as book
use Rattle.st_exec.specs.Cells.{values_of}
use Rattle.fb_chart.specs.Responses.{leaf_of}
use Rattle.fb_chart.proofs.Replies.{receive_is}
use Rattle.fb_chart.proofs.response.arrive.Goals as goal

pub returns-clause-reply : goal.returns-clause-reply
returns-clause-reply c = λ number clock event types issued few is.
    ap (λ v. book.emits (system.Input number types) (ind ∷ []) None (leaf_of v issued c.args.standing))
    (sym (receive_is 1 types c.args.values.now (values_of c.args.own.now) few) ∙ sym (c.receive.ensures.values (numbered received 1 types) is))
