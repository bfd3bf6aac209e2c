use Rattle.std.proofs.Common.{rules, refl, ap, ◌∙◌}
use Rattle.std.specs.Prelude.{◌≢◌, if◌then◌else◌}
use Rattle.std.specs.Str.{bytes_eq}
use Rattle.std.proofs.lemmas.Bool.{cond-false}
use Rattle.fb_model.specs.System as system
use Rattle.fb_model.specs.Services.{init}
use Rattle.fb_model.specs.Serving as book
use Rattle.fb_types_services.specs.Views.{channel_of}
use Rattle.st_exec.specs.Cells.{values_of}
use Rattle.fb_chart.specs.Responses.{event_at, leaf_of}
use Rattle.fb_chart.proofs.Replies.{opened_is, published_is, not_init}
use Rattle.fb_chart.proofs.response.published.Goals as goal

pub returns-in-0-clause-reply : goal.returns-in-0-clause-reply
returns-in-0-clause-reply c = λ clock values issued.
    let channel = channel_of c.args.channel.now in
    let types = c.args.types.now in
    let service = system.Publish channel types in
    let s = leaf_of (values_of c.args.own.now) issued c.args.standing in
    ap (λ n. if bytes_eq (event_at service n) init then book.opened service s else book.published channel types s) c.in-0.is
    ∙ opened_is service c.open.result (values_of c.args.own.now) (values_of c.open.new.own) issued c.args.standing refl c.open.ensures.standing c.open.ensures.output c.open.ensures.effect c.open.ensures.values

pub returns-in_default-clause-reply : goal.returns-in_default-clause-reply
returns-in_default-clause-reply c = λ clock values issued.
    let channel = channel_of c.args.channel.now in
    let types = c.args.types.now in
    let service = system.Publish channel types in
    let s = leaf_of (values_of c.args.own.now) issued c.args.standing in
    let other : c.args.event ≢ 0 = search rules in
    cond-false (bytes_eq (event_at service c.args.event) init) (book.opened service s) (book.published channel types s) (not_init c.args.event other)
    ∙ published_is channel types c.publish.result (values_of c.args.own.now) (values_of c.publish.new.own) issued c.args.standing c.publish.ensures.standing c.publish.ensures.output c.publish.ensures.effect c.publish.ensures.values
