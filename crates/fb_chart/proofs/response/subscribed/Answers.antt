use Rattle.std.proofs.Common.{rules, [], None, refl, ap, ◌∙◌}
use Rattle.std.specs.Prelude.{◌≢◌, if◌then◌else◌}
use Rattle.std.specs.Str.{bytes_eq}
use Rattle.std.proofs.lemmas.Bool.{cond-false}
use Rattle.fb_model.specs.System as system
use Rattle.fb_model.specs.Services.{init, rsp, received, numbered}
use Rattle.fb_model.specs.Serving as book
use Rattle.st_exec.specs.Cells.{values_of}
use Rattle.fb_chart.specs.Responses.{event_at, leaf_of}
use Rattle.fb_chart.proofs.Replies.{opened_is, subscribed_is, arrives}
use Rattle.fb_chart.proofs.response.subscribed.Goals as goal

pub returns-in-0-clause-reply : goal.returns-in-0-clause-reply
returns-in-0-clause-reply c = λ clock channel types issued few is.
    let service = system.Subscribe channel types in
    let s = leaf_of (values_of c.args.own.now) issued c.args.standing in
    ap (λ n. if bytes_eq (event_at service n) init then book.opened service s else if bytes_eq (event_at service n) rsp then book.emits service [] None s else book.subscribed channel types c.args.values.now s) c.in-0.is
    ∙ opened_is service c.open.result (values_of c.args.own.now) (values_of c.open.new.own) issued c.args.standing refl c.open.ensures.standing c.open.ensures.output c.open.ensures.effect c.open.ensures.values

pub returns-in_default-clause-reply : goal.returns-in_default-clause-reply
returns-in_default-clause-reply c = λ clock channel types issued few is.
    let service = system.Subscribe channel types in
    let s = leaf_of (values_of c.args.own.now) issued c.args.standing in
    let values = c.args.values.now in
    let other : c.args.event ≢ 0 = search rules in
    let another : c.args.event ≢ 1 = search rules in
    let e = event_at service c.args.event in
    let late = if bytes_eq e rsp then book.emits service [] None s else book.subscribed channel types values s in
    let a = arrives c.args.event other another in
    cond-false (bytes_eq e init) (book.opened service s) late a.0 ∙ cond-false (bytes_eq e rsp) (book.emits service [] None s) (book.subscribed channel types values s) a.1
    ∙ subscribed_is channel types c.subscribe.result values (values_of c.args.own.now) (values_of c.subscribe.new.own) issued c.args.standing few c.subscribe.ensures.response (c.subscribe.ensures.values (numbered received 1 types) is)
