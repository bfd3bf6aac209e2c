use Rattle.std.proofs.Common.{rules, ◌≡◌, true, sym, ap, ◌∙◌}
use Rattle.std.proofs.lemmas.Bool.{cond-true}
use Rattle.fb_model.specs.Language.{setting}
use Rattle.fb_model.specs.Services.{qo}
use Rattle.fb_model.specs.Serving as book
use Rattle.st_exec.specs.Cells.{values_of}
use Rattle.fb_chart.specs.Ports.{slots_of, received_in}
use Rattle.fb_chart.specs.Responses.{condition_of}
use Rattle.fb_chart.proofs.quality.subscribe.Goals as goal

pub returns-clause-values : goal.returns-clause-values
returns-clause-values c = λ names is.
    let own = values_of c.args.own.now in
    let values = c.args.values.now in
    let ready : book.is_ready (condition_of c.args.standing) ≡ true = search rules in
    let slots = c.deref.ensures.value ∙ is ∙ ap (λ fs. slots_of fs names) (sym c.set_bit.ensures.forms) in
    c.receive.ensures.values names slots ∙ ap (received_in names values) (c.set_bit.ensures.values qo (sym c.requires.quality_out))
    ∙ sym (cond-true (book.is_ready (condition_of c.args.standing)) (received_in names values (setting own qo (book.bit true))) own ready)
