use Rattle.std.proofs.Common.{ap, ◌∙◌, sym, arith, string_bytes, []}
use Rattle.std.proofs.lemmas.List.{length-map}
use Rattle.fb_cert.specs.Views.{rows_of}
use Rattle.fb_find_rows.specs.Places.{texts_of}
use Rattle.fb_find_rows.specs.Numbers.{amounts, with_weights}
use Rattle.fb_find_rows.proofs.Keys.{at_index, apart_texts}
use Rattle.fb_find_rows.proofs.Summing.{weight_put, all_taken, no_weights}
use Rattle.fb_find_rows.proofs.rows.add_weights.Goals as goal

pub loop-index-init : goal.loop-index-init
loop-index-init c = λ none apart said. no_weights (rows_of c.args.certificate.now) none

pub loop-index-preserved : goal.loop-index-preserved
loop-index-preserved c =
    λ none apart said.
    let i = c.loop-index.index in
    let here = at_index string_bytes c.args.events.now.keys i c.in-Some.text.now [] c.in-Some.ensures.key in
    weight_put (texts_of c.args.events.now) i c.args.steps.now c.args.places.now c.as_str.result.now c.number_at.result c.number_at-in-loop-index.result (rows_of c.loop-index.certificate) (rows_of c.add.new.self) (rows_of c.args.certificate.now) c.in_ok-add.field-0 apart said (omega (arith, here.0, length-map c.args.events.now.keys string_bytes))
    (here.1 ∙ sym c.as_str.ensures.value) (sym c.number_at.ensures) (sym c.number_at-in-loop-index.ensures) (c.loop-index.invariant none apart said) c.in_ok-add.ensures.tells c.in_ok-add.ensures.added

pub returns : goal.returns
returns c =
    λ none said.
    let keys = c.args.events.now.keys in
    let apart = apart_texts keys c.len-index-end.ensures.unique in
    c.loop-index.invariant none apart said
    ∙ ap (λ ts. with_weights (amounts ts c.args.steps.now c.args.places.now) (rows_of c.args.certificate.now)) (all_taken (texts_of c.args.events.now) c.loop-index.index (omega (arith, length-map keys string_bytes, c.len-index-end.ensures.len, c.loop-index-test.false)))
