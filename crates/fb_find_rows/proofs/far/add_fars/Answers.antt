use Rattle.std.proofs.Common.{◌≡◌, ◌<◌, ℕ, [], ap, ◌∙◌, sym, take, length, slice_index_or, arith, string_bytes}
use Rattle.std.specs.Str.{bytes_eq}
use Rattle.std.proofs.lemmas.List.{length-map}
use Rattle.fb_cert.specs.Views.{Table, rows_of}
use Rattle.fb_find_rows.specs.Places.{texts_of}
use Rattle.fb_find_rows.specs.Numbers.{counts, with_fars}
use Rattle.fb_find_rows.proofs.Keys.{at_index, apart_texts}
use Rattle.fb_find_rows.proofs.Counting.{new_key, one_step, far_put, text_apart, all_of, upper_at, small_at}
use Rattle.fb_find_rows.proofs.far.add_fars.Goals as goal

pub loop-index-init : goal.loop-index-init
loop-index-init c = λ none apart said. ap (λ (rs : Table ℕ). with_fars rs (rows_of c.args.certificate.now)) none

pub loop-index-preserved : goal.loop-index-preserved
loop-index-preserved c =
    λ none apart said.
    let i = c.loop-index.index in
    let ts = texts_of c.args.events.now in
    let s = c.args.steps.now in
    let initial = rows_of c.args.certificate.now in
    let here = at_index string_bytes c.args.events.now.keys i c.in-Some.text.now [] c.in-Some.ensures.key in
    let t = c.as_str.result.now in
    let n = c.number_at-number.result in
    let l : i < length ts = omega (arith, here.0, length-map c.args.events.now.keys string_bytes) in
    let e : slice_index_or ts i [] ≡ t = here.1 ∙ sym c.as_str.ensures.value in
    far_put t n (counts (take i ts) s) (rows_of c.loop-index.certificate) (rows_of c.add.new.self) initial c.in_ok-add.field-0 (upper_at ts i t said.paths l e) (small_at s i n said.few_steps (sym c.number_at-number.ensures))
    (new_key bytes_eq [] ts i t s l (text_apart ts i t apart l e)) (c.loop-index.invariant none apart said) c.in_ok-add.ensures.tells c.in_ok-add.ensures.added
    ∙ ap (λ (rs : Table ℕ). with_fars rs initial) (one_step bytes_eq [] ts i t s n l e (sym c.number_at-number.ensures))

pub returns : goal.returns
returns c =
    λ none said.
    let keys = c.args.events.now.keys in
    let apart = apart_texts keys c.len-index-end.ensures.unique in
    c.loop-index.invariant none apart said
    ∙ ap (λ ts. with_fars (counts ts c.args.steps.now) (rows_of c.args.certificate.now)) (all_of (texts_of c.args.events.now) c.loop-index.index (omega (arith, length-map keys string_bytes, c.len-index-end.ensures.len, c.loop-index-test.false)))
