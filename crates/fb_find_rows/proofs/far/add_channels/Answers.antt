use Rattle.std.proofs.Common.{◌≡◌, ◌==◌, ◌<◌, ℕ, List, [], ap, ◌∙◌, sym, refl, take, length, slice_index_or, arith}
use Rattle.fb_cert.specs.Views.{rows_of}
use Rattle.fb_find_rows.specs.Numbers.{counts, with_channels}
use Rattle.fb_find_rows.proofs.Counting.{new_key, one_step, channel_put, number_apart, all_of, small_at}
use Rattle.fb_find_rows.proofs.far.add_channels.Goals as goal

pub loop-index-init : goal.loop-index-init
loop-index-init c = λ none said. ap (λ (rs : List (ℕ × ℕ)). with_channels rs (rows_of c.args.certificate.now)) none

pub loop-index-preserved : goal.loop-index-preserved
loop-index-preserved c =
    λ none said.
    let i = c.loop-index.index in
    let cs = c.args.channels.now in
    let s = c.args.steps.now in
    let initial = rows_of c.args.certificate.now in
    let t = slice_index_or cs i 0 in
    let n = c.number_at-number.result in
    let l : i < length cs = c.loop-index-test.true in
    channel_put t n (counts (take i cs) s) (rows_of c.loop-index.certificate) (rows_of c.add.new.self) initial c.in_ok-add.field-0 (omega (arith, c.type_inv.channels i)) (small_at s i n said.few_steps (sym c.number_at-number.ensures))
    (new_key (λ a b. a == b) 0 cs i t s l (number_apart cs i t said.apart l refl)) (c.loop-index.invariant none said) c.in_ok-add.ensures.tells c.in_ok-add.ensures.added
    ∙ ap (λ (rs : List (ℕ × ℕ)). with_channels rs initial) (one_step (λ a b. a == b) 0 cs i t s n l refl (sym c.number_at-number.ensures))

pub returns : goal.returns
returns c = λ none said. c.loop-index.invariant none said ∙ ap (λ cs. with_channels (counts cs c.args.steps.now) (rows_of c.args.certificate.now)) (all_of c.args.channels.now c.loop-index.index (omega (arith, c.loop-index-test.false)))
