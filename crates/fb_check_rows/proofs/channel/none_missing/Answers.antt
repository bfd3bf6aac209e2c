use Rattle.std.proofs.Common.{◌≡◌, ◌+◌, false, true, not, is_some, slice_index_or, drop, sym, ap, subst, ◌∙◌}
use Rattle.std.specs.List.{AllByRecursion}
use Rattle.fb_cert.specs.Views.{rows_of, has_number}
use Rattle.fb_check_rows.specs.Channels.{HasChannel, is_one}
use Rattle.fb_check_rows.proofs.Members.{rest_at}
use Rattle.fb_check_rows.proofs.Channels.{has_found, slice_at, number_at}
use Rattle.fb_check_rows.proofs.channel.none_missing.Goals as goal

pub returns-then-is_none : goal.returns-then-is_none
returns-then-is_none c =
    let rows = rows_of c.args.certificate.now in
    let n = slice_index_or c.args.numbers.now c.loop-number.number-index 0 in (
      sym (has_found n rows.channels) ∙ ap is_some (sym c.channel.ensures.row) ∙ c.is_none.ensures ∙ ap not c.if-is_none.true,
      number_at c.args.numbers.now c.loop-number.number-index c.loop-number-test.true,
    )

pub loop-number-preserved : goal.loop-number-preserved
loop-number-preserved c =
    let rows = rows_of c.args.certificate.now in
    let ns = c.args.numbers.now in
    let i = c.loop-number.number-index in
    let n = slice_index_or ns i 0 in
    let there : has_number n rows.channels ≡ true = sym (has_found n rows.channels) ∙ ap is_some (sym c.channel.ensures.row) ∙ c.is_none.ensures ∙ ap not c.if-is_none.false in
    λ h. c.loop-number.invariant (subst (AllByRecursion (HasChannel rows)) (sym (rest_at ns i n (slice_at ns i c.loop-number-test.true))) (there, h))
