use Rattle.std.proofs.Common.{◌≡◌, ℕ, ◌+◌, ◌==◌, true, drop, sym, ap, subst, ◌∙◌}
use Rattle.std.specs.List.{AllByRecursion}
use Rattle.fb_cert.specs.Views.{rows_of}
use Rattle.fb_check_rows.specs.Channels.{IsNamed, is_one}
use Rattle.fb_check_rows.proofs.Members.{rest_at}
use Rattle.fb_check_rows.proofs.Channels.{turned_one, row_at}
use Rattle.fb_check_rows.proofs.channel.none_unknown.Goals as goal

pub returns-then-not-contains : goal.returns-then-not-contains
returns-then-not-contains c =
    let rows = rows_of c.args.certificate.now in
    let r : ℕ × ℕ = (c.in-Some.number, c.in-Some.field-0-1) in (
      row_at rows.channels c.loop-index.index r (sym c.in-Some.ensures.row),
      sym (turned_one r.0 c.args.numbers.now) ∙ sym c.contains.ensures.value ∙ c.if-not-contains.true,
    )

pub loop-index-preserved : goal.loop-index-preserved
loop-index-preserved c =
    let rows = rows_of c.args.certificate.now in
    let ns = c.args.numbers.now in
    let i = c.loop-index.index in
    let r : ℕ × ℕ = (c.in-Some.number, c.in-Some.field-0-1) in
    let there : is_one r.0 ns ≡ true = sym (turned_one r.0 ns) ∙ sym c.contains.ensures.value ∙ c.if-not-contains.false in
    λ h. c.loop-index.invariant (subst (AllByRecursion (IsNamed ns)) (sym (rest_at rows.channels i r (sym c.in-Some.ensures.row))) (there, h))
