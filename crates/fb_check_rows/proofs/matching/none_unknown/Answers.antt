use Rattle.std.proofs.Common.{◌≡◌, ◌+◌, true, drop, sym, ap, subst, ◌∙◌, string_bytes}
use Rattle.fb_model.specs.Names.{is_in}
use Rattle.fb_types_blocks.specs.Views.{names_of}
use Rattle.fb_cert.specs.Views.{rows_of}
use Rattle.fb_check_rows.specs.Members.{AreAmong}
use Rattle.fb_check_rows.specs.Texts.{paths_of}
use Rattle.fb_check_rows.proofs.Members.{among_more, rest_at, is_there}
use Rattle.fb_check_rows.proofs.Tables.{known}
use Rattle.fb_check_rows.proofs.matching.none_unknown.Goals as goal

pub returns-then-not-contains-clause-refused : goal.returns-then-not-contains-clause-refused
returns-then-not-contains-clause-refused c =
    let ps = paths_of c.args.kind (rows_of c.args.certificate.now) in
    let k = c.loop-index.index in
    let path = c.in-Some.path.now in
    let e : string_bytes c.in_ok-from_str.field-0 ≡ path = c.in_ok-from_str.ensures.ok in (
      ap (λ z. is_in z ps) e ∙ is_there ps k path (sym c.in-Some.ensures),
      ap (λ z. is_in z (names_of c.args.rows.now)) e ∙ known path c.args.rows.now.keys c.contains.result c.contains.ensures ∙ c.if-not-contains.true,
    )

pub loop-index-preserved : goal.loop-index-preserved
loop-index-preserved c =
    let ps = paths_of c.args.kind (rows_of c.args.certificate.now) in
    let ns = names_of c.args.rows.now in
    let k = c.loop-index.index in
    let path = c.in-Some.path.now in
    let there : is_in path ns ≡ true = known path c.args.rows.now.keys c.contains.result c.contains.ensures ∙ c.if-not-contains.false in
    λ h. c.loop-index.invariant (subst (λ xs. AreAmong xs ns) (sym (rest_at ps k path (sym c.in-Some.ensures))) (among_more path (drop (k + 1) ps) ns there h))
