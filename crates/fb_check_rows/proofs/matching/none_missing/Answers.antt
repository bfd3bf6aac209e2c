use Rattle.std.proofs.Common.{◌≡◌, ◌+◌, true, map, drop, sym, ap, subst, ◌∙◌, string_bytes}
use Rattle.fb_model.specs.Names.{is_in}
use Rattle.fb_types_blocks.specs.Views.{names_of}
use Rattle.fb_cert.specs.Views.{rows_of}
use Rattle.fb_check_rows.specs.Members.{AreAmong}
use Rattle.fb_check_rows.specs.Texts.{paths_of}
use Rattle.fb_check_rows.proofs.Members.{among_more, rest_at, stands_in}
use Rattle.fb_check_rows.proofs.matching.none_missing.Goals as goal

pub returns-then-not-has_row-clause-refused : goal.returns-then-not-has_row-clause-refused
returns-then-not-has_row-clause-refused c =
    let ps = paths_of c.args.kind (rows_of c.args.certificate.now) in
    let keys = c.args.rows.now.keys in
    let k = c.loop-index.index in
    let row = c.in-Some.row.now in
    let e : string_bytes c.in_ok-clone.field-0 ≡ string_bytes row = c.in_ok-clone.ensures.cases in (
      ap (λ z. is_in z ps) (e ∙ sym c.as_str.ensures.value) ∙ sym c.has_row.ensures ∙ c.if-not-has_row.true,
      ap (λ z. is_in z (names_of c.args.rows.now)) e ∙ stands_in string_bytes keys k row (sym c.in-Some.ensures.key),
    )

pub loop-index-preserved : goal.loop-index-preserved
loop-index-preserved c =
    let ps = paths_of c.args.kind (rows_of c.args.certificate.now) in
    let keys = c.args.rows.now.keys in
    let k = c.loop-index.index in
    let row = c.in-Some.row.now in
    let there : is_in (string_bytes row) ps ≡ true = ap (λ z. is_in z ps) (sym c.as_str.ensures.value) ∙ sym c.has_row.ensures ∙ c.if-not-has_row.false in
    λ h. c.loop-index.invariant (subst (λ ks. AreAmong (map string_bytes ks) ps) (sym (rest_at keys k row (sym c.in-Some.ensures.key))) (among_more (string_bytes row) (map string_bytes (drop (k + 1) keys)) ps there h))
