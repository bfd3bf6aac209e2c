use Rattle.std.proofs.Common.{sym, ap, ◌∙◌, is_some}
use Rattle.fb_model.specs.Names.{is_in}
use Rattle.fb_cert.specs.Views.{rows_of}
use Rattle.fb_check_rows.specs.Texts.{paths_of}
use Rattle.fb_check_rows.proofs.Tables.{has_first, some_spanned}
use Rattle.fb_check_rows.proofs.kind.has_row.Goals as goal

pub returns-in-Charges : goal.returns-in-Charges
returns-in-Charges c =
    let rows = rows_of c.args.certificate.now in
    c.is_some.ensures ∙ ap is_some c.charge.ensures.row ∙ has_first c.args.path.now rows.charges ∙ ap (λ k. is_in c.args.path.now (paths_of k rows)) (sym c.in-Charges.is)

pub returns-in-Weights : goal.returns-in-Weights
returns-in-Weights c =
    let rows = rows_of c.args.certificate.now in
    c.is_some-in-Weights.ensures ∙ ap is_some c.weight.ensures.row ∙ has_first c.args.path.now rows.weights ∙ ap (λ k. is_in c.args.path.now (paths_of k rows)) (sym c.in-Weights.is)

pub returns-in-Ranges : goal.returns-in-Ranges
returns-in-Ranges c =
    let rows = rows_of c.args.certificate.now in
    c.is_some-in-Ranges.ensures ∙ some_spanned c.range.result ∙ ap is_some c.range.ensures.row ∙ has_first c.args.path.now rows.ranges ∙ ap (λ k. is_in c.args.path.now (paths_of k rows)) (sym c.in-Ranges.is)

pub returns-in-Depths : goal.returns-in-Depths
returns-in-Depths c =
    let rows = rows_of c.args.certificate.now in
    c.is_some-in-Depths.ensures ∙ ap is_some c.depth.ensures.row ∙ has_first c.args.path.now rows.depths ∙ ap (λ k. is_in c.args.path.now (paths_of k rows)) (sym c.in-Depths.is)

pub returns-in-Fars : goal.returns-in-Fars
returns-in-Fars c =
    let rows = rows_of c.args.certificate.now in
    c.is_some-in-Fars.ensures ∙ ap is_some c.far.ensures.row ∙ has_first c.args.path.now rows.fars ∙ ap (λ k. is_in c.args.path.now (paths_of k rows)) (sym c.in-Fars.is)

pub returns-in-FarStates : goal.returns-in-FarStates
returns-in-FarStates c =
    let rows = rows_of c.args.certificate.now in
    c.is_some-in-FarStates.ensures ∙ ap is_some c.far_state.ensures.row ∙ has_first c.args.path.now rows.far_states ∙ ap (λ k. is_in c.args.path.now (paths_of k rows)) (sym c.in-FarStates.is)
