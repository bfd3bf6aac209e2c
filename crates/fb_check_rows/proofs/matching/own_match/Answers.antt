use Rattle.std.proofs.Common.{inl}
use Rattle.std.proofs.lemmas.Result.{err_from_is_err_and}
use Rattle.fb_types_blocks.proofs.Lists.{on_ok}
use Rattle.fb_cert.specs.Views.{rows_of}
use Rattle.fb_check_rows.specs.declared.kind.RowKind.TheVariants.{Depth}
use Rattle.fb_check_rows.specs.declared.kind.PathRows.TheVariants.{Charges, Weights, Ranges, Depths}
use Rattle.fb_check_rows.specs.Texts.{paths_of, texts_of, HaveOtherRows, HaveSameOwn}
use Rattle.fb_check_rows.specs.Faults.{IsDifference}
use Rattle.fb_check_rows.proofs.Matches.{err_weaker}
use Rattle.fb_check_rows.proofs.matching.own_match.Goals as goal

pub returns-in_err-kind_matches-clause-refused : goal.returns-in_err-kind_matches-clause-refused
returns-in_err-kind_matches-clause-refused c =
    let p = err_from_is_err_and c.from_residual.result c.from_residual.ensures.1 in
    rw (p.1, p.2) (inl (Charges, c.in_err-kind_matches.ensures.refused))

pub returns-in_err-kind_matches-2-clause-refused : goal.returns-in_err-kind_matches-2-clause-refused
returns-in_err-kind_matches-2-clause-refused c =
    let p = err_from_is_err_and c.from_residual-in_err-kind_matches-2.result c.from_residual-in_err-kind_matches-2.ensures.1 in
    rw (p.1, p.2) (inl (Weights, c.in_err-kind_matches-2.ensures.refused))

pub returns-in_err-kind_matches-3-clause-refused : goal.returns-in_err-kind_matches-3-clause-refused
returns-in_err-kind_matches-3-clause-refused c =
    let p = err_from_is_err_and c.from_residual-in_err-kind_matches-3.result c.from_residual-in_err-kind_matches-3.ensures.1 in
    rw (p.1, p.2) (inl (Ranges, c.in_err-kind_matches-3.ensures.refused))

pub returns-clause-same : goal.returns-clause-same
returns-clause-same c =
    on_ok (λ h. record { charges = c.in_ok-kind_matches.ensures.same; weights = c.in_ok-kind_matches-2.ensures.same; ranges = c.in_ok-kind_matches-3.ensures.same; depths = h }) c.kind_matches-4.result c.kind_matches-4.ensures.same

pub returns-clause-refused : goal.returns-clause-refused
returns-clause-refused c =
    let ds = c.args.flat.now.devices.items in
    let rows = rows_of c.args.certificate.now in
    err_weaker (IsDifference (texts_of Depth ds) (paths_of Depths rows)) (HaveOtherRows ds rows) (λ f h. inl (Depths, h)) c.kind_matches-4.result c.kind_matches-4.ensures.refused
