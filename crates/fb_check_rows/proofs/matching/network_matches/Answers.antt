use Rattle.std.proofs.Common.{inl, inr}
use Rattle.std.proofs.lemmas.Result.{err_from_is_err_and}
use Rattle.fb_types_blocks.proofs.Lists.{on_ok}
use Rattle.fb_cert.specs.Views.{rows_of}
use Rattle.fb_check_rows.specs.declared.kind.PathRows.TheVariants.{Fars, FarStates}
use Rattle.fb_check_rows.specs.Texts.{HaveOtherRows}
use Rattle.fb_check_rows.specs.Channels.{IsOtherChannel}
use Rattle.fb_check_rows.proofs.Matches.{err_weaker}
use Rattle.fb_check_rows.proofs.matching.network_matches.Goals as goal

pub returns-in_err-far_matches-clause-refused : goal.returns-in_err-far_matches-clause-refused
returns-in_err-far_matches-clause-refused c =
    let p = err_from_is_err_and c.from_residual.result c.from_residual.ensures.1 in
    rw (p.1, p.2) (inl (Fars, c.in_err-far_matches.ensures.refused))

pub returns-in_err-far_matches-2-clause-refused : goal.returns-in_err-far_matches-2-clause-refused
returns-in_err-far_matches-2-clause-refused c =
    let p = err_from_is_err_and c.from_residual-in_err-far_matches-2.result c.from_residual-in_err-far_matches-2.ensures.1 in
    rw (p.1, p.2) (inl (FarStates, c.in_err-far_matches-2.ensures.refused))

pub returns-clause-same : goal.returns-clause-same
returns-clause-same c =
    on_ok (λ h. record { fars = c.in_ok-far_matches.ensures.same; far_states = c.in_ok-far_matches-2.ensures.same; channels = h }) c.channels_match.result c.channels_match.ensures.same

pub returns-clause-refused : goal.returns-clause-refused
returns-clause-refused c =
    let ds = c.args.flat.now.devices.items in
    let rows = rows_of c.args.certificate.now in
    err_weaker (IsOtherChannel ds rows) (HaveOtherRows ds rows) (λ f h. inr h) c.channels_match.result c.channels_match.ensures.refused
