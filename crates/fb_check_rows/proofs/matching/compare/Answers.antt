use Rattle.fb_types_blocks.proofs.Lists.{on_ok}
use Rattle.fb_cert.specs.Views.{rows_of}
use Rattle.fb_check_rows.proofs.Tables.{are_same}
use Rattle.fb_check_rows.proofs.matching.compare.Goals as goal

pub returns-clause-same : goal.returns-clause-same
returns-clause-same c = on_ok (λ h. are_same c.args.flat.now.devices.items (rows_of c.args.certificate.now) c.in_ok-own_match.ensures.same h) c.network_matches.result c.network_matches.ensures.same
