use Rattle.std.specs.List.{AllByRecursion}
use Rattle.fb_cert.specs.Views.{rows_of}
use Rattle.fb_check_rows.specs.Channels.{IsNamed, KnowsNot}
use Rattle.fb_check_rows.proofs.Channels.{both_ways, where_accepted}
use Rattle.fb_check_rows.proofs.channel.channels_match.Goals as goal

pub returns-clause-same : goal.returns-clause-same
returns-clause-same c =
    let fs = c.args.flat.now.devices.items in
    let rows = rows_of c.args.certificate.now in
    let ns = c.in_ok-numbers.numbers.items in
    where_accepted (AllByRecursion (IsNamed ns) rows.channels) (KnowsNot ns rows) (λ h. both_ways fs rows ns c.in_ok-numbers.ensures (rw c.as_slice.ensures.value at c.in_ok-none_missing.ensures) h) c.none_unknown.result (rw c.as_slice-2.ensures.value at c.none_unknown.ensures)
