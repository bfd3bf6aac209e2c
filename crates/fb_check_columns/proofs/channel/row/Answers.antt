use Rattle.std.proofs.Common.{◌≤◌, sym, subst}
use Rattle.fb_model.specs.CertificateText.{most_steps}
use Rattle.fb_cert.specs.Views.{certificate_of}
use Rattle.fb_check_columns.proofs.Amounts.{channel_small}
use Rattle.fb_model_texts.proofs.Small.{small}
use Rattle.fb_check_columns.proofs.channel.row.Goals as goal

pub returns-clause-small : goal.returns-clause-small
returns-clause-small c =
    let cert = certificate_of c.args.certificate.now in
    let few = small c.stands_in_text.ensures.0 cert c.stands_in_text.ensures.1 in
    subst (λ n. n ≤ most_steps) (sym c.sending.ensures) (channel_small cert.channels c.args.channel few.channels)
