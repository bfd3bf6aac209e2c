use Rattle.fb_cert.specs.Views.{certificate_of}
use Rattle.fb_check_columns.specs.Channels.{AreCosts, heard_under}
use Rattle.fb_model_texts.proofs.Small.{small}
use Rattle.fb_check_columns.proofs.Hearing.{channels_pay, channels_short}
use Rattle.fb_check_columns.proofs.channel.channels_pay.Goals as goal

pub returns-clause-pays : goal.returns-clause-pays
returns-clause-pays c =
    let cert = c.args.certificate.now in
    let few = small c.stands_in_text.ensures.0 (certificate_of cert) c.stands_in_text.ensures.1 in
    let ds = c.args.flat.now.devices.items in
    let xs = heard_under cert c.args.repeats ds in
    let heard : AreCosts c.as_slice-2.result.now xs = rw c.as_slice-2.ensures.value (rw c.as_slice.ensures.value at c.in_ok-heard.ensures.heard) in
    λ s a. channels_pay cert few c.args.repeats ds s c.each_pays.result (c.each_pays.ensures xs heard) a

pub returns-clause-refused : goal.returns-clause-refused
returns-clause-refused c =
    let cert = c.args.certificate.now in
    let few = small c.stands_in_text.ensures.0 (certificate_of cert) c.stands_in_text.ensures.1 in
    let ds = c.args.flat.now.devices.items in
    let xs = heard_under cert c.args.repeats ds in
    let heard : AreCosts c.as_slice-2.result.now xs = rw c.as_slice-2.ensures.value (rw c.as_slice.ensures.value at c.in_ok-heard.ensures.heard) in
    λ s a. channels_short cert few c.args.repeats ds s c.each_pays.result (c.each_pays.ensures xs heard) a
