use Rattle.std.proofs.Common.{subst, sym}
use Rattle.std.proofs.lemmas.Result.{err_from_is_err_and}
use Rattle.fb_cert.specs.Views.{certificate_of}
use Rattle.fb_types.specs.Views.{system_of}
use Rattle.fb_verdict.specs.Faults.{IsFitFault}
use Rattle.fb_verified.proofs.Written.{tables_are}
use Rattle.fb_verdict.proofs.Composed.{known}
use Rattle.fb_verdict.proofs.Denied.{far_is, channel_is}
use Rattle.fb_verdict.proofs.verdict.network_pays.Goals as goal

pub returns-in_err-far_pays-clause-refused : goal.returns-in_err-far_pays-clause-refused
returns-in_err-far_pays-clause-refused c = λ typed w e clear r.
    let p = err_from_is_err_and c.from_residual.result c.from_residual.ensures.1 in
    let s = system_of typed in
    let cert = certificate_of c.args.certificate.now in
    let h = c.in_err-far_pays.ensures.refused s (tables_are s c.args.flat.now.devices.items w e) (known s cert.ranges w clear) in
    rw (p.1, p.2) (subst (IsFitFault typed cert) (sym h.1) (far_is typed cert c.args.repeats h.0 r h.2))

pub returns-in_err-channels_pay-clause-refused : goal.returns-in_err-channels_pay-clause-refused
returns-in_err-channels_pay-clause-refused c = λ typed w e clear r.
    let p = err_from_is_err_and c.from_residual-in_err-channels_pay.result c.from_residual-in_err-channels_pay.ensures.1 in
    let s = system_of typed in
    let cert = certificate_of c.args.certificate.now in
    rw (p.1, p.2) (channel_is typed cert c.args.repeats c.in_err-channels_pay.field-0.0 r (c.in_err-channels_pay.ensures.refused s (tables_are s c.args.flat.now.devices.items w e)))

pub returns-clause-fits : goal.returns-clause-fits
returns-clause-fits c = λ s w e clear.
    let a = tables_are s c.args.flat.now.devices.items w e in
    record { devices = c.in_ok-far_pays.ensures.pays s a (known s (certificate_of c.args.certificate.now).ranges w clear); channels = c.in_ok-channels_pay.ensures.pays s a }
