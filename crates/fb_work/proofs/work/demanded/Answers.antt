use Rattle.std.proofs.Common.{refl, ap, ◌∙◌}
use Rattle.fb_cert.specs.Views.{certificate_of}
use Rattle.fb_find_demands.specs.Rights.{rights_of}
use Rattle.fb_prices.specs.Words.{prices_of}
use Rattle.fb_work.proofs.Columns.{closed, rights_are}
use Rattle.fb_work.proofs.work.demanded.Goals as goal

pub returns-clause-value : goal.returns-clause-value
returns-clause-value c = λ s i.
    let n = c.args.numbering.now in
    let fs = c.args.flat.now.devices.items in
    let apart = closed fs n s i in
    c.in_ok-rights.ensures
    ∙ rights_are fs n s i (prices_of c.args.prices.now) (certificate_of c.args.certificate.now).ranges c.as_slice-2.result.now (rights_of c.as_slice.result.now)
    (c.as_slice-2.ensures.value ∙ c.in_ok-works.ensures.value s.devices i.given.tables i.given.words apart)
    (ap rights_of c.as_slice.ensures.value ∙ c.in_ok-asked.ensures.bare s i.given.tables apart refl)
