use Rattle.std.proofs.Common.{◌≡◌, ℕ, Option, refl, sym, subst, IfOk}
use Rattle.fb_model_laws.proofs.Closed.{all_charts_closed}
use Rattle.fb_find_demands.specs.Rights.{numbered, rights_of}
use Rattle.fb_find.specs.Given.{IsNumbered}
use Rattle.fb_model.specs.Finding.{asked}
use Rattle.fb_find.proofs.ordering.asked_rights.Goals as goal

pub returns-in-None : goal.returns-in-None
returns-in-None c = λ s i.
    subst (λ (r : Option ℕ). IfOk c.plain_rights.result (λ v. rights_of v.items ≡ numbered c.args.numbering.now (asked r s))) (sym c.in-None.is)
    (c.plain_rights.ensures.bare s i.given.tables (all_charts_closed i.given.library i.given.source s i.given.typed) refl)

pub returns-in-Some : goal.returns-in-Some
returns-in-Some c = λ s i.
    let j = subst (λ (r : Option ℕ). IsNumbered r c.args.flat.now.devices.items c.args.numbering.now s) c.in-Some.is i in
    subst (λ (r : Option ℕ). IfOk c.network_rights.result (λ v. rights_of v.items ≡ numbered c.args.numbering.now (asked r s))) (sym c.in-Some.is)
    (c.network_rights.ensures s j.given.tables (all_charts_closed j.given.library j.given.source s j.given.typed) j.rows.channels_are)
