use Rattle.std.proofs.Common.{◌≡◌, ℕ, Option, refl, sym, subst, IfOk}
use Rattle.fb_find_demands.specs.Rights.{numbered, rights_of}
use Rattle.fb_find_demands.specs.Shown.{asked, IsNumbered}
use Rattle.fb_find_demands.proofs.Written.{tables_are}
use Rattle.fb_find_demands.proofs.Handed.{closed}
use Rattle.fb_find_demands.proofs.closing.asked_rights.Goals as goal

pub returns-in-None : goal.returns-in-None
returns-in-None c = λ s i.
    let fs = c.args.flat.now.devices.items in
    subst (λ (r : Option ℕ). IfOk c.plain_rights.result (λ v. rights_of v.items ≡ numbered c.args.numbering.now (asked r s))) (sym c.in-None.is)
    (c.plain_rights.ensures.bare s (tables_are fs s i.given) (closed fs s i.given) refl)

pub returns-in-Some : goal.returns-in-Some
returns-in-Some c = λ s i.
    let fs = c.args.flat.now.devices.items in
    let j = subst (λ (r : Option ℕ). IsNumbered r fs c.args.numbering.now s) c.in-Some.is i in
    subst (λ (r : Option ℕ). IfOk c.network_rights.result (λ v. rights_of v.items ≡ numbered c.args.numbering.now (asked r s))) (sym c.in-Some.is)
    (c.network_rights.ensures s (tables_are fs s j.given) (closed fs s j.given) j.rows.channels_are)
