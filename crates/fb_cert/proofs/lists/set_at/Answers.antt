use Rattle.std.specs.Prelude.{IsSome}
use Rattle.std.proofs.Common.{◌≡◌, false, true, subst}
use Rattle.fb_cert.proofs.Tables.{entries_set, entries_past}
use Rattle.fb_cert.proofs.lists.set_at.Goals as goal

pub returns-in-Some : goal.returns-in-Some
returns-in-Some c = entries_set c.args.rows.now.entries c.args.index c.args.value

pub returns-in_default : goal.returns-in_default
returns-in_default c = entries_past c.args.rows.now.entries c.args.index c.args.value (λ h. let f : false ≡ true = subst IsSome c.in_default.is (c.get_index_mut.ensures.found.1 h) in absurd (cc))
