use Rattle.std.proofs.Common.{sym, subst}
use Rattle.fb_device_values.specs.Drafts.{IsLaidOut, forms_in}
use Rattle.fb_device_values.proofs.Drafting.{zeros_laid, zeros_set}
use Rattle.fb_device_values.proofs.making.store_of.Goals as goal

pub set_numbers-requires-clause-laid : goal.set_numbers-requires-clause-laid
set_numbers-requires-clause-laid c = zeros_laid c.in_ok-layout.layout.value (forms_in c.args.drafts.now) c.in_ok-store.store c.in_ok-store.ensures
    (subst (λ l. IsLaidOut l (forms_in c.args.drafts.now)) (sym c.in_ok-layout.ensures) c.in_ok-own.ensures)

pub set_numbers-requires-clause-zeros : goal.set_numbers-requires-clause-zeros
set_numbers-requires-clause-zeros c = zeros_set c.in_ok-layout.layout.value c.in_ok-store.store c.in_ok-store.ensures
