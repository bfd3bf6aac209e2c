use Rattle.std.proofs.Common.{◌≡◌, ◌∙◌, Some, sym, ap}
use Rattle.std.specs.List.{position_from}
use Rattle.fb_keys.specs.State.{is_of, raised_by}
use Rattle.fb_keys.proofs.Entries.{raises_at}
use Rattle.fb_keys.proofs.state.State.raise.Goals as goal

pub returns-in-Some-clause-raised : goal.returns-in-Some-clause-raised
returns-in-Some-clause-raised c =
    let entries = c.args.self.now.entries.items in
    let found : position_from (is_of c.args.number c.args.mark) 0 entries ≡ Some c.in-Some.place =
    ap (position_from (is_of c.args.number c.args.mark) 0) (sym c.as_slice.ensures.value) ∙ sym c.in-Some.ensures.first in
    raises_at entries c.in-Some.place c.args.upto c.index-entry.result.now c.max.result c.index-entry.ensures c.max.ensures
    ∙ sym (ap (λ o. raised_by o c.args.number c.args.mark c.args.upto entries) found)
