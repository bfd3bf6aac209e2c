use Rattle.std.proofs.Common.{sym, ◌∙◌}
use Rattle.fb_find_ranges.proofs.Putting.{goes_in, stays}
use Rattle.fb_find_ranges.proofs.near.put.Goals as goal

pub returns-in_ok-insert : goal.returns-in_ok-insert
returns-in_ok-insert c =
    goes_in c.args.near.now.entries c.insert.new.self.entries c.in_ok-from_str.field-0 c.args.number c.args.path.now c.in_ok-from_str.ensures.ok (sym c.contains_key.ensures ∙ c.if-not-contains_key.true) c.in_ok-insert.ensures.entries

pub returns-else-not-contains_key : goal.returns-else-not-contains_key
returns-else-not-contains_key c = stays c.args.near.now.entries c.args.path.now c.args.number (sym c.contains_key.ensures ∙ c.if-not-contains_key.false)
