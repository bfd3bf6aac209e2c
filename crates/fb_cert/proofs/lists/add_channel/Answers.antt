use Rattle.std.proofs.Common.{◌∙◌, sym, ap, refl, not}
use Rattle.fb_cert.proofs.Tables.{has_from_number, adds_number}
use Rattle.fb_cert.proofs.lists.add_channel.Goals as goal

pub returns-then-contains_key-clause-added : goal.returns-then-contains_key-clause-added
returns-then-contains_key-clause-added c = (ap not (sym c.if-contains_key.true ∙ c.contains_key.ensures ∙ has_from_number c.args.number c.args.rows.now.entries), refl)

pub returns-clause-added : goal.returns-clause-added
returns-clause-added c =
    adds_number c.args.rows.now.entries c.insert.new.self.entries c.args.number c.args.steps
    (sym (has_from_number c.args.number c.args.rows.now.entries) ∙ sym c.contains_key.ensures ∙ c.if-contains_key.false)
    c.in_ok-insert.ensures.entries
