use Rattle.std.proofs.Common.{◌∙◌, sym, ap, refl, not}
use Rattle.fb_cert.proofs.Tables.{has_from_lookup, adds}
use Rattle.fb_cert.proofs.lists.add.Goals as goal

pub returns-then-contains_key-clause-added : goal.returns-then-contains_key-clause-added
returns-then-contains_key-clause-added g c = (ap not (sym c.if-contains_key.true ∙ c.contains_key.ensures ∙ has_from_lookup c.args.path.now c.args.rows.now.entries), refl)

pub returns-clause-added : goal.returns-clause-added
returns-clause-added g c =
    adds c.args.rows.now.entries c.insert.new.self.entries c.in_ok-from_str.field-0 c.args.path.now c.args.value c.in_ok-from_str.ensures.ok
    (sym (has_from_lookup c.args.path.now c.args.rows.now.entries) ∙ sym c.contains_key.ensures ∙ c.if-contains_key.false)
    c.in_ok-insert.ensures.entries
