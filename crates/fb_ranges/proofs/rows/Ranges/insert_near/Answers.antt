use Rattle.std.proofs.Common.{refl}
use Rattle.fb_ranges.proofs.Tables.{set}
use Rattle.fb_ranges.proofs.rows.Ranges.insert_near.Goals as goal

pub returns-then-is_at-clause-set : goal.returns-then-is_at-clause-set
returns-then-is_at-clause-set c = set c.args.name.now c.args.self.now.names.value.keys c.args.self.now.rows.items c.args.number c.args.interval c.args.self.now.even (c.if-is_at.ensures.named refl)
