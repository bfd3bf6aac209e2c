use Rattle.std.proofs.Common.{refl}
use Rattle.fb_ranges.proofs.Tables.{found}
use Rattle.fb_ranges.proofs.rows.Ranges.find_near.Goals as goal

pub returns-then-is_at : goal.returns-then-is_at
returns-then-is_at c = found c.args.name.now c.args.self.now.names.value.keys c.args.self.now.rows.items c.args.number c.index.result.now c.args.self.now.even (c.if-is_at.ensures.named refl) c.index.ensures
