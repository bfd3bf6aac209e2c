use Rattle.fb_types_blocks.proofs.Tables.{adds}
use Rattle.fb_types_blocks.proofs.names.add.Goals as goal

pub returns : goal.returns
returns g c = adds c.args.entries.now.entries c.insert.new.self.entries c.in_ok-clone.field-0 _ c.args.value c.in_ok-clone.ensures.cases c.requires c.in_ok-insert.ensures.entries
