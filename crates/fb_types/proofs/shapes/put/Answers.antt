use Rattle.fb_types.proofs.Shaped.{put_is}
use Rattle.fb_types.proofs.shapes.put.Goals as goal

pub returns-clause-added : goal.returns-clause-added
returns-clause-added c = put_is c.args.shapes.now c.args.number c.args.shape c.insert.new.self.entries c.requires c.in_ok-insert.ensures.entries
