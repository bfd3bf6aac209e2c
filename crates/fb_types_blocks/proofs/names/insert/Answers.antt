use Rattle.fb_types_blocks.proofs.Lists.{with_key}
use Rattle.fb_types_blocks.proofs.names.insert.Goals as goal

pub returns : goal.returns
returns c = with_key c.args.names.now.keys c.insert.new.self.keys c.in_ok-clone.field-0 _ _ c.in_ok-clone.ensures.cases c.in_ok-insert.ensures.added c.in_ok-insert.ensures.keys
