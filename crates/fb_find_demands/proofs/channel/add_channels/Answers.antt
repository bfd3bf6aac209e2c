use Rattle.fb_find_demands.proofs.channel.add_channels.Goals as goal

pub returns : goal.returns
returns c = rw c.as_slice.ensures.value at c.add_each.ensures
