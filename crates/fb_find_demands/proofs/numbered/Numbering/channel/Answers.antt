use Rattle.fb_find_demands.proofs.numbered.Numbering.channel.Goals as goal

pub returns : goal.returns
returns c = rw c.as_slice.ensures.value at c.channel_number.ensures
