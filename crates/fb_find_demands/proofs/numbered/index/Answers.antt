use Rattle.std.proofs.Common.{◌∙◌, arith}
use Rattle.fb_find_demands.proofs.Numbers.{index_some, index_none}
use Rattle.fb_find_demands.proofs.numbered.index.Goals as goal

pub returns-in-Some-clause-place : goal.returns-in-Some-clause-place
returns-in-Some-clause-place c = index_some c.args.texts.now.keys c.args.text.now c.in-Some.index c.in-Some.ensures.index

pub returns-in-Some-clause-small : goal.returns-in-Some-clause-small
returns-in-Some-clause-small c = omega (arith, c.in-Some.ensures.within, c.len-count.ensures.len, c.len-count.ensures.small)

pub returns-in-None-clause-place : goal.returns-in-None-clause-place
returns-in-None-clause-place c = c.len-count.ensures.len ∙ index_none c.args.texts.now.keys c.args.text.now c.in-None.ensures.index
