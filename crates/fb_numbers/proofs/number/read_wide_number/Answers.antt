use Rattle.std.proofs.Common.{◌∙◌, rules}
use Rattle.fb_numbers.proofs.Numbers.{wide_number}
use Rattle.fb_numbers.proofs.number.read_wide_number.Goals as goal

pub returns : goal.returns
returns c = c.ok.ensures.value ∙ wide_number c.args.word.now c.parse.result (search rules) c.parse.ensures.value.0
