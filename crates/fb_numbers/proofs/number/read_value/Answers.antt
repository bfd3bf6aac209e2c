use Rattle.std.proofs.Common.{◌∙◌, rules}
use Rattle.fb_numbers.proofs.Numbers.{value}
use Rattle.fb_numbers.proofs.number.read_value.Goals as goal

pub returns : goal.returns
returns c = c.ok.ensures.value ∙ value c.args.word.now c.parse.result (search rules) c.parse.ensures.value.0
