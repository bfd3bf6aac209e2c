use Rattle.std.proofs.Common.{◌∙◌, rules}
use Rattle.fb_numbers.proofs.Numbers.{number}
use Rattle.fb_numbers.proofs.number.read_number.Goals as goal

pub returns : goal.returns
returns c = c.ok.ensures.value ∙ number c.args.word.now c.parse.result (search rules) c.parse.ensures.value.0
