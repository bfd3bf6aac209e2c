use Rattle.fb_text.proofs.Laws.{source_once}
use Rattle.fb_text.proofs.text.one_source.Goals as goal

pub returns : goal.returns
returns c = λ n k n' k' text x y h g. source_once n k n' k' text x y h g
