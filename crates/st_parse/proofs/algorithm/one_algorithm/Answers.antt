use Rattle.st_parse.proofs.Laws.{only_read}
use Rattle.st_parse.proofs.algorithm.one_algorithm.Goals as goal

pub returns : goal.returns
returns c = λ n k n' k' ts x y h g. only_read n k n' k' ts x y h g
