use Rattle.fb_text.proofs.Laws.{tree_once}
use Rattle.fb_text.proofs.text.one_tree.Goals as goal

pub returns : goal.returns
returns c = λ n k n' k' ts x y h g. tree_once n k n' k' ts x y h g
