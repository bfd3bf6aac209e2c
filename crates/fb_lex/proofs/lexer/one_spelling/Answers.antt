use Rattle.fb_lex.proofs.Whole.{spelled_once}
use Rattle.fb_lex.proofs.lexer.one_spelling.Goals as goal

pub returns : goal.returns
returns c = λ text ts us s t. spelled_once s t
