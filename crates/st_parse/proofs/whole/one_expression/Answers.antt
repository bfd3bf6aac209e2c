use Rattle.st_parse.proofs.ExpressionLaws.{expression_once}
use Rattle.st_parse.proofs.whole.one_expression.Goals as goal

pub returns : goal.returns
returns c = expression_once
