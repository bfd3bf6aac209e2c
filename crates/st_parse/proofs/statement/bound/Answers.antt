use Rattle.fb_model.specs.StructuredTextGrammar.{most_nested}
use Rattle.fb_tree.specs.Algorithms.{expr_of}
use Rattle.st_parse.specs.ExpressionReading.{expression_at}
use Rattle.st_parse.proofs.Bounds.{bound_read}
use Rattle.st_parse.proofs.statement.bound.Goals as goal

pub returns : goal.returns
returns c = bound_read (expression_at most_nested) c.args.tokens.now c.in_ok-value.rest.now (expr_of c.in_ok-value.value) c.saturating_sub-taken.result c.is_number-plain.result c.in_ok-value.ensures c.saturating_sub-taken.ensures c.is_number-plain.ensures
