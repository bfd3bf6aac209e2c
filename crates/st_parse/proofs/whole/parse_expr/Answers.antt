use Rattle.fb_lex.specs.Views.{tokens_of}
use Rattle.fb_tree.specs.Algorithms.{expr_of}
use Rattle.st_parse.proofs.ExpressionLaws.{whole_spelled, whole_same, reads_of, reads_only, reads_syntax, reads_place, reads_deep}
use Rattle.st_parse.proofs.whole.parse_expr.Goals as goal

pub returns-in-Ok-clause-found : goal.returns-in-Ok-clause-found
returns-in-Ok-clause-found c = whole_spelled (tokens_of c.args.tokens.now) (expr_of c.in-Ok.expr) c.in-Ok.ensures

pub returns-in-Ok-clause-only : goal.returns-in-Ok-clause-only
returns-in-Ok-clause-only c = λ x h. whole_same (tokens_of c.args.tokens.now) (expr_of c.in-Ok.expr) x c.in-Ok.ensures h

pub returns-in-Err-clause-only : goal.returns-in-Err-clause-only
returns-in-Err-clause-only c =
    let ts = tokens_of c.args.tokens.now in
    λ x h. reads_only ts c.fault.result x (reads_of c.end_of.result ts c.in-Err.stop c.fault.result c.end_of.ensures c.fault.ensures c.in-Err.ensures) h

pub returns-in-Err-clause-syntax : goal.returns-in-Err-clause-syntax
returns-in-Err-clause-syntax c =
    let ts = tokens_of c.args.tokens.now in
    reads_syntax ts c.fault.result (reads_of c.end_of.result ts c.in-Err.stop c.fault.result c.end_of.ensures c.fault.ensures c.in-Err.ensures)

pub returns-in-Err-clause-offset : goal.returns-in-Err-clause-offset
returns-in-Err-clause-offset c =
    let ts = tokens_of c.args.tokens.now in
    reads_place ts c.fault.result (reads_of c.end_of.result ts c.in-Err.stop c.fault.result c.end_of.ensures c.fault.ensures c.in-Err.ensures)

pub returns-in-Err-clause-deep : goal.returns-in-Err-clause-deep
returns-in-Err-clause-deep c =
    let ts = tokens_of c.args.tokens.now in
    reads_deep ts c.fault.result (reads_of c.end_of.result ts c.in-Err.stop c.fault.result c.end_of.ensures c.fault.ensures c.in-Err.ensures)
