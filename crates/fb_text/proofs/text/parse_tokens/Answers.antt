use Rattle.fb_lex.specs.Views.{tokens_of}
use Rattle.fb_tree.specs.Files.{source_of}
use Rattle.fb_text.proofs.Laws.{tree_spelled, tree_same, reads_of, reads_only, reads_syntax, reads_place, reads_deep}
use Rattle.fb_text.proofs.text.parse_tokens.Goals as goal

pub returns-in-Ok-clause-found : goal.returns-in-Ok-clause-found
returns-in-Ok-clause-found c = tree_spelled (tokens_of c.args.tokens.now) (source_of c.in-Ok.source) c.in-Ok.ensures

pub returns-in-Ok-clause-only : goal.returns-in-Ok-clause-only
returns-in-Ok-clause-only c = λ x h. tree_same (tokens_of c.args.tokens.now) (source_of c.in-Ok.source) x c.in-Ok.ensures h

pub returns-in-Err-clause-only : goal.returns-in-Err-clause-only
returns-in-Err-clause-only c =
    let ts = tokens_of c.args.tokens.now in
    λ x h. reads_only c.args.length ts c.fault.result x (reads_of c.args.length ts c.in-Err.stop c.fault.result c.fault.ensures c.in-Err.ensures) h

pub returns-in-Err-clause-syntax : goal.returns-in-Err-clause-syntax
returns-in-Err-clause-syntax c =
    let ts = tokens_of c.args.tokens.now in
    reads_syntax c.args.length ts c.fault.result (reads_of c.args.length ts c.in-Err.stop c.fault.result c.fault.ensures c.in-Err.ensures)

pub returns-in-Err-clause-offset : goal.returns-in-Err-clause-offset
returns-in-Err-clause-offset c =
    let ts = tokens_of c.args.tokens.now in
    reads_place c.args.length ts c.fault.result (reads_of c.args.length ts c.in-Err.stop c.fault.result c.fault.ensures c.in-Err.ensures)

pub returns-in-Err-clause-deep : goal.returns-in-Err-clause-deep
returns-in-Err-clause-deep c =
    let ts = tokens_of c.args.tokens.now in
    reads_deep c.args.length ts c.fault.result (reads_of c.args.length ts c.in-Err.stop c.fault.result c.fault.ensures c.in-Err.ensures)
