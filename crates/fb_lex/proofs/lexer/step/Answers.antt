use Rattle.std.proofs.Common.{arith}
use Rattle.fb_lex.proofs.Steps.{scan_shorter}
use Rattle.fb_lex.proofs.lexer.step.Goals as goal

pub overflow_sub-end : goal.overflow_sub-end
overflow_sub-end c = let s = scan_shorter c.args.rest.now c.in_ok-kind.behind.now _ c.in_ok-kind.ensures.0 in omega arith
