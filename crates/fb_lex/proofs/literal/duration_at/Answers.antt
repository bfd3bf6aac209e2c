use Rattle.std.proofs.Common.{ap, arith}
use Rattle.fb_model.specs.Tokens as book
use Rattle.fb_lex.specs.Scanning.{lasting}
use Rattle.fb_lex.proofs.literal.duration_at.Goals as goal

pub returns : goal.returns
returns c =
    let s = c.in_ok-milliseconds.ensures 5 (omega arith) in
    (book.duration c.args.negative s.0, ap (lasting c.args.negative) s.1, c.duration.ensures s.0 s.2)
