use Rattle.std.proofs.Common.{◌∙◌, ap, arith}
use Rattle.fb_lex.specs.Scanning.{and_more}
use Rattle.fb_lex.proofs.Spans.{span_is}
use Rattle.fb_lex.proofs.span.+span_at.Goals as goal

pub returns-in-Some : goal.returns-in-Some
returns-in-Some t c = λ m h.
    let a = c.in_ok-unit.ensures in
    let s = span_is m c.args.least c.args.bytes.now c.in_ok-unit.unit a.0 c.in_ok-unit.rest.now c.rank-2.result c.behind_joint.result.now c.rank-2.ensures.value c.behind_joint.ensures a.1 (omega arith) c.rank-2.ensures.within h in
    let q = c.in-Some.ensures s.0 s.1 in
    (_, s.2 ∙ ap (and_more a.0 c.in_ok-unit.rest.now) q.1, c.plus.ensures a.0 q.0 a.2 q.2)

pub returns-in-None : goal.returns-in-None
returns-in-None t c = λ m h.
    let a = c.in_ok-unit.ensures in
    let s = span_is m c.args.least c.args.bytes.now c.in_ok-unit.unit a.0 c.in_ok-unit.rest.now c.rank-2.result c.behind_joint.result.now c.rank-2.ensures.value c.behind_joint.ensures a.1 (omega arith) c.rank-2.ensures.within h in
    (a.0, s.2 ∙ ap (and_more a.0 c.in_ok-unit.rest.now) (c.in-None.ensures s.0 s.1), a.2)
