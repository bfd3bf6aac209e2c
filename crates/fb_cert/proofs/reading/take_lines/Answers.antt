use Rattle.std.proofs.Common.{length, refl, arith, zero-add}
use Rattle.std.proofs.lemmas.Iterator.Splits.{YieldsList-from_lines}
use Rattle.std.proofs.lemmas.Result.{err_from_is_err_and}
use Rattle.std.specs.Str.Lines.{lines}
use Rattle.fb_cert.proofs.Lines.{turn, next, failed, ended, lines_le}
use Rattle.fb_cert.proofs.reading.take_lines.Goals as goal

pub loop-line-init : goal.loop-line-init
loop-line-init c =
    record {
      rest = lines c.args.text.now;
      yields = (YieldsList-from_lines c.args.text.now (rw c.into_iter-line-iterator.ensures.into_iter_gives c.lines-line-items.ensures.rest)).runs;
      same = refl;
      counted = zero-add (length (lines c.args.text.now));
    }

pub overflow_add-number : goal.overflow_add-number
overflow_add-number c = omega (arith, c.loop-line.invariant.counted, lines_le c.args.text.now, c.requires)

pub returns-in_err-take_line : goal.returns-in_err-take_line
returns-in_err-take_line c =
    let p = err_from_is_err_and c.from_residual.result c.from_residual.ensures.1 in
    rw p.1 (rw p.2 (failed c.in_err-take_line.field-0.0 (turn {t = c.next.new.self} c.in-Some.line c.loop-line.invariant c.in-Some.ensures.steps) c.in_err-take_line.ensures))

pub loop-line-preserved : goal.loop-line-preserved
loop-line-preserved c = next (turn c.in-Some.line c.loop-line.invariant c.in-Some.ensures.steps) c.in_ok-take_line.ensures

pub returns : goal.returns
returns c = ended c.loop-line.invariant c.in-None.ensures.steps
