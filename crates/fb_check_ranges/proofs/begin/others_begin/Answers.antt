use Rattle.std.proofs.lemmas.Result.{err_from_is_err_and}
use Rattle.fb_model.specs.System.{start_of}
use Rattle.fb_check_ranges.specs.Beginning.{NamedVariable, entry_name, shown, OtherBegins}
use Rattle.fb_check_ranges.specs.Clearing.{OtherFails}
use Rattle.fb_model.proofs.Lists.{got}
use Rattle.fb_check_ranges.proofs.Lists.{all_more}
use Rattle.fb_check_ranges.proofs.Blaming.{one_named}
use Rattle.fb_check_ranges.proofs.begin.others_begin.Goals as goal

pub returns-in_err-variable_begins : goal.returns-in_err-variable_begins
returns-in_err-variable_begins c =
    let p = err_from_is_err_and c.from_residual.result c.from_residual.ensures.1 in
    let e : NamedVariable = (c.in-Some.name.now, c.in-Some.variable.now) in
    let g = got c.args.variables.now.entries c.loop-index.index e c.in-Some.ensures.entry in
    rw (p.1, p.2) (one_named c.args.path.now entry_name (OtherFails c.args.certificate.now c.args.path.now) c.args.variables.now.entries c.loop-index.index e c.in_err-variable_begins.field-0.0 g.0 g.1
    (rw c.as_str-name.ensures.value at (c.in_err-variable_begins.ensures (start_of (shown e)) (c.start_range-first.ensures (entry_name e)))))

pub loop-index-preserved : goal.loop-index-preserved
loop-index-preserved c =
    let e : NamedVariable = (c.in-Some.name.now, c.in-Some.variable.now) in
    let g = got c.args.variables.now.entries c.loop-index.index e c.in-Some.ensures.entry in
    all_more (λ (x : NamedVariable). OtherBegins c.args.certificate.now c.args.path.now (shown x)) c.args.variables.now.entries c.loop-index.index e g.0 g.1 c.loop-index.invariant
    (rw c.as_str-name.ensures.value at (c.in_ok-variable_begins.ensures (start_of (shown e)) (c.start_range-first.ensures (entry_name e))))
