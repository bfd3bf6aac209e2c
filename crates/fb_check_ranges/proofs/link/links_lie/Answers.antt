use Rattle.std.proofs.lemmas.Result.{err_from_is_err_and}
use Rattle.fb_flat.specs.Tables.{source_at}
use Rattle.fb_check_ranges.specs.Beginning.{NamedVariable, entry_name, shown, LinkLies}
use Rattle.fb_check_ranges.specs.Clearing.{LinkFails}
use Rattle.fb_model.proofs.Lists.{got}
use Rattle.fb_check_ranges.proofs.Lists.{all_more}
use Rattle.fb_check_ranges.proofs.Blaming.{one_named}
use Rattle.fb_check_ranges.proofs.link.links_lie.Goals as goal

pub returns-in_err-link_lies : goal.returns-in_err-link_lies
returns-in_err-link_lies c =
    λ ls h.
    let p = err_from_is_err_and c.from_residual.result c.from_residual.ensures.1 in
    let e : NamedVariable = (c.in-Some.name.now, c.in-Some.variable.now) in
    let g = got c.args.variables.now.entries c.loop-index.index e c.in-Some.ensures.entry in
    rw (p.1, p.2) (one_named c.args.path.now entry_name (LinkFails c.args.certificate.now c.args.path.now ls (source_at c.args.inputs.now)) c.args.variables.now.entries c.loop-index.index e c.in_err-link_lies.field-0.0 g.0 g.1
    (rw c.as_str-name.ensures.value at (rw c.source_named-source.ensures at (c.in_err-link_lies.ensures ls h))))

pub loop-index-preserved : goal.loop-index-preserved
loop-index-preserved c =
    λ ls h.
    let e : NamedVariable = (c.in-Some.name.now, c.in-Some.variable.now) in
    let g = got c.args.variables.now.entries c.loop-index.index e c.in-Some.ensures.entry in
    all_more (λ (x : NamedVariable). LinkLies c.args.certificate.now c.args.path.now ls (source_at c.args.inputs.now) (shown x)) c.args.variables.now.entries c.loop-index.index e g.0 g.1 (c.loop-index.invariant ls h)
    (rw c.as_str-name.ensures.value at (rw c.source_named-source.ensures at (c.in_ok-link_lies.ensures ls h)))
