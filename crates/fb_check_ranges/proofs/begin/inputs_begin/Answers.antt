use Rattle.std.proofs.Common.{subst, ap, ◌∙◌}
use Rattle.std.proofs.lemmas.Result.{err_from_is_err_and}
use Rattle.fb_model.specs.System.{start_of}
use Rattle.fb_model.specs.Store.{first_input}
use Rattle.fb_model.specs.Wires.{Source}
use Rattle.fb_flat.specs.Tables.{source_at}
use Rattle.fb_ranges_intervals.specs.Views.{span_of}
use Rattle.fb_check_ranges.specs.Beginning.{NamedVariable, entry_name, shown, IsRange, InputBegins}
use Rattle.fb_check_ranges.specs.Clearing.{InputFails}
use Rattle.fb_model.proofs.Lists.{got}
use Rattle.fb_check_ranges.proofs.Lists.{all_more}
use Rattle.fb_check_ranges.proofs.Blaming.{one_named}
use Rattle.fb_check_ranges.proofs.begin.inputs_begin.Goals as goal

pub returns-in_err-variable_begins : goal.returns-in_err-variable_begins
returns-in_err-variable_begins c =
    let p = err_from_is_err_and c.from_residual.result c.from_residual.ensures.1 in
    let e : NamedVariable = (c.in-Some.name.now, c.in-Some.variable.now) in
    let g = got c.args.variables.now.entries c.loop-index.index e c.in-Some.ensures.entry in
    let source = source_at c.args.inputs.now in
    let first : IsRange (span_of c.first_range-first.result) (first_input (source (entry_name e)) (start_of (shown e))) =
    subst (λ (s : Source). IsRange (span_of c.first_range-first.result) (first_input s (start_of (shown e)))) (c.source_named.ensures ∙ ap source c.as_str-name.ensures.value) (c.first_range-first.ensures (entry_name e)) in
    rw (p.1, p.2) (one_named c.args.path.now entry_name (InputFails c.args.certificate.now c.args.path.now source) c.args.variables.now.entries c.loop-index.index e c.in_err-variable_begins.field-0.0 g.0 g.1
    (rw c.as_str-name.ensures.value at (c.in_err-variable_begins.ensures (first_input (source (entry_name e)) (start_of (shown e))) first)))

pub loop-index-preserved : goal.loop-index-preserved
loop-index-preserved c =
    let e : NamedVariable = (c.in-Some.name.now, c.in-Some.variable.now) in
    let g = got c.args.variables.now.entries c.loop-index.index e c.in-Some.ensures.entry in
    let source = source_at c.args.inputs.now in
    let first : IsRange (span_of c.first_range-first.result) (first_input (source (entry_name e)) (start_of (shown e))) =
    subst (λ (s : Source). IsRange (span_of c.first_range-first.result) (first_input s (start_of (shown e)))) (c.source_named.ensures ∙ ap source c.as_str-name.ensures.value) (c.first_range-first.ensures (entry_name e)) in
    all_more (λ (x : NamedVariable). InputBegins c.args.certificate.now c.args.path.now source (shown x)) c.args.variables.now.entries c.loop-index.index e g.0 g.1 c.loop-index.invariant
    (rw c.as_str-name.ensures.value at (c.in_ok-variable_begins.ensures (first_input (source (entry_name e)) (start_of (shown e))) first))
