use Rattle.std.proofs.Common.{◌≡◌, ◌∙◌, sym, ap, subst}
use Rattle.std.specs.List.{AllByRecursion}
use Rattle.fb_model.specs.System as system
use Rattle.fb_model.specs.Wires.{Charted}
use Rattle.fb_model.specs.Clear.{Spans}
use Rattle.fb_model.specs.Ranges.{rows, IsClearAlgorithm}
use Rattle.fb_cert.specs.Views.{certificate_of}
use Rattle.fb_ranges.specs.Views.{spans_of}
use Rattle.fb_types_blocks.specs.Views.{block_of}
use Rattle.fb_check_columns.specs.Columns.{unit_of}
use Rattle.fb_check_columns.specs.Fitting.{AlgorithmsClear}
use Rattle.fb_check_columns.proofs.Sharing.{counts, counted, free}
use Rattle.fb_check_columns.proofs.costed.algorithm_costs.Goals as goal

pub returns-in_ok-rows-in-Steps-clause-values : goal.returns-in_ok-rows-in-Steps-clause-values
returns-in_ok-rows-in-Steps-clause-values c =
    λ b path kind known.
    let k = c.args.block.now.value in
    let ranges = (certificate_of c.args.certificate.now).ranges in
    let ps = (block_of k).procedures in
    let same : spans_of c.in_ok-rows-in-Steps.rows ≡ rows ranges b.path b.kind = c.in_ok-rows-in-Steps.ensures.rows b path (sym (ap (λ x. Charted (block_of x)) c.deref.ensures ∙ kind)) known.words in
    let clear : AlgorithmsClear ranges b.path (Charted (block_of k)) = subst (AlgorithmsClear ranges b.path) (sym kind) known.clear in
    let under : AllByRecursion (λ (p : system.Procedure). IsClearAlgorithm (rows ranges b.path b.kind) p.algorithm) ps =
    subst (λ (spans : Spans). AllByRecursion (λ (p : system.Procedure). IsClearAlgorithm spans p.algorithm) ps) (ap (rows ranges b.path) kind) clear in
    counted (unit_of c.args.column) (spans_of c.in_ok-rows-in-Steps.rows) (rows ranges b.path b.kind) (block_of k) c.shared.result (counts c.args.column c.in-Steps.is) same under c.shared.ensures.values

pub returns-in_ok-no_costs-in-Places-clause-values : goal.returns-in_ok-no_costs-in-Places-clause-values
returns-in_ok-no_costs-in-Places-clause-values c =
    λ b path kind known.
    let spans = rows (certificate_of c.args.certificate.now).ranges b.path b.kind in
    free (unit_of c.args.column) spans c.args.block.now.value.procedures.entries c.in_ok-no_costs-in-Places.field-0.items (ap unit_of c.in-Places.is) (rw c.deref-in-Places.ensures at c.in_ok-no_costs-in-Places.ensures)
