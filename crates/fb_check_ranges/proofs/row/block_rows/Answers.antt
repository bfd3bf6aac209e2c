use Rattle.std.proofs.Common.{◌≡◌, sym, ap, subst, ◌∙◌}
use Rattle.fb_model.specs.Names.{Path}
use Rattle.fb_model.specs.Spelling.{AreWords}
use Rattle.fb_model.specs.Clear.{Spans, reset}
use Rattle.fb_model.specs.Store.{variable_names}
use Rattle.fb_model.specs.Wires.{Kind, Charted}
use Rattle.fb_model.specs.Ranges.{rows}
use Rattle.fb_model_laws.specs.Words.{declared_names}
use Rattle.fb_cert.specs.Views.{certificate_of}
use Rattle.fb_types_blocks.specs.Views.{block_of}
use Rattle.fb_ranges.specs.Views.{spans_of}
use Rattle.fb_check_ranges.specs.Clearing.{rows_of_block}
use Rattle.fb_check_ranges.proofs.Rowing.{all_set, rows_are}
use Rattle.fb_check_ranges.proofs.row.block_rows.Goals as goal

pub returns-clause-table : goal.returns-clause-table
returns-clause-table c =
    let k = block_of c.args.block.now in
    let r : Spans = rows_of_block c.args.certificate.now c.args.path.now c.args.block.now in
    c.in_ok-add_rows-3.ensures
    ∙ ap (reset (variable_names k.internals) r) (c.in_ok-add_rows-2.ensures ∙ ap (reset (variable_names k.outputs) r) (c.in_ok-add_rows.ensures ∙ ap (reset (variable_names k.inputs) r) c.in_ok-rows.ensures))
    ∙ all_set c.args.certificate.now c.args.path.now k.inputs k.outputs k.internals

pub returns-clause-rows : goal.returns-clause-rows
returns-clause-rows c =
    λ leaf path kind words.
    let k = block_of c.args.block.now in
    let ranges = (certificate_of c.args.certificate.now).ranges in
    let known : AreWords (declared_names (Charted k)) = subst (λ (q : Kind). AreWords (declared_names q)) kind words.variables in
    returns-clause-table c
    ∙ rows_are c.args.certificate.now c.args.path.now (Charted k) known
    ∙ ap (λ (p : Path). rows ranges p (Charted k)) path
    ∙ ap (rows ranges leaf.path) (sym kind)
