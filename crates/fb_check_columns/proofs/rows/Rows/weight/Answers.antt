use Rattle.std.proofs.Common.{sym, ◌∙◌}
use Rattle.fb_check_columns.specs.Reckoning.{table_names}
use Rattle.fb_check_columns.proofs.Values.{placed, placed_name}
use Rattle.fb_check_columns.proofs.rows.Rows.weight.Goals as goal

pub returns-in-Some-clause-value : goal.returns-in-Some-clause-value
returns-in-Some-clause-value c =
    let table = c.args.self.now.block.now.face.event_inputs in
    let x = c.args.event.now in
    c.weight_at.ensures.value x (placed_name (table_names table) x c.in-Some.index (placed table x ∙ sym c.in-Some.ensures.index))
