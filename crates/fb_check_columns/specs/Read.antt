-- Rows that are read once.
use Rattle.std.specs.Prelude.{◌≡◌, map}
use Rattle.fb_check_columns.specs.declared.rows.Rows.{Rows}
use Rattle.fb_check_columns.specs.Reckoning.{table_names, charge_of, weight_of}

-- the numbers are the charges of the states and the weights of the event inputs, in their orders
pub record AreRead (rows : Rows) : Type 0 where
  pub charges : rows.charges.now ≡ map (charge_of rows.column rows.certificate.now rows.path.now) (table_names rows.block.now.states)
  pub weights : rows.weights.now ≡ map (weight_of rows.column rows.certificate.now rows.path.now) (table_names rows.block.now.face.event_inputs)
