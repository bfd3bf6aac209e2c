use Rattle.fb_device_tables.proofs.Charts.{code_done}
use Rattle.fb_device_tables.proofs.chart.code.Goals as goal

pub returns : goal.returns
returns c = code_done c.args.own.now c.args.block.now (record { states = c.in_ok-states.states; procedures = c.in_ok-procedures.procedures }) (record { states = c.in_ok-states.ensures; procedures = c.in_ok-procedures.ensures })
