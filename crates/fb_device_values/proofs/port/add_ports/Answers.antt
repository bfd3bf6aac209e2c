use Rattle.std.proofs.Common.{string_bytes}
use Rattle.fb_device_values.specs.Drafts.{cells_in}
use Rattle.fb_device_values.specs.Filling.{port_cell}
use Rattle.fb_device_values.proofs.Adding.{added_next}
use Rattle.fb_device_values.proofs.port.add_ports.Goals as goal

pub loop-name-preserved : goal.loop-name-preserved
loop-name-preserved c =
    added_next (λ s. port_cell (string_bytes s)) c.args.names.now c.loop-name.name-index c.name-item.result (cells_in c.args.drafts.now.items) (cells_in c.loop-name.drafts.items) (cells_in c.add.new.drafts.items)
    c.loop-name-test.true c.name-item.is c.loop-name.invariant (rw c.as_str.ensures.value at c.in_ok-add.ensures)
