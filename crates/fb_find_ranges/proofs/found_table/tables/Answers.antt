use Rattle.std.proofs.Common.{map, arith}
use Rattle.fb_ranges.specs.Views.{spans_of}
use Rattle.fb_check_rows.proofs.Members.{rest_of}
use Rattle.fb_find_ranges.proofs.Tabled.{next_device, last_device, tables_found}
use Rattle.fb_find_ranges.proofs.found_table.tables.Goals as goal

pub loop-device-preserved : goal.loop-device-preserved
loop-device-preserved c =
    let fs = c.args.flat.now.devices.items in
    let i = c.loop-device.device-index in
    next_device fs i c.device-item.result (map spans_of c.loop-device.all.items) (map spans_of c.add_tables.new.all.items) (rest_of fs i c.device-item.result (rw c.deref-device-items.ensures.value at c.loop-device-test.true) (rw c.deref-device-items.ensures.value at c.device-item.is)) c.in_ok-add_tables.ensures c.loop-device.invariant

pub returns : goal.returns
returns c =
    let fs = c.args.flat.now.devices.items in
    let all = map spans_of c.loop-device.all.items in
    tables_found fs all (last_device fs c.loop-device.device-index all (omega (arith, rw c.deref-device-items.ensures.value at c.loop-device-test.false)) c.loop-device.invariant)
