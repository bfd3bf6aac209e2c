use Rattle.std.proofs.Common.{map, string_bytes}
use Rattle.fb_types_blocks.specs.Views.{names_of}
use Rattle.fb_device_tables.specs.Filling.{IsTakeMade, seats_of}
use Rattle.fb_lists.proofs.Lists.{there_at}
use Rattle.fb_device_tables.proofs.Lists.{each_more}
use Rattle.fb_device_tables.proofs.take.takes.Goals as goal

pub loop-name-preserved : goal.loop-name-preserved
loop-name-preserved c =
    let g = there_at string_bytes c.args.names.now c.loop-name.name-index c.name-item.result c.loop-name-test.true c.name-item.is in
    each_more (IsTakeMade (names_of c.args.paths.now) (seats_of c.args.seats.now) c.args.own.now c.args.inputs.now) (map string_bytes c.args.names.now) c.loop-name.name-index (string_bytes c.name-item.result) c.loop-name.takes.items c.push.new.self.items c.in_ok-taken.field-0
    g.0 g.1 c.in_ok-push.ensures.items c.loop-name.invariant c.in_ok-taken.ensures
