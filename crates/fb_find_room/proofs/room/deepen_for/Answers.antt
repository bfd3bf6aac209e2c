use Rattle.fb_types.specs.Views.{system_of}
use Rattle.fb_verified.proofs.Written.{tables_are}
use Rattle.fb_find_room.proofs.room.deepen_for.Goals as goal

pub returns : goal.returns
returns c =
    let s = system_of c.args.typed.now in
    c.deepen_all-done.ensures s.devices (tables_are s c.in-Ok.flat.devices.items c.stands_in_text.ensures c.in-Ok.ensures.leaves)
