use Rattle.std.proofs.Common.{◌≡◌, length, refl, rules}
use Rattle.fb_record.specs.Views.{entry_of}
use Rattle.fb_device_state.specs.Machines.{device_in, cert_in, machine_of}
use Rattle.fbr_notices.specs.Sums.{TurnAt}
use Rattle.fbr_serve.proofs.Handing.{retaken}
use Rattle.fbr_serve.proofs.replay.take_entry.Goals as goal

pub returns-then-is_blind-clause-taken : goal.returns-then-is_blind-clause-taken
returns-then-is_blind-clause-taken g c =
    let e = c.take_turn.ensures.taken in
    let rooms : c.from-room.result ≡ length (device_in c.args.device.now).resources = search rules in
    let x : TurnAt = record { now = c.args.entry.now; turn = e.0 } in (
      x,
      retaken (cert_in c.args.device.now) (device_in c.args.device.now) (machine_of c.args.device.now) (machine_of c.take_turn.new.device) (entry_of c.args.entry) x c.in_ok-link.link c.take_turn.new.link c.from-room.result c.requires refl c.in_ok-link.ensures rooms e.1 _ e.2,
      e.2,
    )

pub returns-clause-taken : goal.returns-clause-taken
returns-clause-taken g c =
    let e = c.look_turn.ensures.taken in
    let rooms : c.from-room.result ≡ length (device_in c.args.device.now).resources = search rules in
    let x : TurnAt = record { now = c.args.entry.now; turn = e.0 } in (
      x,
      retaken (cert_in c.args.device.now) (device_in c.args.device.now) (machine_of c.args.device.now) (machine_of c.look_turn.new.device) (entry_of c.args.entry) x c.in_ok-link.link c.look_turn.new.link c.from-room.result c.requires refl c.in_ok-link.ensures rooms e.1 _ e.2,
      e.2,
    )
