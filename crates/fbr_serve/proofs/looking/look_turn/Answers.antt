use Rattle.std.proofs.Common.{length, subst}
use Rattle.fb_device_state.specs.Machines.{device_in}
use Rattle.fb_turn.specs.Turns.{IsTold}
use Rattle.fbr_serve.proofs.Served.{any_watch}
use Rattle.fbr_serve.proofs.looking.look_turn.Goals as goal

pub returns-in-Ok-clause-taken : goal.returns-in-Ok-clause-taken
returns-in-Ok-clause-taken g c =
    let e = c.turn-turned.ensures.turn in
    let told = subst (IsTold e.0 (length (device_in c.args.device.now).resources)) c.in-Ok.is e.2 in (
      e.0,
      any_watch _ _ _ _ _ _ _ _ _ e.0 _ _ _ e.1,
      (record { uncut = told.0; each = told.1 }, told.2),
    )

pub returns-in-Err-clause-taken : goal.returns-in-Err-clause-taken
returns-in-Err-clause-taken g c =
    let e = c.turn-turned.ensures.turn in
    let told = subst (IsTold e.0 (length (device_in c.args.device.now).resources)) c.in-Err.is e.2 in (e.0, any_watch _ _ _ _ _ _ _ _ _ e.0 _ _ _ e.1, record { cut = told.0; none = told.1 })
