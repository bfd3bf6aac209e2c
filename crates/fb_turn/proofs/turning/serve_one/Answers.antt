use Rattle.fb_model.specs.Wires.{leaves}
use Rattle.fb_device_dispatch.specs.Answers.{dispatched_of}
use Rattle.fb_device_state.specs.Machines.{device_in}
use Rattle.fb_model.specs.Turning.{Served}
use Rattle.fb_turn.proofs.Turned.{along}
use Rattle.fb_turn.proofs.turning.serve_one.Goals as goal

pub returns-clause-served : goal.returns-clause-served
returns-clause-served g c =
    let all = leaves (device_in c.args.device.now) in
    let same = c.dispatch-answer.ensures.same in
    let seen = along c.dispatch-answer.new.self c.args.device.now (λ cert device. g.W.Watch.sees c.args.watch.now (Served (dispatched_of (leaves device) c.dispatch-answer.result) c.give_out-outcome.result.taken) c.served.new.self) same.0 same.1 c.served.ensures in (
      record { answer = dispatched_of all c.dispatch-answer.result; taken = c.give_out-outcome.result.taken },
      record { happens = c.dispatch-answer.ensures.step; out = c.give_out-outcome.ensures.out all; seen = seen },
      c.give_out-outcome.ensures.counts all,
    )
