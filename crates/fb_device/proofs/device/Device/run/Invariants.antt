use Rattle.std.proofs.Common.{◌≡◌, map, take, drop, length}
use Rattle.std.specs.List.{AllByRecursion}
use Rattle.fb_model.specs.Devices.{Run}
use Rattle.fb_model.specs.Wires.{leaves}
use Rattle.fb_device_state.specs.Machines.{device_in, cert_in, machine_of}
use Rattle.fb_device.specs.Answers.{event_of, answer_of, HasPlace}
use Rattle.fb_device.proofs.device.Device.run.Given as goal

-- the calls so far are a run
abbrev pub invariant-loop-at : goal.invariant-loop-at
invariant-loop-at l = record {
  run : Run (cert_in l.fn.self) (device_in l.fn.self) (machine_of l.fn.self) (map event_of (take l.at l.steps)) (map (answer_of (leaves (device_in l.fn.self))) (take l.at l.answers)) (machine_of l.self);
  points : AllByRecursion (HasPlace (leaves (device_in l.fn.self))) (take l.at l.answers);
  verified : l.self.verified ≡ l.fn.self.verified;
  number : l.self.number ≡ l.fn.self.number;
  later : drop (length l.steps) l.answers ≡ drop (length l.steps) l.fn.answers;
}
