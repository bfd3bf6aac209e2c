use Rattle.std.proofs.Common.{◌≡◌, ◌+◌, List, length}
use Rattle.std.specs.Io.Buffered.{reader_remaining}
use Rattle.fb_device_state.specs.Machines.{device_in, cert_in, machine_of}
use Rattle.fbr_notices.specs.Sums.{TurnAt, sums_of}
use Rattle.fbr_serve.specs.Recording.{Retaken}
use Rattle.fbr_serve.proofs.replay.take_lines.Given as goal

-- turns were taken of the lines so far
abbrev pub invariant-loop-at : goal.invariant-loop-at
invariant-loop-at g l =
    (all : List TurnAt)
    × Retaken (cert_in l.fn.device) (device_in l.fn.device) (reader_remaining g.R.Read.remaining l.fn.reader) (machine_of l.fn.device) all (reader_remaining g.R.Read.remaining l.reader) (machine_of l.device)
    × (l.at ≡ length all + 2)
    × (l.sums ≡ sums_of all)
    × (l.device.verified ≡ l.fn.device.verified)
    × (l.device.number ≡ l.fn.device.number)
