-- What contracts see of a device: what was checked, and how far the device has come, in lists.
use Rattle.std.specs.Prelude.{ℕ, ◌^◌, List, Option, None, Some}
use Rattle.st_exec.specs.Cells.{Cell}
use Rattle.fb_verified.specs.declared.verified.Verified.{Verified}
use Rattle.fb_chart.specs.declared.memory.Condition.{Condition}
use Rattle.fb_sched.specs.Agenda.{Agenda}
use Rattle.fb_device_state.specs.declared.program.Program.{Program}
use Rattle.fb_device_state.specs.declared.program.Running.{Running}

pub record Session : Type 0 where
  pub verified : Verified
  -- the number of the device in it
  pub number : ℕ
  -- what each resource has pending, and its causes that have not ended
  pub queues : List Agenda
  -- of each leaf the working values, the issued outputs, and what it remembers
  pub own : List (List Cell)
  pub issued : List (List Cell)
  pub conditions : List Condition
  pub clock : ℕ
  pub next : ℕ

-- the next cause; all numbers below 2^64 are causes
abbrev pub next_of : Option ℕ → ℕ
next_of None = 2 ^ 64
next_of (Some n) = n

abbrev pub session_of : Program → Running → Session
session_of p r =
    record {
      verified = p.verified.value;
      number = p.number;
      queues = r.queues.items;
      own = r.memory.own.items;
      issued = r.memory.issued.items;
      conditions = r.memory.conditions.items;
      clock = r.clock;
      next = next_of r.next;
    }
