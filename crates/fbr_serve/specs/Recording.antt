-- What is recorded of a device, and taken again: this project's profile.
use Rattle.std.specs.Prelude.{◌≡◌, ◌⊎◌, ℕ, ◌+◌, ◌≤◌, List, [], ◌∷◌, ◌++◌, length, map, Bool, true, false, Option, None, Some, Result, Ok, Err, if◌then◌else◌}
use Rattle.std.specs.Str.{is_utf8}
use Rattle.std.specs.List.{flat_map}
use Rattle.std.specs.Io.KnownBytes.{Appends, Consumes, IsAtEnd}
use Rattle.fb_model.specs.CertificateText.{words}
use Rattle.fb_model.specs.System.{Device}
use Rattle.fb_model.specs.Certificates.{Certificate}
use Rattle.fb_model.specs.Devices.{Machine}
use Rattle.fb_link.specs.Memory.{Memory, MemorySteps}
use Rattle.fb_record.specs.Records.{Entry, entry_in, line_of, word_of}
use Rattle.fb_model.specs.Turning.{Turn, Sight, Came, Served, is_cut}
use Rattle.fbr_lines.specs.Reading.{TakesLast, TakesLine, TakesPart}
use Rattle.fbr_serve.specs.declared.replay.Halt.{Halt}
use Rattle.fbr_serve.specs.declared.replay.Halt.TheVariants.{Line, Memory as Spent, Unreadable}
use Rattle.fbr_notices.specs.declared.stop.Stop.{Stop}
use Rattle.fbr_notices.specs.declared.sums.Sums.{Sums}
use Rattle.fbr_serve.specs.declared.turns.Ran.{Ran}
use Rattle.fbr_notices.specs.Sums.{TurnAt, sums_of}
use Rattle.fbr_serve.specs.Serving.{IsTaken, IsWhole, IsCutOff}

-- what came in a turn
abbrev pub entry_of : TurnAt → Entry
entry_of x = record { now = x.now; datagrams = map (λ r. r.bytes) x.turn.receipts; down = is_cut x.turn.close }

-- its line, and a line feed
abbrev pub record_line : TurnAt → List ℕ
record_line x = line_of (entry_of x) ++ 10 ∷ []

-- a datagram that came as a word behind a space
abbrev pub sight_word : Sight → List ℕ
sight_word (Came bytes answer) = 32 ∷ word_of bytes
sight_word (Served answer taken) = []

-- what a record holds, where that is known, and whether it has ended
pub record Held : Type 0 where
  pub bytes : Option (List ℕ)
  pub lost : Bool

-- the record takes the line of a turn, unless it has ended
abbrev pub RecordsTurn : Held → Held → TurnAt → Type 0
RecordsTurn old new x = new.lost ≡ false → (old.lost ≡ false) × Appends old.bytes new.bytes (record_line x)

-- and the lines of turns
abbrev pub Records : Held → Held → List TurnAt → Type 0
Records old new all = new.lost ≡ false → (old.lost ≡ false) × Appends old.bytes new.bytes (flat_map record_line all)

-- ---- a record that is played

-- a link in memory that hands out what came in a turn, fails where a receive did, and takes so many datagrams
abbrev pub plays : Entry → ℕ → Memory
plays e room =
    record {
      waiting = e.datagrams;
      taken = [];
      room = room;
      failing_receives = if e.down then (length e.datagrams + 1) ∷ [] else [];
      failing_sends = [];
      receives = 0;
      sends = 0;
      failures = 0;
    }

-- each resource was dispatched once in a turn, or it was cut off by a receive that failed, and none was
abbrev pub IsEnded : Device → Turn → Type 0
IsEnded device turn = IsWhole device turn ⊎ IsCutOff turn

-- a turn of a device, over a link in memory, in which just this came
pub record Retakes (cert : Certificate) (device : Device) (s : Machine) (e : Entry) (x : TurnAt) (t : Machine) : Type 0 where
  pub link : Memory
  pub taken : IsTaken cert device MemorySteps (λ m. m.failures) s (plays e (length device.resources)) x t link
  pub came : entry_of x ≡ e
  pub ended : IsEnded device x.turn

-- what the bytes of a line say has come in a turn, where they are a text that says a turn
abbrev pub entry_said : List ℕ → Option Entry
entry_said line = if is_utf8 line then entry_in (words line) else None

-- turns are taken of the lines of a stream, in order: what is left of it, and where the device comes to
pub data Retaken (cert : Certificate) (device : Device) (held : Option (List ℕ)) (s : Machine) : List TurnAt → Option (List ℕ) → Machine → Type 0 where
  none : Retaken cert device held s [] held s
  more : {xs : List TurnAt} {x : TurnAt} {e : Entry} {line : List ℕ} {rest end : Option (List ℕ)} {m t : Machine}
      → Retaken cert device held s xs rest m → TakesLine rest end line → entry_said line ≡ Some e → Retakes cert device m e x t → Retaken cert device held s (xs ++ x ∷ []) end t

-- nothing is left, or a line that was cut
abbrev pub IsOver : Option (List ℕ) → Type 0
IsOver rest = (end : Option (List ℕ)) × ((Consumes rest end [] × IsAtEnd end) ⊎ ((line : List ℕ) × TakesLast rest end line))

-- the next line says no turn
abbrev pub SaysNone : ℕ → Option (List ℕ) → Type 0
SaysNone most rest = (end : Option (List ℕ)) × (line : List ℕ) × ((TakesLine rest end line × (entry_said line ≡ None)) ⊎ TakesPart most rest end line)

-- all turns were taken, of which these are the sums; or the last is one in which a receive failed
abbrev pub IsSummed : List TurnAt → Option (List ℕ) → Result Sums Stop → Type 0
IsSummed all rest (Ok sums) = IsOver rest × (sums ≡ sums_of all)
IsSummed all rest (Err stop) = (before : List TurnAt) × (last : TurnAt) × (all ≡ before ++ last ∷ []) × IsCutOff last.turn

-- they end so, or before a line that says no turn, whose number is told; or the record cannot be read on, or there is no memory
abbrev pub EndsTaken : List TurnAt → Option (List ℕ) → Result Ran Halt → Type 0
EndsTaken all rest (Ok ran) = IsSummed all rest ran.end
EndsTaken all rest (Err (Line n)) = (n ≡ length all + 2) × SaysNone 8192 rest
EndsTaken all rest (Err Spent) = Unit {0}
EndsTaken all rest (Err Unreadable) = Unit {0}
