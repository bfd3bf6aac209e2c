-- Turns of a device over a link, and what `fbr serve` tells: this project's profile.
use Rattle.std.specs.Prelude.{◌≡◌, ◌≤◌, ℕ, ◌+◌, ◌⊎◌, nat_lt, max, Bool, true, false, List, [], ◌∷◌, ◌++◌, length, map, Option, Some, None, Result, Ok, Err, codes, string_bytes, slice_get, option_and_then, if◌then◌else◌}
use Rattle.std.specs.List.{flat_map, AllByRecursion}
use Rattle.std.specs.Fmt.{decimal}
use Rattle.std.specs.Str.{trim}
use Rattle.std.specs.Io.KnownBytes.{Appends}
use Rattle.fb_model.specs.System.{Device}
use Rattle.fb_model.specs.Certificates.{Certificate}
use Rattle.fb_model.specs.Devices.{Machine, at_first}
use Rattle.fb_model.specs.Spelling.{upper}
use Rattle.std.specs.declared.net.ip_addr.IpAddr.{IpAddr}
use Rattle.std.specs.declared.net.socket_addr.SocketAddr.{SocketAddr}
use Rattle.fb_addresses.specs.Addresses.{endpoint_of, parts_of}
use Rattle.fb_words.specs.Links.{LinkCall}
use Rattle.fb_link.specs.Socket.{SocketCall, UdpStep}
use Rattle.fb_turn.specs.Turns.{report_of}
use Rattle.fb_model.specs.Turning.{Turn, Cut, is_cut, Sight, Came, Served, Written, IsTurn, effect_of, writes_for, writes}
use Rattle.fb_turn.specs.declared.turning.Report.{Report}
use Rattle.fb_verdict.specs.Verdicts as verdicts
use Rattle.fb_model.specs.Verdicts as truths
use Rattle.fb_verified.specs.Checked as checked
use Rattle.fb_verified.specs.Lookups.{is_same_path}
use Rattle.fb_device_state.specs.Sessions.{Session}
use Rattle.fb_device_state.specs.Machines.{device_in, cert_in, machine_of}
use Rattle.fb_device.specs.Loads.{IsLoaded, IsUnknown}
use Rattle.fb_script.specs.Texts.{write_text}
use Rattle.fbr_notices.specs.declared.stop.Stop.{Stop}
use Rattle.fbr_notices.specs.declared.stop.Stop.TheVariants as stops
use Rattle.fbr_notices.specs.declared.sums.Sums.{Sums}
use Rattle.fbr_notices.specs.Sums.{TurnAt, sums_of, sums_text}
use Rattle.fbr_serve.specs.declared.turns.Ran.{Ran}
use Rattle.fbr_files.specs.declared.fault.Fault.{Fault}
use Rattle.fbr_files.specs.declared.fault.Fault.TheVariants as faults
use Rattle.fb_numbers.specs.Numbers.{long_number_in}
use Rattle.fbr_files.specs.Outcomes.{Tells, refusal, IsContents, IsReadFault}
use Rattle.fbr_files.specs.Reading.{held_by}
use Rattle.fbr_files.specs.Writing.{Holdings}
use Rattle.fb_pace.specs.declared.buckets.Paced.{Paced}
use Rattle.fb_pace.specs.Pacing.{Asks, Pacing}
use Rattle.fb_seal.specs.declared.peers.Peer.{Peer}
use Rattle.fb_seal.specs.Passing.{Own, SealedStep}
use Rattle.fbr_seals.specs.declared.seals.Seals.{Seals}
use Rattle.fbr_seals.specs.Sealing.{Book, TakesState, WritesDown, book_of}
use Rattle.fbr_words.specs.Program.{Boot, numbered, in_file, Life, Network, Telling, Guard, unsealed, sealed, Service}

-- ---- turns

-- one who watches and tells nothing
abbrev pub Anything : Unit {0} → Sight → Unit {0} → Type 0
Anything _ sight _ = Unit {0}

-- a turn of a device over a link, whoever watches it
abbrev pub IsTaken : {L : Type 0} → Certificate → Device → (L → LinkCall → L → Type 0) → (L → ℕ) → Machine → L → TurnAt → Machine → L → Type 0
IsTaken cert device calls count s l x t m = IsTurn cert device calls count Anything x.now s l tt x.turn t m tt

-- these turns, one after another, lead from the first state of a device and its link to the last
abbrev pub Turns : {L : Type 0} → Certificate → Device → (L → LinkCall → L → Type 0) → (L → ℕ) → Machine → L → List TurnAt → Machine → L → Type 0
Turns cert device calls count s l [] t m = (s ≡ t) × (l ≡ m)
Turns {L} cert device calls count s l (x ∷ xs) t m =
    (between : Machine) × (link : L) × IsTaken cert device calls count s l x between link × Turns cert device calls count between link xs t m

-- a clock told the moments of these turns, one look at it for each
abbrev pub IsTimed : {C : Type 0} → (C → ℕ → C → Type 0) → C → List TurnAt → C → Type 0
IsTimed tells c [] d = c ≡ d
IsTimed {C} tells c (x ∷ xs) d = (between : C) × tells c x.now between × IsTimed tells between xs d

-- a turn in which no receive failed: each resource was dispatched once
pub record IsWhole (device : Device) (turn : Turn) : Type 0 where
  pub uncut : is_cut turn.close ≡ false
  pub each : length turn.services ≡ length device.resources

-- a turn that a failed receive cut off: nothing was dispatched
pub record IsCutOff (turn : Turn) : Type 0 where
  pub cut : turn.close ≡ Cut
  pub none : turn.services ≡ []

-- ---- what they print

-- the moment in milliseconds and a blank, where lines begin with the clock
abbrev pub clock_text : Bool → ℕ → List ℕ
clock_text timed now = if timed then decimal now ++ codes " " else []

-- `write 1 9`, or `12304 write 1 9`, and a line feed
abbrev pub write_line : Bool → ℕ → Written → List ℕ
write_line timed now w = clock_text timed now ++ (write_text w.number w.values ++ 10 ∷ [])

-- a line for each write of a turn, in order
abbrev pub turn_lines : Bool → TurnAt → List ℕ
turn_lines timed x = flat_map (write_line timed x.now) (flat_map writes x.turn.services)

abbrev pub lines_of : Bool → List TurnAt → List ℕ
lines_of timed all = flat_map (turn_lines timed) all

-- the line for what is seen, where a dispatch writes
abbrev pub sight_lines : Bool → ℕ → Sight → List ℕ
sight_lines timed now (Came bytes answer) = []
sight_lines timed now (Served answer taken) = flat_map (write_line timed now) (writes_for (effect_of answer))

-- ---- one turn

-- what a turn comes to: its report, or why it was the last
abbrev pub EndsTurn : Device → Turn → Result Report Stop → Type 0
EndsTurn device turn (Ok report) = IsWhole device turn × (report ≡ report_of turn)
EndsTurn device turn (Err stops.LinkDown) = IsCutOff turn
EndsTurn device turn (Err stops.Output) = ⊥
EndsTurn device turn (Err stops.Clock) = ⊥

-- the writer took the lines of a turn, unless one was lost
abbrev pub PrintsTurn : Bool → Option (List ℕ) → Option (List ℕ) → TurnAt → Bool → Type 0
PrintsTurn timed old new x lost = lost ≡ false → Appends old new (turn_lines timed x)

-- ---- all turns

-- all turns but the last are whole, which a failed receive cut off
pub record EndsCutOff (device : Device) (all : List TurnAt) : Type 0 where
  pub before : List TurnAt
  pub last : TurnAt
  pub all_are : all ≡ before ++ last ∷ []
  pub whole : AllByRecursion (λ x. IsWhole device x.turn) before
  pub cut : IsCutOff last.turn

-- turns that were to be so many at most come to these sums, or end early: where a receive failed, where a line was lost that may not be, or where there was no clock.
-- They are exactly so many where nothing else was to end them.
abbrev pub EndAs : Device → Bool → ℕ → List TurnAt → Result Sums Stop → Type 0
EndAs device until n all (Ok sums) = (length all ≤ n) × (until ≡ false → length all ≡ n) × AllByRecursion (λ x. IsWhole device x.turn) all × (sums ≡ sums_of all)
EndAs device until n all (Err stops.LinkDown) = (length all ≤ n) × EndsCutOff device all
EndAs device until n all (Err stops.Output) = (length all ≤ n) × AllByRecursion (λ x. IsWhole device x.turn) all
EndAs device until n all (Err stops.Clock) = (length all ≤ n) × AllByRecursion (λ x. IsWhole device x.turn) all

-- the writer took the lines of the turns, unless one was lost
abbrev pub Prints : Bool → Option (List ℕ) → Option (List ℕ) → List TurnAt → Bool → Type 0
Prints timed old new all lost = lost ≡ false → Appends old new (lines_of timed all)

-- lines that are lost end turns only where that is said
abbrev pub EndsByOutput : Bool → Ran → Type 0
EndsByOutput strict r = r.end ≡ Err stops.Output → (strict ≡ true) × (r.is_lost ≡ true)

-- a device takes turns over a link, as it is said
pub record IsServed {L : Type 0} (cert : Certificate) (device : Device) (calls : L → LinkCall → L → Type 0) (count : L → ℕ) (life : Life) (telling : Telling) (s : Machine) (l : L) (old : Option (List ℕ)) (all : List TurnAt) (t : Machine) (m : L) (new : Option (List ℕ)) (ran : Ran) : Type 0 where
  pub turns : Turns cert device calls count s l all t m
  pub ends : EndAs device life.until_eof life.turns all ran.end
  pub printed : Prints telling.clock old new all ran.is_lost
  pub output : EndsByOutput telling.strict ran

-- ---- the boot

-- a boot behind which there is another
abbrev pub with_next : ℕ → Option ℕ
with_next boot = if nat_lt boot 4294967295 then Some boot else None

-- the boot that a file holds: digits, perhaps with white space around them. The last one has none behind it.
abbrev pub boot_in : List ℕ → Option ℕ
boot_in text = option_and_then with_next (long_number_in (trim text))

-- the text of the next one
abbrev pub next_text : ℕ → List ℕ
next_text boot = decimal (boot + 1) ++ 10 ∷ []

-- a file of this name held this boot, and holds the next one
abbrev pub TakesFileBoot : List ℕ → Option (List ℕ) → Option (List ℕ) → ℕ → Type 0
TakesFileBoot name before after boot = (text : List ℕ) × IsContents before text × (boot_in text ≡ Some boot) × IsContents after (next_text boot)

-- a device starts with this boot, and the file that holds it, where one does, holds the next one then
abbrev pub TakesBoot : Boot → Holdings → Holdings → ℕ → Type 0
TakesBoot (numbered n) before after boot = (boot ≡ n) × (after ≡ before)
TakesBoot (in_file name) before after boot = TakesFileBoot name (before name) (after name) boot

-- there is no boot: its file cannot be read or written, or holds none, or memory ran out. It holds what it held.
abbrev pub HasNoBoot : Boot → Holdings → Holdings → Fault → Type 0
HasNoBoot (numbered n) before after fault = ⊥
HasNoBoot (in_file name) before after fault = IsReadFault name fault × (after name ≡ before name)

-- ---- what the command tells

-- the device of a name in two texts, which has started with a boot
pub record IsStarted (app cert name : List ℕ) (boot : ℕ) (s : Session) : Type 0 where
  pub texts : verdicts.IsOfTexts app cert s.verified
  pub device : Device
  pub stands : slice_get (checked.system_in s.verified).devices s.number ≡ Some device
  pub named : is_same_path device.name name ≡ true
  pub first : machine_of s ≡ at_first device 1 (record { boot = boot; sequence = 1 })

-- why there is no device of a name in two texts: want of memory, a fault of a text, or the name
abbrev pub IsTextsFault : List ℕ → List ℕ → List ℕ → Fault → Type 0
IsTextsFault app cert name faults.Memory = Unit {0}
IsTextsFault app cert name (faults.Refused refusal) = truths.IsFaultOf app cert refusal
IsTextsFault app cert name (faults.Device shown) = IsUnknown app name × (string_bytes shown ≡ upper name)
IsTextsFault app cert name other = ⊥

-- the same of two files, which may not be read
abbrev pub IsFilesFault : Service → Option (List ℕ) → Option (List ℕ) → Fault → Type 0
IsFilesFault q held_app held_cert faults.Memory = Unit {0}
IsFilesFault q held_app held_cert (faults.File name) = (name.now ≡ q.app) ⊎ (name.now ≡ q.cert)
IsFilesFault q held_app held_cert f =
    (app : List ℕ) × (cert : List ℕ) × IsContents held_app app × IsContents held_cert cert × IsTextsFault app cert q.device f

-- the device of a name in two texts, before it starts
abbrev pub IsTextsReady : Service → ℕ → List ℕ → List ℕ → Session → Type 0
IsTextsReady q boot app cert s = IsLoaded app cert q.device 1 (record { boot = boot; sequence = 1 }) s

-- the same of two files
abbrev pub IsFilesReady : Service → ℕ → Option (List ℕ) → Option (List ℕ) → Session → Type 0
IsFilesReady q boot held_app held_cert s =
    (app : List ℕ) × (cert : List ℕ) × IsContents held_app app × IsContents held_cert cert × IsTextsReady q boot app cert s

-- the device of two files that is asked for, as it is once it has started
abbrev pub IsFilesDevice : Service → ℕ → Option (List ℕ) → Option (List ℕ) → Session → Type 0
IsFilesDevice q boot held_app held_cert s =
    (app : List ℕ) × (cert : List ℕ) × IsContents held_app app × IsContents held_cert cert × IsStarted app cert q.device boot s

-- behind the lines of the turns stand their sums, and the status is 3 where a line was lost; or that the link is down; or it is 3 where the writer or the clock failed
abbrev pub TellsEnd : Bool → Result Sums Stop → Option (List ℕ) → Option (List ℕ) → ℕ → Type 0
TellsEnd lost (Ok sums) old new status = (status ≡ (if lost then 3 else 0)) × Appends old new (sums_text sums ++ 10 ∷ [])
TellsEnd lost (Err stops.LinkDown) old new status = Tells (refusal faults.LinkDown) old new status
TellsEnd lost (Err stops.Output) old new status = status ≡ 3
TellsEnd lost (Err stops.Clock) old new status = status ≡ 3

abbrev pub TellsStop : Ran → Option (List ℕ) → Option (List ℕ) → ℕ → Type 0
TellsStop ran old new status = TellsEnd ran.is_lost ran.end old new status

-- a socket of which nothing more is told than what it was asked, and answered
abbrev pub Traced : List SocketCall → SocketCall → List SocketCall → Type 0
Traced before call after = after ≡ before ++ call ∷ []

-- a link over such a socket: how many of its calls failed, how many datagrams of strangers it dropped, and what it asked of the socket
pub record Over : Type 0 where
  pub failures : ℕ
  pub strangers : ℕ
  pub asked : List SocketCall

abbrev pub failed_in : Over → ℕ
failed_in l = l.failures

-- a call of a link over UDP to these peers, that takes datagrams from these senders
abbrev pub LinkAsks : List SocketAddr → List IpAddr → Over → LinkCall → Over → Type 0
LinkAsks peers senders l call m = UdpStep Traced peers senders l.failures l.strangers l.asked call m.strangers m.asked

-- nothing was asked yet
abbrev pub unasked : Over
unasked = record { failures = 0; strangers = 0; asked = [] }

-- these are the addresses of a network
pub record AreOf (network : Network) (peers : List SocketAddr) (senders : List IpAddr) : Type 0 where
  pub to : map endpoint_of peers ≡ network.peers
  pub from : map parts_of senders ≡ network.senders

-- a device takes turns over a link to the peers and from the senders that are asked for, and this is told
pub record TellsTurns (q : Service) (s : Session) (old new : Option (List ℕ)) (status : ℕ) : Type 0 where
  pub peers : List SocketAddr
  pub senders : List IpAddr
  pub are : AreOf q.network peers senders
  pub all : List TurnAt
  pub last : Machine
  pub asked : Over
  pub mid : Option (List ℕ)
  pub ran : Ran
  pub served : IsServed (cert_in s) (device_in s) (LinkAsks peers senders) failed_in q.life q.telling (machine_of s) unasked old all last asked mid ran
  pub told : TellsStop ran mid new status

-- of a device that has started: that nothing can be bound to the port, or its turns
abbrev pub TellsDevice : Service → Session → Option (List ℕ) → Option (List ℕ) → ℕ → Type 0
TellsDevice q s old new status = Tells (refusal (faults.Socket q.network.bind.port)) old new status ⊎ TellsTurns q s old new status

-- ---- sealed datagrams

-- what a device seals with at the start: its number and its key, the first own counter that it may use and the first that it may not, its peers and their buckets,
-- the book of its state file, and where it sends
pub record SealsAt : Type 0 where
  pub number : ℕ
  pub key : List ℕ
  pub next : ℕ
  pub reserved : ℕ
  pub peers : List Peer
  pub paced : List Paced
  pub book : Book
  pub to : List SocketAddr

abbrev pub seals_of : {K : Type 0} → (K → Option (List ℕ)) → Seals K → SealsAt
seals_of held s =
    record {
      number = s.number;
      key = s.key;
      next = s.next;
      reserved = s.reserved;
      peers = s.peers.items;
      paced = s.buckets.peers.items;
      book = book_of held s.file;
      to = s.to;
    }

-- a link that seals, over one over UDP: how many of its calls failed, what it has of its own, its book, the buckets of its peers, and the link below
pub record SealingLink : Type 0 where
  pub failures : ℕ
  pub own : Own
  pub book : Book
  pub pacing : Pacing
  pub below : Over

abbrev pub sealed_failures : SealingLink → ℕ
sealed_failures l = l.failures

-- a call of such a link: what it seals and opens, what it writes down, which peers it lets pass, and what it asks of the link below
abbrev pub SealedAsks : List SocketAddr → List IpAddr → SealingLink → LinkCall → SealingLink → Type 0
SealedAsks peers senders l call m = SealedStep (LinkAsks peers senders) WritesDown Asks l.failures l.own l.book l.pacing l.below call m.own m.book m.pacing m.below

-- at the start it has dropped nothing, and may use the counters that are written down
abbrev pub sealed_at : SealsAt → SealingLink
sealed_at a =
    record {
      failures = 0;
      own = record {
        number = a.number;
        key = a.key;
        next = a.next;
        reserved = max a.next a.reserved;
        peers = a.peers;
        dropped = record { not_sealed = 0; strangers = 0; forged = 0; stale = 0; ahead = 0; fast = 0 };
      };
      book = a.book;
      pacing = record { peers = a.paced; last = 0 };
      below = unasked;
    }

-- a device takes turns over a link that seals, to where its keys say and from the senders that are asked for, and this is told
pub record TellsSealedTurns (q : Service) (a : SealsAt) (s : Session) (old new : Option (List ℕ)) (status : ℕ) : Type 0 where
  pub senders : List IpAddr
  pub from : map parts_of senders ≡ q.network.senders
  pub all : List TurnAt
  pub last : Machine
  pub end : SealingLink
  pub mid : Option (List ℕ)
  pub ran : Ran
  pub served : IsServed (cert_in s) (device_in s) (SealedAsks a.to senders) sealed_failures q.life q.telling (machine_of s) (sealed_at a) old all last end mid ran
  pub told : TellsStop ran mid new status

-- of a device that has started with seals: that nothing can be bound to the port, or its turns
abbrev pub TellsSealed : Service → SealsAt → Session → Option (List ℕ) → Option (List ℕ) → ℕ → Type 0
TellsSealed q a s old new status = Tells (refusal (faults.Socket q.network.bind.port)) old new status ⊎ TellsSealedTurns q a s old new status

-- which of these, by its seals
abbrev pub TellsBy : Service → Option SealsAt → Session → Option (List ℕ) → Option (List ℕ) → ℕ → Type 0
TellsBy q None s old new status = TellsDevice q s old new status
TellsBy q (Some a) s old new status = TellsSealed q a s old new status

-- a device has seals where it is to have some: its counters are taken out of its state file, which has them written down then
abbrev pub TakesSeals : Guard → Holdings → Holdings → Option SealsAt → Type 0
TakesSeals unsealed before after (Some a) = ⊥
TakesSeals unsealed before after None = after ≡ before
TakesSeals (sealed keys state) before after None = ⊥
TakesSeals (sealed keys state) before after (Some a) =
    TakesState (before state) (after state) a.book.state × (a.next + 65536 ≡ a.book.state.own) × (a.reserved ≡ a.book.state.own)

-- there are no seals: a file of keys or the state file cannot be used, or memory ran out
abbrev pub HasNoSeals : Guard → Fault → Type 0
HasNoSeals unsealed fault = ⊥
HasNoSeals (sealed keys state) fault = IsReadFault keys fault ⊎ IsReadFault state fault

-- there is no record: its file is there already or cannot be written, or memory ran out
abbrev pub HasNoRecord : Option (List ℕ) → Fault → Type 0
HasNoRecord None fault = IsReadFault (codes "-") fault
HasNoRecord (Some name) fault = IsReadFault name fault

-- what `serve` tells, and what it leaves in files once its boot is taken, and once its seals are
pub data TellsServe (q : Service) (before booted after : Holdings) (old new : Option (List ℕ)) (status : ℕ) : Type 0 where
  -- why there is no boot
  no_boot : (f : Fault) → HasNoBoot q.life.boot before booted f → Tells (refusal f) old new status → TellsServe q before booted after old new status
  -- why there is no such device
  no_device : (boot : ℕ) → TakesBoot q.life.boot before booted boot → (f : Fault) → IsFilesFault q (held_by q.meant (before q.app)) (before q.cert) f → Tells (refusal f) old new status → TellsServe q before booted after old new status
  -- why there are no seals
  no_seals : (boot : ℕ) → TakesBoot q.life.boot before booted boot → (f : Fault) → HasNoSeals q.guard f → Tells (refusal f) old new status → TellsServe q before booted after old new status
  -- why there is no record of it
  no_record : (boot : ℕ) → TakesBoot q.life.boot before booted boot → (f : Fault) → HasNoRecord q.life.recorded f → Tells (refusal f) old new status → TellsServe q before booted after old new status
  -- what becomes of the device
  a_device : (boot : ℕ) → TakesBoot q.life.boot before booted boot → (a : Option SealsAt) → TakesSeals q.guard booted after a → (s : Session)
      → IsFilesDevice q boot (held_by q.meant (before q.app)) (before q.cert) s → TellsBy q a s old new status → TellsServe q before booted after old new status
