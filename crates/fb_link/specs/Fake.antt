-- Sockets over links in memory, for tests. This project's profile.
use Rattle.std.specs.Prelude.{◌≡◌, ◌<◌, List, [], ◌∷◌, ◌++◌, length}
use Rattle.std.specs.declared.io.ErrorKind.{ErrorKind}
use Rattle.std.specs.declared.io.ErrorKind.TheVariants.{WouldBlock}
use Rattle.std.specs.declared.net.socket_addr.SocketAddr.{SocketAddr}
use Rattle.fb_words.specs.Links.{LinkCall, Handed, Silent, Sent}
use Rattle.fb_link.specs.Memory.{Memory, MemorySteps, receive_of, after_receive}
use Rattle.fb_link.specs.Socket.{SocketCall, SentTo, Took, Missed, IsHere}

-- of what kind the error of a receive is that gives nothing: would-block where nothing is there, and else this fault
abbrev pub missed_by : ErrorKind → LinkCall → ErrorKind
missed_by fault Silent = WouldBlock
missed_by fault call = fault

-- a socket over a link in memory: the first 256 addresses that it was to send to, those of the datagrams still to come, and the kind of its failures
pub record MemorySocketState : Type 0 where
  pub link : Memory
  pub sent : List SocketAddr
  pub senders : List SocketAddr
  pub fault : ErrorKind

-- of the addresses still to come the next one; behind them port 0 of this machine
abbrev pub IsNext : List SocketAddr → SocketAddr → List SocketAddr → Type 0
IsNext [] from rest = IsHere from 0 × (rest ≡ [])
IsNext (first ∷ more) from rest = (from ≡ first) × (rest ≡ more)

-- a call of it
abbrev pub MemorySocketStep : MemorySocketState → SocketCall → MemorySocketState → Type 0
MemorySocketStep s (SentTo to bytes ok) t =
    MemorySteps s.link (Sent bytes ok) t.link × (length s.sent < 256 → t.sent ≡ s.sent ++ to ∷ []) × (t.senders ≡ s.senders) × (t.fault ≡ s.fault)
MemorySocketStep s (Took from room bytes) t =
    MemorySteps s.link (Handed room bytes) t.link × (t.sent ≡ s.sent) × IsNext s.senders from t.senders × (t.fault ≡ s.fault)
MemorySocketStep s (Missed kind) t =
    (kind ≡ missed_by s.fault (receive_of s.link 0)) × (t.link ≡ after_receive s.link) × (t.sent ≡ s.sent) × (t.senders ≡ s.senders) × (t.fault ≡ s.fault)
