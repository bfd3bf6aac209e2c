-- What a link over UDP asks of a socket, and what it makes of the answers. This project's profile.
use Rattle.std.specs.Prelude.{◌≡◌, ◌⊎◌, ◌+◌, ◌<◌, ℕ, List, [], ◌∷◌, length, min, take, Bool, true, false, ◌&&◌, ◌||◌, ◌==◌, Result, Ok, Err}
use Rattle.std.specs.List.{list_any, AllZip}
use Rattle.std.specs.Net.Addr.{ipv4_octets, ipv4_bits, ipv6_bits}
use Rattle.std.specs.Net.Socket.{v4_ip, v4_port, socket_ip}
use Rattle.std.specs.declared.io.ErrorKind.{ErrorKind}
use Rattle.std.specs.declared.io.ErrorKind.TheVariants.{WouldBlock, Interrupted}
use Rattle.std.specs.declared.net.ip_addr.IpAddr.{IpAddr}
use Rattle.std.specs.declared.net.ip_addr.IpAddr.TheVariants as ip
use Rattle.std.specs.declared.net.socket_addr.SocketAddr.{SocketAddr}
use Rattle.std.specs.declared.net.socket_addr.SocketAddr.TheVariants.{V4, V6}
use Rattle.fb_words.specs.Links.{LinkCall, Handed, Silent, Broken, Sent}

-- one call of a socket, with what it answered
pub data SocketCall : Type 0 where
  -- a send of these bytes to an address, and whether it was done
  SentTo : (to : SocketAddr) → (bytes : List ℕ) → (ok : Bool) → SocketCall
  -- a receive into this much room gave these bytes, which this address sent
  Took : (from : SocketAddr) → (room : ℕ) → (bytes : List ℕ) → SocketCall
  -- a receive gave none, for this reason
  Missed : (kind : ErrorKind) → SocketCall

-- the receive that gave this answer and left these bytes in the buffer
abbrev pub taking : Result (ℕ × SocketAddr) ErrorKind → List ℕ → ℕ → SocketCall
taking (Ok got) buffer room = Took got.1 room (take got.0 buffer)
taking (Err kind) buffer room = Missed kind

-- nothing is there yet; no failure
abbrev pub is_idle : ErrorKind → Bool
is_idle WouldBlock = true
is_idle Interrupted = true
is_idle _ = false

-- ---- addresses

-- a port of this machine, 127.0.0.1
abbrev pub IsHere : SocketAddr → ℕ → Type 0
IsHere (V4 address) port = (ipv4_octets (v4_ip address) ≡ 127 ∷ 0 ∷ 0 ∷ 1 ∷ []) × (v4_port address ≡ port)
IsHere (V6 address) port = ⊥

-- these ports of this machine, in order
abbrev pub AreHere : List SocketAddr → List ℕ → Type 0
AreHere addresses ports = AllZip IsHere addresses ports

-- the number of an IP address among those of IPv6: an IPv4 address stands there as ::ffff:a.b.c.d (RFC 4291, 2.5.5.2)
abbrev pub ip_number : IpAddr → ℕ
ip_number (ip.V4 address) = 0xffff00000000 + ipv4_bits address
ip_number (ip.V6 address) = ipv6_bits address

-- an IP address is one of these
abbrev pub is_among : List IpAddr → IpAddr → Bool
is_among senders address = list_any (λ s. ip_number s == ip_number address) senders

-- datagrams from there are taken: the IP address is one of the senders, whatever its port, or no senders are named
abbrev pub may_send : List IpAddr → SocketAddr → Bool
may_send senders from = length senders == 0 || is_among senders (socket_ip from)

-- ---- sends

-- one send of the bytes to each of these addresses, in order, and whether all were done
abbrev pub SendsToEach : {S : Type 0} → (S → SocketCall → S → Type 0) → List ℕ → List SocketAddr → S → Bool → S → Type 0
SendsToEach does bytes [] s ok t = (s ≡ t) × (ok ≡ true)
SendsToEach {S} does bytes (peer ∷ peers) s ok t =
    (one : Bool) × (m : S) × does s (SentTo peer bytes one) m
    × (rest : Bool) × SendsToEach does bytes peers m rest t
    × (ok ≡ one && rest)

-- ---- receives

-- one receive after another, each of a datagram that a stranger sent; these are their addresses
abbrev pub DropsEach : {S : Type 0} → (S → SocketCall → S → Type 0) → List IpAddr → ℕ → List SocketAddr → S → S → Type 0
DropsEach does senders room [] s t = s ≡ t
DropsEach {S} does senders room (from ∷ strangers) s t =
    (may_send senders from ≡ false) × (bytes : List ℕ) × (m : S) × does s (Took from room bytes) m × DropsEach does senders room strangers m t

-- the receive behind so many strangers: a datagram whose sender may send is handed on, with its bytes; or none is there; or the receive fails; or
-- sixteen were strangers
abbrev pub Receives : {S : Type 0} → (S → SocketCall → S → Type 0) → List IpAddr → ℕ → ℕ → S → LinkCall → S → Type 0
Receives does senders room n s (Handed size bytes) t =
    (n < 16) × (size ≡ room) × (from : SocketAddr) × (may_send senders from ≡ true) × does s (Took from room bytes) t
Receives does senders room n s Silent t = ((n ≡ 16) × (s ≡ t)) ⊎ ((n < 16) × (kind : ErrorKind) × (is_idle kind ≡ true) × does s (Missed kind) t)
Receives does senders room n s Broken t = (n < 16) × (kind : ErrorKind) × (is_idle kind ≡ false) × does s (Missed kind) t
Receives does senders room n s (Sent bytes ok) t = ⊥

-- a receive of a link: it drops what strangers sent, sixteen datagrams at most, counts them up to 2^64 - 1, and hands on none of them
pub record TakesFrom {S : Type 0} (does : S → SocketCall → S → Type 0) (senders : List IpAddr) (counted : ℕ)
    (s : S) (call : LinkCall) (more : ℕ) (t : S) : Type 0 where
  pub room : ℕ
  pub strangers : List SocketAddr
  pub between : S
  pub dropped : DropsEach does senders room strangers s between
  pub received : Receives does senders room (length strangers) between call t
  pub counts : more ≡ min (counted + length strangers) 18446744073709551615

-- ---- links

-- what the socket does in a call of a link, and how many datagrams of strangers are counted then
abbrev pub Asks : {S : Type 0} → (S → SocketCall → S → Type 0) → List SocketAddr → List IpAddr → ℕ → S → LinkCall → ℕ → S → Type 0
Asks does peers senders counted s (Sent bytes ok) more t = SendsToEach does bytes peers s ok t × (more ≡ counted)
Asks does peers senders counted s call more t = TakesFrom does senders counted s call more t

-- what a link answers that does nothing any more
abbrev pub IsNoCall : LinkCall → Type 0
IsNoCall (Sent bytes ok) = ok ≡ true
IsNoCall Silent = Unit {0}
IsNoCall (Handed room bytes) = ⊥
IsNoCall Broken = ⊥

-- a call of a link over a socket, of which so many calls have failed, and so many datagrams of strangers were counted
pub record UdpStep {S : Type 0} (does : S → SocketCall → S → Type 0) (peers : List SocketAddr) (senders : List IpAddr) (failures counted : ℕ)
    (s : S) (call : LinkCall) (more : ℕ) (t : S) : Type 0 where
  pub asks : failures < 18446744073709551615 → Asks does peers senders counted s call more t
  -- a link whose count of failures can rise no more leaves the socket alone
  pub spent : failures ≡ 18446744073709551615 → IsNoCall call × (more ≡ counted) × (t ≡ s)
