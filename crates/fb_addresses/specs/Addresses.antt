-- Addresses as words write them: this project's profile. The text of an IP address is that of RFC 4291, section 2.2, as std reads it; std's law is that its reader
-- reads just the texts of its grammar.
use Rattle.std.specs.Prelude.{ℕ, List, [], ◌∷◌, Option, None, Some, ◌==◌, option_map, option_and_then, if◌then◌else◌}
use Rattle.std.specs.Net.Addr.{ipv4_octets, ipv6_segments}
use Rattle.std.specs.Net.Socket.{v4_ip, v4_port, v6_ip, v6_port, v6_scope_id}
use Rattle.std.specs.Net.Reader.{read_ipv4, read_ipv6, read_socket_v4, read_socket_v6, whole_value}
use Rattle.std.specs.declared.net.ip_addr.IpAddr.{IpAddr}
use Rattle.std.specs.declared.net.ip_addr.IpAddr.TheVariants as ip
use Rattle.std.specs.declared.net.socket_addr.SocketAddr.{SocketAddr}
use Rattle.std.specs.declared.net.socket_addr.SocketAddr.TheVariants.{V4, V6}
use Rattle.fb_numbers.specs.Numbers.{number_in}

-- what stands first, or else the other
abbrev pub or_else : {X : Type 0} → Option X → Option X → Option X
or_else None other = other
or_else (Some x) other = Some x

-- ---- IP addresses

-- four octets, or eight numbers of 16 bits
abbrev pub parts_of : IpAddr → List ℕ
parts_of (ip.V4 a) = ipv4_octets a
parts_of (ip.V6 a) = ipv6_segments a

-- those that a text writes
abbrev pub ip_in : List ℕ → Option (List ℕ)
ip_in text = or_else (whole_value (read_ipv4 text)) (whole_value (read_ipv6 text))

-- ---- with a port

-- an IP address, a port, and the scope of an address of IPv6
pub record Endpoint : Type 0 where
  pub parts : List ℕ
  pub port : ℕ
  pub scope : ℕ

abbrev pub endpoint_of : SocketAddr → Endpoint
endpoint_of (V4 a) = record { parts = ipv4_octets (v4_ip a); port = v4_port a; scope = 0 }
endpoint_of (V6 a) = record { parts = ipv6_segments (v6_ip a); port = v6_port a; scope = v6_scope_id a }

-- a port of this machine, 127.0.0.1
abbrev pub here : ℕ → Endpoint
here port = record { parts = 127 ∷ 0 ∷ 0 ∷ 1 ∷ []; port = port; scope = 0 }

abbrev pub four : List ℕ × ℕ → Endpoint
four r = record { parts = r.0; port = r.1; scope = 0 }

abbrev pub six : List ℕ × ℕ × ℕ × ℕ → Endpoint
six r = record { parts = r.0; port = r.1; scope = r.3 }

-- the IP address and the port that a text writes
abbrev pub full_in : List ℕ → Option Endpoint
full_in text = or_else (option_map four (whole_value (read_socket_v4 text))) (option_map six (whole_value (read_socket_v6 text)))

-- no port is 0
abbrev pub reachable : Endpoint → Option Endpoint
reachable e = if e.port == 0 then None else Some e

-- the port of this machine, or the IP address and the port, that a word writes
abbrev pub endpoint_in : List ℕ → Option Endpoint
endpoint_in word = option_and_then reachable (or_else (option_map here (number_in word)) (full_in word))
