-- What std's parser gives is what its reader reads.
use Rattle.std.proofs.Common.{◌≡◌, ◌++◌, ℕ, List, [], ◌∷◌, None, Some, sym, ap, ap₂, ◌∙◌, length, refl, subst, append-nil, ne_eqb, arith, lit≤}
use Rattle.std.specs.Prelude.{option_map}
use Rattle.std.specs.declared.net.ipv4_addr.Ipv4Addr.{Ipv4Addr}
use Rattle.std.specs.declared.net.ipv6_addr.Ipv6Addr.{Ipv6Addr}
use Rattle.std.specs.declared.net.ip_addr.IpAddr.{IpAddr}
use Rattle.std.specs.declared.net.ip_addr.IpAddr.TheVariants as ip
use Rattle.std.specs.declared.net.socket_addr.SocketAddrV4.{SocketAddrV4}
use Rattle.std.specs.declared.net.socket_addr.SocketAddrV6.{SocketAddrV6}
use Rattle.std.specs.declared.net.socket_addr.SocketAddr.{SocketAddr}
use Rattle.std.specs.declared.net.socket_addr.SocketAddr.TheVariants.{V4, V6}
use Rattle.std.specs.Net.Grammar.{IsIpv4Text, IsIpv6Text, IsIpText, IsSocketV4Text, IsSocketV6Text, IsSocketText}
use Rattle.std.specs.Net.Reader.{Read, read_ipv4, read_ipv6, read_socket_v4, read_socket_v6, whole_value}
use Rattle.std.proofs.NetLemmas.Ipv4.{read_ipv4_complete, read_ipv4_sound}
use Rattle.std.proofs.NetLemmas.Ipv6.{read_ipv6_complete, read_ipv6_sound, EndsGroups-nil, IsDotted-not_colon_hex}
use Rattle.std.proofs.NetLemmas.Sockets.{read_socket_v4_complete, read_socket_v4_sound, read_socket_v6_complete, read_socket_v6_sound, IsSocketV4Text-not_v6}
use Rattle.fb_addresses.specs.Addresses.{or_else, parts_of, ip_in, endpoint_of, full_in, four, six}

-- ---- with a port

-- a text that spells no address of a kind is read as none
no_four : (text : List ℕ) → ((a : SocketAddrV4) → IsSocketV4Text text a → ⊥) → whole_value (read_socket_v4 text) ≡ None
no_four text not = go (read_socket_v4 text) refl
  where
    go : (r : Read (List ℕ × ℕ)) → read_socket_v4 text ≡ r → whole_value r ≡ None
    go None e = refl
    go (Some ((octets, port), [])) e =
        let a : SocketAddrV4 = record { ip = record { octets = octets }; port = port } in
        let s = read_socket_v4_sound text [] a e in
        absurd (not a (subst (λ t. IsSocketV4Text t a) (sym (s.1 ∙ append-nil s.0)) s.2))
    go (Some ((octets, port), c ∷ rest)) e = rw (ne_eqb (length (c ∷ rest)) 0 (omega arith)) refl

no_six : (text : List ℕ) → ((a : SocketAddrV6) → IsSocketV6Text text a → ⊥) → whole_value (read_socket_v6 text) ≡ None
no_six text not = go (read_socket_v6 text) refl
  where
    go : (r : Read (List ℕ × ℕ × ℕ × ℕ)) → read_socket_v6 text ≡ r → whole_value r ≡ None
    go None e = refl
    go (Some ((segments, port, flow, scope), [])) e =
        let a : SocketAddrV6 = record { ip = record { segments = segments }; port = port; flowinfo = flow; scope_id = scope } in
        let s = read_socket_v6_sound text [] a e in
        absurd (not a (subst (λ t. IsSocketV6Text t a) (sym (s.1 ∙ append-nil s.0)) s.2))
    go (Some ((segments, port, flow, scope), c ∷ rest)) e = rw (ne_eqb (length (c ∷ rest)) 0 (omega arith)) refl

pub parsed : (text : List ℕ) (a : SocketAddr) → IsSocketText text a → Some (endpoint_of a) ≡ full_in text
parsed text (V4 a) h = ap (λ r. or_else (option_map four (whole_value r)) (option_map six (whole_value (read_socket_v6 text)))) (sym (read_socket_v4_complete text a h))
parsed text (V6 a) h =
    ap (λ r. option_map six (whole_value r)) (sym (read_socket_v6_complete text a h))
    ∙ ap (λ r. or_else (option_map four r) (option_map six (whole_value (read_socket_v6 text)))) (sym (no_four text (λ b k. IsSocketV4Text-not_v6 text b a k h)))

pub unparsed : (text : List ℕ) → ((a : SocketAddr) → IsSocketText text a → ⊥) → None ≡ full_in text
unparsed text not = sym (ap₂ (λ r s. or_else (option_map four r) (option_map six s)) (no_four text (λ a h. not (V4 a) h)) (no_six text (λ a h. not (V6 a) h)))

-- ---- without one

front_is : (text : List ℕ) → text ++ [] ≡ text
front_is text = append-nil text

no_octets : (text : List ℕ) → ((a : Ipv4Addr) → IsIpv4Text text a → ⊥) → whole_value (read_ipv4 text) ≡ None
no_octets text not = go (read_ipv4 text) refl
  where
    go : (r : Read (List ℕ)) → read_ipv4 text ≡ r → whole_value r ≡ None
    go None e = refl
    go (Some (octets, [])) e =
        let a : Ipv4Addr = record { octets = octets } in
        let s = read_ipv4_sound text octets [] e in
        absurd (not a (subst (λ t. IsIpv4Text t a) (sym (s.1 ∙ append-nil s.0)) s.2))
    go (Some (octets, c ∷ rest)) e = rw (ne_eqb (length (c ∷ rest)) 0 (omega arith)) refl

no_segments : (text : List ℕ) → ((a : Ipv6Addr) → IsIpv6Text text a → ⊥) → whole_value (read_ipv6 text) ≡ None
no_segments text not = go (read_ipv6 text) refl
  where
    go : (r : Read (List ℕ)) → read_ipv6 text ≡ r → whole_value r ≡ None
    go None e = refl
    go (Some (segments, [])) e =
        let a : Ipv6Addr = record { segments = segments } in
        let s = read_ipv6_sound text segments [] e in
        absurd (not a (subst (λ t. IsIpv6Text t a) (sym (s.1 ∙ append-nil s.0)) s.2))
    go (Some (segments, c ∷ rest)) e = rw (ne_eqb (length (c ∷ rest)) 0 (omega arith)) refl

pub ip_parsed : (text : List ℕ) (a : IpAddr) → IsIpText text a → Some (parts_of a) ≡ ip_in text
ip_parsed text (ip.V4 a) h =
    let read = ap read_ipv4 (sym (front_is text)) ∙ read_ipv4_complete text _ [] h (lit≤ tt) in
    ap (λ r. or_else (whole_value r) (whole_value (read_ipv6 text))) (sym read)
ip_parsed text (ip.V6 a) h =
    let read = ap read_ipv6 (sym (front_is text)) ∙ read_ipv6_complete text _ [] h EndsGroups-nil in
    ap (λ r. whole_value r) (sym read)
    ∙ ap (λ r. or_else r (whole_value (read_ipv6 text))) (sym (no_octets text (λ b k. IsDotted-not_colon_hex text _ _ k h)))

pub ip_unparsed : (text : List ℕ) → ((a : IpAddr) → IsIpText text a → ⊥) → None ≡ ip_in text
ip_unparsed text not = sym (ap₂ or_else (no_octets text (λ a h. not (ip.V4 a) h)) (no_segments text (λ a h. not (ip.V6 a) h)))
