-- Receives of a link: datagrams of strangers, one after another.
use Rattle.std.proofs.Common.{arith, ◌≡◌, ℕ, ◌+◌, ◌<◌, min, List, [], ◌∷◌, ◌++◌, length, false, refl, sym, ◌∙◌, ap, subst, length-append}
use Rattle.std.specs.declared.net.ip_addr.IpAddr.{IpAddr}
use Rattle.std.specs.declared.net.socket_addr.SocketAddr.{SocketAddr}
use Rattle.fb_link.specs.Socket.{SocketCall, Took, may_send, DropsEach}

-- so many datagrams of strangers were dropped so far, and counted
pub record Dropped {S : Type 0} (does : S → SocketCall → S → Type 0) (senders : List IpAddr) (room counted : ℕ) (s : S) (n more : ℕ) (t : S) : Type 0 where
  pub strangers : List SocketAddr
  pub dropped : DropsEach does senders room strangers s t
  pub as_many : length strangers ≡ n
  pub counts : more ≡ min (counted + n) 18446744073709551615

-- none yet
pub none_dropped : {S : Type 0} (does : S → SocketCall → S → Type 0) (senders : List IpAddr) (room counted : ℕ) (s : S)
    → counted < 18446744073709551616 → Dropped does senders room counted s 0 counted s
none_dropped does senders room counted s fits =
    record { strangers = []; dropped = refl; as_many = refl; counts = omega (arith, fits) }

drops_more : {S : Type 0} (does : S → SocketCall → S → Type 0) (senders : List IpAddr) (room : ℕ) (strangers : List SocketAddr) (s m : S) (from : SocketAddr) (bytes : List ℕ) (t : S)
    → DropsEach does senders room strangers s m → may_send senders from ≡ false → does m (Took from room bytes) t → DropsEach does senders room (strangers ++ from ∷ []) s t
drops_more does senders room [] s m from bytes t h out call =
    (out, bytes, t, subst (λ x. does x (Took from room bytes) t) (sym h) call, refl)
drops_more does senders room (f ∷ fs) s m from bytes t h out call =
    (h.0, h.1, h.2, h.3, drops_more does senders room fs h.2 m from bytes t h.4 out call)

-- one more
pub one_dropped : {S : Type 0} (does : S → SocketCall → S → Type 0) (senders : List IpAddr) (room counted : ℕ) (s : S) (n more : ℕ) (m : S) (from : SocketAddr) (bytes : List ℕ) (t : S) (most : ℕ)
    → Dropped does senders room counted s n more m → may_send senders from ≡ false → does m (Took from room bytes) t → most ≡ min (more + 1) 18446744073709551615
    → Dropped does senders room counted s (n + 1) most t
one_dropped does senders room counted s n more m from bytes t most h out call e =
    record {
      strangers = h.strangers ++ from ∷ [];
      dropped = drops_more does senders room h.strangers s m from bytes t h.dropped out call;
      as_many = length-append h.strangers (from ∷ []) ∙ ap (λ k. k + 1) h.as_many;
      counts = omega (arith, h.counts, e);
    }
