-- Sends to one address after another.
use Rattle.std.proofs.Common.{arith, ◌≡◌, ℕ, ◌+◌, ◌<◌, ◌≤◌, List, [], ◌∷◌, ◌++◌, length, take, Bool, true, false, ◌&&◌, not, refl, sym, ◌∙◌, ap, subst, append_assoc, length-append}
use Rattle.std.proofs.Math.ListN.{get_or}
use Rattle.std.proofs.lemmas.List.{take_more, append-nil}
use Rattle.std.specs.declared.net.socket_addr.SocketAddr.{SocketAddr}
use Rattle.fb_link.specs.Socket.{SocketCall, SentTo, SendsToEach}

and_true : (a : Bool) → a ≡ a && true
and_true true = refl
and_true false = refl

and_assoc : (a b c : Bool) → (a && b) && c ≡ a && (b && c)
and_assoc true b c = refl
and_assoc false b c = refl

-- after a failure not all sends are done
pub with_failure : (done one err new : Bool) → one ≡ not err → err ≡ true → new ≡ false → done && one ≡ new
with_failure true one err new e f h = e ∙ (ap not f ∙ sym h)
with_failure false one err new e f h = sym h

-- and else as many as before
pub without_failure : (done one err new : Bool) → one ≡ not err → err ≡ false → new ≡ done → done && one ≡ new
without_failure true one err new e f h = e ∙ (ap not f ∙ sym h)
without_failure false one err new e f h = sym h

-- one send more, to an address behind these
sends_more : {S : Type 0} (does : S → SocketCall → S → Type 0) (bytes : List ℕ) (peers : List SocketAddr) (peer : SocketAddr) (s : S) (ok : Bool) (m : S) (one : Bool) (t : S) → SendsToEach does bytes peers s ok m → does m (SentTo peer bytes one) t → SendsToEach does bytes (peers ++ peer ∷ []) s (ok && one) t
sends_more does bytes [] peer s ok m one t h call =
    (one, t, subst (λ x. does x (SentTo peer bytes one) t) (sym h.0) call, true, (refl, refl), ap (λ x. x && one) h.1 ∙ and_true one)
sends_more does bytes (p ∷ ps) peer s ok m one t h call =
    (h.0, h.1, h.2, h.3 && one, sends_more does bytes ps peer h.1 h.3 m one t h.4 call, ap (λ x. x && one) h.5 ∙ and_assoc h.0 h.3 one)

-- the send to the next of these addresses
pub sends_next : {S : Type 0} (does : S → SocketCall → S → Type 0) (bytes : List ℕ) (peers : List SocketAddr) (i : ℕ) (d : SocketAddr) (s : S) (ok : Bool) (m : S) (one : Bool) (t : S) (new : Bool) → i < length peers → SendsToEach does bytes (take i peers) s ok m → does m (SentTo (get_or peers i d) bytes one) t → ok && one ≡ new → SendsToEach does bytes (take (i + 1) peers) s new t
sends_next does bytes peers i d s ok m one t new lt h call e =
    let more = sends_more does bytes (take i peers) (get_or peers i d) s ok m one t h call in
    subst (λ all. SendsToEach does bytes all s new t) (sym (take_more peers i d lt)) (subst (λ x. SendsToEach does bytes (take i peers ++ get_or peers i d ∷ []) s x t) e more)

-- a socket that keeps the first 256 addresses that it sends to keeps those of a send, in order
pub peers_in_order : {S : Type 0} (does : S → SocketCall → S → Type 0) (kept : S → List SocketAddr) → ((s : S) (peer : SocketAddr) (bytes : List ℕ) (ok : Bool) (t : S) → does s (SentTo peer bytes ok) t → length (kept s) < 256 → kept t ≡ kept s ++ peer ∷ []) → (bytes : List ℕ) (peers : List SocketAddr) (s : S) (ok : Bool) (t : S) → SendsToEach does bytes peers s ok t → length (kept s) + length peers ≤ 256 → kept t ≡ kept s ++ peers
peers_in_order does kept keeps bytes [] s ok t h few = ap kept (sym h.0) ∙ sym (append-nil (kept s))
peers_in_order does kept keeps bytes (peer ∷ peers) s ok t h few =
    let first = keeps s peer bytes h.0 h.1 h.2 (omega (arith, few)) in
    let longer : length (kept h.1) ≡ length (kept s) + 1 = ap length first ∙ length-append (kept s) (peer ∷ []) in
    let rest = peers_in_order does kept keeps bytes peers h.1 h.3 t h.4 (omega (arith, longer, few)) in
    rest ∙ (ap (λ all. all ++ peers) first ∙ append_assoc (kept s) (peer ∷ []) peers)
