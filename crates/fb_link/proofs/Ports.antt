-- Ports of this machine, one after another.
use Rattle.std.proofs.Common.{ℕ, ◌+◌, ◌<◌, List, [], ◌∷◌, ◌++◌, length, take, sym, subst}
use Rattle.std.proofs.Math.ListN.{get_or}
use Rattle.std.proofs.lemmas.List.{take_more}
use Rattle.std.specs.declared.net.socket_addr.SocketAddr.{SocketAddr}
use Rattle.fb_link.specs.Socket.{IsHere, AreHere}

one_more : (addresses : List SocketAddr) (ports : List ℕ) (address : SocketAddr) (port : ℕ)
    → AreHere addresses ports → IsHere address port → AreHere (addresses ++ address ∷ []) (ports ++ port ∷ [])
one_more [] [] address port h e = (e, tt)
one_more [] (p ∷ ps) address port h e = absurd h
one_more (a ∷ more) [] address port h e = absurd h
one_more (a ∷ more) (p ∷ ps) address port h e = (h.0, one_more more ps address port h.1 e)

-- the next of these ports
pub here_next : (addresses : List SocketAddr) (ports : List ℕ) (i : ℕ) (address : SocketAddr)
    → i < length ports → AreHere addresses (take i ports) → IsHere address (get_or ports i 0) → AreHere (addresses ++ address ∷ []) (take (i + 1) ports)
here_next addresses ports i address lt h e =
    subst (λ all. AreHere (addresses ++ address ∷ []) all) (sym (take_more ports i 0 lt)) (one_more addresses (take i ports) address (get_or ports i 0) h e)
