-- Which peer sealed bytes, and that they are the datagram which it sealed.
use Rattle.std.proofs.Common.{arith, ◌≡◌, ◌⊎◌, inl, inr, ℕ, suc, ◌+◌, ◌<◌, Bool, true, false, cond, List, [], ◌∷◌, length, None, Some, refl, sym, ◌∙◌, ap, subst, max, get_or, zero}
use Rattle.std.specs.Prelude.{◌==◌, slice_get, slice_set}
use Rattle.std.specs.List.{position_from}
use Rattle.std.proofs.lemmas.Bool.{and_parts, cases_Bool, cond-true, cond-false, eqb-true}
use Rattle.std.proofs.lemmas.Option.{slice_get_within}
use Rattle.fb_seal.specs.declared.peers.Peer.{Peer}
use Rattle.fb_seal.specs.Seal.{Sealed}
use Rattle.fb_seal.specs.Reading.{AreBytes, Envelope, Says, Untrue, Unsealed, body_of, envelope_in, has_form, is_tagged, reading}
use Rattle.fb_seal.specs.Peers.{Admits, TakesAt, has_sealed, allow_at}
use Rattle.fb_seal.proofs.Spelling.{opened_was_sealed}

pub some_same : {A : Type 0} (x y : A) → Some x ≡ Some y → x ≡ y
some_same x y h = cc

pub none_some : {A : Type 0} (x : A) → None ≡ Some x → ⊥
none_some x h = cc

-- the peer at the place that was found passes the test
pub found : (p : Peer → Bool) (i : ℕ) (peers : List Peer) (k : ℕ) → position_from p i peers ≡ Some k
    → (j : ℕ) × (k ≡ i + j) × (peer : Peer) × (slice_get peers j ≡ Some peer) × (p peer ≡ true)
found p i [] k h = absurd (none_some k h)
found p i (x ∷ xs) k h = choose (cases_Bool (p x)) (λ e. found p (i + 1) xs k e)
  where
    choose : (p x ≡ true) ⊎ (p x ≡ false)
        → (position_from p (i + 1) xs ≡ Some k → (j : ℕ) × (k ≡ i + 1 + j) × (peer : Peer) × (slice_get xs j ≡ Some peer) × (p peer ≡ true))
        → (j : ℕ) × (k ≡ i + j) × (peer : Peer) × (slice_get (x ∷ xs) j ≡ Some peer) × (p peer ≡ true)
    choose (inl right) rest =
        let here : i ≡ k = some_same i k (sym (cond-true (p x) (Some i) (position_from p (i + 1) xs) right) ∙ h) in
        (0, omega (arith, here), x, refl, right)
    choose (inr wrong) rest =
        let at = rest (sym (cond-false (p x) (Some i) (position_from p (i + 1) xs) wrong) ∙ h) in
        (suc at.0, omega (arith, at.1), at.2, at.3, at.4)

-- from the first place on
pub found_there : (p : Peer → Bool) (peers : List Peer) (k : ℕ) → position_from p 0 peers ≡ Some k
    → (peer : Peer) × (slice_get peers k ≡ Some peer) × (p peer ≡ true)
found_there p peers k h =
    let at = found p 0 peers k h in
    let place : k ≡ at.0 = omega (arith, at.1) in
    (at.2, ap (slice_get peers) place ∙ at.3, at.4)

pub found_within : (p : Peer → Bool) (peers : List Peer) (k : ℕ) → position_from p 0 peers ≡ Some k → k < length peers
found_within p peers k h =
    let at = found_there p peers k h in
    slice_get_within peers k at.0 at.1

-- bytes of a peer whose counter was taken are admitted
pub admits : (before after : List Peer) (bytes : List ℕ) (e : Envelope) (place : ℕ) → AreBytes bytes → has_form bytes ≡ true → envelope_in (body_of bytes) ≡ e
    → position_from (has_sealed bytes e.sender) 0 before ≡ Some place → TakesAt before place e.counter after → Admits before bytes e.datagram after
admits before after bytes e place are form says first takes_it =
    let at = found_there (has_sealed bytes e.sender) before place first in
    let one : at.0 ≡ takes_it.peer = some_same at.0 takes_it.peer (sym at.1 ∙ takes_it.there) in
    let by : has_sealed bytes e.sender takes_it.peer ≡ true = ap (has_sealed bytes e.sender) (sym one) ∙ at.2 in
    let parts = and_parts (takes_it.peer.number == e.sender) (is_tagged takes_it.peer.key bytes) by in
    let number : e.sender ≡ takes_it.peer.number = sym (eqb-true takes_it.peer.number e.sender parts.0) in
    let reads : reading takes_it.peer.key bytes ≡ Says e =
    cond-true (has_form bytes) (cond (is_tagged takes_it.peer.key bytes) (Says (envelope_in (body_of bytes))) Untrue) Unsealed form
    ∙ cond-true (is_tagged takes_it.peer.key bytes) (Says (envelope_in (body_of bytes))) Untrue parts.1
    ∙ ap Says says in
    let was = opened_was_sealed takes_it.peer.key bytes e are reads in
    record {
      place = place;
      counter = e.counter;
      first = ap (λ (x : Envelope). position_from (has_sealed bytes x.sender) 0 before) says ∙ first;
      takes_it = takes_it;
      is_sealed = subst (λ (n : ℕ). Sealed takes_it.peer.key n e.counter bytes e.datagram) number was;
    }

-- a peer at a place that may use more counters
pub allows_at : (peers : List Peer) (place upto : ℕ) (peer : Peer) (most : ℕ) → peer ≡ get_or peers place peer → most ≡ max peer.upto upto
    → slice_set peers place (record peer { upto = most }) ≡ allow_at peers place upto
allows_at [] place upto peer most is e = refl
allows_at (x ∷ xs) zero upto peer most is e =
    ap (λ (p : Peer). record p { upto = most } ∷ xs) is ∙ ap (λ (n : ℕ). record x { upto = n } ∷ xs) (e ∙ ap (λ (p : Peer). max p.upto upto) is)
allows_at (x ∷ xs) (suc place) upto peer most is e = ap (λ (ps : List Peer). x ∷ ps) (allows_at xs place upto peer most is e)
