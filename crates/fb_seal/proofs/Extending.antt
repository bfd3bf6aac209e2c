-- Peers that are allowed more counters.
use Rattle.std.proofs.Common.{arith, ◌≡◌, ℕ, zero, suc, ◌+◌, ◌<◌, Bool, true, cond, List, [], ◌∷◌, length, get_or, Some, refl, sym, ◌∙◌, ap, subst}
use Rattle.std.specs.Prelude.{slice_get}
use Rattle.std.specs.List.{position_from}
use Rattle.std.proofs.lemmas.Bool.{both_ways}
use Rattle.fb_seal.specs.declared.peers.Peer.{Peer}
use Rattle.fb_seal.specs.declared.peers.Reason.{Reason}
use Rattle.fb_seal.specs.declared.peers.Reason.TheVariants.{NotSealed, Stranger, Forged, Stale, Ahead, Fast}
use Rattle.fb_seal.specs.Reading.{Envelope, body_of, envelope_in, has_form}
use Rattle.fb_seal.specs.Peers.{IsRefused, RefusesAt, allow_at, allowed, counter_in, has_sealed, sealer, sender_in}
use Rattle.fb_seal.specs.Ledger.{Note, Extends, ExtendsAt}
use Rattle.fb_seal.proofs.Admitting.{none_some, some_same}

same_there : (p : Peer → Bool) (i : ℕ) (peers : List Peer) (place upto : ℕ) → ((x : Peer) → p (allowed upto x) ≡ p x)
    → position_from p i (allow_at peers place upto) ≡ position_from p i peers
same_there p i [] place upto e = refl
same_there p i (x ∷ xs) zero upto e = ap (λ b. cond b (Some i) (position_from p (i + 1) xs)) (e x)
same_there p i (x ∷ xs) (suc k) upto e = ap (cond (p x) (Some i)) (same_there p (i + 1) xs k upto e)

-- more counters change nothing of who sealed bytes
pub allowed_sealer : (bytes : List ℕ) (peers : List Peer) (place upto : ℕ) → sealer bytes (allow_at peers place upto) ≡ sealer bytes peers
allowed_sealer bytes peers place upto = same_there (has_sealed bytes (sender_in bytes)) 0 peers place upto (λ x. refl)

-- who sealed bytes, by what they tell
pub sealer_at : (bytes : List ℕ) (e : Envelope) (peers : List Peer) (place : ℕ) → envelope_in (body_of bytes) ≡ e
    → position_from (has_sealed bytes e.sender) 0 peers ≡ Some place → sealer bytes peers ≡ Some place
sealer_at bytes e peers place says first = ap (λ (x : Envelope). position_from (has_sealed bytes x.sender) 0 peers) says ∙ first

-- the peer that sealed bytes was seen to
pub extended : {K : Type 0} (writes : K → Note → Bool → K → Type 0) (before : List Peer) (k : K) (bytes : List ℕ) (e : Envelope) (place : ℕ) (after : List Peer) (m : K)
    → has_form bytes ≡ true → envelope_in (body_of bytes) ≡ e → position_from (has_sealed bytes e.sender) 0 before ≡ Some place
    → ExtendsAt writes before k place e.counter after m → Extends writes before k bytes after m
extended {K} writes before k bytes e place after m form says first h =
    let mine = sealer_at bytes e before place says first in
    let at : ExtendsAt writes before k place (counter_in bytes) after m =
    subst (λ (n : ℕ). ExtendsAt writes before k place n after m) (sym (ap (λ (x : Envelope). x.counter) says)) h in
    record {
      sealed = λ other formed is. subst (λ (n : ℕ). ExtendsAt writes before k n (counter_in bytes) after m) (some_same place other (sym mine ∙ is)) at;
      unformed = λ no. absurd (both_ways _ no form);
      unsealed = λ none. absurd (none_some place (sym none ∙ mine));
    }

-- what is not taken of bytes that a peer sealed
pub untaken_at : (peers : List Peer) (bytes : List ℕ) (place counter : ℕ) (after : List Peer) (reason : Reason) → has_form bytes ≡ true → counter ≡ counter_in bytes
    → sealer bytes peers ≡ Some place → RefusesAt reason peers place counter after → IsRefused reason after bytes
untaken_at peers bytes place counter after NotSealed form is first h = absurd h.why
untaken_at peers bytes place counter after Stranger form is first h = absurd h.why
untaken_at peers bytes place counter after Forged form is first h = absurd h.why
untaken_at peers bytes place counter after Fast form is first h = absurd h.why
untaken_at peers bytes place counter after Stale form is first h =
    subst (λ (ps : List Peer). IsRefused Stale ps bytes) (sym h.kept)
    (form, (place, first, subst (λ (n : ℕ). RefusesAt Stale peers place n peers) is (record { peer = h.peer; there = h.there; why = h.why; kept = refl })))
untaken_at peers bytes place counter after Ahead form is first h =
    subst (λ (ps : List Peer). IsRefused Ahead ps bytes) (sym h.kept)
    (form, (place, first, subst (λ (n : ℕ). RefusesAt Ahead peers place n peers) is (record { peer = h.peer; there = h.there; why = h.why; kept = refl })))

-- the peer at a place is there
pub there_at : (peers : List Peer) (place : ℕ) (known : Peer) → place < length peers → known ≡ get_or peers place known → slice_get peers place ≡ Some known
there_at [] place known less is = absurd (omega (arith, less))
there_at (x ∷ xs) zero known less is = ap Some (sym is)
there_at (x ∷ xs) (suc place) known less is = there_at xs place known (omega (arith, less)) is
