-- Bytes that were admitted are not admitted again.
use Rattle.std.proofs.Common.{arith, ◌≡◌, ◌≢◌, ◌⊎◌, inl, inr, ℕ, zero, suc, ◌+◌, ◌<◌, ◌≤◌, max, Bool, true, false, cond, ◌&&◌, not, List, [], ◌∷◌, Some, refl, sym, ◌∙◌, ap, subst}
use Rattle.std.specs.Prelude.{◌==◌, nat_lt, slice_get, slice_set, bytes_eq}
use Rattle.std.specs.List.{AllZip, list_any, position_from}
use Rattle.std.proofs.lemmas.Bool.{both_ways, cases_Bool, cases_eq, or_left, or_right, cond-true, cond-false, eq-eqb, lt-leb, true≢false}
use Rattle.std.proofs.lemmas.Slice.Eq.{bytes_eq-Decides}
use Rattle.fb_seal.specs.declared.peers.Peer.{Peer}
use Rattle.fb_seal.specs.declared.peers.Reason.{Reason}
use Rattle.fb_seal.specs.declared.peers.Reason.TheVariants.{NotSealed, Stranger, Forged, Stale, Ahead, Fast}
use Rattle.fb_seal.specs.declared.window.Window.{Window}
use Rattle.fb_seal.specs.Seal.{Sealed}
use Rattle.fb_seal.specs.Reading.{Envelope, body_of, envelope_in, has_form, is_tagged}
use Rattle.fb_seal.specs.Window.{is_beside, takes}
use Rattle.fb_seal.specs.Peers.{Admits, Allows, Comes, Event, IsRefused, IsRestarted, IsUntaken, Restarts, Run, allow_at, allowed, counter_in, has_sealed, is_known, occurrences, sealer, sender_in}
use Rattle.fb_seal.proofs.Admitting.{none_some, some_same}
use Rattle.fb_seal.proofs.Spelling.{chosen, sealed_opens}

get_set_same : (peers : List Peer) (k : ℕ) (x y : Peer) → slice_get peers k ≡ Some x → slice_get (slice_set peers k y) k ≡ Some y
get_set_same [] k x y h = absurd (none_some x h)
get_set_same (p ∷ ps) zero x y h = refl
get_set_same (p ∷ ps) (suc k) x y h = get_set_same ps k x y h

get_set_other : (peers : List Peer) (k j : ℕ) (y : Peer) → j ≢ k → slice_get (slice_set peers k y) j ≡ slice_get peers j
get_set_other [] k j y ne = refl
get_set_other (p ∷ ps) zero zero y ne = absurd (ne refl)
get_set_other (p ∷ ps) zero (suc j) y ne = refl
get_set_other (p ∷ ps) (suc k) zero y ne = refl
get_set_other (p ∷ ps) (suc k) (suc j) y ne = get_set_other ps k j y (λ e. ne (ap suc e))

-- another window changes nothing of who sealed bytes
same_place : (p : Peer → Bool) (i : ℕ) (peers : List Peer) (k : ℕ) (x y : Peer) → slice_get peers k ≡ Some x → p y ≡ p x
    → position_from p i (slice_set peers k y) ≡ position_from p i peers
same_place p i [] k x y h e = refl
same_place p i (z ∷ zs) zero x y h e = ap (λ b. cond b (Some i) (position_from p (i + 1) zs)) (e ∙ ap p (sym (some_same z x h)))
same_place p i (z ∷ zs) (suc k) x y h e = ap (cond (p z) (Some i)) (same_place p (i + 1) zs k x y h e)

-- the counter of the bytes, which the peer who sealed them may use, is taken no more
record IsSpent (bytes : List ℕ) (peers : List Peer) : Type 0 where
  pub place : ℕ
  pub peer : Peer
  pub first : sealer bytes peers ≡ Some place
  pub there : slice_get peers place ≡ Some peer
  pub spent : takes peer.window (counter_in bytes) ≡ false
  pub used : counter_in bytes < peer.upto

kept_sealer : (before after : List Peer) (bytes other datagram : List ℕ) → Admits before other datagram after → sealer bytes after ≡ sealer bytes before
kept_sealer before after bytes other datagram h =
    let t = h.takes_it in
    ap (sealer bytes) t.kept ∙ same_place (has_sealed bytes (sender_in bytes)) 0 before h.place t.peer (record t.peer { window = t.window }) t.there refl

-- the counter of bytes that were admitted is the one that they tell
counter_is : (before after : List Peer) (bytes datagram : List ℕ) (h : Admits before bytes datagram after) → counter_in bytes ≡ h.counter
counter_is before after bytes datagram h =
    let t = h.takes_it in
    let e : Envelope = record { sender = t.peer.number; counter = h.counter; datagram = datagram } in
    let parts = chosen (has_form bytes) (is_tagged t.peer.key bytes) (envelope_in (body_of bytes)) e
    (sealed_opens t.peer.key bytes datagram t.peer.number h.counter h.is_sealed) in
    ap (λ (x : Envelope). x.counter) parts.1.1

false_and : (a b : Bool) → b ≡ false → a && b ≡ false
false_and true b h = h
false_and false b h = refl

-- no counter is beside itself
not_beside : (a : Bool) (counter : ℕ) → (a && not (counter == counter)) ≡ false
not_beside a counter = false_and a (not (counter == counter)) (ap not (eq-eqb counter counter refl))

and_false : (a b : Bool) → a ≡ false → a && b ≡ false
and_false a b h = ap (λ x. x && b) h

-- once they are admitted
spent_by : (before after : List Peer) (bytes datagram : List ℕ) → Admits before bytes datagram after → IsSpent bytes after
spent_by before after bytes datagram h =
    let t = h.takes_it in
    record {
      place = h.place;
      peer = record t.peer { window = t.window };
      first = kept_sealer before after bytes bytes datagram h ∙ h.first;
      there = ap (λ (peers : List Peer). slice_get peers h.place) t.kept ∙ get_set_same before h.place t.peer (record t.peer { window = t.window }) t.there;
      spent = ap (takes t.window) (counter_is before after bytes datagram h) ∙ t.taken h.counter
          ∙ and_false (is_beside h.counter h.counter) (takes t.peer.window h.counter) (not_beside (nat_lt h.counter (h.counter + 64)) h.counter);
      used = omega (arith, counter_is before after bytes datagram h, t.allowed);
    }

-- and whatever is admitted then
still_spent : (before after : List Peer) (bytes other datagram : List ℕ) → IsSpent bytes before → Admits before other datagram after → IsSpent bytes after
still_spent before after bytes other datagram s h = choose (cases_eq s.place h.place)
  where
    choose : (s.place ≡ h.place) ⊎ (s.place ≡ h.place → ⊥) → IsSpent bytes after
    choose (inl same) =
        let one : s.peer ≡ h.takes_it.peer = some_same s.peer h.takes_it.peer (sym s.there ∙ ap (slice_get before) same ∙ h.takes_it.there) in
        let old : takes h.takes_it.peer.window (counter_in bytes) ≡ false = ap (λ (p : Peer). takes p.window (counter_in bytes)) (sym one) ∙ s.spent in
        record {
          place = h.place;
          peer = record h.takes_it.peer { window = h.takes_it.window };
          first = kept_sealer before after bytes other datagram h ∙ s.first ∙ ap Some same;
          there = ap (λ (peers : List Peer). slice_get peers h.place) h.takes_it.kept
              ∙ get_set_same before h.place h.takes_it.peer (record h.takes_it.peer { window = h.takes_it.window }) h.takes_it.there;
          spent = h.takes_it.taken (counter_in bytes) ∙ false_and (is_beside h.counter (counter_in bytes)) (takes h.takes_it.peer.window (counter_in bytes)) old;
          used = subst (λ (p : Peer). counter_in bytes < p.upto) one s.used;
        }
    choose (inr ne) = record {
      place = s.place;
      peer = s.peer;
      first = kept_sealer before after bytes other datagram h ∙ s.first;
      there = ap (λ (peers : List Peer). slice_get peers s.place) h.takes_it.kept
          ∙ get_set_other before h.place s.place (record h.takes_it.peer { window = h.takes_it.window }) ne ∙ s.there;
      spent = s.spent;
      used = s.used;
    }

-- also where a peer may use more counters
get_allowed : (peers : List Peer) (place upto k : ℕ) (peer : Peer) → slice_get peers k ≡ Some peer
    → (q : Peer) × (slice_get (allow_at peers place upto) k ≡ Some q) × (q.window ≡ peer.window) × (peer.upto ≤ q.upto)
get_allowed [] place upto k peer h = absurd (none_some peer h)
get_allowed (x ∷ xs) zero upto zero peer h =
    let same : x ≡ peer = some_same x peer h in
    (allowed upto x, refl, ap (λ (p : Peer). p.window) same, subst (λ (p : Peer). p.upto ≤ max x.upto upto) same (omega arith))
get_allowed (x ∷ xs) zero upto (suc k) peer h = (peer, h, refl, omega arith)
get_allowed (x ∷ xs) (suc place) upto zero peer h = (peer, h, refl, omega arith)
get_allowed (x ∷ xs) (suc place) upto (suc k) peer h = get_allowed xs place upto k peer h

place_allowed : (p : Peer → Bool) (i : ℕ) (peers : List Peer) (place upto : ℕ) → ((x : Peer) → p (allowed upto x) ≡ p x)
    → position_from p i (allow_at peers place upto) ≡ position_from p i peers
place_allowed p i [] place upto h = refl
place_allowed p i (x ∷ xs) zero upto h = ap (λ b. cond b (Some i) (position_from p (i + 1) xs)) (h x)
place_allowed p i (x ∷ xs) (suc place) upto h = ap (cond (p x) (Some i)) (place_allowed p (i + 1) xs place upto h)

spent_when_allowed : (bytes : List ℕ) (peers : List Peer) (place upto : ℕ) → IsSpent bytes peers → IsSpent bytes (allow_at peers place upto)
spent_when_allowed bytes peers place upto s =
    let at = get_allowed peers place upto s.place s.peer s.there in
    record {
      place = s.place;
      peer = at.0;
      first = place_allowed (has_sealed bytes (sender_in bytes)) 0 peers place upto (λ x. refl) ∙ s.first;
      there = at.1;
      spent = ap (λ (w : Window). takes w (counter_in bytes)) at.2 ∙ s.spent;
      used = omega (arith, at.3, s.used);
    }

-- and after a restart
get_restarted : (before after : List Peer) (k : ℕ) (peer : Peer) → AllZip IsRestarted before after → slice_get before k ≡ Some peer
    → (q : Peer) × (slice_get after k ≡ Some q) × IsRestarted peer q
get_restarted [] after k peer h e = absurd (none_some peer e)
get_restarted (x ∷ xs) [] k peer h e = absurd h
get_restarted (x ∷ xs) (y ∷ ys) zero peer h e = (y, refl, subst (λ (p : Peer). IsRestarted p y) (some_same x peer e) h.0)
get_restarted (x ∷ xs) (y ∷ ys) (suc k) peer h e = get_restarted xs ys k peer h.1 e

place_restarted : (bytes : List ℕ) (sender i : ℕ) (before after : List Peer) → AllZip IsRestarted before after
    → position_from (has_sealed bytes sender) i after ≡ position_from (has_sealed bytes sender) i before
place_restarted bytes sender i [] [] h = refl
place_restarted bytes sender i [] (y ∷ ys) h = absurd h
place_restarted bytes sender i (x ∷ xs) [] h = absurd h
place_restarted bytes sender i (x ∷ xs) (y ∷ ys) h =
    let number : has_sealed bytes sender y ≡ (x.number == sender && is_tagged y.key bytes) = ap (λ (n : ℕ). n == sender && is_tagged y.key bytes) h.0.number in
    let key : (x.number == sender && is_tagged y.key bytes) ≡ has_sealed bytes sender x = ap (λ (k : List ℕ). x.number == sender && is_tagged k bytes) h.0.key in
    ap (λ b. cond b (Some i) (position_from (has_sealed bytes sender) (i + 1) ys)) (number ∙ key)
    ∙ ap (cond (has_sealed bytes sender x) (Some i)) (place_restarted bytes sender (i + 1) xs ys h.1)

spent_when_restarted : (bytes : List ℕ) (before after : List Peer) → AllZip IsRestarted before after → IsSpent bytes before → IsSpent bytes after
spent_when_restarted bytes before after h s =
    let at = get_restarted before after s.place s.peer h s.there in
    let below : counter_in bytes < at.0.upto = omega (arith, s.used, at.2.upto) in
    record {
      place = s.place;
      peer = at.0;
      first = place_restarted bytes (sender_in bytes) 0 before after h ∙ s.first;
      there = at.1;
      spent = at.2.window (counter_in bytes) ∙ lt-leb at.0.upto (counter_in bytes) below;
      used = below;
    }

-- so they are not admitted again
not_again : (before after : List Peer) (bytes datagram : List ℕ) → IsSpent bytes before → Admits before bytes datagram after → ⊥
not_again before after bytes datagram s h =
    let t = h.takes_it in
    let same : s.place ≡ h.place = some_same s.place h.place (sym s.first ∙ h.first) in
    let one : s.peer ≡ t.peer = some_same s.peer t.peer (sym s.there ∙ ap (slice_get before) same ∙ t.there) in
    true≢false (sym t.fresh ∙ ap (takes t.peer.window) (sym (counter_is before after bytes datagram h)) ∙ ap (λ (p : Peer). takes p.window (counter_in bytes)) (sym one) ∙ s.spent)

never_after : (before after : List Peer) (events : List Event) (admitted : List (List ℕ)) (bytes : List ℕ) → IsSpent bytes before → Run before events admitted after
    → occurrences bytes admitted ≡ 0
never_after before after [] admitted bytes s h = ap (occurrences bytes) h.0
never_after before after (Restarts ∷ more) admitted bytes s h =
    never_after h.0 after more admitted bytes (spent_when_restarted bytes before h.0 h.1 s) h.2
never_after before after (Allows place upto ∷ more) admitted bytes s h =
    never_after (allow_at before place upto) after more admitted bytes (spent_when_allowed bytes before place upto s) h
never_after before after (Comes first ∷ more) admitted bytes s (inr h) = never_after before after more admitted bytes s h.2
never_after before after (Comes first ∷ more) admitted bytes s (inl h) =
    ap (occurrences bytes) h.4
    ∙ choose (cases_Bool (bytes_eq first bytes)) (λ (k : IsSpent bytes h.1). never_after h.1 after more h.2 bytes k h.5)
  where
    choose : (bytes_eq first bytes ≡ true) ⊎ (bytes_eq first bytes ≡ false) → (IsSpent bytes h.1 → occurrences bytes h.2 ≡ 0) → occurrences bytes (first ∷ h.2) ≡ 0
    choose (inl same) rest =
        let is : first ≡ bytes = (bytes_eq-Decides first bytes).0 same in
        absurd (not_again before h.1 bytes h.0 s (subst (λ (x : List ℕ). Admits before x h.0 h.1) is h.3))
    choose (inr other) rest =
        cond-false (bytes_eq first bytes) (1 + occurrences bytes h.2) (occurrences bytes h.2) other ∙ rest (still_spent before h.1 bytes first h.0 s h.3)

pub once : (before after : List Peer) (events : List Event) (admitted : List (List ℕ)) → Run before events admitted after → (bytes : List ℕ) → occurrences bytes admitted ≤ 1
once before after [] admitted h bytes = omega (arith, ap (occurrences bytes) h.0)
once before after (Restarts ∷ more) admitted h bytes = once h.0 after more admitted h.2 bytes
once before after (Allows place upto ∷ more) admitted h bytes = once (allow_at before place upto) after more admitted h bytes
once before after (Comes first ∷ more) admitted (inr h) bytes = once before after more admitted h.2 bytes
once before after (Comes first ∷ more) admitted (inl h) bytes =
    let whole = ap (occurrences bytes) h.4 in
    omega (arith, whole, choose (cases_Bool (bytes_eq first bytes)) (once h.1 after more h.2 h.5 bytes))
  where
    choose : (bytes_eq first bytes ≡ true) ⊎ (bytes_eq first bytes ≡ false) → occurrences bytes h.2 ≤ 1 → occurrences bytes (first ∷ h.2) ≤ 1
    choose (inl same) rest =
        let is : first ≡ bytes = (bytes_eq-Decides first bytes).0 same in
        let spent = subst (λ (x : List ℕ). IsSpent x h.1) is (spent_by before h.1 first h.0 h.3) in
        let none = never_after h.1 after more h.2 bytes spent h.5 in
        let here = cond-true (bytes_eq first bytes) (1 + occurrences bytes h.2) (occurrences bytes h.2) same in
        omega (arith, here, none)
    choose (inr other) rest =
        let here = cond-false (bytes_eq first bytes) (1 + occurrences bytes h.2) (occurrences bytes h.2) other in
        omega (arith, here, rest)

-- ---- what a peer sealed

any_there : (p : Peer → Bool) (peers : List Peer) (k : ℕ) (peer : Peer) → slice_get peers k ≡ Some peer → p peer ≡ true → list_any p peers ≡ true
any_there p [] k peer h e = absurd (none_some peer h)
any_there p (x ∷ xs) zero peer h e = or_left (p x) (list_any p xs) (ap p (some_same x peer h) ∙ e)
any_there p (x ∷ xs) (suc k) peer h e = or_right (p x) (list_any p xs) (any_there p xs k peer h e)

-- with a fresh counter it is not refused
pub not_refused : (peers : List Peer) (bytes datagram : List ℕ) (place counter : ℕ) (peer : Peer) (reason : Reason) → sealer bytes peers ≡ Some place
    → slice_get peers place ≡ Some peer → Sealed peer.key peer.number counter bytes datagram → counter < peer.upto → takes peer.window counter ≡ true
    → IsRefused reason peers bytes → ⊥
not_refused peers bytes datagram place counter peer reason first there is_sealed allowed_it fresh refused = choose reason refused
  where
    parts : (has_form bytes ≡ true) × ((is_tagged peer.key bytes ≡ true) × (envelope_in (body_of bytes) ≡ record { sender = peer.number; counter = counter; datagram = datagram }))
    parts = chosen (has_form bytes) (is_tagged peer.key bytes) (envelope_in (body_of bytes)) (record { sender = peer.number; counter = counter; datagram = datagram })
        (sealed_opens peer.key bytes datagram peer.number counter is_sealed)

    number : (peer.number == sender_in bytes) ≡ true
    number = eq-eqb peer.number (sender_in bytes) (sym (ap (λ (x : Envelope). x.sender) parts.1.1))

    its_peer : (reason : Reason) (h : IsUntaken reason peers bytes) → h.2.peer ≡ peer
    its_peer reason h =
        let same : h.0 ≡ place = some_same h.0 place (sym h.1 ∙ first) in
        some_same h.2.peer peer (sym h.2.there ∙ ap (slice_get peers) same ∙ there)

    choose : (reason : Reason) → IsRefused reason peers bytes → ⊥
    choose NotSealed h = both_ways (has_form bytes) h parts.0
    choose Stranger h = both_ways (is_known peers (sender_in bytes)) h.1 (any_there (λ (x : Peer). x.number == sender_in bytes) peers place peer there number)
    choose Forged h = none_some place (sym h.2 ∙ first)
    choose Fast h = h
    choose Stale h =
        let one = its_peer Stale h.1 in
        let stale : takes peer.window (counter_in bytes) ≡ false = ap (λ (x : Peer). takes x.window (counter_in bytes)) (sym one) ∙ h.1.2.why in
        let told : takes peer.window (counter_in bytes) ≡ true = ap (λ (x : Envelope). takes peer.window x.counter) parts.1.1 ∙ fresh in
        both_ways (takes peer.window (counter_in bytes)) stale told
    choose Ahead h =
        let one = its_peer Ahead h.1 in
        let is : counter_in bytes ≡ counter = ap (λ (x : Envelope). x.counter) parts.1.1 in
        let ahead : peer.upto ≤ counter_in bytes = subst (λ (x : Peer). x.upto ≤ counter_in bytes) one h.1.2.why in
        omega (arith, is, ahead, allowed_it)
