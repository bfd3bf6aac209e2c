-- What a gate is asked while a sealed link receives.
use Rattle.std.proofs.Common.{arith, ◌≡◌, ℕ, ◌+◌, ◌≤◌, min, Bool, true, false, List, [], ◌∷◌, length, refl, ◌∙◌, ap, subst}
use Rattle.fb_words.specs.Links.{LinkCall, Handed, Silent, Broken, Sent}
use Rattle.fb_seal.specs.declared.link.Dropped.{Dropped}
use Rattle.fb_seal.specs.declared.peers.Peer.{Peer}
use Rattle.fb_seal.specs.declared.peers.Reason.{Reason}
use Rattle.fb_seal.specs.declared.peers.Reason.TheVariants.{NotSealed, Stranger, Forged, Stale, Ahead, Fast}
use Rattle.fb_seal.specs.Ledger.{Note}
use Rattle.fb_seal.specs.Peers.{sender_in}
use Rattle.fb_seal.specs.Passing.{Drops, Receives, count, counted}
use Rattle.fb_seal.specs.Gates.{Asked, AsksOfEach, ReceivesAll, handed, noes, yeses}

module _ {L K G : Type 0} (steps : L → LinkCall → L → Type 0) (writes : K → Note → Bool → K → Type 0) (lets : G → ℕ → Bool → G → Type 0) where
  -- what is asked from here on, of which so many answers more are no than those behind
  record Ahead_of (g z : G) (behind : List (ℕ × Bool)) (from to : Dropped) (all : List (ℕ × Bool)) : Type 0 where
    pub asked : Asked lets g all z
    pub passed : yeses all ≡ yeses behind
    pub more : ℕ
    pub dropped : noes all ≡ more + noes behind
    pub counts : to.fast ≡ min (from.fast + more) 18446744073709551615

  -- a datagram that is refused asks nothing
  unasked : (g i z : G) (behind : List (ℕ × Bool)) (from then to : Dropped) (all : List (ℕ × Bool)) → i ≡ g → then.fast ≡ from.fast → Ahead_of i z behind then to all
      → Ahead_of g z behind from to all
  unasked g i z behind from then to all same kept h =
      record {
        asked = subst (λ (j : G). Asked lets j all z) same h.asked;
        passed = h.passed;
        more = h.more;
        dropped = h.dropped;
        counts = omega (arith, h.counts, kept);
      }

  drops_ask : (reasons : List Reason) (before : List Peer) (k : K) (g : G) (s : L) (after : List Peer) (m : K) (h : G) (t : L) (d : Dropped) (behind : List (ℕ × Bool)) (z : G)
      → d.fast ≤ 18446744073709551615 → Drops steps writes lets before k g reasons s after m h t → Asked lets h behind z
      → (all : List (ℕ × Bool)) × Ahead_of g z behind d (counted d reasons) all
  drops_ask [] before k g s after m h t d behind z few was then =
      (behind, record { asked = subst (λ (j : G). Asked lets j behind z) was.3 then; passed = refl; more = 0; dropped = omega arith; counts = omega (arith, few) })
  drops_ask (NotSealed ∷ rs) before k g s after m h t d behind z few was then =
      let rest = drops_ask rs was.4 was.3 was.5 was.1 after m h t (count d NotSealed) behind z few was.9 then in
      (rest.0, unasked g was.5 z behind d (count d NotSealed) (counted (count d NotSealed) rs) rest.0 was.8.2 refl rest.1)
  drops_ask (Stranger ∷ rs) before k g s after m h t d behind z few was then =
      let rest = drops_ask rs was.4 was.3 was.5 was.1 after m h t (count d Stranger) behind z few was.9 then in
      (rest.0, unasked g was.5 z behind d (count d Stranger) (counted (count d Stranger) rs) rest.0 was.8.2 refl rest.1)
  drops_ask (Forged ∷ rs) before k g s after m h t d behind z few was then =
      let rest = drops_ask rs was.4 was.3 was.5 was.1 after m h t (count d Forged) behind z few was.9 then in
      (rest.0, unasked g was.5 z behind d (count d Forged) (counted (count d Forged) rs) rest.0 was.8.2 refl rest.1)
  drops_ask (Stale ∷ rs) before k g s after m h t d behind z few was then =
      let rest = drops_ask rs was.4 was.3 was.5 was.1 after m h t (count d Stale) behind z few was.9 then in
      (rest.0, unasked g was.5 z behind d (count d Stale) (counted (count d Stale) rs) rest.0 was.8.2 refl rest.1)
  drops_ask (Ahead ∷ rs) before k g s after m h t d behind z few was then =
      let rest = drops_ask rs was.4 was.3 was.5 was.1 after m h t (count d Ahead) behind z few was.9 then in
      (rest.0, unasked g was.5 z behind d (count d Ahead) (counted (count d Ahead) rs) rest.0 was.8.2 refl rest.1)
  drops_ask (Fast ∷ rs) before k g s after m h t d behind z few was then =
      let rest = drops_ask rs was.4 was.3 was.5 was.1 after m h t (count d Fast) behind z (omega arith) was.9 then in
      let counts : (counted (count d Fast) rs).fast ≡ min (min (d.fast + 1) 18446744073709551615 + rest.1.more) 18446744073709551615 = rest.1.counts in (
        (sender_in was.0, false) ∷ rest.0,
        record {
          asked = (was.5, was.8.2, rest.1.asked);
          passed = rest.1.passed;
          more = 1 + rest.1.more;
          dropped = omega (arith, rest.1.dropped);
          counts = omega (arith, counts, few);
        },
      )

  -- the call behind what is dropped, and what is asked behind it
  call_asks : (call : LinkCall) (calls : List LinkCall) (before : List Peer) (k : K) (g : G) (n : ℕ) (s : L) (after : List Peer) (m : K) (h : G) (t : L) (behind : List (ℕ × Bool)) (z : G)
      → Receives steps writes lets before k g n s call after m h t → Asked lets h behind z → yeses behind ≡ handed calls
      → (all : List (ℕ × Bool)) × Asked lets g all z × (yeses all ≡ handed (call ∷ calls)) × (noes all ≡ noes behind)
  call_asks (Handed room bytes) calls before k g n s after m h t behind z was then passed =
      ((sender_in was.1, true) ∷ behind, (h, was.6.1, then), ap (λ (j : ℕ). 1 + j) passed, refl)
  call_asks Silent calls before k g n s after m h t behind z was then passed = (behind, subst (λ (j : G). Asked lets j behind z) was.2 then, passed, refl)
  call_asks Broken calls before k g n s after m h t behind z was then passed = (behind, subst (λ (j : G). Asked lets j behind z) was.2 then, passed, refl)
  call_asks (Sent bytes ok) calls before k g n s after m h t behind z was then passed = absurd was

  pub asks_of_each : (calls : List LinkCall) (before : List Peer) (k : K) (g : G) (d : Dropped) (s : L) (after : List Peer) (m : K) (h : G) (sum : Dropped) (t : L)
      → d.fast ≤ 18446744073709551615 → ReceivesAll steps writes lets before k g d s calls after m h sum t
      → (questions : List (ℕ × Bool)) × AsksOfEach lets g h calls d sum questions
  asks_of_each [] before k g d s after m h sum t few was =
      let same : sum.fast ≡ d.fast = ap (λ (x : Dropped). x.fast) was.3 in
      ([], record { asked = was.2; passed = refl; dropped = omega (arith, same, few) })
  asks_of_each (call ∷ calls) before k g d s after m h sum t few was =
      let r = was.5 in
      let counts : was.3.fast ≡ (counted d r.reasons).fast = ap (λ (x : Dropped). x.fast) r.counts in
      let first = drops_ask r.reasons before k g s r.mid r.ledger r.gate r.between d [] r.gate few r.drops refl in
      let still : was.3.fast ≤ 18446744073709551615 = omega (arith, counts, first.1.counts) in
      let rest = asks_of_each calls was.0 was.1 was.2 was.3 was.4 after m h sum t still was.6 in
      let one = call_asks call calls r.mid r.ledger r.gate (length r.reasons) r.between was.0 was.1 was.2 was.4 rest.0 h r.received rest.1.asked rest.1.passed in
      let all = drops_ask r.reasons before k g s r.mid r.ledger r.gate r.between d one.0 h few r.drops one.1 in
      (all.0, record { asked = all.1.asked; passed = all.1.passed ∙ one.2; dropped = omega (arith, rest.1.dropped, counts, all.1.counts, all.1.dropped, one.3) })
