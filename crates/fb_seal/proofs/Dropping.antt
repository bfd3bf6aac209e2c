-- Receives of a sealed link: bytes that are dropped, one after another.
use Rattle.std.proofs.Common.{◌≡◌, ℕ, ◌+◌, Bool, List, [], ◌∷◌, ◌++◌, length, refl, sym, ◌∙◌, ap, subst, length-append}
use Rattle.fb_words.specs.Links.{LinkCall, Handed}
use Rattle.fb_seal.specs.declared.link.Dropped.{Dropped}
use Rattle.fb_seal.specs.declared.peers.Peer.{Peer}
use Rattle.fb_seal.specs.declared.peers.Reason.{Reason}
use Rattle.fb_seal.specs.declared.peers.Reason.TheVariants.{NotSealed, Stranger, Forged, Stale, Ahead, Fast}
use Rattle.fb_seal.specs.Peers.{IsRefused}
use Rattle.fb_seal.specs.Ledger.{Note, Extends}
use Rattle.fb_seal.specs.Passing.{Drops, IsLost, count, counted}

module _ {L K G : Type 0} (steps : L → LinkCall → L → Type 0) (writes : K → Note → Bool → K → Type 0) (lets : G → ℕ → Bool → G → Type 0) where
  -- so many were dropped so far, and counted
  pub record Dropping (before : List Peer) (k : K) (g : G) (dropped : Dropped) (s : L) (n : ℕ) (peers : List Peer) (m : K) (h : G) (sum : Dropped) (t : L) : Type 0 where
    pub reasons : List Reason
    pub drops : Drops steps writes lets before k g reasons s peers m h t
    pub as_many : length reasons ≡ n
    pub counts : sum ≡ counted dropped reasons

  -- none yet
  pub none_yet : (peers : List Peer) (k : K) (g : G) (dropped : Dropped) (s : L) → Dropping peers k g dropped s 0 peers k g dropped s
  none_yet peers k g dropped s = record { reasons = []; drops = (refl, refl, refl, refl); as_many = refl; counts = refl }

  drops_more : (before : List Peer) (k : K) (g : G) (reasons : List Reason) (s : L) (peers : List Peer) (m : K) (h : G) (u : L) (reason : Reason) (bytes : List ℕ)
      (extended : List Peer) (n : K) (mid : List Peer) (i : G) (t : L) → Drops steps writes lets before k g reasons s peers m h u → steps u (Handed 188 bytes) t
      → Extends writes peers m bytes extended n → IsLost lets reason extended h bytes mid i → Drops steps writes lets before k g (reasons ++ reason ∷ []) s mid n i t
  drops_more before k g [] s peers m h u reason bytes extended n mid i t were call extends lost = (
    bytes,
    t,
    extended,
    n,
    mid,
    i,
    subst (λ (x : L). steps x (Handed 188 bytes) t) (sym were.0) call,
    subst (λ (ps : List Peer). Extends writes ps k bytes extended n) were.1 (subst (λ (j : K). Extends writes peers j bytes extended n) were.2 extends),
    subst (λ (j : G). IsLost lets reason extended j bytes mid i) were.3 lost,
    (refl, refl, refl, refl),
  )
  drops_more before k g (r ∷ rs) s peers m h u reason bytes extended n mid i t were call extends lost = (
    were.0,
    were.1,
    were.2,
    were.3,
    were.4,
    were.5,
    were.6,
    were.7,
    were.8,
    drops_more were.4 were.3 were.5 rs were.1 peers m h u reason bytes extended n mid i t were.9 call extends lost,
  )

  counted_more : (d : Dropped) (reasons : List Reason) (reason : Reason) → counted d (reasons ++ reason ∷ []) ≡ count (counted d reasons) reason
  counted_more d [] reason = refl
  counted_more d (r ∷ rs) reason = counted_more (count d r) rs reason

  -- one more
  pub one_more : (before : List Peer) (k : K) (g : G) (dropped : Dropped) (s : L) (count_of : ℕ) (peers : List Peer) (m : K) (h : G) (sum : Dropped) (u : L)
      (reason : Reason) (bytes : List ℕ) (extended : List Peer) (n : K) (mid : List Peer) (i : G) (most : Dropped) (t : L) → Dropping before k g dropped s count_of peers m h sum u
      → steps u (Handed 188 bytes) t → Extends writes peers m bytes extended n → IsLost lets reason extended h bytes mid i → most ≡ count sum reason
      → Dropping before k g dropped s (count_of + 1) mid n i most t
  one_more before k g dropped s count_of peers m h sum u reason bytes extended n mid i most t were call extends lost is =
      record {
        reasons = were.reasons ++ reason ∷ [];
        drops = drops_more before k g were.reasons s peers m h u reason bytes extended n mid i t were.drops call extends lost;
        as_many = length-append were.reasons (reason ∷ []) ∙ ap (λ (j : ℕ). j + 1) were.as_many;
        counts = is ∙ ap (λ (d : Dropped). count d reason) were.counts ∙ sym (counted_more dropped were.reasons reason);
      }

-- bytes that are refused are dropped, and no gate is asked
pub refused_is_lost : {G : Type 0} (lets : G → ℕ → Bool → G → Type 0) (reason : Reason) (peers : List Peer) (g : G) (bytes : List ℕ)
    → IsRefused reason peers bytes → IsLost lets reason peers g bytes peers g
refused_is_lost lets NotSealed peers g bytes h = (h, refl, refl)
refused_is_lost lets Stranger peers g bytes h = (h, refl, refl)
refused_is_lost lets Forged peers g bytes h = (h, refl, refl)
refused_is_lost lets Stale peers g bytes h = (h, refl, refl)
refused_is_lost lets Ahead peers g bytes h = (h, refl, refl)
refused_is_lost lets Fast peers g bytes h = absurd h
