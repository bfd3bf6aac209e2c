-- Who keeps to its rate is handed on.
use Rattle.std.proofs.Common.{◌≡◌, ℕ, ◌≤◌, Bool, true, List, [], ◌∷◌, subst}
use Rattle.std.specs.List.{AllByRecursion}
use Rattle.fb_words.specs.Links.{LinkCall}
use Rattle.fb_pace.specs.Buckets.{answers_for}
use Rattle.fb_pace.specs.Pacing.{Asks, AsksAll, Pacing}
use Rattle.fb_pace.proofs.Apart.{loses_nothing}
use Rattle.fb_pace.proofs.Clocked.{clocked}
use Rattle.fb_seal.specs.declared.link.Dropped.{Dropped}
use Rattle.fb_seal.specs.declared.peers.Peer.{Peer}
use Rattle.fb_seal.specs.Ledger.{Note}
use Rattle.fb_seal.specs.Gates.{Asked, ReceivesAll}
use Rattle.fb_seal.proofs.Asking.{asks_of_each}
use Rattle.fb_seal_laws.specs.Fair.{IsFair}

by_clock : (p q : Pacing) (questions : List (ℕ × Bool)) → Asked Asks p questions q → AsksAll p questions q
by_clock p q [] h = h
by_clock p q (x ∷ xs) h = (h.0, h.1, by_clock h.0 q xs h.2)

pub fair : {L K : Type 0} (steps : L → LinkCall → L → Type 0) (writes : K → Note → Bool → K → Type 0) (before after : List Peer) (k m : K) (p q : Pacing) (dropped sum : Dropped)
    (s t : L) (calls : List LinkCall) → dropped.fast ≤ 18446744073709551615 → ReceivesAll steps writes Asks before k p dropped s calls after m q sum t
    → IsFair p q calls dropped sum
fair steps writes before after k m p q dropped sum s t calls few was =
    let each = asks_of_each steps writes Asks calls before k p dropped s after m q sum t few was in
    let at = clocked p q each.0 (by_clock p q each.0 each.1.asked) in
    record {
      questions = each.0;
      each = each.1;
      asks = at.0;
      at = at.1;
      fair = λ number b there new within.
          subst (λ (bs : List Bool). AllByRecursion (λ answer. answer ≡ true) (answers_for number at.0 bs)) at.1.answers
          (loses_nothing p.peers at.0 number b there new (at.1.order number) within);
    }
