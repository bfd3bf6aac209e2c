-- Datagrams that were admitted too often, and the others.
use Rattle.std.proofs.Common.{◌≡◌, ◌⊎◌, inl, inr, ⊎_elim, ℕ, zero, suc, ◌+◌, ◌<◌, ◌≤◌, List, [], ◌∷◌, map, drop, slice_get, Option, Some, None, sym, ◌∙◌, ap, refl, subst, arith}
use Rattle.std.specs.Prelude.{MatchOption, slice_index_or}
use Rattle.std.specs.Option.{option_map}
use Rattle.std.specs.List.{AllByRecursion}
use Rattle.std.proofs.lemmas.Option.{same_Some, slice_get-map}
use Rattle.fb_model.specs.World.{AreWithin, datagram_numbered}
use Rattle.fb_model.specs.World.{Datagram as book}
use Rattle.fb_world_course.specs.declared.sent.Sent.{Sent}
use Rattle.fb_world_course.specs.Scenes.{datagram_of}
use Rattle.fb_world.specs.Laws.{AreSeldom, IsNextOften, IsOften, IsSeldom}

at_most : (most : ℕ) (xs : List ℕ) → AllByRecursion (λ n. n ≤ most) xs → (d : ℕ) → slice_index_or xs d 0 ≤ most
at_most most [] h d = omega arith
at_most most (x ∷ xs) h zero = h.0
at_most most (x ∷ xs) h (suc d) = at_most most xs h.1 d

index_is : (xs : List ℕ) (d n : ℕ) → slice_get xs d ≡ Some n → slice_index_or xs d 0 ≡ n
index_is [] d n e = cc
index_is (x ∷ xs) zero n e = cc
index_is (x ∷ xs) (suc d) n e = index_is xs d n e

-- the first count above so many is that of a device that admitted the datagram more often
pub counted : (most root : ℕ) (g : Sent) (o : Option ℕ) → g.root ≡ root → g.message.stamp ≡ None → MatchOption o (AllByRecursion (λ n. n ≤ most) g.admissions) (λ at. (n : ℕ) × (slice_get g.admissions at ≡ Some n) × (most < n))
    → MatchOption o (IsSeldom most root (datagram_of g)) (IsOften most root (datagram_of g))
counted most root g None r s h = λ i j d. at_most most g.admissions h d
counted most root g (Some at) r s h = record { root_is = r; unstamped = s; more = omega (arith, index_is g.admissions at h.0 h.1, h.2) }

pub numbered_so : (gs : List Sent) (at : ℕ) (g : Sent) → slice_get gs at ≡ Some g → datagram_numbered (map datagram_of gs) (at + 1) ≡ Some (datagram_of g)
numbered_so gs at g e = ap (datagram_numbered (map datagram_of gs)) (let i : at + 1 ≡ suc at = omega arith in i) ∙ slice_get-map datagram_of gs at ∙ ap (option_map datagram_of) e

from_here : (most root : ℕ) (gs : List Sent) (at : ℕ) (g : Sent) → slice_get gs at ≡ Some g → IsSeldom most root (datagram_of g) → AreWithin most root (map datagram_of (drop (suc at) gs)) → AreWithin most root (map datagram_of (drop at gs))
from_here most root [] at g e s h = cc
from_here most root (x ∷ xs) zero g e s h = (let is : x ≡ g = cc in (subst (λ (y : Sent). IsSeldom most root (datagram_of y)) (sym is) s, h))
from_here most root (x ∷ xs) (suc at) g e s h = from_here most root xs at g e s h

-- where one was not admitted too often, it is the rest that tells
pub further : (most root : ℕ) (gs : List Sent) (at : ℕ) (g : Sent) → slice_get gs at ≡ Some g → IsSeldom most root (datagram_of g) → AreWithin most root (map datagram_of (drop (at + 1) gs)) → AreWithin most root (map datagram_of (drop at gs))
further most root gs at g e s h = from_here most root gs at g e s (subst (λ k. AreWithin most root (map datagram_of (drop k gs))) (let i : at + 1 ≡ suc at = omega arith in i) h)

-- ---- one after another

at_or_before : (k n : ℕ) → k < suc n → (k ≡ n) ⊎ (k < n)
at_or_before zero zero h = inl cc
at_or_before zero (suc n) h = inr (omega arith)
at_or_before (suc k) zero h = absurd (omega (arith, h))
at_or_before (suc k) (suc n) h = ⊎_elim (λ e. inl (ap suc e)) (λ l. inr (omega (arith, l))) (at_or_before k n (omega (arith, h)))

-- no number is between two that follow each other
pub none_between : (most n : ℕ) (gs : List Sent) → AreSeldom most n (n + 1) (map datagram_of gs)
none_between most n gs = λ k g a b e. absurd (omega (arith, a, b))

is_the_one : (most at k : ℕ) (gs : List Sent) (g : Sent) (x : book) → slice_get gs at ≡ Some g → IsSeldom most g.root (datagram_of g) → k ≡ at + 1 → datagram_numbered (map datagram_of gs) k ≡ Some x
    → IsSeldom most x.root x
is_the_one most at k gs g x e s i h =
    let same : datagram_of g ≡ x = same_Some (datagram_of g) x (sym (numbered_so gs at g e) ∙ (ap (datagram_numbered (map datagram_of gs)) (sym i) ∙ h)) in
    subst (λ (y : book). IsSeldom most y.root y) same s

-- with the next one, where it was not admitted more often either
pub with_next : (most behind at : ℕ) (gs : List Sent) (g : Sent) → slice_get gs at ≡ Some g → IsSeldom most g.root (datagram_of g) → AreSeldom most behind (at + 1) (map datagram_of gs)
    → AreSeldom most behind (at + 1 + 1) (map datagram_of gs)
with_next most behind at gs g e s h =
    λ k x a b i. ⊎_elim (λ same. is_the_one most at k gs g x e s same i) (λ below. h k x a below i) (at_or_before k (at + 1) (omega (arith, b)))

-- and where it was, it is the first
pub is_next : (most behind at device : ℕ) (gs : List Sent) (g : Sent) → slice_get gs at ≡ Some g → behind ≤ at → AreSeldom most behind (at + 1) (map datagram_of gs) → IsOften most g.root (datagram_of g) device
    → IsNextOften most behind (map datagram_of gs) (record { root = g.root; datagram = 1 + at; device = device })
is_next most behind at device gs g e le s o =
    let i : at + 1 ≡ 1 + at = omega arith in
    record {
      later = omega (arith, le);
      first = subst (λ n. AreSeldom most behind n (map datagram_of gs)) i s;
      often = record {
        root_is = refl;
        datagram = datagram_of g;
        numbered = subst (λ n. datagram_numbered (map datagram_of gs) n ≡ Some (datagram_of g)) i (numbered_so gs at g e);
        often = o;
      };
    }

-- none of fewer was, where none of more was
pub none_of_fewer : (most behind upto fewer : ℕ) (gs : List Sent) → fewer ≤ upto → AreSeldom most behind upto (map datagram_of gs) → AreSeldom most behind fewer (map datagram_of gs)
none_of_fewer most behind upto fewer gs le s = λ k x a b i. s k x a (omega (arith, b, le)) i
