-- Lists that grow at their end, and datagrams by their numbers.
use Rattle.std.proofs.Common.{◌≡◌, ℕ, zero, suc, ◌+◌, ◌<◌, ◌≤◌, List, [], ◌∷◌, ◌++◌, Some, refl, sym, ◌∙◌, ap, subst, arith, ◌⊎◌, inl, inr}
use Rattle.std.specs.Prelude.{length, slice_get}
use Rattle.fb_model.specs.Messages.{Message}
use Rattle.fb_model.specs.World.{Datagram, admitted_at}
use Rattle.fb_model_worlds.proofs.Sounding.{bumped}

module _ {X : Type 0} where
  pub index_below : (xs : List X) (i : ℕ) (y : X) → slice_get xs i ≡ Some y → i < length xs
  index_below [] i y e = cc
  index_below (x ∷ xs) zero y e = omega arith
  index_below (x ∷ xs) (suc i) y e = omega (arith, index_below xs i y e)

  pub there_is : (xs : List X) (i : ℕ) → i < length xs → (y : X) × (slice_get xs i ≡ Some y)
  there_is [] i l = absurd (omega (arith, l))
  there_is (x ∷ xs) zero l = (x, refl)
  there_is (x ∷ xs) (suc i) l = there_is xs i (omega (arith, l))

  -- what is at an index stays there
  pub still : (xs ys : List X) (i : ℕ) (y : X) → slice_get xs i ≡ Some y → slice_get (xs ++ ys) i ≡ Some y
  still [] ys i y e = cc
  still (x ∷ xs) ys zero y e = e
  still (x ∷ xs) ys (suc i) y e = still xs ys i y e

  pub at_end : (xs : List X) (h : X) → slice_get (xs ++ h ∷ []) (length xs) ≡ Some h
  at_end [] h = refl
  at_end (x ∷ xs) h = at_end xs h

  -- it was there, or is the last
  pub was_or_last : (xs : List X) (h : X) (i : ℕ) (y : X) → slice_get (xs ++ h ∷ []) i ≡ Some y → (slice_get xs i ≡ Some y) ⊎ ((i ≡ length xs) × (h ≡ y))
  was_or_last [] h zero y e = (let is : h ≡ y = cc in inr (refl, is))
  was_or_last [] h (suc i) y e = cc
  was_or_last (x ∷ xs) h zero y e = inl e
  was_or_last (x ∷ xs) h (suc i) y e = elim (was_or_last xs h i y e) [
    | inl k ↦ inl k
    | inr k ↦ inr (omega (arith, k.0), k.1)
  ]

  pub length-end : (xs : List X) (h : X) → length (xs ++ h ∷ []) ≡ length xs + 1
  length-end [] h = refl
  length-end (x ∷ xs) h = omega (arith, length-end xs h)

  pub append_nothing : (xs : List X) → xs ++ [] ≡ xs
  append_nothing [] = refl
  append_nothing (x ∷ xs) = ap (λ ys. x ∷ ys) (append_nothing xs)

  pub append_again : (xs : List X) (h : X) (ys : List X) → (xs ++ h ∷ []) ++ ys ≡ xs ++ h ∷ ys
  append_again [] h ys = refl
  append_again (x ∷ xs) h ys = ap (λ zs. x ∷ zs) (append_again xs h ys)

-- ---- datagrams, numbered from one number on

abbrev pub AllFrom : (ℕ → Datagram → Type 0) → ℕ → List Datagram → Type 0
AllFrom P k [] = Unit {0}
AllFrom P k (g ∷ gs) = P k g × AllFrom P (k + 1) gs

pub from_weaker : (P Q : ℕ → Datagram → Type 0) (k : ℕ) (gs : List Datagram) → ((n : ℕ) (g : Datagram) → P n g → Q n g) → AllFrom P k gs → AllFrom Q k gs
from_weaker P Q k [] f h = tt
from_weaker P Q k (g ∷ gs) f h = (f k g h.0, from_weaker P Q (k + 1) gs f h.1)

pub from_end : (P : ℕ → Datagram → Type 0) (k : ℕ) (gs : List Datagram) (g : Datagram) → AllFrom P k gs → P (k + length gs) g → AllFrom P k (gs ++ g ∷ [])
from_end P k [] g h p = (subst (λ n. P n g) (let e : k + 0 ≡ k = omega arith in e) p, tt)
from_end P k (x ∷ xs) g h p = (h.0, from_end P (k + 1) xs g h.1 (subst (λ n. P n g) (let e : k + suc (length xs) ≡ (k + 1) + length xs = omega arith in e) p))

pub from_at : (P : ℕ → Datagram → Type 0) (k : ℕ) (gs : List Datagram) (i : ℕ) (g : Datagram) → slice_get gs i ≡ Some g → AllFrom P k gs → P (k + i) g
from_at P k [] i g e h = cc
from_at P k (x ∷ xs) zero g e h = (let is : x ≡ g = cc in subst (P (k + 0)) is (subst (λ n. P n x) (let e : k ≡ k + 0 = omega arith in e) h.0))
from_at P k (x ∷ xs) (suc i) g e h = subst (λ n. P n g) (let e : (k + 1) + i ≡ k + suc i = omega arith in e) (from_at P (k + 1) xs i g e h.1)

-- one is admitted once more
pub from_admitted : (P Q : ℕ → Datagram → Type 0) (k : ℕ) (gs : List Datagram) (i d : ℕ) → ((n : ℕ) (g : Datagram) → (n ≡ k + i → ⊥) → P n g → Q n g) → ((g : Datagram) → P (k + i) g → Q (k + i) (bumped g d)) → AllFrom P k gs → AllFrom Q k (admitted_at gs i d)
from_admitted P Q k [] i d f b h = tt
from_admitted P Q k (g ∷ gs) zero d f b h =
    let here : k ≡ k + 0 = omega arith in
    (subst (λ n. Q n (bumped g d)) (sym here) (b g (subst (λ n. P n g) here h.0)), later (k + 1) gs (omega arith) h.1)
  where
    later : (n : ℕ) (gs : List Datagram) → k < n → AllFrom P n gs → AllFrom Q n gs
    later n [] l h = tt
    later n (x ∷ xs) l h = (f n x (λ e. omega (arith, e, l)) h.0, later (n + 1) xs (omega (arith, l)) h.1)
from_admitted P Q k (g ∷ gs) (suc i) d f b h =
    let here : (k + 1) + i ≡ k + suc i = omega arith in (
      f k g (λ e. omega (arith, e)) h.0,
      from_admitted P Q (k + 1) gs i d (λ n x ne. f n x (λ e. ne (omega (arith, e)))) (λ x p. subst (λ n. Q n (bumped x d)) (sym here) (b x (subst (λ n. P n x) here p))) h.1,
    )

pub length-admitted : (gs : List Datagram) (i d : ℕ) → length (admitted_at gs i d) ≡ length gs
length-admitted [] i d = refl
length-admitted (g ∷ gs) zero d = refl
length-admitted (g ∷ gs) (suc i) d = omega (arith, length-admitted gs i d)

-- a datagram of this number is there, with this message
pub record Carries (gs : List Datagram) (number : ℕ) (message : Message) : Type 0 where
  pub index : ℕ
  pub datagram : Datagram
  pub number_is : number ≡ suc index
  pub there : slice_get gs index ≡ Some datagram
  pub same : datagram.message ≡ message

pub carries_still : (gs hs : List Datagram) (number : ℕ) (message : Message) → Carries gs number message → Carries (gs ++ hs) number message
carries_still gs hs number message k = record { index = k.index; datagram = k.datagram; number_is = k.number_is; there = still gs hs k.index k.datagram k.there; same = k.same }

message_admitted : (gs : List Datagram) (i d k : ℕ) (g : Datagram) → slice_get gs k ≡ Some g → (h : Datagram) × (slice_get (admitted_at gs i d) k ≡ Some h) × (h.message ≡ g.message)
message_admitted [] i d k g e = cc
message_admitted (x ∷ xs) zero d zero g e = (let is : x ≡ g = cc in (bumped x d, refl, ap (λ (y : Datagram). y.message) is))
message_admitted (x ∷ xs) zero d (suc k) g e = (g, e, refl)
message_admitted (x ∷ xs) (suc i) d zero g e = (let is : x ≡ g = cc in (x, refl, ap (λ (y : Datagram). y.message) is))
message_admitted (x ∷ xs) (suc i) d (suc k) g e = message_admitted xs i d k g e

pub carries_admitted : (gs : List Datagram) (i d number : ℕ) (message : Message) → Carries gs number message → Carries (admitted_at gs i d) number message
carries_admitted gs i d number message k =
    let m = message_admitted gs i d k.index k.datagram k.there in
    record { index = k.index; datagram = m.0; number_is = k.number_is; there = m.1; same = m.2 ∙ k.same }

pub carries_below : (gs : List Datagram) (number : ℕ) (message : Message) → Carries gs number message → number ≤ length gs
carries_below gs number message k = omega (arith, k.number_is, index_below gs k.index k.datagram k.there)
