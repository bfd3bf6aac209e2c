-- Timers that are due are tried in turn.
use Rattle.std.proofs.Common.{◌≡◌, ℕ, zero, suc, ◌+◌, ◌≤◌, Bool, true, false, cond, List, [], ◌∷◌, drop, length, slice_get, Option, Some, None, eqb, eq-eqb, refl, sym, ◌∙◌, ap, subst, arith, inl, inr}
use Rattle.std.specs.Prelude.{nat_le}
use Rattle.std.proofs.lemmas.Bool.{ne_eqb}
use Rattle.fb_model.specs.System.{Device}
use Rattle.fb_model.specs.Wires.{Leaf}
use Rattle.fb_model.specs.Certificates.{Certificate}
use Rattle.fb_model.specs.Devices.{Machine, Tries, HasRoom, expiring, expired}
use Rattle.fb_sched.specs.declared.armed.Armed.{Armed}
use Rattle.fb_sched.specs.Order.{AreApart, due_of, due_at, without}
use Rattle.fb_sched.specs.Expiry.{leaves_at, in_front}

-- a timer that is not armed is not the first of those that are, and none behind it
not_first : (a x : Armed) (as' : List Armed) → cond (eqb a.block x.block) (Some a.due) (due_of as' x.block) ≡ None → a ≡ x → ⊥
not_first a x as' n s = go (eqb a.block x.block) (ap (λ (y : Armed). eqb a.block y.block) (sym s) ∙ eq-eqb a.block a.block refl) n
  where
    go : (b : Bool) → b ≡ true → cond b (Some a.due) (due_of as' x.block) ≡ None → ⊥
    go true q k = cc
    go false q k = cc

not_behind : (a x : Armed) (as' : List Armed) → cond (eqb a.block x.block) (Some a.due) (due_of as' x.block) ≡ None → due_of as' x.block ≡ None
not_behind a x as' n = go (eqb a.block x.block) n
  where
    go : (b : Bool) → cond b (Some a.due) (due_of as' x.block) ≡ None → due_of as' x.block ≡ None
    go true k = cc
    go false k = k

-- a timer that is due is armed
pub due_there : (clock : ℕ) (armed : List Armed) (i : ℕ) (x : Armed) → slice_get (due_at clock armed) i ≡ Some x → due_of armed x.block ≡ None → ⊥
due_there clock [] i x h n = cc
due_there clock (a ∷ as') zero x h n = go (nat_le a.due clock) h
  where
    go : (b : Bool) → slice_get (cond b (a ∷ due_at clock as') []) 0 ≡ Some x → ⊥
    go false e = cc
    go true e = (let s : a ≡ x = cc in not_first a x as' n s)
due_there clock (a ∷ as') (suc i) x h n = go (nat_le a.due clock) h (λ e. due_there clock as' i x e (not_behind a x as' n))
  where
    go : (b : Bool) → slice_get (cond b (a ∷ due_at clock as') []) (suc i) ≡ Some x → (slice_get (due_at clock as') i ≡ Some x → ⊥) → ⊥
    go false e r = cc
    go true e r = r e

-- without a due timer those behind it are due, and they alone
pub without_due : (clock : ℕ) (armed : List Armed) (i : ℕ) (x : Armed) → AreApart armed → slice_get (due_at clock armed) i ≡ Some x → drop i (due_at clock (without armed x.block)) ≡ drop (suc i) (due_at clock armed)
without_due clock [] i x apart h = cc
without_due clock (a ∷ as') zero x apart h = go (nat_le a.due clock) h
  where
    go : (b : Bool) → slice_get (cond b (a ∷ due_at clock as') []) 0 ≡ Some x → due_at clock (without (a ∷ as') x.block) ≡ drop 1 (cond b (a ∷ due_at clock as') [])
    go false e = cc
    go true e =
        let s : a ≡ x = cc in
        let own : eqb a.block x.block ≡ true = ap (λ (y : Armed). eqb a.block y.block) (sym s) ∙ eq-eqb a.block a.block refl in
        ap (λ b. due_at clock (cond b as' (a ∷ without as' x.block))) own
without_due clock (a ∷ as') (suc i) x apart h = go (nat_le a.due clock) refl h (λ e. without_due clock as' i x apart.1 e) (λ e k. due_there clock as' i x e k)
  where
    go : (b : Bool) → nat_le a.due clock ≡ b → slice_get (cond b (a ∷ due_at clock as') []) (suc i) ≡ Some x → (slice_get (due_at clock as') i ≡ Some x → drop i (due_at clock (without as' x.block)) ≡ drop (suc i) (due_at clock as'))
        → (slice_get (due_at clock as') i ≡ Some x → due_of as' x.block ≡ None → ⊥) → drop (suc i) (due_at clock (without (a ∷ as') x.block)) ≡ drop (suc (suc i)) (cond b (a ∷ due_at clock as') [])
    go false q e r t = cc
    go true q e r t =
        let other : eqb a.block x.block ≡ false = ne_eqb a.block x.block (λ s. t e (ap (due_of as') (sym s) ∙ apart.0)) in
        ap (λ b. drop (suc i) (due_at clock (cond b as' (a ∷ without as' x.block)))) other ∙ ap (λ b. drop (suc i) (cond b (a ∷ due_at clock (without as' x.block)) [])) q ∙ r e

-- ---- what is left to try

-- whatever the timers that are left come to, all come to it with those that were tried
abbrev pub Progress : Certificate → Device → List Leaf → Machine → ℕ → List Leaf → Machine → Type 0
Progress cert device whole start fired left now = (count : ℕ) (new : Machine) → Tries cert device left now count new → Tries cert device whole start (fired + count) new

pub progress_fired : (cert : Certificate) (device : Device) (whole : List Leaf) (start : Machine) (fired : ℕ) (leaf : Leaf) (rest : List Leaf) (now : Machine) → Progress cert device whole start fired (leaf ∷ rest) now → HasRoom cert device now (expiring leaf)
    → Progress cert device whole start (fired + 1) rest (expired now leaf)
progress_fired cert device whole start fired leaf rest now p room count new t =
    let more : fired + (count + 1) ≡ fired + 1 + count = omega arith in
    subst (λ n. Tries cert device whole start n new) more (p (count + 1) new (inl (count, room, refl, t)))

pub progress_waits : (cert : Certificate) (device : Device) (whole : List Leaf) (start : Machine) (fired : ℕ) (leaf : Leaf) (rest : List Leaf) (now : Machine) → Progress cert device whole start fired (leaf ∷ rest) now → (HasRoom cert device now (expiring leaf) → ⊥)
    → Progress cert device whole start fired rest now
progress_waits cert device whole start fired leaf rest now p none count new t = p count new (inr (none, t))

pub progress_ends : (cert : Certificate) (device : Device) (whole : List Leaf) (start : Machine) (fired : ℕ) (now : Machine) → Progress cert device whole start fired [] now → Tries cert device whole start fired now
progress_ends cert device whole start fired now p =
    let same : fired + 0 ≡ fired = omega arith in
    subst (λ n. Tries cert device whole start n now) same (p 0 now (refl, refl))

-- ---- leaves of timers by their places

pub drop_first : {X : Type 0} (xs : List X) (i : ℕ) (x : X) → slice_get xs i ≡ Some x → drop i xs ≡ x ∷ drop (suc i) xs
drop_first [] i x h = cc
drop_first (y ∷ ys) zero x h = (let e : y ≡ x = cc in ap (λ z. z ∷ ys) e)
drop_first (y ∷ ys) (suc i) x h = drop_first ys i x h

pub drop_none : {X : Type 0} (xs : List X) (i : ℕ) → slice_get xs i ≡ None → drop i xs ≡ []
drop_none [] zero h = refl
drop_none [] (suc i) h = refl
drop_none (y ∷ ys) zero h = cc
drop_none (y ∷ ys) (suc i) h = drop_none ys i h

pub leaf_first : (all : List Leaf) (x : Armed) (xs : List Armed) (leaf : Leaf) → slice_get all x.block ≡ Some leaf → leaves_at all (x ∷ xs) ≡ leaf ∷ leaves_at all xs
leaf_first all x xs leaf h = ap (λ o. in_front o (leaves_at all xs)) h

pub leaves_few : (all : List Leaf) (xs : List Armed) → length (leaves_at all xs) ≤ length xs
leaves_few all [] = omega arith
leaves_few all (x ∷ xs) = go (slice_get all x.block) (leaves_few all xs)
  where
    go : (o : Option Leaf) → length (leaves_at all xs) ≤ length xs → length (in_front o (leaves_at all xs)) ≤ suc (length xs)
    go None h = omega (arith, h)
    go (Some leaf) h = omega (arith, h)
