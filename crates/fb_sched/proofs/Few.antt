-- How many timers are armed.
use Rattle.std.proofs.Common.{◌≡◌, ℕ, zero, suc, ◌≤◌, ◌<◌, Bool, true, false, cond, eqb, eq-eqb, List, [], ◌∷◌, length, Some, None, refl, sym, ◌∙◌, arith, inl, inr}
use Rattle.std.proofs.lemmas.Bool.{cases_eq, ne_eqb, cond-true, cond-false}
use Rattle.fb_sched.specs.declared.armed.Armed.{Armed}
use Rattle.fb_sched.specs.Order.{AreApart, due_of, without}
use Rattle.fb_sched.proofs.Ordered.{apart_without}
use Rattle.fb_sched.proofs.Told.{due_cleared}

-- one timer at most is gone
shorter : (l : List Armed) (k : ℕ) → length l ≤ suc (length (without l k))
shorter [] k = omega arith
shorter (a ∷ as') k = go (eqb a.block k) (shorter as' k)
  where
    go : (b : Bool) → length as' ≤ suc (length (without as' k)) → suc (length as') ≤ suc (length (cond b as' (a ∷ without as' k)))
    go true r = omega arith
    go false r = omega (arith, r)

-- those of numbers below a bound are no more than it
pub few : (n : ℕ) (l : List Armed) → AreApart l → ((k d : ℕ) → due_of l k ≡ Some d → k < n) → length l ≤ n
few n [] a h = omega arith
few zero (x ∷ xs) a h = absurd (omega (arith, h x.block x.due (cond-true (eqb x.block x.block) (Some x.due) (due_of xs x.block) (eq-eqb x.block x.block refl))))
few (suc n) (x ∷ xs) a h = omega (arith, shorter (x ∷ xs) n, few n (without (x ∷ xs) n) (apart_without (x ∷ xs) n a) below)
  where
    below : (k d : ℕ) → due_of (without (x ∷ xs) n) k ≡ Some d → k < n
    below k d e =
        elim (cases_eq n k) [
          | inl s ↦ (let f : None ≡ Some d = sym (due_cleared (x ∷ xs) n k a ∙ cond-true (eqb n k) None (due_of (x ∷ xs) k) (eq-eqb n k s)) ∙ e in absurd cc)
          | inr s ↦ omega (arith, s, h k d (sym (due_cleared (x ∷ xs) n k a ∙ cond-false (eqb n k) None (due_of (x ∷ xs) k) (ne_eqb n k s)) ∙ e))
        ]

-- there is room to arm one that is not armed
pub room_for : (n : ℕ) (l : List Armed) (b : ℕ) → AreApart l → due_of l b ≡ None → b < n → ((k d : ℕ) → due_of l k ≡ Some d → k < n) → length l < n
room_for n l b a quiet known h = few n (record { due = 0; block = b } ∷ l) (quiet, a) below
  where
    below : (k d : ℕ) → due_of (record { due = 0; block = b } ∷ l) k ≡ Some d → k < n
    below k d e =
        elim (cases_eq b k) [
          | inl s ↦ omega (arith, s, known)
          | inr s ↦ h k d (sym (cond-false (eqb b k) (Some 0) (due_of l k) (ne_eqb b k s)) ∙ e)
        ]
