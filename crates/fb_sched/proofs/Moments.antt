-- The moments that stand under the numbers of blocks, as timers are armed and disarmed.
use Rattle.std.proofs.Common.{◌≡◌, ℕ, ◌<◌, Bool, true, false, List, [], ◌∷◌, length, get_or, set, Option, Some, None, refl, sym, ap, subst, ◌∙◌, ◌⊎◌, inl, inr}
use Rattle.std.specs.Prelude.{◌==◌, ◌≢◌, if◌then◌else◌}
use Rattle.std.proofs.lemmas.Bool.{cases_lt}
use Rattle.std.proofs.lemmas.Bool.Decides.{eqb_tells}
use Rattle.std.proofs.lemmas.List.{get_or-set_same, get_or-set_other, get_or_past}
use Rattle.fb_sched.specs.declared.armed.Armed.{Armed}
use Rattle.fb_sched.specs.Order.{AreApart, AreTold, placed, without, due_of}
use Rattle.fb_sched.proofs.Ordered.{due_placed}
use Rattle.fb_sched.proofs.Told.{due_cleared}

-- what was read of a block is what is armed of it
pub told_is : (ms read : List (Option ℕ)) (l : List Armed) (k : ℕ) (o : Option ℕ) → AreTold ms l → read ≡ ms → o ≡ get_or read k None → due_of l k ≡ o
told_is ms read l k o t e h = sym (h ∙ ap (λ (rs : List (Option ℕ)). get_or rs k None) e ∙ t k)

-- what is armed is of a block below their number
pub told_within : (ms : List (Option ℕ)) (l : List Armed) (k d : ℕ) → AreTold ms l → due_of l k ≡ Some d → k < length ms
told_within ms l k d t e =
    elim (cases_lt k (length ms)) [
      | inl h ↦ h
      | inr h ↦ (let n : None ≡ Some d = sym (get_or_past ms k None h) ∙ t k ∙ e in absurd cc)
    ]

-- one moment is written
written : (ms : List (Option ℕ)) (b k : ℕ) (o : Option ℕ) → b < length ms → get_or (set ms b o) k None ≡ (if b == k then o else get_or ms k None)
written ms b k o h = by (eqb_tells b k) where
  by : (((b == k) ≡ true) × (b ≡ k)) ⊎ (((b == k) ≡ false) × (b ≢ k)) → get_or (set ms b o) k None ≡ (if b == k then o else get_or ms k None)
  by (inl p) = subst (λ j. get_or (set ms b o) j None ≡ o) p.1 (get_or-set_same ms b o None h) ∙ sym (ap (λ c. if c then o else get_or ms k None) p.0)
  by (inr p) = get_or-set_other ms b k o None (λ e. p.1 (sym e)) ∙ sym (ap (λ c. if c then o else get_or ms k None) p.0)

pub told_placed : (ms : List (Option ℕ)) (x : Armed) (l : List Armed) → AreTold ms l → due_of l x.block ≡ None → x.block < length ms → AreTold (set ms x.block (Some x.due)) (placed x l)
told_placed ms x l t n h k = written ms x.block k (Some x.due) h ∙ ap (λ o. if x.block == k then Some x.due else o) (t k) ∙ sym (due_placed x l k n)

pub told_without : (ms : List (Option ℕ)) (b : ℕ) (l : List Armed) → AreTold ms l → AreApart l → b < length ms → AreTold (set ms b None) (without l b)
told_without ms b l t a h k = written ms b k None h ∙ ap (λ o. if b == k then None else o) (t k) ∙ sym (due_cleared l b k a)

-- a block of which nothing is told has no timer to be disarmed
pub none_without : (l : List Armed) (k : ℕ) → due_of l k ≡ None → without l k ≡ l
none_without [] k n = refl
none_without (a ∷ l) k n = by (a.block == k) n (none_without l k) where
  by : (b : Bool) → (if b then Some a.due else due_of l k) ≡ None → (due_of l k ≡ None → without l k ≡ l) → (if b then l else a ∷ without l k) ≡ a ∷ l
  by true m again = absurd (cc)
  by false m again = ap (λ r. a ∷ r) (again m)
