-- Timers that are armed once a dispatch has ended.
use Rattle.std.proofs.Common.{◌≡◌, ℕ, Bool, true, false, cond, eqb, eq-eqb, List, Some, None, refl, ◌∙◌, ap}
use Rattle.std.proofs.lemmas.Bool.{cond-true}
use Rattle.fb_sched.specs.declared.armed.Armed.{Armed}
use Rattle.fb_sched.specs.Order.{AreApart, due_of, placed, without}
use Rattle.fb_sched.proofs.Ordered.{due_placed}
use Rattle.fb_sched.proofs.Told.{due_cleared}

pub quiet : (l : List Armed) (k : ℕ) → AreApart l → due_of (without l k) k ≡ None
quiet l k a = due_cleared l k k a ∙ cond-true (eqb k k) None (due_of l k) (eq-eqb k k refl)

pub unarmed : (l : List Armed) (k j : ℕ) → AreApart l → due_of (without l k) j ≡ cond (eqb k j) None (due_of l j)
unarmed l k j a = due_cleared l k j a

pub armed_anew : (l : List Armed) (k due j : ℕ) → AreApart l → due_of (placed (record { due = due; block = k }) (without l k)) j ≡ cond (eqb k j) (Some due) (due_of l j)
armed_anew l k due j a =
    due_placed (record { due = due; block = k }) (without l k) j (quiet l k a) ∙ ap (λ o. cond (eqb k j) (Some due) o) (due_cleared l k j a) ∙ go (eqb k j)
  where
    go : (b : Bool) → cond b (Some due) (cond b None (due_of l j)) ≡ cond b (Some due) (due_of l j)
    go true = refl
    go false = refl
