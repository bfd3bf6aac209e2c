-- The first of the armed timers.
use Rattle.std.proofs.Common.{◌≡◌, ℕ, Bool, true, false, cond, List, [], ◌∷◌, slice_get, Option, Some, None, refl, sym, ◌∙◌, ap, rules}
use Rattle.std.specs.Prelude.{◌==◌, nat_le, option_map}
use Rattle.fb_model.specs.Wires.{Leaf}
use Rattle.fb_model.specs.Store.{Store}
use Rattle.fb_model.specs.Devices.{due, due_timers, is_timer}
use Rattle.fb_sched.specs.declared.armed.Armed.{Armed}
use Rattle.fb_sched.specs.Order.{IsOrdered, AreApart, due_of, due_at}
use Rattle.fb_sched.specs.Expiry.{AreArmed, moment_of, leaf_of}
use Rattle.fb_sched.proofs.Leaves.{due_leaf}
use Rattle.fb_device_arrivals.proofs.Ticks.{due_timer}
use Rattle.fb_device.specs.NextDue.{last_moment, IsNextDue}

first_of : {X : Type 0} (xs : List X) (x : X) → slice_get xs 0 ≡ Some x → (rest : List X) × (xs ≡ x ∷ rest)
first_of [] x e = cc
first_of (y ∷ ys) x e = (ys, ap (λ z. z ∷ ys) (let same : y ≡ x = cc in same))

none_of : {X : Type 0} (xs : List X) → slice_get xs 0 ≡ None → xs ≡ []
none_of [] e = refl
none_of (y ∷ ys) e = cc

-- the first of those that are due is the first of all
first_due : (clock : ℕ) (armed : List Armed) (x : Armed) → slice_get (due_at clock armed) 0 ≡ Some x → due_of armed x.block ≡ Some x.due
first_due clock [] x e = cc
first_due clock (a ∷ as') x e = go (nat_le a.due clock) refl e
  where
    go : (b : Bool) → nat_le a.due clock ≡ b → slice_get (cond b (a ∷ due_at clock as') []) 0 ≡ Some x → due_of (a ∷ as') x.block ≡ Some x.due
    go true is h = (let same : a ≡ x = cc in rw (same) (search rules))
    go false is h = cc

moment_there : (store : Store) (leaf : Leaf) → is_timer leaf.kind ≡ true → moment_of store (Some leaf) ≡ due (store leaf.path).condition
moment_there store leaf e = rw (e) refl

pub next_due_is : (store : Store) (all : List Leaf) (armed : List Armed) (x : Option Armed) → IsOrdered armed → AreApart armed → AreArmed store all armed → slice_get (due_at last_moment armed) 0 ≡ x → IsNextDue store all (option_map (λ (a : Armed). a.due) x)
next_due_is store all armed None ordered apart h at = none_of (due_timers store last_moment all) (due_leaf store all armed last_moment 0 ordered apart h ∙ ap (leaf_of all) at)
next_due_is store all armed (Some x) ordered apart h at =
    let t = due_timer store all armed last_moment 0 x h at in
    let first = first_of (due_timers store last_moment all) t.leaf (due_leaf store all armed last_moment 0 ordered apart h ∙ ap (leaf_of all) at ∙ t.stands) in
    (t.leaf, first.0, first.1, sym (sym (first_due last_moment armed x at) ∙ h x.block ∙ ap (moment_of store) t.stands ∙ moment_there store t.leaf t.timer))
