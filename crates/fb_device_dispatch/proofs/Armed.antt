-- The armed timers of a store in which one leaf has come to another state.
use Rattle.std.proofs.Common.{◌≡◌, ℕ, zero, suc, ◌≤◌, Bool, true, false, cond, eqb, eq-eqb, List, [], ◌∷◌, length, slice_get, Option, Some, None, refl, sym, ◌∙◌, ap, subst, arith, inl, inr}
use Rattle.std.proofs.lemmas.Bool.{cases_eq, ne_eqb, cond-true, cond-false}
use Rattle.fb_model.specs.Names.{Path, path_eq}
use Rattle.fb_model.specs.Wires.{Kind, Charted, Serviced, Leaf}
use Rattle.fb_model.specs.Store.{Store, LeafState, with_leaf}
use Rattle.fb_model.specs.Devices.{due, is_timer}
use Rattle.fb_model.proofs.Lists.{same_path}
use Rattle.fb_model.proofs.Placed.{path_same}
use Rattle.fb_model_laws.specs.Leaves.{AreApart}
use Rattle.fb_chart.specs.declared.standing.Standing.{Standing}
use Rattle.fb_chart.specs.declared.standing.Standing.TheVariants as s
use Rattle.fb_chart.specs.Responses.{condition_of}
use Rattle.fb_chart.specs.declared.memory.Condition.{Condition}
use Rattle.fb_chart.specs.declared.memory.Condition.TheVariants as c
use Rattle.fb_chart.specs.Conditions.{condition_at, IsConditionOf}
use Rattle.fb_sched.specs.Order.{Timing, due_of}
use Rattle.fb_sched.specs.Expiry.{AreArmed, moment_of}
use Rattle.fb_lists.proofs.Lists.{all_got}
use Rattle.fb_device_state.proofs.Blocks.{within}
use Rattle.fb_device_dispatch.specs.Rearming.{moment_in, CanRetime, HasRetimed}

-- ---- leaves of different numbers

path_other : (a b : Path) → path_eq a b ≡ false → path_eq b a ≡ false
path_other a b h = go (path_eq b a) refl
  where
    go : (t : Bool) → path_eq b a ≡ t → path_eq b a ≡ false
    go false e = e
    go true e =
        let same : b ≡ a = same_path b a e in
        let f : true ≡ false = sym (path_same a) ∙ ap (path_eq a) (sym same) ∙ h in absurd cc

paths_differ : (all : List Leaf) (i j : ℕ) (a b : Leaf) → AreApart all → slice_get all i ≡ Some a → slice_get all j ≡ Some b → (i ≡ j → ⊥) → path_eq a.path b.path ≡ false
paths_differ [] i j a b h p q n = cc
paths_differ (l ∷ ls) zero zero a b h p q n = absurd (n refl)
paths_differ (l ∷ ls) zero (suc j) a b h p q n = (let e : l ≡ a = cc in subst (λ (k : Leaf). path_eq k.path b.path ≡ false) e (all_got (λ (k : Leaf). path_eq l.path k.path ≡ false) ls j b h.0 q))
paths_differ (l ∷ ls) (suc i) zero a b h p q n = (let e : l ≡ b = cc in path_other b.path a.path (subst (λ (k : Leaf). path_eq k.path a.path ≡ false) e (all_got (λ (k : Leaf). path_eq l.path k.path ≡ false) ls i a h.0 p)))
paths_differ (l ∷ ls) (suc i) (suc j) a b h p q n = paths_differ ls i j a b h.1 p q (λ e. n (ap suc e))

-- ---- what a timer remembers

due_standing : (x : Standing) → due (condition_of x) ≡ moment_in (c.Service x)
due_standing (s.Closed stamps) = refl
due_standing (s.Ready stamps) = refl
due_standing s.Quiet = refl
due_standing (s.Armed moment) = refl
due_standing s.Fired = refl
due_standing s.Plain = refl

pub remembers_at : (kind : Kind) (x : Condition) → IsConditionOf kind x → is_timer kind ≡ true → due (condition_at kind x) ≡ moment_in x
remembers_at (Charted block) x f t = absurd cc
remembers_at (Serviced service) (c.State n) f t = absurd f
remembers_at (Serviced service) (c.Service x) f t = due_standing x

-- ---- the moments of leaves

module _ (store : Store) (all : List Leaf) (apart : AreApart all) (i : ℕ) (leaf : Leaf) (stands : slice_get all i ≡ Some leaf) (after : LeafState) (now : Condition) (remembers : is_timer leaf.kind ≡ true → due after.condition ≡ moment_in now) where
  own_moment : (timer : Bool) → is_timer leaf.kind ≡ timer → cond timer (due (with_leaf store leaf.path after leaf.path).condition) None ≡ cond timer (moment_in now) (moment_of store (Some leaf))
  own_moment true e = ap (λ b. due (cond b after (store leaf.path)).condition) (path_same leaf.path) ∙ remembers e
  own_moment false e = sym (ap (λ b. cond b (due (store leaf.path).condition) None) e)

  moment_own : moment_of (with_leaf store leaf.path after) (Some leaf) ≡ cond (is_timer leaf.kind) (moment_in now) (moment_of store (Some leaf))
  moment_own = own_moment (is_timer leaf.kind) refl

  moment_other : (k : ℕ) (o : Option Leaf) → (i ≡ k → ⊥) → slice_get all k ≡ o → moment_of (with_leaf store leaf.path after) o ≡ moment_of store o
  moment_other k None n h = refl
  moment_other k (Some other) n h = ap (λ b. cond (is_timer other.kind) (due (cond b after (store other.path)).condition) None) (paths_differ all i k leaf other apart stands h n)

  cond_same : {X : Type 0} (b : Bool) (x : X) → x ≡ cond b x x
  cond_same true x = refl
  cond_same false x = refl

  -- the timers are armed as the new store says
  pub armed_after : (old new : Timing) → AreArmed store all old.armed → HasRetimed (is_timer leaf.kind) old i now new → AreArmed (with_leaf store leaf.path after) all new.armed
  armed_after old new h timed k =
      elim (cases_eq i k) [
        | inl e ↦ (
            let at : slice_get all k ≡ Some leaf = ap (slice_get all) (sym e) ∙ stands in
            let one : cond (eqb i k) (moment_in now) (due_of old.armed k) ≡ moment_in now = cond-true (eqb i k) (moment_in now) (due_of old.armed k) (eq-eqb i k e) in
            let was : due_of old.armed k ≡ moment_of store (Some leaf) = h k ∙ ap (moment_of store) at in
            timed k ∙ ap (λ o. cond (is_timer leaf.kind) o (due_of old.armed k)) one ∙ ap (λ o. cond (is_timer leaf.kind) (moment_in now) o) was ∙ sym moment_own ∙ ap (moment_of (with_leaf store leaf.path after)) (sym at)
            )
        | inr n ↦ (
            let one : cond (eqb i k) (moment_in now) (due_of old.armed k) ≡ due_of old.armed k = cond-false (eqb i k) (moment_in now) (due_of old.armed k) (ne_eqb i k n) in
            timed k ∙ ap (λ o. cond (is_timer leaf.kind) o (due_of old.armed k)) one ∙ sym (cond_same (is_timer leaf.kind) (due_of old.armed k)) ∙ h k ∙ sym (moment_other k (slice_get all k) n refl)
            )
      ]

-- there is room to arm the timer of a leaf
pub can_retime : (timer : Bool) (all : List Leaf) (old : Timing) (i : ℕ) (leaf : Leaf) → length all ≤ old.room → slice_get all i ≡ Some leaf → CanRetime timer old i
can_retime timer all old i leaf room stands t = omega (arith, room, within all i leaf stands)
