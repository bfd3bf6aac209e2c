-- Examinations that find all clear, and what is then there.
use Rattle.std.proofs.Common.{◌≡◌, ℕ, ◌+◌, ◌≤◌, max, ℤ, Bool, true, false, List, Option, Some, None, refl, ap, arith}
use Rattle.std.specs.Prelude.{if◌then◌else◌}
use Rattle.fb_model.specs.Names.{Name}
use Rattle.fb_model.specs.Values.{Values}
use Rattle.fb_model.specs.Spans.{Span}
use Rattle.fb_model.specs.Clear.{Spans, Found, Clear, Leaves, Traps, onward, costing, with_range, either, kept}
use Rattle.fb_model.specs.Shapes.{Lies, Shape, HasShape}
use Rattle.fb_model.proofs.Rowed.{Rowed}
use Rattle.fb_model_work.specs.Spending.{where_some}
use Rattle.fb_model_work.specs.Most.{where_clear}

-- all is clear
abbrev pub Clears : Found → Type 0
Clears (Clear spans n) = Unit {0}
Clears Leaves = ⊥
Clears Traps = ⊥

pub is_clear : (F : Found) (s : Spans) (n : ℕ) → F ≡ Clear s n → Clears F
is_clear (Clear t m) s n e = tt
is_clear Leaves s n e = cc
is_clear Traps s n e = cc

-- values with which statements begin: arrays have their rows, and all have their shape and lie in the ranges
pub record AreIn (shape : Shape) (rows spans : Spans) (values : Values) : Type 0 where
  pub rowed : Rowed shape rows spans
  pub fits : HasShape shape values
  pub lies : Lies spans values

-- ---- what each way of examination asks

pub range_clear : (o : Option Span) (f : Span → Found) → Clears (with_range o f) → (r : Span) × (o ≡ Some r) × Clears (f r)
range_clear None f c = absurd c
range_clear (Some r) f c = (r, refl, c)

pub costing_clear : (n : ℕ) (F : Found) → Clears (costing n F) → Clears F
costing_clear n (Clear s m) c = tt
costing_clear n Leaves c = c
costing_clear n Traps c = c

pub either_clear : (F G : Found) → Clears (either F G) → Clears F × Clears G
either_clear (Clear s n) (Clear t m) c = (tt, tt)
either_clear (Clear s n) Leaves c = absurd c
either_clear (Clear s n) Traps c = absurd c
either_clear Leaves G c = absurd c
either_clear Traps G c = absurd c

further_clear : (n : ℕ) (G : Found) → Clears (elim G [ Clear after m ↦ Clear after (n + m) | Leaves ↦ Leaves | Traps ↦ Traps ]) → Clears G
further_clear n (Clear s m) c = tt
further_clear n Leaves c = c
further_clear n Traps c = c

pub onward_clear : (F : Found) (f : Spans → Found) → Clears (onward F f) → (s : Spans) × (n : ℕ) × (F ≡ Clear s n) × Clears (f s)
onward_clear (Clear s n) f c = (s, n, refl, further_clear n (f s) c)
onward_clear Leaves f c = absurd c
onward_clear Traps f c = absurd c

pub kept_clear : (rows : Spans) (xs : List Name) (F : Found) → Clears (kept rows xs F) → Clears F
kept_clear rows xs (Clear s n) c = tt
kept_clear rows xs Leaves c = c
kept_clear rows xs Traps c = c

-- ---- sums

-- what a value leads to costs no more than what its range leads to
pub some_most : (o : Option ℤ) (q : Option Span) (f : ℤ → ℕ) (w : Span → ℕ) (v : ℤ) (r : Span) → o ≡ Some v → q ≡ Some r → f v ≤ w r
    → where_some o f ≤ where_some q w
some_most None q f w v r e d l = cc
some_most (Some u) None f w v r e d l = cc
some_most (Some u) (Some s) f w v r e d l =
    let a : f u ≡ f v = cc in
    let b : w s ≡ w r = cc in
    omega (arith, l, a, b)

pub value_most : (o : Option ℤ) (f : ℤ → ℕ) (m : ℕ) (v : ℤ) → o ≡ Some v → f v ≤ m → where_some o f ≤ m
value_most None f m v e l = cc
value_most (Some u) f m v e l = let a : f u ≡ f v = cc in omega (arith, l, a)

pub dearer : (b : Bool) (x y m n : ℕ) → (b ≡ false → x ≤ m) → (b ≡ true → y ≤ n) → (if b then y else x) ≤ max m n
dearer true x y m n h k = let l = k refl in omega (arith, l)
dearer false x y m n h k = let l = h refl in omega (arith, l)

pub either_most : (b : Bool) (x y m n : ℕ) → x ≤ m → y ≤ n → (if b then x else y) ≤ max m n
either_most true x y m n h k = omega (arith, h)
either_most false x y m n h k = omega (arith, k)

pub after_clear : (F : Found) (w : Spans → ℕ) (s : Spans) (n : ℕ) → F ≡ Clear s n → where_clear F w ≡ w s
after_clear F w s n e = ap (λ G. where_clear G w) e
