-- Small algorithms, and what their examination finds.
use Rattle.std.proofs.Common.{◌≡◌, ℕ, pos, negsuc, true, false, [], ◌∷◌, Option, Some, None, refl}
use Rattle.fb_words.specs.declared.elem_type.ElemType.TheVariants as t
use Rattle.fb_words.specs.declared.operator.Operator.TheVariants as o
use Rattle.fb_words.specs.declared.operator.Operation.TheVariants.{Infix}
use Rattle.fb_model.specs.Names.{Name}
use Rattle.fb_model.specs.TypedText.{Term, constant, read, part, double, Command, set, choose, count, done, then_do, no_choice, choice}
use Rattle.fb_model.specs.Language.{Algorithm}
use Rattle.fb_model.specs.Spans.{Span, span}
use Rattle.fb_model.specs.Clear.{Spans, Found, Clear, Leaves, Traps, range_of, examined}

abbrev x : Name
x = 120 ∷ []

abbrev i : Name
i = 105 ∷ []

-- each variable lies in 0..10
abbrev rows : Spans
rows = λ y. span (pos 0) (pos 10)

abbrev plus : Term → Term → Term
plus e g = double (Infix o.Plus) t.Int e g

abbrev alone : Command → Algorithm
alone c = then_do c done

-- the range of a variable afterwards, and the steps
abbrev outcome : Found → Name → Option (Span × ℕ)
outcome (Clear spans n) y = Some (spans y, n)
outcome Leaves y = None
outcome Traps y = None

-- x := x + 1 leaves the row
leaves_row : examined rows (alone (set x (plus (read x) (constant (pos 1))))) ≡ Leaves
leaves_row = refl

-- IF x < 10 THEN x := x + 1; END_IF keeps it, with x in 1..10 afterwards where it is true, and 10..10 where it is false
keeps_row : outcome (examined rows (alone (choose (choice (double (Infix o.Less) t.Int (read x) (constant (pos 10))) (alone (set x (plus (read x) (constant (pos 1))))) no_choice) done))) x ≡ Some (span (pos 1) (pos 10), 2)
keeps_row = refl

-- 10 / x may have a divisor of 0, and 10 / (x + 1) lies in 0..10
may_trap : range_of (double (Infix o.Over) t.Int (constant (pos 10)) (read x)) rows ≡ None
may_trap = refl

divides : range_of (double (Infix o.Over) t.Int (constant (pos 10)) (plus (read x) (constant (pos 1)))) rows ≡ Some (span (pos 0) (pos 10))
divides = refl

-- FOR i := 1 TO 7 BY 3 DO x := i; END_FOR takes 1, 4 and 7
counts_up : outcome (examined rows (alone (count i t.Int (constant (pos 1)) (constant (pos 7)) (pos 3) true (alone (set x (read i)))))) i ≡ Some (span (pos 7) (pos 7), 7)
counts_up = refl

-- FOR i := x TO 5 DO END_FOR may have no iteration
may_skip_all : outcome (examined rows (alone (count i t.Int (read x) (constant (pos 5)) (pos 1) false done))) i ≡ Some (span (pos 0) (pos 10), 7)
may_skip_all = refl

-- a.[x] lies in the bounds 0..10 alone
in_bounds : range_of (part i (pos 0) (pos 10) (read x)) rows ≡ Some (span (pos 0) (pos 10))
in_bounds = refl

out_of_bounds : range_of (part i (pos 0) (pos 9) (read x)) rows ≡ None
out_of_bounds = refl

-- -7 MOD 1..3 lies in -2..0
rests_of : range_of (double (Infix o.Modulo) t.Int (constant (negsuc 6)) (read x)) (λ y. span (pos 1) (pos 3)) ≡ Some (span (negsuc 1) (pos 0))
rests_of = refl
