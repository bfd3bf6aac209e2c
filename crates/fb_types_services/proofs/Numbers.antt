-- Whole numbers of literals.
use Rattle.std.proofs.Common.{◌≡◌, ℕ, zero, suc, ℤ, ◌≤◌, ◌<◌, Bool, true, false, Option, Some, None, refl, sym, subst, arith, pos, IfSome}
use Rattle.std.specs.Prelude.{int_le, nat_le, IfNone, ◌&&◌}
use Rattle.std.proofs.lemmas.Bool.{le-leb, leb-true}
use Rattle.fb_words.specs.declared.elem_type.ElemType.{ElemType}
use Rattle.fb_words.specs.declared.elem_type.ElemType.TheVariants as t
use Rattle.fb_model.specs.Values.{lowest, highest, in_type, signed}
use Rattle.fb_model.specs.Trees.{Literal, Whole, Typed, Duration, Truth}
use Rattle.fb_model.specs.Typing.{IsWhole, untyped, with_type}

pub some_so : {X : Type 0} {P Q : X → Type 0} → ((x : X) → P x → Q x) → (o : Option X) → IfSome o P → IfSome o Q
some_so f None h = h
some_so f (Some x) h = f x h

above : (t : ElemType) (n : ℕ) → int_le (lowest t) (pos n) ≡ true
above t.Bool n = le-leb 0 n (omega arith)
above t.Sint n = refl
above t.Int n = refl
above t.Dint n = refl
above t.Lint n = refl
above t.Usint n = le-leb 0 n (omega arith)
above t.Uint n = le-leb 0 n (omega arith)
above t.Udint n = le-leb 0 n (omega arith)
above t.Time n = refl

below : (t : ElemType) (n h : ℕ) → n ≤ h → pos h ≡ highest t → int_le (pos n) (highest t) ≡ true
below t n h le e = subst (λ z. int_le (pos n) z ≡ true) e (le-leb n h le)

pub fits : (t : ElemType) (n h : ℕ) → n ≤ h → pos h ≡ highest t → in_type t (pos n) ≡ true
fits t n h le e = both (int_le (lowest t) (pos n)) (int_le (pos n) (highest t)) (above t n) (below t n h le e) where
  both : (a b : Bool) → a ≡ true → b ≡ true → (Rattle.std.specs.Prelude.◌&&◌ a b) ≡ true
  both true b h k = k
  both false b h k = absurd cc

pub untyped_is : (negative : Bool) (size n : ℕ) → signed negative size ≡ pos n → IsWhole (Whole negative size) (pos n)
untyped_is negative size n e = subst (IsWhole (Whole negative size)) e untyped

pub typed_is : (t : ElemType) (negative : Bool) (size n h : ℕ) → signed negative size ≡ pos n → n ≤ h → pos h ≡ highest t → IsWhole (Typed t negative size) (pos n)
typed_is t negative size n h e le k = subst (IsWhole (Typed t negative size)) e (with_type (subst (λ z. in_type t z ≡ true) (sym e) (fits t n h le k)))

pub none_so : {X : Type 0} {P Q : Type 0} → (P → Q) → (o : Option X) → IfNone o P → IfNone o Q
none_so f None h = f h
none_so f (Some x) h = h

-- what a literal is that is a whole number
abbrev Read : Literal → ℤ → Type 0
Read (Whole negative size) z = z ≡ signed negative size
Read (Typed type negative size) z = (z ≡ signed negative size) × (in_type type z ≡ true)
Read (Duration negative size) z = ⊥
Read (Truth value) z = ⊥

reads : (l : Literal) (z : ℤ) → IsWhole l z → Read l z
reads (Whole negative size) z untyped = refl
reads (Typed type negative size) z (with_type h) = (refl, h)
reads (Duration negative size) z w = elim w [ ]
reads (Truth value) z w = elim w [ ]

pub untyped_none : (negative : Bool) (size : ℕ) → ((n : ℕ) → signed negative size ≡ pos n → ⊥) → (n : ℕ) → IsWhole (Whole negative size) (pos n) → ⊥
untyped_none negative size h n w = h n (sym (reads (Whole negative size) (pos n) w))

pub typed_none : (t : ElemType) (negative : Bool) (size : ℕ) → ((n : ℕ) → signed negative size ≡ pos n → ⊥) → (n : ℕ) → IsWhole (Typed t negative size) (pos n) → ⊥
typed_none t negative size h n w = h n (sym (reads (Typed t negative size) (pos n) w).0)

pub duration_none : (negative : Bool) (size n : ℕ) → IsWhole (Duration negative size) (pos n) → ⊥
duration_none negative size n w = reads (Duration negative size) (pos n) w

pub truth_none : (value : Bool) (n : ℕ) → IsWhole (Truth value) (pos n) → ⊥
truth_none value n w = reads (Truth value) (pos n) w

second : (a b : Bool) → a && b ≡ true → b ≡ true
second true b h = h
second false b h = absurd cc

sized : (negative : Bool) (size n : ℕ) → signed negative size ≡ pos n → size ≡ n
sized false size n e = cc
sized true zero n e = cc
sized true (suc m) n e = absurd cc

pub large_none : (t : ElemType) (negative : Bool) (size h : ℕ) → h < size → pos h ≡ highest t → (n : ℕ) → IsWhole (Typed t negative size) (pos n) → ⊥
large_none t negative size h more e n w =
    let r = reads (Typed t negative size) (pos n) w in
    let same : size ≡ n = sized negative size n (sym r.0) in
    let top : int_le (pos n) (pos h) ≡ true = subst (λ z. int_le (pos n) z ≡ true) (sym e) (second (int_le (lowest t) (pos n)) (int_le (pos n) (highest t)) r.1) in
    let low : n ≤ h = leb-true n h top in
    omega (arith, same)

-- a literal is one number only
pub one_number : (l : Literal) (n m : ℕ) → IsWhole l (pos n) → IsWhole l (pos m) → n ≡ m
one_number (Whole negative size) n m a b =
    let p = reads (Whole negative size) (pos n) a in
    let q = reads (Whole negative size) (pos m) b in
    cc
one_number (Typed t negative size) n m a b =
    let p = (reads (Typed t negative size) (pos n) a).0 in
    let q = (reads (Typed t negative size) (pos m) b).0 in
    cc
one_number (Duration negative size) n m a b = absurd (reads (Duration negative size) (pos n) a)
one_number (Truth value) n m a b = absurd (reads (Truth value) (pos n) a)

-- a number above the greatest, and no number below it
pub above_none : (l : Literal) (n most : ℕ) → IsWhole l (pos n) → most < n → (m : ℕ) → IsWhole l (pos m) → m ≤ most → ⊥
above_none l n most a more m b few = let e : n ≡ m = one_number l n m a b in omega (arith, e)
