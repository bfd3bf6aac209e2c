-- What a refusal of statements says holds.
use Rattle.std.proofs.Common.{◌≡◌, ℕ, ℤ, pos, Bool, true, false, ◌&&◌, cond, List, [], ◌∷◌, ◌++◌, Option, None, Some, Result, Ok, Err, refl, sym, subst, ◌⊎◌, inl, inr}
use Rattle.fb_words.specs.declared.elem_type.ElemType.{ElemType}
use Rattle.fb_words.specs.declared.elem_type.ElemType.TheVariants as t
use Rattle.fb_model.specs.Names.{Name, is_in}
use Rattle.fb_model.specs.Spelling.{is_integer}
use Rattle.fb_model.specs.Values.{signed, in_type}
use Rattle.fb_model.specs.Productions.{Word}
use Rattle.fb_model.specs.Trees.{Literal, Whole, Typed, Duration, Truth, Constant}
use Rattle.fb_model.specs.StructuredText.{Expression, Label, Bound, Statement, assign, assign_element, branch, select, repeat, Statements, no_statement, statement, Branches, no_branch, a_branch, Arms, no_arm, an_arm}
use Rattle.fb_model.specs.TypedText.{Term, set, set_part, choose, match_on, count, done, then_do, no_choice, choice, no_case, a_case}
use Rattle.fb_model.specs.TextTyping.{same_type, Symbol, found, Operand, fixed, free, whole, IsNumber, a_number}
use Rattle.fb_model.specs.TextFaults.{Fault, type_mismatch, bad_literal, not_writable, IsNotAsked, in_it, not_taken, is_truth, IsNoCondition, in_condition, no_truth, IsNotAssignable, unknown, read_only, counted_with, IsNoNumber, not_fitting, not_whole, IsNoLabel, bad_low, bad_high, SomeNoLabel, this_label, later_label, IsNoStep, bad_step, no_progress, IsMisdone, bad_target, whole_array, bad_value, bad_element, no_array, wrong_index, no_index, bad_element_value, in_branches, in_else, in_selector, bad_selector, in_arms, in_other_arm, bad_counter, array_counter, no_integer, bad_first, bad_last, wrong_step, in_iteration, SomeMisdone, this_one, later_one, SomeBranchWrong, bad_condition, in_branch, later_branch, SomeArmWrong, bad_label, in_arm, later_arm}
use Rattle.st_types.specs.Elaborating.{◌>>=◌, known, bounds_by, integer_of, truth_of, typed, taken, asked, condition}
use Rattle.st_types.specs.Commanding.{idle_by, assignable, scalar_by, scalar, counter, number_by, number_of, high_of, label_of, labels_of, is_nought, step_of, Counted, counted, commanded, all_commanded, chosen, cased}
use Rattle.st_types.proofs.Rules.{bind_err}
use Rattle.st_types.proofs.Refusals.{test_err, never_err, not_taken_of, not_integer_of}
use Rattle.st_types.proofs.Elaboration.{known_ok, known_err, sound}
use Rattle.st_types.proofs.Wrongs.{refused}
use Rattle.st_types.proofs.Commands.{assignable_sound, scalar_ok, counter_ok, number_sound, selector_sound, nought_is}

same_fault : {A : Type 0} (v w : Fault) → (let l : Result A Fault = Err v in l) ≡ Err w → v ≡ w
same_fault v w h = cc

-- ---- steps

-- a chain stops at its first part, or in what goes on
step : {A B : Type 0} (r : Result A Fault) (f : A → Result B Fault) (w : Fault) (Q : Type 0) → (r ≡ Err w → Q) → ((x : A) → r ≡ Ok x → f x ≡ Err w → Q) → (r >>= f) ≡ Err w → Q
step {A} {B} r f w Q stop on h = by (bind_err r f w h)
  where
    by : ((r ≡ Err w) ⊎ ((x : A) × (r ≡ Ok x) × (f x ≡ Err w))) → Q
    by (inl k) = stop k
    by (inr k) = on k.0 k.1 k.2

-- and where it goes on to an answer, at its first part
last_step : {A B : Type 0} (r : Result A Fault) (f : A → B) (w : Fault) (Q : Type 0) → (r ≡ Err w → Q) → (r >>= λ x. Ok (f x)) ≡ Err w → Q
last_step r f w Q stop h = step r (λ x. Ok (f x)) w Q stop (λ x k m. absurd (never_err (f x) w m)) h

-- a test fails, or what is behind it
test_step : {A : Type 0} (b : Bool) (r : Result A Fault) (v w : Fault) (Q : Fault → Type 0) → (b ≡ false → Q v) → (b ≡ true → r ≡ Err w → Q w) → cond b r (Err v) ≡ Err w → Q w
test_step {A} b r v w Q fail on h = by (test_err b r v w h)
  where
    by : (((b ≡ false) × (v ≡ w)) ⊎ ((b ≡ true) × (r ≡ Err w))) → Q w
    by (inl k) = subst Q k.1 (fail k.0)
    by (inr k) = on k.0 k.1

-- ---- where a type is asked for

pub asked_refused : (env : List Symbol) (a : ElemType) (s : ℕ) (e : Expression) (w : Fault) → asked env a s e ≡ Err w → IsNotAsked env a s e w
asked_refused env a s e w h =
    step (typed env e) (λ p. taken a s p) w (IsNotAsked env a s e w) (λ k. in_it (refused env e w k)) (λ p k m. not_taken (sound env e p k) (not_taken_of a s p w m)) h

not_truth : (s : ℕ) (p : Operand) (w : Fault) → truth_of s p ≡ Err w → (is_truth p ≡ false) × (type_mismatch s ≡ w)
not_truth s (fixed a x) w h =
    test_step (same_type a t.Bool) (Ok x) (type_mismatch s) w (λ v. (same_type a t.Bool ≡ false) × (type_mismatch s ≡ v)) (λ k. (k, refl)) (λ k m. absurd (never_err x w m)) h
not_truth s (free l) w h = (refl, same_fault {A = Term} (type_mismatch s) w h)
not_truth s whole w h = (refl, same_fault {A = Term} (type_mismatch s) w h)

pub condition_refused : (env : List Symbol) (s : ℕ) (e : Expression) (w : Fault) → condition env s e ≡ Err w → IsNoCondition env s e w
condition_refused env s e w h =
    step (typed env e) (λ p. truth_of s p) w (IsNoCondition env s e w) (λ k. in_condition (refused env e w k))
    (λ p k m. let q = not_truth s p w m in subst (IsNoCondition env s e) q.1 (no_truth (sound env e p k) q.0)) h

-- ---- what is assigned

idle_err : (s : ℕ) (v : Symbol) (b : Bool) (w : Fault) → idle_by s v b ≡ Err w → (b ≡ true) × (not_writable s ≡ w)
idle_err s v true w h = (refl, same_fault {A = Symbol} (not_writable s) w h)
idle_err s v false w h = absurd (never_err v w h)

pub assignable_refused : (env : List Symbol) (busy : List Name) (x : Word) (w : Fault) → assignable env busy x ≡ Err w → IsNotAssignable env busy x w
assignable_refused env busy x w h =
    step (known env x.text x.at) (λ v. cond v.writable (idle_by x.at v (is_in x.text busy)) (Err (not_writable x.at))) w (IsNotAssignable env busy x w)
    (λ k. let p = known_err x.at (found env x.text) w k in subst (IsNotAssignable env busy x) p.1 (unknown p.0))
    (λ v k m. test_step v.writable (idle_by x.at v (is_in x.text busy)) (not_writable x.at) w (IsNotAssignable env busy x) (λ n. read_only (known_ok x.at (found env x.text) v k) n)
    (λ n i. let p = idle_err x.at v (is_in x.text busy) w i in subst (IsNotAssignable env busy x) p.1 (counted_with p.0)) m) h

scalar_err : (s : ℕ) (a : ElemType) (o : Option (ℤ × ℤ)) (w : Fault) → scalar_by s a o ≡ Err w → (r : ℤ × ℤ) × (o ≡ Some r) × (type_mismatch s ≡ w)
scalar_err s a None w h = absurd (never_err a w h)
scalar_err s a (Some r) w h = (r, refl, same_fault {A = ElemType} (type_mismatch s) w h)

bounds_err : (s : ℕ) (o : Option (ℤ × ℤ)) (w : Fault) → bounds_by s o ≡ Err w → (o ≡ None) × (type_mismatch s ≡ w)
bounds_err s None w h = (refl, same_fault {A = ℤ × ℤ} (type_mismatch s) w h)
bounds_err s (Some r) w h = absurd (never_err r w h)

-- ---- numbers

number_by_refused : (a : ElemType) (s : ℕ) (l : Literal) (w : Fault) → number_by a s l ≡ Err w → IsNoNumber a (record { value = l; at = s }) w
number_by_refused a s (Whole b n) w h =
    test_step (in_type a (signed b n)) (Ok (signed b n)) (bad_literal s) w (IsNoNumber a (record { value = Whole b n; at = s })) (λ k. not_fitting k) (λ k m. absurd (never_err (signed b n) w m)) h
number_by_refused a s (Typed u b n) w h = subst (IsNoNumber a (record { value = Typed u b n; at = s })) (same_fault {A = ℤ} (bad_literal s) w h) (not_whole refl)
number_by_refused a s (Duration b n) w h = subst (IsNoNumber a (record { value = Duration b n; at = s })) (same_fault {A = ℤ} (bad_literal s) w h) (not_whole refl)
number_by_refused a s (Truth b) w h = subst (IsNoNumber a (record { value = Truth b; at = s })) (same_fault {A = ℤ} (bad_literal s) w h) (not_whole refl)

pub number_refused : (a : ElemType) (c : Constant) (w : Fault) → number_of a c ≡ Err w → IsNoNumber a c w
number_refused a c w h = number_by_refused a c.at c.value w h

high_refused : (a : ElemType) (n : ℤ) (o : Option Constant) (w : Fault) → high_of a n o ≡ Err w → (c : Constant) × (o ≡ Some c) × IsNoNumber a c w
high_refused a n None w h = absurd (never_err n w h)
high_refused a n (Some c) w h = (c, refl, number_refused a c w h)

pub label_refused : (a : ElemType) (l : Label) (w : Fault) → label_of a l ≡ Err w → IsNoLabel a l w
label_refused a l w h =
    step (number_of a l.low) (λ n. high_of a n l.high >>= λ m. Ok (n, m)) w (IsNoLabel a l w) (λ k. bad_low (number_refused a l.low w k))
    (λ n k. last_step (high_of a n l.high) (λ m. (n, m)) w (IsNoLabel a l w) (λ m. let p = high_refused a n l.high w m in bad_high p.1 p.2)) h

pub labels_refused : (a : ElemType) (ls : List Label) (w : Fault) → labels_of a ls ≡ Err w → SomeNoLabel a ls w
labels_refused a [] w h = let none : List (ℤ × ℤ) = [] in absurd (never_err none w h)
labels_refused a (l ∷ ls) w h =
    let more = labels_refused a ls w in
    step (label_of a l) (λ r. labels_of a ls >>= λ rs. Ok (r ∷ rs)) w (SomeNoLabel a (l ∷ ls) w) (λ k. this_label (label_refused a l w k))
    (λ r k. last_step (labels_of a ls) (λ rs. r ∷ rs) w (SomeNoLabel a (l ∷ ls) w) (λ m. later_label (more m))) h

nought_step : (a : ElemType) (c : Constant) (n : ℤ) → IsNumber a c n → n ≡ pos 0 → IsNoStep a c (bad_literal c.at)
nought_step a c n (a_number h) e = no_progress e

progress_err : (b : Bool) (v w : Fault) (n : ℤ) → cond b (Err v) (Ok n) ≡ Err w → (b ≡ true) × (v ≡ w)
progress_err true v w n h = (refl, same_fault {A = ℤ} v w h)
progress_err false v w n h = absurd (never_err n w h)

pub step_refused : (a : ElemType) (o : Option Constant) (w : Fault) → step_of a o ≡ Err w → (c : Constant) × (o ≡ Some c) × IsNoStep a c w
step_refused a None w h = absurd (never_err (pos 1) w h)
step_refused a (Some c) w h = (
  c,
  refl,
  step (number_of a c) (λ n. cond (is_nought n) (Err (bad_literal c.at)) (Ok n)) w (IsNoStep a c w) (λ k. bad_step (number_refused a c w k))
      (λ n k m. let p = progress_err (is_nought n) (bad_literal c.at) w n m in subst (IsNoStep a c) p.1 (nought_step a c n (number_sound a c n k) (nought_is n p.0))) h,
)

-- ---- statements without their parts

assignment_refused : (env : List Symbol) (busy : List Name) (x : Word) (s : ℕ) (e : Expression) (w : Fault) → commanded env busy (assign x s e) ≡ Err w → IsMisdone env busy (assign x s e) w
assignment_refused env busy x s e w h =
    let Q = IsMisdone env busy (assign x s e) w in
    step (assignable env busy x) (λ v. scalar s v >>= λ a. asked env a s e >>= λ y. Ok (set x.text y)) w Q (λ k. bad_target (assignable_refused env busy x w k))
    (λ v k. let there = (assignable_sound env busy x v k).known in
    step (scalar s v) (λ a. asked env a s e >>= λ y. Ok (set x.text y)) w Q (λ m. let p = scalar_err s v.type v.bounds w m in subst (IsMisdone env busy (assign x s e)) p.2 (whole_array there p.1))
    (λ a m. let same = (scalar_ok s v.type a v.bounds m).1 in
    last_step (asked env a s e) (λ y. set x.text y) w Q (λ n. bad_value there (subst (λ b. IsNotAsked env b s e w) (sym same) (asked_refused env a s e w n))))) h

element_assignment_refused : (env : List Symbol) (busy : List Name) (x : Word) (b : ℕ) (i : Expression) (s : ℕ) (e : Expression) (w : Fault) → commanded env busy (assign_element x b i s e) ≡ Err w → IsMisdone env busy (assign_element x b i s e) w
element_assignment_refused env busy x b i s e w h =
    let Q = IsMisdone env busy (assign_element x b i s e) w in
    step (assignable env busy x) (λ v. bounds_by b v.bounds >>= λ r. typed env i >>= λ p. integer_of b p >>= λ j. asked env v.type s e >>= λ y. Ok (set_part x.text r.0 r.1 j.1 y)) w Q (λ k. bad_element (assignable_refused env busy x w k))
    (λ v k. let there = (assignable_sound env busy x v k).known in
    step (bounds_by b v.bounds) (λ r. typed env i >>= λ p. integer_of b p >>= λ j. asked env v.type s e >>= λ y. Ok (set_part x.text r.0 r.1 j.1 y)) w Q
    (λ m. let p = bounds_err b v.bounds w m in subst (IsMisdone env busy (assign_element x b i s e)) p.1 (no_array there p.0))
    (λ r m. step (typed env i) (λ p. integer_of b p >>= λ j. asked env v.type s e >>= λ y. Ok (set_part x.text r.0 r.1 j.1 y)) w Q (λ n. wrong_index (refused env i w n))
    (λ p n. step (integer_of b p) (λ j. asked env v.type s e >>= λ y. Ok (set_part x.text r.0 r.1 j.1 y)) w Q (λ d. no_index (sound env i p n) (not_integer_of b p w d))
    (λ j d. last_step (asked env v.type s e) (λ y. set_part x.text r.0 r.1 j.1 y) w Q (λ g. bad_element_value there (asked_refused env v.type s e w g)))))) h

counter_refused : (env : List Symbol) (busy : List Name) (s : ℕ) (x : Word) (e g : Bound) (o : Option Constant) (xs : Statements) (v : Symbol) (w : Fault) → found env x.text ≡ Some v → counter s v ≡ Err w → IsMisdone env busy (repeat s x e g o xs) w
counter_refused env busy s x e g o xs v w there h =
    step (scalar s v) (λ a. cond (is_integer a) (Ok a) (Err (type_mismatch s))) w (IsMisdone env busy (repeat s x e g o xs) w)
    (λ k. let p = scalar_err s v.type v.bounds w k in subst (IsMisdone env busy (repeat s x e g o xs)) p.2 (array_counter there p.1))
    (λ a k. let same = (scalar_ok s v.type a v.bounds k).1 in
    test_step (is_integer a) (Ok a) (type_mismatch s) w (IsMisdone env busy (repeat s x e g o xs)) (λ m. no_integer there (subst (λ b. is_integer b ≡ false) (sym same) m)) (λ m n. absurd (never_err a w n))) h

counted_refused : (env : List Symbol) (busy : List Name) (s : ℕ) (x : Word) (e g : Bound) (o : Option Constant) (xs : Statements) (w : Fault) → counted env busy s x e g o ≡ Err w → IsMisdone env busy (repeat s x e g o xs) w
counted_refused env busy s x e g o xs w h =
    let Q = IsMisdone env busy (repeat s x e g o xs) w in
    let given : ElemType → Term → Term → ℤ → Counted = λ a y z n. record { variable = x.text; type = a; first = y; last = z; step = n; plain = e.plain && g.plain } in
    step (assignable env busy x) (λ v. counter s v >>= λ a. asked env a s e.value >>= λ y. asked env a s g.value >>= λ z. step_of a o >>= λ n. Ok (given a y z n)) w Q (λ k. bad_counter (assignable_refused env busy x w k))
    (λ v k. let there = (assignable_sound env busy x v k).known in
    step (counter s v) (λ a. asked env a s e.value >>= λ y. asked env a s g.value >>= λ z. step_of a o >>= λ n. Ok (given a y z n)) w Q (λ m. counter_refused env busy s x e g o xs v w there m)
    (λ a m. let back = sym (counter_ok s v a m).2 in
    step (asked env a s e.value) (λ y. asked env a s g.value >>= λ z. step_of a o >>= λ n. Ok (given a y z n)) w Q (λ n. bad_first there (subst (λ b. IsNotAsked env b s e.value w) back (asked_refused env a s e.value w n)))
    (λ y n. step (asked env a s g.value) (λ z. step_of a o >>= λ d. Ok (given a y z d)) w Q (λ d. bad_last there (subst (λ b. IsNotAsked env b s g.value w) back (asked_refused env a s g.value w d)))
    (λ z d. last_step (step_of a o) (λ i. given a y z i) w Q
    (λ i. let p = step_refused a o w i in subst (λ q. IsMisdone env busy (repeat s x e g q xs) w) (sym p.1) (wrong_step there (subst (λ b. IsNoStep b p.0 w) back p.2))))))) h

-- ---- statements

mutual
  pub command_refused : (env : List Symbol) (busy : List Name) (x : Statement) (w : Fault) → commanded env busy x ≡ Err w → IsMisdone env busy x w
  command_refused env busy (assign x s e) w h = assignment_refused env busy x s e w h
  command_refused env busy (assign_element x b i s e) w h = element_assignment_refused env busy x b i s e w h
  command_refused env busy (branch bs xs) w h =
      let inside = choices_refused env busy bs w in
      let other = commands_refused env busy xs w in
      step (chosen env busy bs) (λ cs. all_commanded env busy xs >>= λ c. Ok (choose cs c)) w (IsMisdone env busy (branch bs xs) w) (λ k. in_branches (inside k))
      (λ cs k. last_step (all_commanded env busy xs) (λ c. choose cs c) w (IsMisdone env busy (branch bs xs) w) (λ m. in_else (other m))) h
  command_refused env busy (select s e bs xs) w h =
      let inside : (a : ElemType) → cased env busy a bs ≡ Err w → SomeArmWrong env busy a bs w = λ a. cases_refused env busy a bs w in
      let other = commands_refused env busy xs w in
      let Q = IsMisdone env busy (select s e bs xs) w in
      step (typed env e) (λ p. integer_of s p >>= λ y. cased env busy y.0 bs >>= λ cs. all_commanded env busy xs >>= λ c. Ok (match_on y.1 cs c)) w Q (λ k. in_selector (refused env e w k))
      (λ p k. step (integer_of s p) (λ y. cased env busy y.0 bs >>= λ cs. all_commanded env busy xs >>= λ c. Ok (match_on y.1 cs c)) w Q (λ m. bad_selector (sound env e p k) (not_integer_of s p w m))
      (λ y m. step (cased env busy y.0 bs) (λ cs. all_commanded env busy xs >>= λ c. Ok (match_on y.1 cs c)) w Q (λ n. in_arms (sound env e p k) (selector_sound s p y m) (inside y.0 n))
      (λ cs n. last_step (all_commanded env busy xs) (λ c. match_on y.1 cs c) w Q (λ d. in_other_arm (other d))))) h
  command_refused env busy (repeat s x e g o xs) w h =
      let inside = commands_refused env (busy ++ x.text ∷ []) xs w in
      step (counted env busy s x e g o) (λ k. all_commanded env (busy ++ x.text ∷ []) xs >>= λ c. Ok (count k.variable k.type k.first k.last k.step k.plain c)) w (IsMisdone env busy (repeat s x e g o xs) w) (λ k. counted_refused env busy s x e g o xs w k)
      (λ k m. last_step (all_commanded env (busy ++ x.text ∷ []) xs) (λ c. count k.variable k.type k.first k.last k.step k.plain c) w (IsMisdone env busy (repeat s x e g o xs) w) (λ n. in_iteration (inside n))) h

  pub commands_refused : (env : List Symbol) (busy : List Name) (xs : Statements) (w : Fault) → all_commanded env busy xs ≡ Err w → SomeMisdone env busy xs w
  commands_refused env busy no_statement w h = absurd (never_err done w h)
  commands_refused env busy (statement x xs) w h =
      let this = command_refused env busy x w in
      let more = commands_refused env busy xs w in
      step (commanded env busy x) (λ c. all_commanded env busy xs >>= λ cs. Ok (then_do c cs)) w (SomeMisdone env busy (statement x xs) w) (λ k. this_one (this k))
      (λ c k. last_step (all_commanded env busy xs) (λ cs. then_do c cs) w (SomeMisdone env busy (statement x xs) w) (λ m. later_one (more m))) h

  pub choices_refused : (env : List Symbol) (busy : List Name) (bs : Branches) (w : Fault) → chosen env busy bs ≡ Err w → SomeBranchWrong env busy bs w
  choices_refused env busy no_branch w h = absurd (never_err no_choice w h)
  choices_refused env busy (a_branch s e xs bs) w h =
      let inside = commands_refused env busy xs w in
      let more = choices_refused env busy bs w in
      let Q = SomeBranchWrong env busy (a_branch s e xs bs) w in
      step (condition env s e) (λ y. all_commanded env busy xs >>= λ c. chosen env busy bs >>= λ cs. Ok (choice y c cs)) w Q (λ k. bad_condition (condition_refused env s e w k))
      (λ y k. step (all_commanded env busy xs) (λ c. chosen env busy bs >>= λ cs. Ok (choice y c cs)) w Q (λ m. in_branch (inside m))
      (λ c m. last_step (chosen env busy bs) (λ cs. choice y c cs) w Q (λ n. later_branch (more n)))) h

  pub cases_refused : (env : List Symbol) (busy : List Name) (a : ElemType) (bs : Arms) (w : Fault) → cased env busy a bs ≡ Err w → SomeArmWrong env busy a bs w
  cases_refused env busy a no_arm w h = absurd (never_err no_case w h)
  cases_refused env busy a (an_arm ls xs bs) w h =
      let inside = commands_refused env busy xs w in
      let more = cases_refused env busy a bs w in
      let Q = SomeArmWrong env busy a (an_arm ls xs bs) w in
      step (labels_of a ls) (λ rs. all_commanded env busy xs >>= λ c. cased env busy a bs >>= λ cs. Ok (a_case rs c cs)) w Q (λ k. bad_label (labels_refused a ls w k))
      (λ rs k. step (all_commanded env busy xs) (λ c. cased env busy a bs >>= λ cs. Ok (a_case rs c cs)) w Q (λ m. in_arm (inside m))
      (λ c m. last_step (cased env busy a bs) (λ cs. a_case rs c cs) w Q (λ n. later_arm (more n)))) h
