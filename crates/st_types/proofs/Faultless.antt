-- What is well typed has no fault.
use Rattle.std.proofs.Common.{◌≡◌, ◌≢◌, ℕ, ℤ, pos, Bool, true, false, ◌&&◌, List, [], ◌∷◌, ◌++◌, Option, None, Some, true≢false, refl, sym, ap, subst, ◌∙◌}
use Rattle.std.specs.List.{list_all}
use Rattle.fb_words.specs.declared.elem_type.ElemType.{ElemType}
use Rattle.fb_words.specs.declared.elem_type.ElemType.TheVariants as t
use Rattle.fb_words.specs.declared.operator.Operator.{Operator}
use Rattle.fb_words.specs.declared.operator.Operator.TheVariants as o
use Rattle.fb_words.specs.declared.operator.Operation.{Operation}
use Rattle.fb_words.specs.declared.operator.Operation.TheVariants.{Infix, Negate, Not, Abs, Min, Max, Limit, Convert}
use Rattle.fb_model.specs.Names.{Name}
use Rattle.fb_model.specs.Spelling.{is_integer}
use Rattle.fb_model.specs.Values.{signed}
use Rattle.fb_model.specs.Productions.{Word}
use Rattle.fb_model.specs.Trees.{Whole, Constant}
use Rattle.fb_model.specs.StructuredText.{Expression, element, call, negative, inverse, binary, Expressions, no_expression, expression, Label, Statement, assign, assign_element, branch, select, repeat, Statements, no_statement, statement, Branches, no_branch, a_branch, Arms, no_arm, an_arm}
use Rattle.fb_model.specs.TypedText.{Term, Command, Commands, Choices, Cases}
use Rattle.fb_model.specs.TextTyping.{allows, stays_free, asks, called, arity, Symbol, Loose, Operand, fixed, free, whole, may_be, is_free, Settles, a_number, a_single, a_double, TakesType, widened, settles, IsOneOf, front, behind, Brings, alone, Single, one_free, one, Double, two_free, two, Triple, three_free, three, IsIndex, an_integer, a_free_one, IsTyped, a_whole_number, a_typed_number, a_time, a_truth, a_variable, an_array, an_element, a_negation, an_inversion, an_operation, on_one, on_two, on_three, IsAsked, IsCondition, IsAssignable, IsNumber, IsLabel, from_to, AreLabels, a_label, IsStep, a_step, IsSelector, IsCommand, an_assignment, to_element, a_choice, a_selection, an_iteration, AreCommands, a_command, AreChoices, more_choices, AreCases, more_cases}
use Rattle.fb_model.specs.TextFaults.{Fault, Unsettled, bad_number, bad_single, bad_double, in_single, in_left, in_right, NotTaken, too_wide, unsettled, NotInteger, another_type, unsettled_one, NotOn, mismatched, not_settled, first, later, AreTyped, no_operand, an_operand, IsWrong, bad_typed, bad_time, unknown_variable, unknown_array, not_an_array, in_index, bad_index, in_negation, bad_negation, in_inversion, bad_inversion, in_first, in_second, bad_operation, unknown_function, bad_count, in_argument, bad_call, IsNotAsked, in_it, not_taken, is_truth, IsNoCondition, in_condition, no_truth, IsNotAssignable, unknown, read_only, counted_with, IsNoNumber, not_fitting, not_whole, IsNoLabel, bad_low, bad_high, SomeNoLabel, this_label, later_label, IsNoStep, bad_step, no_progress, IsMisdone, bad_target, whole_array, bad_value, bad_element, no_array, wrong_index, no_index, bad_element_value, in_branches, in_else, in_selector, bad_selector, in_arms, in_other_arm, bad_counter, array_counter, no_integer, bad_first, bad_last, wrong_step, in_iteration, SomeMisdone, this_one, later_one, SomeBranchWrong, bad_condition, in_branch, later_branch, SomeArmWrong, bad_label, in_arm, later_arm}
use Rattle.st_types.proofs.Rules.{brings_one}
use Rattle.st_types.proofs.Elaboration.{one_operand}

not_both : {b : Bool} → b ≡ true → b ≡ false → ⊥
not_both p q = cc

none_some : {A : Type 0} {x : Option A} {v : A} → x ≡ None → x ≡ Some v → ⊥
none_some h k = cc

one_answer : {A : Type 0} {x : Option A} {v u : A} → x ≡ Some v → x ≡ Some u → v ≡ u
one_answer h k = cc

-- a variable is an array or not
array_or_not : {x : Option Symbol} (v u : Symbol) (b : ℤ × ℤ) → x ≡ Some v → v.bounds ≡ Some b → x ≡ Some u → u.bounds ≡ None → ⊥
array_or_not v u b h k i n = none_some n (sym (ap (λ (y : Symbol). y.bounds) (one_answer h i)) ∙ k)

-- ---- operands

settled_faultless : (a : ElemType) (l : Loose) (x : Term) (w : Fault) → Settles a l x → Unsettled a l w → ⊥
settled_faultless a l x w (a_number h) (bad_number k) = not_both h k
settled_faultless a l x w (a_single h s) (bad_single k) = not_both h k
settled_faultless a l x w (a_single {l = m} {x = y} h s) (in_single u) = settled_faultless a m y w s u
settled_faultless a l x w (a_double h s d) (bad_double k) = not_both h k
settled_faultless a l x w (a_double {l = m} {x = y} h s d) (in_left u) = settled_faultless a m y w s u
settled_faultless a l x w (a_double {k = m} {y = y} h s d) (in_right u) = settled_faultless a m y w d u

taken_faultless : (a : ElemType) (s : ℕ) (p : Operand) (x : Term) (w : Fault) → TakesType a p x → NotTaken a s p w → ⊥
taken_faultless a s p x w (widened h) (too_wide k) = not_both h k
taken_faultless a s p x w (settles {l = l} h) (unsettled u) = settled_faultless a l x w h u

index_faultless : (s : ℕ) (p : Operand) (x : Term) (w : Fault) → IsIndex p x → NotInteger s p w → ⊥
index_faultless s p x w (an_integer h) (another_type k) = not_both h k
index_faultless s p x w (a_free_one {l = l} h) (unsettled_one u) = settled_faultless t.Lint l x w h u

selector_faultless : (s : ℕ) (p : Operand) (a : ElemType) (x : Term) (w : Fault) → IsSelector p a x → NotInteger s p w → ⊥
selector_faultless s p a x w (an_integer h) (another_type k) = not_both h k
selector_faultless s p a x w (a_free_one {l = l} h) (unsettled_one u) = settled_faultless t.Lint l x w h u

one_selector : (p : Operand) (a b : ElemType) (x y : Term) → IsSelector p a x → IsSelector p b y → a ≡ b
one_selector p a b x y (an_integer h) (an_integer k) = refl
one_selector p a b x y (a_free_one h) (a_free_one k) = refl

-- ---- operations that stay free, which LINT brings together and which LINT may have

stays_asks : (f : Operation) → stays_free f ≡ true → asks f ≡ None
stays_asks (Infix f) h = refl
stays_asks Negate h = refl
stays_asks Not h = refl
stays_asks Abs h = refl
stays_asks Min h = refl
stays_asks Max h = refl
stays_asks Limit h = refl
stays_asks (Convert a b) h = absurd (true≢false (sym h))

infix_allows : (f : Operator) → stays_free (Infix f) ≡ true → allows (Infix f) t.Lint ≡ true
infix_allows o.Or h = absurd (true≢false (sym h))
infix_allows o.Xor h = absurd (true≢false (sym h))
infix_allows o.And h = absurd (true≢false (sym h))
infix_allows o.Equal h = refl
infix_allows o.NotEqual h = refl
infix_allows o.Less h = refl
infix_allows o.Greater h = refl
infix_allows o.LessEqual h = refl
infix_allows o.GreaterEqual h = refl
infix_allows o.Plus h = refl
infix_allows o.Minus h = refl
infix_allows o.Times h = refl
infix_allows o.Over h = refl
infix_allows o.Modulo h = refl

stays_allows : (f : Operation) → stays_free f ≡ true → allows f t.Lint ≡ true
stays_allows (Infix f) h = infix_allows f h
stays_allows Negate h = refl
stays_allows Not h = absurd (true≢false (sym h))
stays_allows Abs h = refl
stays_allows Min h = refl
stays_allows Max h = refl
stays_allows Limit h = refl
stays_allows (Convert a b) h = refl

-- ---- operations on operands

-- operands that all take the type
data AllTake (a : ElemType) : List Operand → Type 0 where
  none_takes : AllTake a []
  one_takes : {p : Operand} {ps : List Operand} {x : Term} → TakesType a p x → AllTake a ps → AllTake a (p ∷ ps)

takes_may : (a : ElemType) (p : Operand) (x : Term) → TakesType a p x → may_be a p ≡ true
takes_may a (fixed b y) x (widened h) = h
takes_may a (free l) x k = refl
takes_may a whole x k = elim k [ ]

all_may : (a : ElemType) (ps : List Operand) → AllTake a ps → list_all (may_be a) ps ≡ true
all_may a ps none_takes = refl
all_may a (p ∷ ps) (one_takes {x = x} h k) = ap (λ b. b && list_all (may_be a) ps) (takes_may a p x h) ∙ all_may a ps k

free_takes : (a : ElemType) (l : Loose) (x : Term) → TakesType a (free l) x → (w : Fault) → Unsettled a l w → ⊥
free_takes a l x (settles h) w u = settled_faultless a l x w h u

all_settle : (a : ElemType) (ps : List Operand) (l : Loose) (w : Fault) → AllTake a ps → IsOneOf (free l) ps → Unsettled a l w → ⊥
all_settle a [] l w k i u = elim i [ ]
all_settle a (p ∷ ps) l w (one_takes {x = x} h k) front u = free_takes a l x h w u
all_settle a (p ∷ ps) l w (one_takes h k) (behind i) u = all_settle a ps l w k i u

-- operands that are brought to a type which the operation may have, and which take it
brought_faultless : (f : Operation) (s : ℕ) (ps : List Operand) (w : Fault) (a : ElemType) → Brings f ps a → allows f a ≡ true → AllTake a ps → NotOn f s ps w → ⊥
brought_faultless f s ps w a b h k (mismatched m) = m a b h (all_may a ps k)
brought_faultless f s ps w a b h k (not_settled {a = c} {l = l} n d i u) =
    all_settle a ps l w k i (subst (λ v. Unsettled v l w) (brings_one f ps c a d b) u)

-- free operands of an operation that stays free
free_faultless : (f : Operation) (s : ℕ) (ps : List Operand) (w : Fault) → stays_free f ≡ true → list_all is_free ps ≡ true → list_all (may_be t.Lint) ps ≡ true → NotOn f s ps w → ⊥
free_faultless f s ps w h all may (mismatched m) = m t.Lint (alone (stays_asks f h) all) (stays_allows f h) may
free_faultless f s ps w h all may (not_settled n d i u) = not_both (ap (λ b. b && list_all is_free ps) h ∙ all) n

single_faultless : (f : Operation) (s : ℕ) (p r : Operand) (w : Fault) → Single f s p r → NotOn f s (p ∷ []) w → ⊥
single_faultless f s p r w (one_free h) k = free_faultless f s (p ∷ []) w h refl refl k
single_faultless f s p r w (one {a = a} n b h x) k = brought_faultless f s (p ∷ []) w a b h (one_takes x none_takes) k

double_faultless : (f : Operation) (s : ℕ) (p q r : Operand) (w : Fault) → Double f s p q r → NotOn f s (p ∷ q ∷ []) w → ⊥
double_faultless f s p q r w (two_free h) k = free_faultless f s (p ∷ q ∷ []) w h refl refl k
double_faultless f s p q r w (two {a = a} n b h x y) k = brought_faultless f s (p ∷ q ∷ []) w a b h (one_takes x (one_takes y none_takes)) k

triple_faultless : (s : ℕ) (p q r k : Operand) (w : Fault) → Triple s p q r k → NotOn Limit s (p ∷ q ∷ r ∷ []) w → ⊥
triple_faultless s p q r k w three_free m = free_faultless Limit s (p ∷ q ∷ r ∷ []) w refl refl refl m
triple_faultless s p q r k w (three {a = a} n b h x y z) m = brought_faultless Limit s (p ∷ q ∷ r ∷ []) w a b h (one_takes x (one_takes y (one_takes z none_takes))) m

-- ---- expressions

-- arguments are one list of operands at most
one_list : (env : List Symbol) (es : Expressions) (ps qs : List Operand) → AreTyped env es ps → AreTyped env es qs → ps ≡ qs
one_list env es ps qs no_operand no_operand = refl
one_list env (expression e es) ps qs (an_operand {p = p} {ps = rs} h k) (an_operand {p = q} {ps = us} i j) =
    ap (λ v. v ∷ rs) (one_operand env e p q h i) ∙ ap (λ v. q ∷ v) (one_list env es rs us k j)

same_on : (f g : Operation) (s : ℕ) (ps qs : List Operand) (w : Fault) → f ≡ g → ps ≡ qs → NotOn f s ps w → NotOn g s qs w
same_on f g s ps qs w e k n = subst (λ h. NotOn h s qs w) e (subst (λ rs. NotOn f s rs w) k n)

-- a function has one number of arguments
count_faultless : (x : Word) (f g : Operation) (n : ℕ) → called x.text ≡ Some f → arity f ≡ n → called x.text ≡ Some g → n ≢ arity g → ⊥
count_faultless x f g n h a k m = m (sym a ∙ ap arity (one_answer h k))

pub typed_faultless : (env : List Symbol) (e : Expression) (p : Operand) (w : Fault) → IsTyped env e p → IsWrong env e w → ⊥
typed_faultless env e r w a_whole_number k = elim k [ ]
typed_faultless env e r w (a_typed_number h) (bad_typed k) = not_both h k
typed_faultless env e r w (a_time h) (bad_time k) = not_both h k
typed_faultless env e r w a_truth k = elim k [ ]
typed_faultless env e r w (a_variable h b) (unknown_variable k) = none_some k h
typed_faultless env e r w (an_array h b) (unknown_variable k) = none_some k h
typed_faultless env e r w (an_element h b i j) (unknown_array k) = none_some k h
typed_faultless env e r w (an_element {v = v} {b = c} h b i j) (not_an_array {v = u} k n) = array_or_not v u c h b k n
typed_faultless env (element x s d) r w (an_element {p = p} h b i j) (in_index k) = typed_faultless env d p w i k
typed_faultless env (element x s d) r w (an_element {p = p} {j = y} h b i j) (bad_index {p = q} k n) =
    index_faultless s p y w j (subst (λ v. NotInteger s v w) (one_operand env d q p k i) n)
typed_faultless env (negative s e) r w (a_negation {p = p} i d) (in_negation k) = typed_faultless env e p w i k
typed_faultless env (negative s e) r w (a_negation {p = p} i d) (bad_negation {p = q} k n) =
    single_faultless Negate s p r w d (subst (λ v. NotOn Negate s (v ∷ []) w) (one_operand env e q p k i) n)
typed_faultless env (inverse s e) r w (an_inversion {p = p} i d) (in_inversion k) = typed_faultless env e p w i k
typed_faultless env (inverse s e) r w (an_inversion {p = p} i d) (bad_inversion {p = q} k n) =
    single_faultless Not s p r w d (subst (λ v. NotOn Not s (v ∷ []) w) (one_operand env e q p k i) n)
typed_faultless env (binary f s e g) r w (an_operation {p = p} i j d) (in_first k) = typed_faultless env e p w i k
typed_faultless env (binary f s e g) r w (an_operation {q = q} i j d) (in_second k) = typed_faultless env g q w j k
typed_faultless env (binary f s e g) r w (an_operation {p = p} {q = q} i j d) (bad_operation {p = a} {q = b} k m n) =
    let same = one_list env (expression e (expression g no_expression)) (a ∷ b ∷ []) (p ∷ q ∷ []) (an_operand k (an_operand m no_operand)) (an_operand i (an_operand j no_operand)) in
    double_faultless (Infix f) s p q r w d (same_on (Infix f) (Infix f) s (a ∷ b ∷ []) (p ∷ q ∷ []) w refl same n)
typed_faultless env (call x es) r w (on_one c a i d) (unknown_function k) = none_some k c
typed_faultless env (call x es) r w (on_one {f = f} c a i d) (bad_count {f = g} k n) = count_faultless x f g 1 c a k n
typed_faultless env (call x es) r w (on_one {e = e} {p = p} c a i d) (in_argument first k) = typed_faultless env e p w i k
typed_faultless env (call x es) r w (on_one c a i d) (in_argument (later l) k) = elim l [ ]
typed_faultless env (call x es) r w (on_one {f = f} {p = p} c a i d) (bad_call {f = g} {ps = ps} k m n) =
    single_faultless f x.at p r w d (same_on g f x.at ps (p ∷ []) w (one_answer k c) (one_list env es ps (p ∷ []) m (an_operand i no_operand)) n)
typed_faultless env (call x es) r w (on_two c a i j d) (unknown_function k) = none_some k c
typed_faultless env (call x es) r w (on_two {f = f} c a i j d) (bad_count {f = g} k n) = count_faultless x f g 2 c a k n
typed_faultless env (call x es) r w (on_two {e = e} {p = p} c a i j d) (in_argument first k) = typed_faultless env e p w i k
typed_faultless env (call x es) r w (on_two {g = g} {q = q} c a i j d) (in_argument (later first) k) = typed_faultless env g q w j k
typed_faultless env (call x es) r w (on_two c a i j d) (in_argument (later (later l)) k) = elim l [ ]
typed_faultless env (call x es) r w (on_two {f = f} {p = p} {q = q} c a i j d) (bad_call {f = g} {ps = ps} k m n) =
    double_faultless f x.at p q r w d (same_on g f x.at ps (p ∷ q ∷ []) w (one_answer k c) (one_list env es ps (p ∷ q ∷ []) m (an_operand i (an_operand j no_operand))) n)
typed_faultless env (call x es) r w (on_three c i j h d) (unknown_function k) = none_some k c
typed_faultless env (call x es) r w (on_three c i j h d) (bad_count {f = g} k n) = count_faultless x Limit g 3 c refl k n
typed_faultless env (call x es) r w (on_three {e = e} {p = p} c i j h d) (in_argument first k) = typed_faultless env e p w i k
typed_faultless env (call x es) r w (on_three {g = g} {q = q} c i j h d) (in_argument (later first) k) = typed_faultless env g q w j k
typed_faultless env (call x es) r w (on_three {h = b} {r = o} c i j h d) (in_argument (later (later first)) k) = typed_faultless env b o w h k
typed_faultless env (call x es) r w (on_three c i j h d) (in_argument (later (later (later l))) k) = elim l [ ]
typed_faultless env (call x es) r w (on_three {p = p} {q = q} {r = o} c i j h d) (bad_call {f = g} {ps = ps} k m n) =
    triple_faultless x.at p q o r w d (same_on g Limit x.at ps (p ∷ q ∷ o ∷ []) w (one_answer k c) (one_list env es ps (p ∷ q ∷ o ∷ []) m (an_operand i (an_operand j (an_operand h no_operand)))) n)

-- the same where a type is asked for
pub asked_faultless : (env : List Symbol) (a : ElemType) (s : ℕ) (e : Expression) (x : Term) (w : Fault) → IsAsked env a e x → IsNotAsked env a s e w → ⊥
asked_faultless env a s e x w h (in_it k) = typed_faultless env e h.operand w h.typed k
asked_faultless env a s e x w h (not_taken {p = q} k n) =
    taken_faultless a s h.operand x w h.taken (subst (λ v. NotTaken a s v w) (one_operand env e q h.operand k h.typed) n)

-- and of a condition
pub condition_faultless : (env : List Symbol) (s : ℕ) (e : Expression) (x : Term) (w : Fault) → IsCondition env e x → IsNoCondition env s e w → ⊥
condition_faultless env s e x w h (in_condition k) = typed_faultless env e (fixed t.Bool x) w h k
condition_faultless env s e x w h (no_truth {p = p} k n) = true≢false (subst (λ q. is_truth q ≡ false) (one_operand env e p (fixed t.Bool x) k h) n)

-- and where the type is that of a variable
asked_by_variable : {x : Option Symbol} (env : List Symbol) (v u : Symbol) (s : ℕ) (e : Expression) (y : Term) (w : Fault) → x ≡ Some v → IsAsked env v.type e y → x ≡ Some u → IsNotAsked env u.type s e w → ⊥
asked_by_variable env v u s e y w h k i n =
    asked_faultless env v.type s e y w k (subst (λ (z : Symbol). IsNotAsked env z.type s e w) (one_answer i h) n)

-- ---- what is assigned, labels and steps

assignable_faultless : (env : List Symbol) (busy : List Name) (x : Word) (v : Symbol) (w : Fault) → IsAssignable env busy x.text v → IsNotAssignable env busy x w → ⊥
assignable_faultless env busy x v w h (unknown k) = none_some k h.known
assignable_faultless env busy x v w h (read_only k n) = not_both h.writable (subst (λ (y : Symbol). y.writable ≡ false) (one_answer k h.known) n)
assignable_faultless env busy x v w h (counted_with k) = not_both k h.idle

number_faultless : (a : ElemType) (c : Constant) (n : ℤ) (w : Fault) → IsNumber a c n → IsNoNumber a c w → ⊥
number_faultless a c n w (a_number h) (not_fitting k) = not_both h k
number_faultless a c n w (a_number h) (not_whole k) = true≢false k

label_faultless : (a : ElemType) (l : Label) (r : ℤ × ℤ) (w : Fault) → IsLabel a l r → IsNoLabel a l w → ⊥
label_faultless a l r w (one {c = c} {n = n} h) (bad_low k) = number_faultless a c n w h k
label_faultless a l r w (one h) (bad_high e k) = none_some refl e
label_faultless a l r w (from_to {c = c} {n = n} h i) (bad_low k) = number_faultless a c n w h k
label_faultless a l r w (from_to {d = d} {m = m} h i) (bad_high e k) = number_faultless a d m w i (subst (λ c. IsNoNumber a c w) (one_answer e refl) k)

labels_faultless : (a : ElemType) (ls : List Label) (rs : List (ℤ × ℤ)) (w : Fault) → AreLabels a ls rs → SomeNoLabel a ls w → ⊥
labels_faultless a [] rs w h n = elim n [ ]
labels_faultless a (l ∷ ls) rs w (a_label {r = r} h k) (this_label n) = label_faultless a l r w h n
labels_faultless a (l ∷ ls) rs w (a_label {rs = qs} h k) (later_label n) = labels_faultless a ls qs w k n

whole_is : (a : ElemType) (b : Bool) (m s : ℕ) (n : ℤ) → IsNumber a (record { value = Whole b m; at = s }) n → n ≡ signed b m
whole_is a b m s n (a_number h) = refl

step_faultless : (a : ElemType) (c : Constant) (n : ℤ) (w : Fault) → IsNumber a c n → n ≢ pos 0 → IsNoStep a c w → ⊥
step_faultless a c n w h k (bad_step u) = number_faultless a c n w h u
step_faultless a c n w h k (no_progress {b = b} {n = m} {s = s} e) = k (whole_is a b m s n h ∙ e)

step_by_variable : {x : Option Symbol} (v u : Symbol) (c : Constant) (n : ℤ) (w : Fault) → x ≡ Some v → IsStep v.type (Some c) n → x ≡ Some u → IsNoStep u.type c w → ⊥
step_by_variable v u c n w h (a_step k d) i m = step_faultless v.type c n w k d (subst (λ (z : Symbol). IsNoStep z.type c w) (one_answer i h) m)

-- ---- statements

mutual
  pub command_faultless : (env : List Symbol) (busy : List Name) (x : Statement) (c : Command) (w : Fault) → IsCommand env busy x c → IsMisdone env busy x w → ⊥
  command_faultless env busy (assign x s e) c w (an_assignment {v = v} h b k) (bad_target n) = assignable_faultless env busy x v w h n
  command_faultless env busy (assign x s e) c w (an_assignment {v = v} h b k) (whole_array {v = u} {r = r} i n) = array_or_not u v r i n h.known b
  command_faultless env busy (assign x s e) c w (an_assignment {v = v} {y = y} h b k) (bad_value {v = u} i n) = asked_by_variable env v u s e y w h.known k i n
  command_faultless env busy (assign_element x o i s e) c w (to_element {v = v} h b k j m) (bad_element n) = assignable_faultless env busy x v w h n
  command_faultless env busy (assign_element x o i s e) c w (to_element {v = v} {r = r} h b k j m) (no_array {v = u} d n) = array_or_not v u r h.known b d n
  command_faultless env busy (assign_element x o i s e) c w (to_element {p = p} h b k j m) (wrong_index n) = typed_faultless env i p w k n
  command_faultless env busy (assign_element x o i s e) c w (to_element {p = p} {j = y} h b k j m) (no_index {p = q} d n) =
      index_faultless o p y w j (subst (λ v. NotInteger o v w) (one_operand env i q p d k) n)
  command_faultless env busy (assign_element x o i s e) c w (to_element {v = v} {y = y} h b k j m) (bad_element_value {v = u} d n) = asked_by_variable env v u s e y w h.known m d n
  command_faultless env busy (branch bs xs) c w (a_choice {cs = cs} h k) (in_branches n) = choices_faultless env busy bs cs w h n
  command_faultless env busy (branch bs xs) c w (a_choice {c = d} h k) (in_else n) = commands_faultless env busy xs d w k n
  command_faultless env busy (select s e bs xs) c w (a_selection {p = p} h i j k) (in_selector n) = typed_faultless env e p w h n
  command_faultless env busy (select s e bs xs) c w (a_selection {p = p} {a = a} {y = y} h i j k) (bad_selector {p = q} m n) =
      selector_faultless s p a y w i (subst (λ v. NotInteger s v w) (one_operand env e q p m h) n)
  command_faultless env busy (select s e bs xs) c w (a_selection {p = p} {a = a} {y = y} {cs = cs} h i j k) (in_arms {p = q} {a = b} {y = z} m o n) =
      let same = one_selector p b a z y (subst (λ v. IsSelector v b z) (one_operand env e q p m h) o) i in
      cases_faultless env busy a bs cs w j (subst (λ v. SomeArmWrong env busy v bs w) same n)
  command_faultless env busy (select s e bs xs) c w (a_selection {c = d} h i j k) (in_other_arm n) = commands_faultless env busy xs d w k n
  command_faultless env busy (repeat s x e g step xs) c w (an_iteration {v = v} h b i j k m o) (bad_counter n) = assignable_faultless env busy x v w h n
  command_faultless env busy (repeat s x e g step xs) c w (an_iteration {v = v} h b i j k m o) (array_counter {v = u} {r = r} d n) = array_or_not u v r d n h.known b
  command_faultless env busy (repeat s x e g step xs) c w (an_iteration h b i j k m o) (no_integer d n) = not_both i (subst (λ (z : Symbol). is_integer z.type ≡ false) (one_answer d h.known) n)
  command_faultless env busy (repeat s x e g step xs) c w (an_iteration {v = v} {y = y} h b i j k m o) (bad_first {v = u} d n) = asked_by_variable env v u s e.value y w h.known j d n
  command_faultless env busy (repeat s x e g step xs) c w (an_iteration {v = v} {z = z} h b i j k m o) (bad_last {v = u} d n) = asked_by_variable env v u s g.value z w h.known k d n
  command_faultless env busy (repeat s x e g step xs) c w (an_iteration {v = v} {n = q} h b i j k m o) (wrong_step {c = l} {v = u} d n) = step_by_variable v u l q w h.known m d n
  command_faultless env busy (repeat s x e g step xs) c w (an_iteration {c = d} h b i j k m o) (in_iteration n) = commands_faultless env (busy ++ x.text ∷ []) xs d w o n

  pub commands_faultless : (env : List Symbol) (busy : List Name) (xs : Statements) (c : Commands) (w : Fault) → AreCommands env busy xs c → SomeMisdone env busy xs w → ⊥
  commands_faultless env busy no_statement c w h n = elim n [ ]
  commands_faultless env busy (statement x xs) c w (a_command {c = d} h k) (this_one n) = command_faultless env busy x d w h n
  commands_faultless env busy (statement x xs) c w (a_command {cs = ds} h k) (later_one n) = commands_faultless env busy xs ds w k n

  pub choices_faultless : (env : List Symbol) (busy : List Name) (bs : Branches) (cs : Choices) (w : Fault) → AreChoices env busy bs cs → SomeBranchWrong env busy bs w → ⊥
  choices_faultless env busy no_branch cs w h n = elim n [ ]
  choices_faultless env busy (a_branch s e xs bs) cs w (more_choices {y = y} h k m) (bad_condition n) = condition_faultless env s e y w h n
  choices_faultless env busy (a_branch s e xs bs) cs w (more_choices {c = c} h k m) (in_branch n) = commands_faultless env busy xs c w k n
  choices_faultless env busy (a_branch s e xs bs) cs w (more_choices {cs = ds} h k m) (later_branch n) = choices_faultless env busy bs ds w m n

  pub cases_faultless : (env : List Symbol) (busy : List Name) (a : ElemType) (bs : Arms) (cs : Cases) (w : Fault) → AreCases env busy a bs cs → SomeArmWrong env busy a bs w → ⊥
  cases_faultless env busy a no_arm cs w h n = elim n [ ]
  cases_faultless env busy a (an_arm ls xs bs) cs w (more_cases {rs = rs} h k m) (bad_label n) = labels_faultless a ls rs w h n
  cases_faultless env busy a (an_arm ls xs bs) cs w (more_cases {c = c} h k m) (in_arm n) = commands_faultless env busy xs c w k n
  cases_faultless env busy a (an_arm ls xs bs) cs w (more_cases {cs = ds} h k m) (later_arm n) = cases_faultless env busy a bs ds w m n
