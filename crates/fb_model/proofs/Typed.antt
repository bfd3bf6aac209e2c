-- What is well typed has the shape of its variables.
use Rattle.std.proofs.Common.{◌≡◌, ℕ, ℤ, Bool, true, false, ◌||◌, List, [], ◌∷◌, ◌++◌, Option, None, Some, refl, ◌∙◌, ap, subst}
use Rattle.std.specs.Prelude.{if◌then◌else◌}
use Rattle.std.specs.Str.{bytes_eq}
use Rattle.fb_words.specs.declared.elem_type.ElemType.{ElemType}
use Rattle.fb_words.specs.declared.operator.Operation.{Operation}
use Rattle.fb_model.specs.Names.{Name, is_in}
use Rattle.fb_model.specs.StructuredText.{Expression, Statements, Branches, Arms, Statement}
use Rattle.fb_model.specs.TypedText.{Term, Command, Choices, Cases}
use Rattle.fb_model.specs.Language.{Algorithm, Guard, given}
use Rattle.fb_model.specs.TextTyping.{Symbol, found, Loose, Operand, fixed, free, whole, Settles, a_number, a_single, a_double, TakesType, widened, settles, Single, one_free, one, Double, two_free, two, Triple, three_free, three, IsIndex, an_integer, a_free_one, IsTyped, a_whole_number, a_typed_number, a_time, a_truth, a_variable, an_array, an_element, a_negation, an_inversion, an_operation, on_one, on_two, on_three, IsAsked, IsCondition, IsSelector, IsCommand, an_assignment, to_element, a_choice, a_selection, an_iteration, AreCommands, no_command, a_command, AreChoices, no_choices, more_choices, AreCases, no_cases, more_cases}
use Rattle.fb_model.proofs.Placed.{name_same}
use Rattle.fb_model.proofs.Lists.{same_name}
use Rattle.fb_model.specs.Clear.{assigned_one, assigned, assigned_choices, assigned_cases}
use Rattle.fb_model.specs.Shapes.{Shape, TermFits, CommandFits, AlgorithmFits, ChoicesFit, CasesFit, shape_of}
use Rattle.fb_model.proofs.Runs.{not_both}

-- ---- expressions

module _ (shape : Shape) where
  abbrev OperandFits : Operand → Type 0
  OperandFits (fixed a x) = TermFits shape x
  OperandFits (free l) = Unit {0}
  OperandFits whole = Unit {0}

  settles_fit : (a : ElemType) (l : Loose) (x : Term) → Settles a l x → TermFits shape x
  settles_fit a _ _ (a_number h) = tt
  settles_fit a _ _ (a_single {l = l} {x = x} h s) = settles_fit a l x s
  settles_fit a _ _ (a_double {l = l} {k = k} {x = x} {y = z} h s t) = (settles_fit a l x s, settles_fit a k z t)

  takes_fit : (a : ElemType) (p : Operand) (x : Term) → OperandFits p → TakesType a p x → TermFits shape x
  takes_fit a _ x h (widened w) = h
  takes_fit a _ x h (settles {l = l} s) = settles_fit a l x s

  index_fits : (p : Operand) (x : Term) → OperandFits p → IsIndex p x → TermFits shape x
  index_fits _ x h (an_integer w) = h
  index_fits _ x h (a_free_one {l = l} s) = settles_fit _ l x s

  single_fits : (f : Operation) (s : ℕ) (p r : Operand) → OperandFits p → Single f s p r → OperandFits r
  single_fits f s _ _ h (one_free e) = tt
  single_fits f s p _ h (one {a = a} {x = x} e b c t) = takes_fit a p x h t

  double_fits : (f : Operation) (s : ℕ) (p q r : Operand) → OperandFits p → OperandFits q → Double f s p q r → OperandFits r
  double_fits f s _ _ _ h k (two_free e) = tt
  double_fits f s p q _ h k (two {a = a} {x = x} {y = z} e b c t u) = (takes_fit a p x h t, takes_fit a q z k u)

  triple_fits : (s : ℕ) (p q r o : Operand) → OperandFits p → OperandFits q → OperandFits r → Triple s p q r o → OperandFits o
  triple_fits s _ _ _ _ h k l three_free = tt
  triple_fits s p q r _ h k l (three {a = a} {x = x} {y = z} {z = w} e b c t u v) = ((takes_fit a q z k u, takes_fit a p x h t), takes_fit a r w l v)

module _ (env : List Symbol) where
  bounds_are : (x : Name) (v : Symbol) (b : Option (ℤ × ℤ)) → found env x ≡ Some v → v.bounds ≡ b → shape_of env x ≡ b
  bounds_are x v b e h = ap (λ o. given o (λ w. w.bounds)) e ∙ h

  typed_fits : (e : Expression) (p : Operand) → IsTyped env e p → OperandFits (shape_of env) p
  typed_fits _ _ a_whole_number = tt
  typed_fits _ _ (a_typed_number h) = tt
  typed_fits _ _ (a_time h) = tt
  typed_fits _ _ a_truth = tt
  typed_fits _ _ (a_variable {x = x} {v = v} e b) = bounds_are x.text v None e b
  typed_fits _ _ (an_array e b) = tt
  typed_fits _ _ (an_element {x = x} {i = i} {v = v} {b = b} {p = p} {j = j} e h t k) = (bounds_are x.text v (Some b) e h, index_fits (shape_of env) p j (typed_fits i p t) k)
  typed_fits _ _ (a_negation {s = s} {e = e} {p = p} {r = r} t h) = single_fits (shape_of env) _ s p r (typed_fits e p t) h
  typed_fits _ _ (an_inversion {s = s} {e = e} {p = p} {r = r} t h) = single_fits (shape_of env) _ s p r (typed_fits e p t) h
  typed_fits _ _ (an_operation {s = s} {e = e} {g = g} {p = p} {q = q} {r = r} t u h) = double_fits (shape_of env) _ s p q r (typed_fits e p t) (typed_fits g q u) h
  typed_fits _ _ (on_one {x = x} {e = e} {p = p} {r = r} c d t h) = single_fits (shape_of env) _ x.at p r (typed_fits e p t) h
  typed_fits _ _ (on_two {x = x} {e = e} {g = g} {p = p} {q = q} {r = r} c d t u h) = double_fits (shape_of env) _ x.at p q r (typed_fits e p t) (typed_fits g q u) h
  typed_fits _ _ (on_three {x = x} {e = e} {g = g} {h = j} {p = p} {q = q} {r = r} {k = k} c t u v h) = triple_fits (shape_of env) x.at p q r k (typed_fits e p t) (typed_fits g q u) (typed_fits j r v) h

  asked_fits : (a : ElemType) (e : Expression) (x : Term) → IsAsked env a e x → TermFits (shape_of env) x
  asked_fits a e x h = takes_fit (shape_of env) a h.operand x (typed_fits e h.operand h.typed) h.taken

  selector_fits : (p : Operand) (a : ElemType) (x : Term) → OperandFits (shape_of env) p → IsSelector p a x → TermFits (shape_of env) x
  selector_fits _ a x h (an_integer w) = h
  selector_fits _ a x h (a_free_one {l = l} s) = settles_fit (shape_of env) _ l x s

  -- ---- statements

  -- none of the busy variables is assigned
  abbrev AreLeft : List Name → List Name → Type 0
  AreLeft busy xs = (y : Name) → is_in y busy ≡ true → is_in y xs ≡ false

  left_one : (busy : List Name) (x : Name) → is_in x busy ≡ false → AreLeft busy (x ∷ [])
  left_one busy x h y i = by (bytes_eq y x) refl where
    by : (b : Bool) → bytes_eq y x ≡ b → (b || false) ≡ false
    by true e = absurd (let s : y ≡ x = same_name y x e in let t : is_in x busy ≡ true = subst (λ z. is_in z busy ≡ true) s i in cc)
    by false e = refl

  left_both : (busy xs ys : List Name) → AreLeft busy xs → AreLeft busy ys → AreLeft busy (xs ++ ys)
  left_both busy xs ys h k y i = not_both y xs ys (h y i) (k y i)

  still_busy : (y : Name) (busy zs : List Name) → is_in y busy ≡ true → is_in y (busy ++ zs) ≡ true
  still_busy y [] zs h = cc
  still_busy y (x ∷ busy) zs h = by (bytes_eq y x) h (still_busy y busy zs) where
    by : (b : Bool) → (b || is_in y busy) ≡ true → (is_in y busy ≡ true → is_in y (busy ++ zs) ≡ true) → (b || is_in y (busy ++ zs)) ≡ true
    by true e next = refl
    by false e next = next e

  last_busy : (x : Name) (busy : List Name) → is_in x (busy ++ x ∷ []) ≡ true
  last_busy x [] = ap (λ b. b || false) (name_same x)
  last_busy x (z ∷ busy) = by (bytes_eq x z) (last_busy x busy) where
    by : (b : Bool) → is_in x (busy ++ x ∷ []) ≡ true → (b || is_in x (busy ++ x ∷ [])) ≡ true
    by true e = refl
    by false e = e

  left_loop : (busy : List Name) (x : Name) (xs : List Name) (b : Bool) → is_in x busy ≡ false → AreLeft (busy ++ x ∷ []) xs → AreLeft busy (if b then xs else x ∷ xs)
  left_loop busy x xs true h k y i = k y (still_busy y busy (x ∷ []) i)
  left_loop busy x xs false h k y i = not_both y (x ∷ []) xs (left_one busy x h y i) (k y (still_busy y busy (x ∷ []) i))

  mutual
    command_fits : (busy : List Name) (s : Statement) (c : Command) → IsCommand env busy s c → CommandFits (shape_of env) c × AreLeft busy (assigned_one c)
    command_fits busy _ _ (an_assignment {x = x} {e = e} {v = v} {y = z} a b t) = ((bounds_are x.text v None a.known b, asked_fits v.type e z t), left_one busy x.text a.idle)
    command_fits busy _ _ (to_element {x = x} {i = i} {e = e} {v = v} {r = r} {p = p} {j = j} {y = z} a b t k u) =
        ((bounds_are x.text v (Some r) a.known b, index_fits (shape_of env) p j (typed_fits i p t) k, asked_fits v.type e z u), λ y h. refl)
    command_fits busy _ _ (a_choice {bs = bs} {xs = xs} {cs = cs} {c = c} h k) =
        let a = choices_fit busy bs cs h in
        let b = commands_fit busy xs c k in
        ((a.0, b.0), left_both busy (assigned_choices cs) (assigned c) a.1 b.1)
    command_fits busy _ _ (a_selection {e = e} {bs = bs} {xs = xs} {p = p} {a = type} {y = z} {cs = cs} {c = c} t s h k) =
        let a = cases_fit busy type bs cs h in
        let b = commands_fit busy xs c k in
        ((selector_fits p type z (typed_fits e p t) s, a.0, b.0), left_both busy (assigned_cases cs) (assigned c) a.1 b.1)
    command_fits busy _ _ (an_iteration {x = x} {e = e} {g = g} {xs = xs} {v = v} {y = z} {z = w} {n = n} {c = c} a b i t u k h) =
        let d = commands_fit (busy ++ x.text ∷ []) xs c h in
        ((bounds_are x.text v None a.known b, d.1 x.text (last_busy x.text busy), asked_fits v.type e.value z t, asked_fits v.type g.value w u, d.0), left_loop busy x.text (assigned c) _ a.idle d.1)

    pub commands_fit : (busy : List Name) (xs : Statements) (c : Algorithm) → AreCommands env busy xs c → AlgorithmFits (shape_of env) c × AreLeft busy (assigned c)
    commands_fit busy _ _ no_command = (tt, λ y h. refl)
    commands_fit busy _ _ (a_command {x = x} {xs = xs} {c = c} {cs = cs} h k) =
        let a = command_fits busy x c h in
        let b = commands_fit busy xs cs k in
        ((a.0, b.0), left_both busy (assigned_one c) (assigned cs) a.1 b.1)

    choices_fit : (busy : List Name) (bs : Branches) (cs : Choices) → AreChoices env busy bs cs → ChoicesFit (shape_of env) cs × AreLeft busy (assigned_choices cs)
    choices_fit busy _ _ no_choices = (tt, λ y h. refl)
    choices_fit busy _ _ (more_choices {e = e} {xs = xs} {bs = bs} {y = z} {c = c} {cs = cs} t h k) =
        let a = commands_fit busy xs c h in
        let b = choices_fit busy bs cs k in
        ((typed_fits e _ t, a.0, b.0), left_both busy (assigned c) (assigned_choices cs) a.1 b.1)

    cases_fit : (busy : List Name) (type : ElemType) (bs : Arms) (cs : Cases) → AreCases env busy type bs cs → CasesFit (shape_of env) cs × AreLeft busy (assigned_cases cs)
    cases_fit busy type _ _ no_cases = (tt, λ y h. refl)
    cases_fit busy type _ _ (more_cases {xs = xs} {bs = bs} {c = c} {cs = cs} l h k) =
        let a = commands_fit busy xs c h in
        let b = cases_fit busy type bs cs k in
        ((a.0, b.0), left_both busy (assigned c) (assigned_cases cs) a.1 b.1)

-- the law
pub typed_algorithm_fits : (env : List Symbol) (xs : Statements) (a : Algorithm) → AreCommands env [] xs a → AlgorithmFits (shape_of env) a
typed_algorithm_fits env xs a h = (commands_fit env [] xs a h).0

pub typed_guard_fits : (env : List Symbol) (e : Expression) (g : Guard) → IsCondition env e g → TermFits (shape_of env) g
typed_guard_fits env e g h = typed_fits env e _ h

pub typed_term_fits : (env : List Symbol) (type : ElemType) (e : Expression) (x : Term) → IsAsked env type e x → TermFits (shape_of env) x
typed_term_fits env type e x h = asked_fits env type e x h
