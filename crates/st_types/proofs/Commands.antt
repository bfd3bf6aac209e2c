-- Of statements: the function answers exactly the commands that the rules give, one at most.
use Rattle.std.proofs.Common.{◌≡◌, ◌≢◌, ℕ, zero, suc, ℤ, pos, negsuc, Bool, true, false, ◌&&◌, cond, List, [], ◌∷◌, ◌++◌, Option, None, Some, Ok, Err, true≢false, refl, sym, ap, subst, ◌∙◌}
use Rattle.std.specs.Prelude.{int_le}
use Rattle.std.proofs.Math.Dec.{leb-suc-zero}
use Rattle.fb_words.specs.declared.elem_type.ElemType.{ElemType}
use Rattle.fb_words.specs.declared.elem_type.ElemType.TheVariants as t
use Rattle.fb_words.specs.contracts.elem_type.ElemType.{the_type}
use denote.Enum.Bare.{same_true}
use Rattle.fb_model.specs.Names.{Name, is_in}
use Rattle.fb_model.specs.Spelling.{is_integer}
use Rattle.fb_model.specs.Values.{signed, in_type}
use Rattle.fb_model.specs.Productions.{Word}
use Rattle.fb_model.specs.Trees.{Literal, Whole, Typed, Duration, Truth, Constant}
use Rattle.fb_model.specs.StructuredText.{Expression, Label, Bound, Statement, assign, assign_element, branch, select, repeat, Statements, no_statement, statement, Branches, no_branch, a_branch, Arms, no_arm, an_arm}
use Rattle.fb_model.specs.TypedText.{Term, Command, set, set_part, choose, match_on, count, Commands, done, then_do, Choices, no_choice, choice, Cases, no_case, a_case}
use Rattle.fb_model.specs.TextTyping.{same_type, Symbol, found, Operand, fixed, free, whole, IsTyped, IsAsked, IsCondition, IsAssignable, IsNumber, a_number, IsLabel, one, from_to, AreLabels, no_label, a_label, IsStep, no_step, a_step, IsSelector, an_integer, a_free_one, IsCommand, an_assignment, to_element, a_choice, a_selection, an_iteration, AreCommands, no_command, a_command, AreChoices, no_choices, more_choices, AreCases, no_cases, more_cases}
use Rattle.fb_model.specs.TextFaults.{type_mismatch, bad_literal, not_writable}
use Rattle.st_types.specs.Elaborating.{◌>>=◌, known, bounds_by, settled, integer_of, truth_of, typed, taken, asked, condition}
use Rattle.st_types.specs.Commanding.{idle_by, assignable, scalar_by, scalar, counter, number_by, number_of, high_of, label_of, labels_of, is_nought, step_of, Counted, counted, commanded, all_commanded, chosen, cased}
use Rattle.st_types.proofs.Rules.{bind_ok, test_ok, ok_same, settled_sound, settled_complete, taken_sound, taken_complete, integer_sound, integer_complete}
use Rattle.st_types.proofs.Elaboration.{known_ok, sound, complete}

-- ---- where a type is asked for

pub asked_sound : (env : List Symbol) (a : ElemType) (s : ℕ) (e : Expression) (x : Term) → asked env a s e ≡ Ok x → IsAsked env a e x
asked_sound env a s e x h =
    let p = bind_ok (typed env e) (λ p. taken a s p) x h in
    record { operand = p.0; typed = sound env e p.0 p.1; taken = taken_sound a s p.0 x p.2 }

pub asked_complete : (env : List Symbol) (a : ElemType) (s : ℕ) (e : Expression) (x : Term) → IsAsked env a e x → asked env a s e ≡ Ok x
asked_complete env a s e x h = rw (complete env e h.operand h.typed) (taken_complete a s h.operand x h.taken)

pub one_asked : (env : List Symbol) (a : ElemType) (e : Expression) (x y : Term) → IsAsked env a e x → IsAsked env a e y → x ≡ y
one_asked env a e x y h k = ok_same x y (sym (asked_complete env a 0 e x h) ∙ asked_complete env a 0 e y k)

pub truth_sound : (s : ℕ) (p : Operand) (x : Term) → truth_of s p ≡ Ok x → p ≡ fixed t.Bool x
truth_sound s (fixed a y) x h =
    let p = test_ok (same_type a t.Bool) (Ok y) (type_mismatch s) x h in
    ap (λ b. fixed b y) (same_true the_type tt a t.Bool p.0) ∙ ap (λ z. fixed t.Bool z) (ok_same y x p.1)
truth_sound s (free l) x h = absurd (cc)
truth_sound s whole x h = absurd (cc)

pub condition_sound : (env : List Symbol) (s : ℕ) (e : Expression) (x : Term) → condition env s e ≡ Ok x → IsCondition env e x
condition_sound env s e x h =
    let p = bind_ok (typed env e) (λ p. truth_of s p) x h in
    subst (IsTyped env e) (truth_sound s p.0 x p.2) (sound env e p.0 p.1)

pub condition_complete : (env : List Symbol) (s : ℕ) (e : Expression) (x : Term) → IsCondition env e x → condition env s e ≡ Ok x
condition_complete env s e x h = rw (complete env e (fixed t.Bool x) h) refl

pub one_condition : (env : List Symbol) (e : Expression) (x y : Term) → IsCondition env e x → IsCondition env e y → x ≡ y
one_condition env e x y h k = ok_same x y (sym (condition_complete env 0 e x h) ∙ condition_complete env 0 e y k)

-- ---- what is assigned

idle_ok : (s : ℕ) (v u : Symbol) (b : Bool) → idle_by s v b ≡ Ok u → (b ≡ false) × (v ≡ u)
idle_ok s v u true h = absurd (cc)
idle_ok s v u false h = (refl, ok_same v u h)

pub assignable_sound : (env : List Symbol) (busy : List Name) (x : Word) (v : Symbol) → assignable env busy x ≡ Ok v → IsAssignable env busy x.text v
assignable_sound env busy x v h =
    let p = bind_ok (known env x.text x.at) (λ u. cond u.writable (idle_by x.at u (is_in x.text busy)) (Err (not_writable x.at))) v h in
    let q = test_ok p.0.writable (idle_by x.at p.0 (is_in x.text busy)) (not_writable x.at) v p.2 in
    let r = idle_ok x.at p.0 v (is_in x.text busy) q.1 in
    subst (IsAssignable env busy x.text) r.1 (record { known = known_ok x.at (found env x.text) p.0 p.1; writable = q.0; idle = r.0 })

pub assignable_complete : (env : List Symbol) (busy : List Name) (x : Word) (v : Symbol) → IsAssignable env busy x.text v → assignable env busy x ≡ Ok v
assignable_complete env busy x v h = rw (h.known, h.writable, h.idle) refl

pub scalar_ok : (s : ℕ) (a b : ElemType) (o : Option (ℤ × ℤ)) → scalar_by s a o ≡ Ok b → (o ≡ None) × (a ≡ b)
scalar_ok s a b None h = (refl, ok_same a b h)
scalar_ok s a b (Some r) h = absurd (cc)

pub counter_ok : (s : ℕ) (v : Symbol) (a : ElemType) → counter s v ≡ Ok a → (v.bounds ≡ None) × (is_integer v.type ≡ true) × (v.type ≡ a)
counter_ok s v a h =
    let p = bind_ok (scalar s v) (λ b. cond (is_integer b) (Ok b) (Err (type_mismatch s))) a h in
    let q = scalar_ok s v.type p.0 v.bounds p.1 in
    let r = test_ok (is_integer p.0) (Ok p.0) (type_mismatch s) a p.2 in
    (q.0, subst (λ b. is_integer b ≡ true) (sym q.1) r.0, q.1 ∙ ok_same p.0 a r.1)

pub bounds_ok : (s : ℕ) (o : Option (ℤ × ℤ)) (b : ℤ × ℤ) → bounds_by s o ≡ Ok b → o ≡ Some b
bounds_ok s None b h = absurd (cc)
bounds_ok s (Some c) b h = ap Some (ok_same c b h)

-- ---- numbers

number_by_sound : (a : ElemType) (s : ℕ) (l : Literal) (n : ℤ) → number_by a s l ≡ Ok n → IsNumber a (record { value = l; at = s }) n
number_by_sound a s (Whole b m) n h =
    let p = test_ok (in_type a (signed b m)) (Ok (signed b m)) (bad_literal s) n h in
    subst (IsNumber a (record { value = Whole b m; at = s })) (ok_same (signed b m) n p.1) (a_number p.0)
number_by_sound a s (Typed u b m) n h = absurd (cc)
number_by_sound a s (Duration b m) n h = absurd (cc)
number_by_sound a s (Truth b) n h = absurd (cc)

pub number_sound : (a : ElemType) (c : Constant) (n : ℤ) → number_of a c ≡ Ok n → IsNumber a c n
number_sound a c n h = number_by_sound a c.at c.value n h

pub number_complete : (a : ElemType) (c : Constant) (n : ℤ) → IsNumber a c n → number_of a c ≡ Ok n
number_complete a c n (a_number h) = rw h refl

ends_sound : (a : ElemType) (c : Constant) (n m : ℤ) (o : Option Constant) → IsNumber a c n → high_of a n o ≡ Ok m → IsLabel a (record { low = c; high = o }) (n, m)
ends_sound a c n m None k h = subst (λ (i : ℤ). IsLabel a (record { low = c; high = None }) (n, i)) (ok_same n m h) (one k)
ends_sound a c n m (Some d) k h = from_to k (number_sound a d m h)

pub label_sound : (a : ElemType) (l : Label) (r : ℤ × ℤ) → label_of a l ≡ Ok r → IsLabel a l r
label_sound a l r h =
    let p = bind_ok (number_of a l.low) (λ n. high_of a n l.high >>= λ m. Ok (n, m)) r h in
    let q = bind_ok (high_of a p.0 l.high) (λ m. Ok (p.0, m)) r p.2 in
    subst (IsLabel a l) (ok_same (p.0, q.0) r q.2) (ends_sound a l.low p.0 q.0 l.high (number_sound a l.low p.0 p.1) q.1)

pub label_complete : (a : ElemType) (l : Label) (r : ℤ × ℤ) → IsLabel a l r → label_of a l ≡ Ok r
label_complete a l r (one {c = c} {n = n} h) = rw (number_complete a c n h) refl
label_complete a l r (from_to {c = c} {d = d} {n = n} {m = m} h k) = rw (number_complete a c n h, number_complete a d m k) refl

pub labels_sound : (a : ElemType) (ls : List Label) (rs : List (ℤ × ℤ)) → labels_of a ls ≡ Ok rs → AreLabels a ls rs
labels_sound a [] rs h = subst (AreLabels a []) (ok_same [] rs h) no_label
labels_sound a (l ∷ ls) rs h =
    let p = bind_ok (label_of a l) (λ r. labels_of a ls >>= λ rs. Ok (r ∷ rs)) rs h in
    let q = bind_ok (labels_of a ls) (λ rs. Ok (p.0 ∷ rs)) rs p.2 in
    subst (AreLabels a (l ∷ ls)) (ok_same (p.0 ∷ q.0) rs q.2) (a_label (label_sound a l p.0 p.1) (labels_sound a ls q.0 q.1))

pub labels_complete : (a : ElemType) (ls : List Label) (rs : List (ℤ × ℤ)) → AreLabels a ls rs → labels_of a ls ≡ Ok rs
labels_complete a ls rs no_label = refl
labels_complete a (l ∷ ls) rs (a_label {r = q} {rs = qs} h k) = rw (label_complete a l q h, labels_complete a ls qs k) refl

above_nought : (n : ℕ) → is_nought (pos (suc n)) ≡ false
above_nought n = ap (λ b. b && int_le (pos 0) (pos (suc n))) (leb-suc-zero n)

-- 0 alone is 0
pub nought_is : (n : ℤ) → is_nought n ≡ true → n ≡ pos 0
nought_is (pos zero) h = refl
nought_is (pos (suc n)) h = absurd (true≢false (sym h ∙ above_nought n))
nought_is (negsuc n) h = absurd (true≢false (sym h))

not_nought : (n : ℤ) → n ≢ pos 0 → is_nought n ≡ false
not_nought (pos zero) h = absurd (h refl)
not_nought (pos (suc n)) h = above_nought n
not_nought (negsuc n) h = refl

is_another : (n : ℤ) → is_nought n ≡ false → n ≢ pos 0
is_another n h e = true≢false (sym (subst (λ (i : ℤ). is_nought i ≡ true) (sym e) refl) ∙ h)

progress_ok : (b : Bool) (s : ℕ) (n m : ℤ) → cond b (Err (bad_literal s)) (Ok n) ≡ Ok m → (b ≡ false) × (n ≡ m)
progress_ok true s n m h = absurd (cc)
progress_ok false s n m h = (refl, ok_same n m h)

pub step_sound : (a : ElemType) (o : Option Constant) (n : ℤ) → step_of a o ≡ Ok n → IsStep a o n
step_sound a None n h = subst (IsStep a None) (ok_same (pos 1) n h) no_step
step_sound a (Some c) n h =
    let p = bind_ok (number_of a c) (λ m. cond (is_nought m) (Err (bad_literal c.at)) (Ok m)) n h in
    let q = progress_ok (is_nought p.0) c.at p.0 n p.2 in
    subst (IsStep a (Some c)) q.1 (a_step (number_sound a c p.0 p.1) (is_another p.0 q.0))

pub step_complete : (a : ElemType) (o : Option Constant) (n : ℤ) → IsStep a o n → step_of a o ≡ Ok n
step_complete a o n no_step = refl
step_complete a o n (a_step {c = c} h k) = rw (number_complete a c n h, not_nought n k) refl

-- ---- selectors

pub selector_sound : (s : ℕ) (p : Operand) (r : ElemType × Term) → integer_of s p ≡ Ok r → IsSelector p r.0 r.1
selector_sound s (fixed a x) r h =
    let p = test_ok (is_integer a) (Ok (a, x)) (type_mismatch s) r h in
    subst (λ (v : ElemType × Term). IsSelector (fixed a x) v.0 v.1) (ok_same (a, x) r p.1) (an_integer p.0)
selector_sound s (free l) r h =
    let p = bind_ok (settled t.Lint l) (λ x. Ok (t.Lint, x)) r h in
    subst (λ (v : ElemType × Term). IsSelector (free l) v.0 v.1) (ok_same (t.Lint, p.0) r p.2) (a_free_one (settled_sound t.Lint l p.0 p.1))
selector_sound s whole r h = absurd (cc)

pub selector_complete : (s : ℕ) (p : Operand) (a : ElemType) (x : Term) → IsSelector p a x → integer_of s p ≡ Ok (a, x)
selector_complete s p a x (an_integer h) = rw h refl
selector_complete s p a x (a_free_one {l = l} k) = rw (settled_complete t.Lint l x k) refl

-- ---- how a FOR counts

-- what it counts with, and what the rules say of it
abbrev Counts : List Symbol → List Name → Word → Bound → Bound → Option Constant → Counted → Type 0
Counts env busy x e g step k = (v : Symbol) × IsAssignable env busy x.text v × (v.bounds ≡ None) × (is_integer v.type ≡ true) × IsAsked env v.type e.value k.first × IsAsked env v.type g.value k.last × IsStep v.type step k.step
    × (record { variable = x.text; type = v.type; first = k.first; last = k.last; step = k.step; plain = e.plain && g.plain } ≡ k)

counted_sound : (env : List Symbol) (busy : List Name) (s : ℕ) (x : Word) (e g : Bound) (step : Option Constant) (k : Counted) → counted env busy s x e g step ≡ Ok k → Counts env busy x e g step k
counted_sound env busy s x e g step k h =
    let given : ElemType → Term → Term → ℤ → Counted = λ a y z n. record { variable = x.text; type = a; first = y; last = z; step = n; plain = e.plain && g.plain } in
    let p = bind_ok (assignable env busy x) (λ v. counter s v >>= λ a. asked env a s e.value >>= λ y. asked env a s g.value >>= λ z. step_of a step >>= λ n. Ok (given a y z n)) k h in
    let q = bind_ok (counter s p.0) (λ a. asked env a s e.value >>= λ y. asked env a s g.value >>= λ z. step_of a step >>= λ n. Ok (given a y z n)) k p.2 in
    let i = bind_ok (asked env q.0 s e.value) (λ y. asked env q.0 s g.value >>= λ z. step_of q.0 step >>= λ n. Ok (given q.0 y z n)) k q.2 in
    let j = bind_ok (asked env q.0 s g.value) (λ z. step_of q.0 step >>= λ n. Ok (given q.0 i.0 z n)) k i.2 in
    let m = bind_ok (step_of q.0 step) (λ n. Ok (given q.0 i.0 j.0 n)) k j.2 in
    let c = counter_ok s p.0 q.0 q.1 in
    let back = sym c.2 in
    subst (Counts env busy x e g step) (ok_same (given q.0 i.0 j.0 m.0) k m.2) (
      p.0,
      assignable_sound env busy x p.0 p.1,
      c.0,
      c.1,
      subst (λ a. IsAsked env a e.value i.0) back (asked_sound env q.0 s e.value i.0 i.1),
      subst (λ a. IsAsked env a g.value j.0) back (asked_sound env q.0 s g.value j.0 j.1),
      subst (λ a. IsStep a step m.0) back (step_sound q.0 step m.0 m.1),
      ap (λ a. given a i.0 j.0 m.0) c.2,
    )

counted_complete : (env : List Symbol) (busy : List Name) (s : ℕ) (x : Word) (e g : Bound) (step : Option Constant) (v : Symbol) (y z : Term) (n : ℤ) → IsAssignable env busy x.text v → v.bounds ≡ None → is_integer v.type ≡ true → IsAsked env v.type e.value y → IsAsked env v.type g.value z → IsStep v.type step n
    → counted env busy s x e g step ≡ Ok (record { variable = x.text; type = v.type; first = y; last = z; step = n; plain = e.plain && g.plain })
counted_complete env busy s x e g step v y z n h k m i j d =
    rw (assignable_complete env busy x v h, k, m, asked_complete env v.type s e.value y i, asked_complete env v.type s g.value z j, step_complete v.type step n d) refl

-- ---- statements

mutual
  pub command_sound : (env : List Symbol) (busy : List Name) (x : Statement) (c : Command) → commanded env busy x ≡ Ok c → IsCommand env busy x c
  command_sound env busy (assign x s e) c h =
      let p = bind_ok (assignable env busy x) (λ v. scalar s v >>= λ a. asked env a s e >>= λ y. Ok (set x.text y)) c h in
      let q = bind_ok (scalar s p.0) (λ a. asked env a s e >>= λ y. Ok (set x.text y)) c p.2 in
      let r = bind_ok (asked env q.0 s e) (λ y. Ok (set x.text y)) c q.2 in
      let m = scalar_ok s p.0.type q.0 p.0.bounds q.1 in
      subst (IsCommand env busy (assign x s e)) (ok_same (set x.text r.0) c r.2)
      (an_assignment (assignable_sound env busy x p.0 p.1) m.0 (subst (λ a. IsAsked env a e r.0) (sym m.1) (asked_sound env q.0 s e r.0 r.1)))
  command_sound env busy (assign_element x b i s e) c h =
      let p = bind_ok (assignable env busy x) (λ v. bounds_by b v.bounds >>= λ r. typed env i >>= λ p. integer_of b p >>= λ j. asked env v.type s e >>= λ y. Ok (set_part x.text r.0 r.1 j.1 y)) c h in
      let q = bind_ok (bounds_by b p.0.bounds) (λ r. typed env i >>= λ q. integer_of b q >>= λ j. asked env p.0.type s e >>= λ y. Ok (set_part x.text r.0 r.1 j.1 y)) c p.2 in
      let k = bind_ok (typed env i) (λ k. integer_of b k >>= λ j. asked env p.0.type s e >>= λ y. Ok (set_part x.text q.0.0 q.0.1 j.1 y)) c q.2 in
      let j = bind_ok (integer_of b k.0) (λ j. asked env p.0.type s e >>= λ y. Ok (set_part x.text q.0.0 q.0.1 j.1 y)) c k.2 in
      let y = bind_ok (asked env p.0.type s e) (λ y. Ok (set_part x.text q.0.0 q.0.1 j.0.1 y)) c j.2 in
      subst (IsCommand env busy (assign_element x b i s e)) (ok_same (set_part x.text q.0.0 q.0.1 j.0.1 y.0) c y.2)
      (to_element (assignable_sound env busy x p.0 p.1) (bounds_ok b p.0.bounds q.0 q.1) (sound env i k.0 k.1) (integer_sound b k.0 j.0 j.1) (asked_sound env p.0.type s e y.0 y.1))
  command_sound env busy (branch bs xs) c h =
      let p = bind_ok (chosen env busy bs) (λ cs. all_commanded env busy xs >>= λ d. Ok (choose cs d)) c h in
      let q = bind_ok (all_commanded env busy xs) (λ d. Ok (choose p.0 d)) c p.2 in
      subst (IsCommand env busy (branch bs xs)) (ok_same (choose p.0 q.0) c q.2) (a_choice (choices_sound env busy bs p.0 p.1) (commands_sound env busy xs q.0 q.1))
  command_sound env busy (select s e bs xs) c h =
      let p = bind_ok (typed env e) (λ p. integer_of s p >>= λ y. cased env busy y.0 bs >>= λ cs. all_commanded env busy xs >>= λ d. Ok (match_on y.1 cs d)) c h in
      let y = bind_ok (integer_of s p.0) (λ y. cased env busy y.0 bs >>= λ cs. all_commanded env busy xs >>= λ d. Ok (match_on y.1 cs d)) c p.2 in
      let q = bind_ok (cased env busy y.0.0 bs) (λ cs. all_commanded env busy xs >>= λ d. Ok (match_on y.0.1 cs d)) c y.2 in
      let r = bind_ok (all_commanded env busy xs) (λ d. Ok (match_on y.0.1 q.0 d)) c q.2 in
      subst (IsCommand env busy (select s e bs xs)) (ok_same (match_on y.0.1 q.0 r.0) c r.2)
      (a_selection (sound env e p.0 p.1) (selector_sound s p.0 y.0 y.1) (cases_sound env busy y.0.0 bs q.0 q.1) (commands_sound env busy xs r.0 r.1))
  command_sound env busy (repeat s x e g step xs) c h =
      let p = bind_ok (counted env busy s x e g step) (λ k. all_commanded env (busy ++ x.text ∷ []) xs >>= λ d. Ok (count k.variable k.type k.first k.last k.step k.plain d)) c h in
      let q = bind_ok (all_commanded env (busy ++ x.text ∷ []) xs) (λ d. Ok (count p.0.variable p.0.type p.0.first p.0.last p.0.step p.0.plain d)) c p.2 in
      let k = counted_sound env busy s x e g step p.0 p.1 in
      subst (IsCommand env busy (repeat s x e g step xs))
      (ap (λ (r : Counted). count r.variable r.type r.first r.last r.step r.plain q.0) k.7 ∙ ok_same (count p.0.variable p.0.type p.0.first p.0.last p.0.step p.0.plain q.0) c q.2)
      (an_iteration k.1 k.2 k.3 k.4 k.5 k.6 (commands_sound env (busy ++ x.text ∷ []) xs q.0 q.1))

  pub commands_sound : (env : List Symbol) (busy : List Name) (xs : Statements) (c : Commands) → all_commanded env busy xs ≡ Ok c → AreCommands env busy xs c
  commands_sound env busy no_statement c h = subst (AreCommands env busy no_statement) (ok_same done c h) no_command
  commands_sound env busy (statement x xs) c h =
      let p = bind_ok (commanded env busy x) (λ d. all_commanded env busy xs >>= λ ds. Ok (then_do d ds)) c h in
      let q = bind_ok (all_commanded env busy xs) (λ ds. Ok (then_do p.0 ds)) c p.2 in
      subst (AreCommands env busy (statement x xs)) (ok_same (then_do p.0 q.0) c q.2) (a_command (command_sound env busy x p.0 p.1) (commands_sound env busy xs q.0 q.1))

  pub choices_sound : (env : List Symbol) (busy : List Name) (bs : Branches) (cs : Choices) → chosen env busy bs ≡ Ok cs → AreChoices env busy bs cs
  choices_sound env busy no_branch cs h = subst (AreChoices env busy no_branch) (ok_same no_choice cs h) no_choices
  choices_sound env busy (a_branch s e xs bs) cs h =
      let p = bind_ok (condition env s e) (λ y. all_commanded env busy xs >>= λ c. chosen env busy bs >>= λ ds. Ok (choice y c ds)) cs h in
      let q = bind_ok (all_commanded env busy xs) (λ c. chosen env busy bs >>= λ ds. Ok (choice p.0 c ds)) cs p.2 in
      let r = bind_ok (chosen env busy bs) (λ ds. Ok (choice p.0 q.0 ds)) cs q.2 in
      subst (AreChoices env busy (a_branch s e xs bs)) (ok_same (choice p.0 q.0 r.0) cs r.2)
      (more_choices (condition_sound env s e p.0 p.1) (commands_sound env busy xs q.0 q.1) (choices_sound env busy bs r.0 r.1))

  pub cases_sound : (env : List Symbol) (busy : List Name) (a : ElemType) (bs : Arms) (cs : Cases) → cased env busy a bs ≡ Ok cs → AreCases env busy a bs cs
  cases_sound env busy a no_arm cs h = subst (AreCases env busy a no_arm) (ok_same no_case cs h) no_cases
  cases_sound env busy a (an_arm ls xs bs) cs h =
      let p = bind_ok (labels_of a ls) (λ rs. all_commanded env busy xs >>= λ c. cased env busy a bs >>= λ ds. Ok (a_case rs c ds)) cs h in
      let q = bind_ok (all_commanded env busy xs) (λ c. cased env busy a bs >>= λ ds. Ok (a_case p.0 c ds)) cs p.2 in
      let r = bind_ok (cased env busy a bs) (λ ds. Ok (a_case p.0 q.0 ds)) cs q.2 in
      subst (AreCases env busy a (an_arm ls xs bs)) (ok_same (a_case p.0 q.0 r.0) cs r.2) (more_cases (labels_sound a ls p.0 p.1) (commands_sound env busy xs q.0 q.1) (cases_sound env busy a bs r.0 r.1))

mutual
  pub command_complete : (env : List Symbol) (busy : List Name) (x : Statement) (c : Command) → IsCommand env busy x c → commanded env busy x ≡ Ok c
  command_complete env busy (assign x s e) c (an_assignment {v = v} {y = y} h k m) = rw (assignable_complete env busy x v h, k, asked_complete env v.type s e y m) refl
  command_complete env busy (assign_element x b i s e) c (to_element {v = v} {p = p} {j = j} {y = y} h k m n d) =
      let q = integer_complete b p j n in
      rw (assignable_complete env busy x v h, k, complete env i p m, q.1, asked_complete env v.type s e y d) refl
  command_complete env busy (branch bs xs) c (a_choice {cs = cs} {c = d} h k) = rw (choices_complete env busy bs cs h, commands_complete env busy xs d k) refl
  command_complete env busy (select s e bs xs) c (a_selection {p = p} {a = a} {y = y} {cs = cs} {c = d} h k m n) =
      rw (complete env e p h, selector_complete s p a y k, cases_complete env busy a bs cs m, commands_complete env busy xs d n) refl
  command_complete env busy (repeat s x e g step xs) c (an_iteration {v = v} {y = y} {z = z} {n = n} {c = d} h k m i j p q) =
      rw (counted_complete env busy s x e g step v y z n h k m i j p, commands_complete env (busy ++ x.text ∷ []) xs d q) refl

  pub commands_complete : (env : List Symbol) (busy : List Name) (xs : Statements) (c : Commands) → AreCommands env busy xs c → all_commanded env busy xs ≡ Ok c
  commands_complete env busy no_statement c no_command = refl
  commands_complete env busy (statement x xs) c (a_command {c = d} {cs = ds} h k) = rw (command_complete env busy x d h, commands_complete env busy xs ds k) refl

  pub choices_complete : (env : List Symbol) (busy : List Name) (bs : Branches) (cs : Choices) → AreChoices env busy bs cs → chosen env busy bs ≡ Ok cs
  choices_complete env busy no_branch cs no_choices = refl
  choices_complete env busy (a_branch s e xs bs) cs (more_choices {y = y} {c = c} {cs = ds} h k m) = rw (condition_complete env s e y h, commands_complete env busy xs c k, choices_complete env busy bs ds m) refl

  pub cases_complete : (env : List Symbol) (busy : List Name) (a : ElemType) (bs : Arms) (cs : Cases) → AreCases env busy a bs cs → cased env busy a bs ≡ Ok cs
  cases_complete env busy a no_arm cs no_cases = refl
  cases_complete env busy a (an_arm ls xs bs) cs (more_cases {rs = rs} {c = c} {cs = ds} h k m) = rw (labels_complete a ls rs h, commands_complete env busy xs c k, cases_complete env busy a bs ds m) refl

-- ---- one at most

pub one_command : (env : List Symbol) (busy : List Name) (x : Statement) (c d : Command) → IsCommand env busy x c → IsCommand env busy x d → c ≡ d
one_command env busy x c d h k = ok_same c d (sym (command_complete env busy x c h) ∙ command_complete env busy x d k)

pub one_command_list : (env : List Symbol) (busy : List Name) (xs : Statements) (c d : Commands) → AreCommands env busy xs c → AreCommands env busy xs d → c ≡ d
one_command_list env busy xs c d h k = ok_same c d (sym (commands_complete env busy xs c h) ∙ commands_complete env busy xs d k)

pub one_choices : (env : List Symbol) (busy : List Name) (bs : Branches) (c d : Choices) → AreChoices env busy bs c → AreChoices env busy bs d → c ≡ d
one_choices env busy bs c d h k = ok_same c d (sym (choices_complete env busy bs c h) ∙ choices_complete env busy bs d k)

pub one_cases : (env : List Symbol) (busy : List Name) (a : ElemType) (bs : Arms) (c d : Cases) → AreCases env busy a bs c → AreCases env busy a bs d → c ≡ d
one_cases env busy a bs c d h k = ok_same c d (sym (cases_complete env busy a bs c h) ∙ cases_complete env busy a bs d k)
