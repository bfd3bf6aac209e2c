-- Each production of statements takes tokens, or no fewer are left, where each expression takes tokens; and what each begins with.
use Rattle.std.proofs.Common.{◌≡◌, ℕ, zero, suc, ◌≤◌, Bool, true, false, List, ◌∷◌, length, Option, refl, sym, subst, arith}
use Rattle.fb_words.specs.declared.mark.Mark.{Mark}
use Rattle.fb_words.specs.declared.mark.Mark.TheVariants as m
use Rattle.fb_model.specs.Tokens.{Token, token, mark}
use Rattle.fb_model.specs.Productions.{Gram, a_name}
use Rattle.fb_model.specs.StructuredText.{Expression, Statement, Statements, Branch, Arm}
use Rattle.fb_model.specs.StructuredTextGrammar.{IsLabel, IsBound, a_bound, IsList, end, lone, next, IsBranch, a_condition, IsArm, a_labelled, IsElse, absent, present, IsStatement, an_assignment, to_element, an_if, a_case, a_for, IsBody}
use Rattle.fb_read.specs.Reading.{next_is}
use Rattle.fb_read.proofs.Readers.{Shorter, Avoids, seen}
use Rattle.fb_read.proofs.Repetitions.{many_shrinks, separated_shorter}
use Rattle.st_parse.specs.Reading.{begins_integer, begins_entry}
use Rattle.st_parse.proofs.Labels.{label_shorter, step_shrinks, labels_first}
use Rattle.st_parse.proofs.Sound.{IsEntry, a_lone, an_entry}

-- No more is left than was there.
abbrev pub NoLonger : {A : Type 0} → Gram A → Type 0
NoLonger {A} G = (ts : List Token) (x : A) (rest : List Token) → G ts x rest → length rest ≤ length ts

-- ---- lists

module _ (G : Gram Statement) (short : Shorter G) where
  pub entry_shorter : Shorter (IsEntry G)
  entry_shorter ts x rest a_lone = omega arith
  entry_shorter ts x rest (an_entry {s = s} {e = e} {x = y} p) = let a = short ts y (token (mark m.Semicolon) s e ∷ rest) p in omega arith

  list_shrinks : {ts rest : List Token} {xs : Statements} → IsList G ts xs rest → length rest ≤ length ts
  list_shrinks end = omega arith
  list_shrinks (lone h) = let a = list_shrinks h in omega arith
  list_shrinks (next {s = s} {e = e} {ts = ts} {mid = mid} {x = x} p h) = let a = short ts x (token (mark m.Semicolon) s e ∷ mid) p in let b = list_shrinks h in omega arith

  pub list_no_longer : NoLonger (IsList G)
  list_no_longer ts xs rest h = list_shrinks h

-- ---- statements

module _ (E : Gram Expression) (short : Shorter E) where
  module _ (IsInner : Gram Statements) (inner : NoLonger IsInner) where
    pub branch_shorter : (opening : Mark) → Shorter (IsBranch E IsInner opening)
    branch_shorter opening ts b rest (a_condition {s' = s} {e' = e} {ts = on} {mid = mid} {x = x} {xs = xs} p q) =
        let a = short on x (token (mark m.Then) s e ∷ mid) p in
        let b = inner mid xs rest q in
        omega arith

    pub arm_shorter : Shorter (IsArm E IsInner)
    arm_shorter ts x rest (a_labelled {mid = mid} {xs = xs} p q) =
        let a = separated_shorter IsLabel label_shorter p in
        let b = inner mid xs rest q in
        omega arith

    else_shrinks : {ts rest : List Token} {xs : Statements} → IsElse E IsInner ts xs rest → length rest ≤ length ts
    else_shrinks absent = omega arith
    else_shrinks (present {ts = ts} {rest = rest} {xs = xs} p) = let a = inner ts xs rest p in omega arith

    bound_shorter : Shorter (IsBound E)
    bound_shorter ts b rest (a_bound {x = x} p) = short ts x rest p

    pub statement_shorter : Shorter (IsStatement E IsInner)
    statement_shorter ts x rest (an_assignment {mid = mid} {v = v} a_name p) = let a = short mid v rest p in omega arith
    statement_shorter ts x rest (to_element {s' = s'} {e' = e'} {s'' = s''} {e'' = e''} {mid = mid} {on = on} {i = i} {v = v} a_name p q) =
        let a = short mid i (token (mark m.RBracket) s' e' ∷ token (mark m.Assign) s'' e'' ∷ on) p in
        let b = short on v rest q in
        omega arith
    statement_shorter ts x rest (an_if {s = s} {e = e} {mid = mid} {b = b} p q r) =
        let a = branch_shorter m.If ts b mid p in
        let c = many_shrinks (IsBranch E IsInner m.Elsif) (branch_shorter m.Elsif) q in
        let d = else_shrinks r in
        omega arith
    statement_shorter ts x rest (a_case {s' = s'} {e' = e'} {s'' = s''} {e'' = e''} {ts = on} {ts₁ = ts₁} {ts₂ = ts₂} {x = y} {a = arm} p q r t) =
        let a = short on y (token (mark m.Of) s' e' ∷ ts₁) p in
        let b = arm_shorter ts₁ arm ts₂ q in
        let c = many_shrinks (IsArm E IsInner) arm_shorter r in
        let d = else_shrinks t in
        omega arith
    statement_shorter ts x rest (a_for {s₂ = s₂} {e₂ = e₂} {s₃ = s₃} {e₃ = e₃} {s₄ = s₄} {e₄ = e₄} {ts₁ = ts₁} {ts₂ = ts₂} {ts₃ = ts₃} {ts₄ = ts₄} {a = first} {b = final} {xs = xs} a_name p q r t) =
        let a = bound_shorter ts₁ first (token (mark m.To) s₂ e₂ ∷ ts₂) p in
        let b = bound_shorter ts₂ final ts₃ q in
        let c = step_shrinks r in
        let d = inner ts₄ xs (token (mark m.EndFor) s₄ e₄ ∷ rest) t in
        omega arith

  pub body_no_longer : (depth : ℕ) → NoLonger (IsBody E depth)
  body_no_longer zero = list_no_longer (IsStatement E (λ ts xs rest. ⊥)) (statement_shorter (λ ts xs rest. ⊥) (λ ts xs rest h. absurd h))
  body_no_longer (suc depth) = list_no_longer (IsStatement E (IsBody E depth)) (statement_shorter (IsBody E depth) (body_no_longer depth))

-- ---- what they begin with

module _ (E : Gram Expression) (IsInner : Gram Statements) where
  pub branch_first : (ts : List Token) (b : Branch) (rest : List Token) → IsBranch E IsInner m.Elsif ts b rest → next_is m.Elsif ts ≡ true
  branch_first ts b rest (a_condition p q) = refl

  pub arm_first : (ts : List Token) (a : Arm) (rest : List Token) → IsArm E IsInner ts a rest → begins_integer ts ≡ true
  arm_first ts a rest (a_labelled p q) = labels_first p

  -- a test that fails at ELSE and at the mark behind it fails before both
  pub else_stops : (test : List Token → Bool) (k : Mark) {s e : ℕ} {ts rest : List Token} {xs : Statements} → ((s e : ℕ) (l : List Token) → test (token (mark m.Else) s e ∷ l) ≡ false) → ((s e : ℕ) (l : List Token) → test (token (mark k) s e ∷ l) ≡ false)
      → IsElse E IsInner ts xs (token (mark k) s e ∷ rest) → test ts ≡ false
  else_stops test k {s = s} {e = e} {rest = rest} f g absent = g s e rest
  else_stops test k f g (present {s = s} {e = e} {ts = ts} p) = f s e ts

  statement_first : {ts rest : List Token} {x : Statement} → IsStatement E IsInner ts x rest → begins_entry ts ≡ true
  statement_first (an_assignment a_name p) = refl
  statement_first (to_element a_name p q) = refl
  statement_first (an_if (a_condition p p') q r) = refl
  statement_first (a_case p q r t) = refl
  statement_first (a_for p q r t f) = refl

  pub statement_avoids : Avoids m.Semicolon (IsStatement E IsInner)
  statement_avoids ts x rest (an_assignment a_name p) = refl
  statement_avoids ts x rest (to_element a_name p q) = refl
  statement_avoids ts x rest (an_if (a_condition p p') q r) = refl
  statement_avoids ts x rest (a_case p q r t) = refl
  statement_avoids ts x rest (a_for p q r t f) = refl

  pub entry_first : (ts : List Token) (x : Option Statement) (rest : List Token) → IsEntry (IsStatement E IsInner) ts x rest → begins_entry ts ≡ true
  entry_first ts x rest a_lone = refl
  entry_first ts x rest (an_entry p) = statement_first p

-- no statement begins with ELSIF
pub elsif_apart : (ts : List Token) → next_is m.Elsif ts ≡ true → begins_entry ts ≡ false
elsif_apart ts h = let q = seen (λ l. ts ≡ l) m.Elsif ts h refl in subst (λ l. begins_entry l ≡ false) (sym q.2) refl
