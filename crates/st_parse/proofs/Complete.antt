-- What is in the grammar of statements is read, where that is so of expressions.
use Rattle.std.proofs.Common.{◌≡◌, ℕ, zero, suc, ◌<◌, Bool, true, false, cond, List, [], ◌∷◌, length, Option, None, Some, Ok, refl, sym, ap, subst, arith, inl, inr}
use Rattle.fb_words.specs.declared.mark.Mark.{Mark}
use Rattle.fb_words.specs.declared.mark.Mark.TheVariants as m
use Rattle.fb_model.specs.Tokens.{Token, token, mark}
use Rattle.fb_model.specs.Productions.{Gram, Word, IsName, a_name, IsMany, none, more}
use Rattle.fb_model.specs.Trees.{Constant}
use Rattle.fb_model.specs.StructuredText.{Expression, Bound, Statement, select, branch, repeat, Statements, statement, statements, Branch, branches, Arm, arms}
use Rattle.fb_model.specs.StructuredTextGrammar.{IsStep, no_step, a_step, IsBound, a_bound, IsList, end, lone, next, IsBranch, a_condition, IsArm, a_labelled, IsElse, absent, present, IsStatement, an_assignment, to_element, an_if, a_case, a_for, IsBody}
use Rattle.fb_read.specs.Reading.{Read, ◌>>=◌, next_is, after, expect, all_at, list_at}
use Rattle.fb_read.proofs.Readers.{Gets, Complete, never, Shorter, Avoids, gets_then, gets_wider}
use Rattle.fb_read.proofs.Repetitions.{stops_at, while_complete}
use Rattle.st_parse.specs.ExpressionReading.{continues}
use Rattle.st_parse.specs.Reading.{headed, begins_integer, begins_block, begins_entry, label_at, step_at, assign_at, element_at, assignment_at, branch_at, else_at, elsifs_at, if_at, arm_at, arms_at, case_at, bound_at, head_at, for_at, block_at, statement_at, entry_at, statements_in, entries_at, nested_at, body_at}
use Rattle.st_parse.proofs.Headed.{headed_complete}
use Rattle.st_parse.proofs.Labels.{labels_complete, step_complete, integer_apart}
use Rattle.st_parse.proofs.Sound.{IsEntry, a_lone, an_entry}
use Rattle.st_parse.proofs.Shorter.{NoLonger, entry_shorter, branch_shorter, arm_shorter, statement_shorter, body_no_longer, branch_first, arm_first, else_stops, statement_avoids, entry_first, elsif_apart}

-- what may be too deep for a reason, may be so for a wider one
pub deeper : {A : Type 0} {D D' : Type 0} (goes_on : List Token → Bool) (G : Gram A) (r : Read A) → (D → D') → Complete D goes_on G r → Complete D' goes_on G r
deeper goes_on G r f h ts x rest p st = gets_wider f (r ts) (x, rest) (h ts x rest p st)

-- ---- lists

-- the entries of a list
abbrev Entries : (G : Gram Statement) → List Token → Statements → List Token → Type 0
Entries G ts xs rest = (es : List (Option Statement)) × (xs ≡ statements (statements_in es)) × IsMany (IsEntry G) ts es rest

entries_of : {G : Gram Statement} {ts rest : List Token} {xs : Statements} → IsList G ts xs rest → Entries G ts xs rest
entries_of end = ([], refl, none)
entries_of (lone h) = let f = entries_of h in (None ∷ f.0, f.1, more a_lone f.2)
entries_of (next {x = x} p h) = let f = entries_of h in (Some x ∷ f.0, ap (λ ys. statement x ys) f.1, more (an_entry p) f.2)

module _ (Deep : Type 0) (G : Gram Statement) (one : Read Statement) (short : Shorter G) (avoids : Avoids m.Semicolon G) (first : (ts : List Token) (x : Option Statement) (rest : List Token) → IsEntry G ts x rest → begins_entry ts ≡ true)
    (goes_on : List Token → Bool) (behind : (s e : ℕ) (ts : List Token) → goes_on (token (mark m.Semicolon) s e ∷ ts) ≡ false) (whole : Complete Deep goes_on G one) where
  entry_complete : Complete Deep never (IsEntry G) (entry_at one)
  unfolding entry_at
  entry_complete ts x rest a_lone st = inl refl
  entry_complete ts x rest (an_entry {s = s} {e = e} {x = y} p) st =
      subst (λ b. Gets {A = Option Statement × List Token} Deep (cond b (Ok (None, after ts)) (one ts >>= λ z. expect m.Semicolon z.1 >>= λ l. Ok (Some z.0, l))) (Some y, rest)) (sym (avoids ts y (token (mark m.Semicolon) s e ∷ rest) p))
      (gets_then _ _ (one ts) (y, token (mark m.Semicolon) s e ∷ rest) (whole ts y (token (mark m.Semicolon) s e ∷ rest) p (behind s e rest)) (inl refl))

  pub list_complete : Complete Deep begins_entry (IsList G) (entries_at one)
  unfolding entries_at
  list_complete ts xs rest h st =
      let f = entries_of h in
      subst (λ ys. Gets Deep (entries_at one ts) (ys, rest)) (sym f.1)
      (gets_then _ _ (all_at begins_entry (entry_at one) ts) (f.0, rest)
      (while_complete Deep (IsEntry G) (entry_at one) (entry_shorter G short) begins_entry never entry_complete first (λ l b. refl) (length ts) ts rest f.0 (omega arith) f.2 st refl) (inl refl))

-- ---- statements

module _ (Deep : Type 0) (E : Gram Expression) (expr : Read Expression) (short : Shorter E) (whole : Complete Deep continues E expr) where
  module _ (IsInner : Gram Statements) (list : Read Statements) (no_longer : NoLonger IsInner) (inner : Complete Deep begins_entry IsInner list) where
    branch_complete : (opening : Mark) → next_is opening (token (mark opening) 0 0 ∷ []) ≡ true → Complete Deep begins_entry (IsBranch E IsInner opening) (branch_at expr list opening)
    unfolding branch_at
    branch_complete opening same ts b rest (a_condition {s = s} {e = e} {s' = s'} {e' = e'} {ts = on} {mid = mid} {x = x} {xs = xs} p q) st =
        gets_then _ _ (expect opening (token (mark opening) s e ∷ on)) on (inl (rw same refl))
        (gets_then _ _ (expr on) (x, token (mark m.Then) s' e' ∷ mid) (whole on x (token (mark m.Then) s' e' ∷ mid) p refl)
        (gets_then _ _ (list mid) (xs, rest) (inner mid xs rest q st) (inl refl)))

    else_complete : (k : Mark) → next_is m.Else (token (mark k) 0 0 ∷ []) ≡ false → ((s e : ℕ) (l : List Token) → begins_entry (token (mark k) s e ∷ l) ≡ false) → (s e : ℕ) (ts rest : List Token) (xs : Statements) → IsElse E IsInner ts xs (token (mark k) s e ∷ rest) → Gets Deep (else_at list ts) (xs, token (mark k) s e ∷ rest)
    unfolding else_at
    else_complete k other apart s e ts rest xs absent = inl (rw other refl)
    else_complete k other apart s e ts rest xs (present {ts = on} p) = inner on xs (token (mark k) s e ∷ rest) p (apart s e rest)

    if_complete : {s e : ℕ} {ts mid on rest : List Token} {b : Branch} {bs : List Branch} {xs : Statements} → IsBranch E IsInner m.If ts b mid → IsMany (IsBranch E IsInner m.Elsif) mid bs on → IsElse E IsInner on xs (token (mark m.EndIf) s e ∷ rest)
        → Gets Deep (if_at expr list ts) (branch (branches (b ∷ bs)) xs, rest)
    unfolding if_at
    if_complete {s = s} {e = e} {ts = ts} {mid = mid} {on = on} {rest = rest} {b = b} {bs = bs} {xs = xs} p q r =
        let elsif = else_stops E IsInner (next_is m.Elsif) m.EndIf (λ s e l. refl) (λ s e l. refl) r in
        let entry = else_stops E IsInner begins_entry m.EndIf (λ s e l. refl) (λ s e l. refl) r in
        gets_then _ _ (branch_at expr list m.If ts) (b, mid) (branch_complete m.If refl ts b mid p (stops_at (next_is m.Elsif) begins_entry (branch_first E IsInner) elsif_apart q entry))
        (gets_then _ _ (headed b (elsifs_at expr list mid)) (b ∷ bs, on)
        (headed_complete Deep (IsBranch E IsInner m.Elsif) (branch_at expr list m.Elsif) (branch_shorter E short IsInner no_longer m.Elsif) (next_is m.Elsif) begins_entry (branch_complete m.Elsif refl) (branch_first E IsInner) elsif_apart b mid on bs q elsif entry)
        (gets_then _ _ (else_at list on) (xs, token (mark m.EndIf) s e ∷ rest) (else_complete m.EndIf refl (λ s e l. refl) s e on rest xs r) (inl refl)))

    arm_complete : Complete Deep begins_entry (IsArm E IsInner) (arm_at list)
    unfolding arm_at
    arm_complete ts a rest (a_labelled {s = s} {e = e} {mid = mid} {ls = ls} {xs = xs} p q) st =
        gets_then _ _ (list_at m.Comma label_at ts) (ls, token (mark m.Colon) s e ∷ mid) (labels_complete Deep ts (token (mark m.Colon) s e ∷ mid) ls p refl refl)
        (gets_then _ _ (list mid) (xs, rest) (inner mid xs rest q st) (inl refl))

    case_complete : (s e : ℕ) {s' e' s'' e'' : ℕ} {ts ts₁ ts₂ ts₃ rest : List Token} {x : Expression} {a : Arm} {others : List Arm} {xs : Statements}
        → E ts x (token (mark m.Of) s' e' ∷ ts₁) → IsArm E IsInner ts₁ a ts₂ → IsMany (IsArm E IsInner) ts₂ others ts₃ → IsElse E IsInner ts₃ xs (token (mark m.EndCase) s'' e'' ∷ rest)
        → Gets Deep (case_at expr list (token (mark m.Case) s e ∷ ts)) (select s x (arms (a ∷ others)) xs, rest)
    unfolding case_at
    case_complete s e {s' = s'} {e' = e'} {s'' = s''} {e'' = e''} {ts = ts} {ts₁ = ts₁} {ts₂ = ts₂} {ts₃ = ts₃} {rest = rest} {x = x} {a = a} {others = others} {xs = xs} p q r t =
        let label = else_stops E IsInner begins_integer m.EndCase (λ s e l. refl) (λ s e l. refl) t in
        let entry = else_stops E IsInner begins_entry m.EndCase (λ s e l. refl) (λ s e l. refl) t in
        gets_then _ _ (expr ts) (x, token (mark m.Of) s' e' ∷ ts₁) (whole ts x (token (mark m.Of) s' e' ∷ ts₁) p refl)
        (gets_then _ _ (arm_at list ts₁) (a, ts₂) (arm_complete ts₁ a ts₂ q (stops_at begins_integer begins_entry (arm_first E IsInner) integer_apart r entry))
        (gets_then _ _ (headed a (arms_at list ts₂)) (a ∷ others, ts₃)
        (headed_complete Deep (IsArm E IsInner) (arm_at list) (arm_shorter E short IsInner no_longer) begins_integer begins_entry arm_complete (arm_first E IsInner) integer_apart a ts₂ ts₃ others r label entry)
        (gets_then _ _ (else_at list ts₃) (xs, token (mark m.EndCase) s'' e'' ∷ rest) (else_complete m.EndCase refl (λ s e l. refl) s'' e'' ts₃ rest xs t) (inl refl))))

    bound_complete : Complete Deep continues (IsBound E) (bound_at expr)
    unfolding bound_at
    bound_complete ts x rest (a_bound {x = y} p) st = gets_then _ _ (expr ts) (y, rest) (whole ts y rest p st) (inl refl)

    -- no expression goes on where a step stands, or DO
    step_stops : {s e : ℕ} {ts rest : List Token} {c : Option Constant} → IsStep ts c (token (mark m.Do) s e ∷ rest) → continues ts ≡ false
    step_stops no_step = refl
    step_stops (a_step p) = refl

    head_complete : {s₁ e₁ s₂ e₂ s₃ e₃ : ℕ} {ts ts₁ ts₂ ts₃ ts₄ : List Token} {x : Word} {a b : Bound} {c : Option Constant}
        → IsName ts x (token (mark m.Assign) s₁ e₁ ∷ ts₁) → IsBound E ts₁ a (token (mark m.To) s₂ e₂ ∷ ts₂) → IsBound E ts₂ b ts₃ → IsStep ts₃ c (token (mark m.Do) s₃ e₃ ∷ ts₄) → Gets Deep (head_at expr ts) ((x, a, b, c), ts₄)
    unfolding head_at
    head_complete {s₂ = s₂} {e₂ = e₂} {s₃ = s₃} {e₃ = e₃} {ts₁ = ts₁} {ts₂ = ts₂} {ts₃ = ts₃} {ts₄ = ts₄} {a = a} {b = b} {c = c} a_name p q r =
        gets_then _ _ (bound_at expr ts₁) (a, token (mark m.To) s₂ e₂ ∷ ts₂) (bound_complete ts₁ a (token (mark m.To) s₂ e₂ ∷ ts₂) p refl)
        (gets_then _ _ (bound_at expr ts₂) (b, ts₃) (bound_complete ts₂ b ts₃ q (step_stops r))
        (gets_then _ _ (step_at ts₃) (c, token (mark m.Do) s₃ e₃ ∷ ts₄) (step_complete Deep ts₃ c (token (mark m.Do) s₃ e₃ ∷ ts₄) r refl) (inl refl)))

    for_complete : (s e : ℕ) {s₁ e₁ s₂ e₂ s₃ e₃ s₄ e₄ : ℕ} {ts ts₁ ts₂ ts₃ ts₄ rest : List Token} {x : Word} {a b : Bound} {c : Option Constant} {xs : Statements}
        → IsName ts x (token (mark m.Assign) s₁ e₁ ∷ ts₁) → IsBound E ts₁ a (token (mark m.To) s₂ e₂ ∷ ts₂) → IsBound E ts₂ b ts₃ → IsStep ts₃ c (token (mark m.Do) s₃ e₃ ∷ ts₄) → IsInner ts₄ xs (token (mark m.EndFor) s₄ e₄ ∷ rest)
        → Gets Deep (for_at expr list (token (mark m.For) s e ∷ ts)) (repeat s x a b c xs, rest)
    unfolding for_at
    for_complete s e {s₄ = s₄} {e₄ = e₄} {ts = ts} {ts₄ = ts₄} {rest = rest} {x = x} {a = a} {b = b} {c = c} {xs = xs} p q r t f =
        gets_then _ _ (head_at expr ts) ((x, a, b, c), ts₄) (head_complete p q r t)
        (gets_then _ _ (list ts₄) (xs, token (mark m.EndFor) s₄ e₄ ∷ rest) (inner ts₄ xs (token (mark m.EndFor) s₄ e₄ ∷ rest) f refl) (inl refl))

    block_complete : (ts : List Token) (x : Statement) (rest : List Token) → IsStatement E IsInner ts x rest → begins_block ts ≡ true → Gets Deep (block_at expr list ts) (x, rest)
    unfolding block_at
    block_complete ts x rest (an_assignment a_name p) h = absurd cc
    block_complete ts x rest (to_element a_name p q) h = absurd cc
    block_complete ts x rest (an_if (a_condition p p') q r) h = if_complete (a_condition p p') q r
    block_complete ts x rest (a_case {s = s} {e = e} p q r t) h = case_complete s e p q r t
    block_complete ts x rest (a_for {s = s} {e = e} p q r t f) h = for_complete s e p q r t f

  -- what reads IF, CASE and FOR reads each of them
  abbrev ReadsBlocks : (IsInner : Gram Statements) → Read Statement → Type 0
  ReadsBlocks IsInner block = (ts : List Token) (x : Statement) (rest : List Token) → IsStatement E IsInner ts x rest → begins_block ts ≡ true → Gets Deep (block ts) (x, rest)

  statement_complete : (IsInner : Gram Statements) (block : Read Statement) → ReadsBlocks IsInner block → Complete Deep continues (IsStatement E IsInner) (statement_at expr block)
  unfolding statement_at assignment_at assign_at element_at
  statement_complete IsInner block reads ts x rest (an_assignment {mid = mid} {v = v} a_name p) st = gets_then _ _ (expr mid) (v, rest) (whole mid v rest p st) (inl refl)
  statement_complete IsInner block reads ts x rest (to_element {s' = s'} {e' = e'} {s'' = s''} {e'' = e''} {mid = mid} {on = on} {i = i} {v = v} a_name p q) st =
      let close = token (mark m.RBracket) s' e' ∷ token (mark m.Assign) s'' e'' ∷ on in
      gets_then _ _ (expr mid) (i, close) (whole mid i close p refl) (gets_then _ _ (expr on) (v, rest) (whole on v rest q st) (inl refl))
  statement_complete IsInner block reads ts x rest (an_if (a_condition p p') q r) st = reads ts x rest (an_if (a_condition p p') q r) refl
  statement_complete IsInner block reads ts x rest (a_case p q r t) st = reads ts x rest (a_case p q r t) refl
  statement_complete IsInner block reads ts x rest (a_for p q r t f) st = reads ts x rest (a_for p q r t f) refl

  -- ---- lists that nest

  -- nothing nests where no list stands inside
  none_nest : (block : Read Statement) → ReadsBlocks (λ ts xs rest. ⊥) block
  none_nest block ts x rest (an_assignment a_name p) h = absurd cc
  none_nest block ts x rest (to_element a_name p q) h = absurd cc
  none_nest block ts x rest (an_if (a_condition p p') q r) h = absurd p'
  none_nest block ts x rest (a_case p (a_labelled q q') r t) h = absurd q'
  none_nest block ts x rest (a_for p q r t f) h = absurd f

  of_blocks : (IsInner : Gram Statements) (block : Read Statement) → NoLonger IsInner → ReadsBlocks IsInner block → Complete Deep begins_entry (IsList (IsStatement E IsInner)) (entries_at (statement_at expr block))
  of_blocks IsInner block no_longer reads =
      list_complete Deep (IsStatement E IsInner) (statement_at expr block) (statement_shorter E short IsInner no_longer) (statement_avoids E IsInner) (entry_first E IsInner) continues (λ s e ts. refl) (statement_complete IsInner block reads)

  -- A list that nests so deep is read, unless fewer may nest than do.
  pub body_complete : (k j : ℕ) → (j < k → Deep) → Complete Deep begins_entry (IsBody E k) (body_at expr j)
  unfolding nested_at
  body_complete zero j deep = of_blocks (λ ts xs rest. ⊥) (nested_at expr j) (λ ts xs rest h. absurd h) (none_nest (nested_at expr j))
  body_complete (suc k) zero deep = of_blocks (IsBody E k) (nested_at expr zero) (body_no_longer E short k) (λ ts x rest p h. inr (length ts, deep (omega arith), refl))
  body_complete (suc k) (suc j) deep =
      of_blocks (IsBody E k) (nested_at expr (suc j)) (body_no_longer E short k)
      (block_complete (IsBody E k) (body_at expr j) (body_no_longer E short k) (body_complete k j (λ h. deep (omega arith))))
