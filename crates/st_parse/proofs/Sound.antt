-- What is read of statements is in the grammar, where that is so of expressions.
use Rattle.std.proofs.Common.{◌≡◌, ℕ, zero, suc, cond, List, ◌∷◌, length, Option, None, Some, Ok, refl, sym, subst}
use Rattle.fb_words.specs.declared.mark.Mark.{Mark}
use Rattle.fb_words.specs.declared.mark.Mark.TheVariants as m
use Rattle.fb_model.specs.Tokens.{Token, token, mark}
use Rattle.fb_model.specs.Productions.{Gram, Word, IsName, IsMany, none, more, IsSeparated}
use Rattle.fb_model.specs.Trees.{Constant}
use Rattle.fb_model.specs.StructuredText.{Expression, Bound, Statement, assign, assign_element, branch, select, repeat, Statements, statements, Branch, branches, Arm, arms}
use Rattle.fb_model.specs.StructuredTextGrammar.{IsLabel, IsStep, IsBound, a_bound, IsList, end, lone, next, IsBranch, a_condition, IsArm, a_labelled, IsElse, absent, present, IsStatement, an_assignment, to_element, an_if, a_case, a_for, IsBody}
use Rattle.fb_read.specs.Reading.{Answer, Read, ◌>>=◌, next_is, after, expect, offset_at, name_at, all_at, list_at}
use Rattle.fb_read.proofs.Readers.{Meets, Sound, meets_if, meets_then, meets_as, expect_then, may_open, name_sound}
use Rattle.fb_read.proofs.Repetitions.{while_sound}
use Rattle.st_parse.specs.Reading.{headed, begins_integer, begins_block, begins_entry, label_at, step_at, assign_at, element_at, assignment_at, branch_at, else_at, elsifs_at, if_at, arm_at, arms_at, case_at, bound_at, head_at, for_at, block_at, statement_at, entry_at, statements_in, entries_at, nested_at, body_at}
use Rattle.st_parse.proofs.Headed.{IsHeaded, a_head, headed_sound}
use Rattle.st_parse.proofs.Labels.{labels_sound, step_sound}

-- a production that this mark opens, with the mark's place
opens_at : {B : Type 0} (G : List Token → B → List Token → Type 0) (f : ℕ → List Token → Answer B) (k : Mark) (ts : List Token) → ((s e : ℕ) (rest : List Token) → Meets (G (token (mark k) s e ∷ rest)) (f s rest)) → Meets (G ts) (expect k ts >>= f (offset_at ts))
opens_at G f k ts g = expect_then (λ l. ts ≡ l) (G ts) (f (offset_at ts)) k ts refl (λ s e rest q. subst (λ l. Meets (G l) (f (offset_at l) rest)) (sym q) (g s e rest))

-- [statement] ';'
pub data IsEntry (G : Gram Statement) : List Token → Option Statement → List Token → Type 0 where
  a_lone : {s e : ℕ} {ts : List Token} → IsEntry G (token (mark m.Semicolon) s e ∷ ts) None ts
  an_entry : {s e : ℕ} {ts rest : List Token} {x : Statement} → G ts x (token (mark m.Semicolon) s e ∷ rest) → IsEntry G ts (Some x) rest

pub list_of : {G : Gram Statement} {ts rest : List Token} {es : List (Option Statement)} → IsMany (IsEntry G) ts es rest → IsList G ts (statements (statements_in es)) rest
list_of none = end
list_of (more a_lone t) = lone (list_of t)
list_of (more (an_entry p) t) = next p (list_of t)

module _ (G : Gram Statement) (one : Read Statement) (sound : Sound G one) where
  pub entry_sound : Sound (IsEntry G) (entry_at one)
  unfolding entry_at
  entry_sound ts = may_open (IsEntry G) m.Semicolon ts _ _ (λ s e. a_lone) (λ h.
      meets_then _ _ (one ts) (sound ts) (λ x mid p.
      expect_then (λ l. G ts x l) _ _ m.Semicolon mid p (λ s e rest q. an_entry q)))

  pub list_sound : Sound (IsList G) (entries_at one)
  unfolding entries_at
  list_sound ts = meets_then _ _ (all_at begins_entry (entry_at one) ts) (while_sound (IsEntry G) (entry_at one) entry_sound begins_entry (length ts) ts) (λ es rest p. list_of p)

module _ (E : Gram Expression) (expr : Read Expression) (sound : Sound E expr) where
  -- ---- assignments

  module _ (IsInner : Gram Statements) where
    assign_of : {s e : ℕ} {ts mid rest : List Token} {x : Word} {v : Expression} (at : ℕ) → at ≡ s → IsName ts x (token (mark m.Assign) s e ∷ mid) → E mid v rest → IsStatement E IsInner ts (assign x at v) rest
    assign_of {ts = ts} {rest = rest} {x = x} {v = v} at same p q = subst (λ a. IsStatement E IsInner ts (assign x a v) rest) (sym same) (an_assignment p q)

    assign_sound : (ts : List Token) (x : Word) (sign : List Token) → IsName ts x sign → Meets (IsStatement E IsInner ts) (assign_at expr x sign)
    unfolding assign_at
    assign_sound ts x sign p =
        expect_then (λ l. IsName ts x l × (offset_at sign ≡ offset_at l)) _ _ m.Assign sign (p, refl) (λ s e mid p'.
        meets_then _ _ (expr mid) (sound mid) (λ v rest q. assign_of (offset_at sign) p'.1 p'.0 q))

    element_of : {s e s' e' s'' e'' : ℕ} {ts mid on rest : List Token} {x : Word} {i v : Expression} (bracket at : ℕ) → bracket ≡ s → at ≡ s'' → IsName ts x (token (mark m.LBracket) s e ∷ mid) → E mid i (token (mark m.RBracket) s' e' ∷ token (mark m.Assign) s'' e'' ∷ on) → E on v rest
        → IsStatement E IsInner ts (assign_element x bracket i at v) rest
    element_of {s = s} {ts = ts} {rest = rest} {x = x} {i = i} {v = v} bracket at same same' p q r =
        subst (λ a. IsStatement E IsInner ts (assign_element x a i at v) rest) (sym same) (subst (λ a. IsStatement E IsInner ts (assign_element x s i a v) rest) (sym same') (to_element p q r))

    element_sound : (ts : List Token) (x : Word) (begin : List Token) → IsName ts x begin → Meets (IsStatement E IsInner ts) (element_at expr x begin)
    unfolding element_at
    element_sound ts x begin p =
        expect_then (λ l. IsName ts x l × (offset_at begin ≡ offset_at l)) _ _ m.LBracket begin (p, refl) (λ s e mid p'.
        meets_then _ _ (expr mid) (sound mid) (λ i close q.
        expect_then (λ l. E mid i l) _ _ m.RBracket close q (λ s' e' sign q'.
        expect_then (λ l. E mid i (token (mark m.RBracket) s' e' ∷ l) × (offset_at sign ≡ offset_at l)) _ _ m.Assign sign (q', refl) (λ s'' e'' on q''.
        meets_then _ _ (expr on) (sound on) (λ v rest r. element_of (offset_at begin) (offset_at sign) p'.1 q''.1 p'.0 q''.0 r)))))

    assignment_sound : Sound (IsStatement E IsInner) (assignment_at expr)
    unfolding assignment_at
    assignment_sound ts = meets_then _ _ (name_at ts) (name_sound ts) (λ x mid p. meets_if (IsStatement E IsInner ts) (next_is m.LBracket mid) (element_at expr x mid) (assign_at expr x mid) (element_sound ts x mid p) (assign_sound ts x mid p))

  -- ---- IF, CASE and FOR

  module _ (IsInner : Gram Statements) (list : Read Statements) (inner : Sound IsInner list) where
    pub branch_sound : (opening : Mark) → Sound (IsBranch E IsInner opening) (branch_at expr list opening)
    unfolding branch_at
    branch_sound opening ts =
        opens_at (IsBranch E IsInner opening) (λ at begin. expr begin >>= λ c. expect m.Then c.1 >>= λ rest. list rest >>= λ xs. Ok ((at, c.0, xs.0), xs.1)) opening ts (λ s e mid.
        meets_then _ _ (expr mid) (sound mid) (λ c sign p.
        expect_then (λ l. E mid c l) _ _ m.Then sign p (λ s' e' on p'.
        meets_then _ _ (list on) (inner on) (λ xs rest q. a_condition p' q))))

    else_sound : Sound (IsElse E IsInner) (else_at list)
    unfolding else_at
    else_sound ts = may_open (IsElse E IsInner) m.Else ts _ _ (λ s e. meets_as _ (list (after ts)) (inner (after ts)) (λ xs rest p. present p)) (λ h. absent)

    pub if_of : {s e : ℕ} {ts mid on rest : List Token} {b : Branch} {bs : List Branch} {xs : Statements} → IsBranch E IsInner m.If ts b mid → IsHeaded b (IsBranch E IsInner m.Elsif) mid bs on → IsElse E IsInner on xs (token (mark m.EndIf) s e ∷ rest) → IsStatement E IsInner ts (branch (branches bs) xs) rest
    if_of p (a_head q) r = an_if p q r

    if_sound : Sound (IsStatement E IsInner) (if_at expr list)
    unfolding if_at
    if_sound ts = meets_then _ _ (branch_at expr list m.If ts) (branch_sound m.If ts) (λ b mid p.
        meets_then _ _ (headed b (elsifs_at expr list mid)) (headed_sound (IsBranch E IsInner m.Elsif) (branch_at expr list m.Elsif) (branch_sound m.Elsif) (next_is m.Elsif) b mid) (λ bs on q.
        meets_then _ _ (else_at list on) (else_sound on) (λ xs last r.
        expect_then (λ l. IsElse E IsInner on xs l) _ _ m.EndIf last r (λ s e rest r'. if_of p q r'))))

    pub arm_sound : Sound (IsArm E IsInner) (arm_at list)
    unfolding arm_at
    arm_sound ts = meets_then _ _ (list_at m.Comma label_at ts) (labels_sound ts) (λ ls mid p.
        expect_then (λ l. IsSeparated m.Comma IsLabel ts ls l) _ _ m.Colon mid p (λ s e on p'.
        meets_then _ _ (list on) (inner on) (λ xs rest q. a_labelled p' q)))

    pub case_of : {s e s' e' s'' e'' : ℕ} {ts ts₁ ts₂ ts₃ rest : List Token} {x : Expression} {a : Arm} {others : List Arm} {xs : Statements}
        → E ts x (token (mark m.Of) s' e' ∷ ts₁) → IsArm E IsInner ts₁ a ts₂ → IsHeaded a (IsArm E IsInner) ts₂ others ts₃ → IsElse E IsInner ts₃ xs (token (mark m.EndCase) s'' e'' ∷ rest)
        → IsStatement E IsInner (token (mark m.Case) s e ∷ ts) (select s x (arms others) xs) rest
    case_of p q (a_head r) t = a_case p q r t

    case_sound : Sound (IsStatement E IsInner) (case_at expr list)
    unfolding case_at
    case_sound ts =
        opens_at (IsStatement E IsInner) (λ at begin. expr begin >>= λ x. expect m.Of x.1 >>= λ rest. arm_at list rest >>= λ a. headed a.0 (arms_at list a.1) >>= λ others. else_at list others.1 >>= λ xs. expect m.EndCase xs.1 >>= λ last. Ok (select at x.0 (arms others.0) xs.0, last)) m.Case ts (λ s e mid.
        meets_then _ _ (expr mid) (sound mid) (λ x sign p.
        expect_then (λ l. E mid x l) _ _ m.Of sign p (λ s' e' ts₁ p'.
        meets_then _ _ (arm_at list ts₁) (arm_sound ts₁) (λ a ts₂ q.
        meets_then _ _ (headed a (arms_at list ts₂)) (headed_sound (IsArm E IsInner) (arm_at list) arm_sound begins_integer a ts₂) (λ others ts₃ r.
        meets_then _ _ (else_at list ts₃) (else_sound ts₃) (λ xs last t.
        expect_then (λ l. IsElse E IsInner ts₃ xs l) _ _ m.EndCase last t (λ s'' e'' rest t'. case_of p' q r t')))))))

    pub bound_sound : Sound (IsBound E) (bound_at expr)
    unfolding bound_at
    bound_sound ts = meets_then _ _ (expr ts) (sound ts) (λ x rest p. a_bound p)

    -- what stands between FOR and DO
    pub data IsHead : List Token → Word × Bound × Bound × Option Constant → List Token → Type 0 where
      a_front : {s₁ e₁ s₂ e₂ s₃ e₃ : ℕ} {ts ts₁ ts₂ ts₃ ts₄ : List Token} {x : Word} {a b : Bound} {c : Option Constant}
          → IsName ts x (token (mark m.Assign) s₁ e₁ ∷ ts₁) → IsBound E ts₁ a (token (mark m.To) s₂ e₂ ∷ ts₂) → IsBound E ts₂ b ts₃ → IsStep ts₃ c (token (mark m.Do) s₃ e₃ ∷ ts₄) → IsHead ts (x, a, b, c) ts₄

    pub head_sound : Sound IsHead (head_at expr)
    unfolding head_at
    head_sound ts = meets_then _ _ (name_at ts) (name_sound ts) (λ x sign p.
        expect_then (λ l. IsName ts x l) _ _ m.Assign sign p (λ s₁ e₁ ts₁ p'.
        meets_then _ _ (bound_at expr ts₁) (bound_sound ts₁) (λ a mid q.
        expect_then (λ l. IsBound E ts₁ a l) _ _ m.To mid q (λ s₂ e₂ ts₂ q'.
        meets_then _ _ (bound_at expr ts₂) (bound_sound ts₂) (λ b ts₃ r.
        meets_then _ _ (step_at ts₃) (step_sound ts₃) (λ c on t.
        expect_then (λ l. IsStep ts₃ c l) _ _ m.Do on t (λ s₃ e₃ ts₄ t'. a_front p' q' r t')))))))

    pub for_of : {s e s' e' : ℕ} {ts mid rest : List Token} {xs : Statements} (h : Word × Bound × Bound × Option Constant) → IsHead ts h mid → IsInner mid xs (token (mark m.EndFor) s' e' ∷ rest) → IsStatement E IsInner (token (mark m.For) s e ∷ ts) (repeat s h.0 h.1 h.2 h.3 xs) rest
    for_of h (a_front p q r t) g = a_for p q r t g

    for_sound : Sound (IsStatement E IsInner) (for_at expr list)
    unfolding for_at
    for_sound ts =
        opens_at (IsStatement E IsInner) (λ at begin. head_at expr begin >>= λ h. list h.1 >>= λ xs. expect m.EndFor xs.1 >>= λ last. Ok (repeat at h.0.0 h.0.1 h.0.2 h.0.3 xs.0, last)) m.For ts (λ s e mid.
        meets_then _ _ (head_at expr mid) (head_sound mid) (λ h on p.
        meets_then _ _ (list on) (inner on) (λ xs last q.
        expect_then (λ l. IsInner on xs l) _ _ m.EndFor last q (λ s' e' rest q'. for_of h p q'))))

    pub block_sound : Sound (IsStatement E IsInner) (block_at expr list)
    unfolding block_at
    block_sound ts =
        meets_if (IsStatement E IsInner ts) (next_is m.If ts) (if_at expr list ts) (cond (next_is m.Case ts) (case_at expr list ts) (for_at expr list ts)) (if_sound ts)
        (meets_if (IsStatement E IsInner ts) (next_is m.Case ts) (case_at expr list ts) (for_at expr list ts) (case_sound ts) (for_sound ts))

  -- ---- lists that nest

  pub statement_sound : (IsInner : Gram Statements) (block : Read Statement) → Sound (IsStatement E IsInner) block → Sound (IsStatement E IsInner) (statement_at expr block)
  unfolding statement_at
  statement_sound IsInner block h ts = meets_if (IsStatement E IsInner ts) (begins_block ts) (block ts) (assignment_at expr ts) (h ts) (assignment_sound IsInner ts)

  pub body_sound : (depth : ℕ) → Sound (IsBody E depth) (body_at expr depth)
  unfolding nested_at
  body_sound zero = list_sound (IsStatement E (λ ts xs rest. ⊥)) (statement_at expr (nested_at expr zero)) (statement_sound (λ ts xs rest. ⊥) (nested_at expr zero) (λ ts. tt))
  body_sound (suc depth) =
      list_sound (IsStatement E (IsBody E depth)) (statement_at expr (nested_at expr (suc depth)))
      (statement_sound (IsBody E depth) (nested_at expr (suc depth)) (block_sound (IsBody E depth) (body_at expr depth) (body_sound depth)))
