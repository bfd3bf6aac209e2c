-- Each production of statements stops at the same token whatever stands behind it, where that is so of expressions.
use Rattle.std.proofs.Common.{◌≡◌, ℕ, zero, suc, ◌+◌, ◌-◌, ◌<◌, cond, List, ◌∷◌, length, take, None, Some, Ok, refl, sym, ap, ◌∙◌, arith, inr}
use Rattle.fb_words.specs.declared.mark.Mark.{Mark}
use Rattle.fb_words.specs.declared.mark.Mark.TheVariants as m
use Rattle.fb_model.specs.Tokens.{Token}
use Rattle.fb_model.specs.Productions.{Gram, Word}
use Rattle.fb_model.specs.StructuredText.{Expression, Statement, assign, assign_element, branch, select, repeat, Statements, no_statement, statements, branches, arms}
use Rattle.fb_model.specs.StructuredTextGrammar.{is_number, IsBranch, IsArm, IsStatement, IsBody}
use Rattle.fb_read.specs.Reading.{Read, ◌>>=◌, next_is, expect, offset_at, name_at, all_at, list_at}
use Rattle.fb_read.proofs.Readers.{Sound, Shorter}
use Rattle.fb_read.proofs.Steady.{Same, here, there, Steady, within_then, goes_then, next_sees, steady_then, steady_done, steady_deep, steady_name, steady_test, steady_choice, steady_if, steady_expect, steady_place}
use Rattle.fb_read.proofs.SteadyLists.{Shrinks, shrinks_of, steady_all}
use Rattle.st_parse.specs.Reading.{headed, begins_integer, begins_block, begins_entry, label_at, step_at, assign_at, element_at, assignment_at, branch_at, else_at, elsifs_at, if_at, arm_at, arms_at, case_at, bound_at, head_at, for_at, block_at, statement_at, entry_at, statements_in, entries_at, nested_at, body_at}
use Rattle.st_parse.proofs.Headed.{steady_headed}
use Rattle.st_parse.proofs.Labels.{labels_steady, step_steady, integer_sees, block_sees, entry_sees}
use Rattle.st_parse.proofs.Sound.{IsEntry, entry_sound, branch_sound, arm_sound, statement_sound, block_sound, body_sound}
use Rattle.st_parse.proofs.Shorter.{NoLonger, entry_shorter, branch_shorter, arm_shorter, statement_shorter, body_no_longer}

-- ---- what was taken

-- Two texts that are the same up to a token are equally long before it, and have the same tokens there.
same_length : {t : Token} {q q' ts us : List Token} → Same t q q' ts us → (length ts + length q' ≡ length us + length q) × (length q < length ts)
same_length here = (omega arith, omega arith)
same_length (there s) = let p = same_length s in (omega (arith, p.0), omega (arith, p.1))

same_taken : {t : Token} {q q' ts us : List Token} → Same t q q' ts us → (n : ℕ) → n + length q < length ts → take n ts ≡ take n us
same_taken here zero h = refl
same_taken {t = t} {q = q} here (suc n) h = absurd (omega (arith, h))
same_taken (there s) zero h = refl
same_taken (there {u = u} s) (suc n) h = ap (λ l. u ∷ l) (same_taken s n (omega (arith, h)))

same_before : {t : Token} {q q' ts us rest rest' : List Token} → Same t q q' ts us → Same t q q' rest rest' → take (length ts - length rest) ts ≡ take (length us - length rest') us
same_before {ts = ts} {us = us} {rest = rest} {rest' = rest'} s r =
    let a = same_length s in
    let b = same_length r in
    let n : length ts - length rest ≡ length us - length rest' = omega (arith, a.0, b.0) in
    same_taken s (length ts - length rest) (omega (arith, a.1, b.1)) ∙ ap (λ k. take k us) n

-- what is made of the tokens that were taken too
steady_taken : {A B : Type 0} (r : Read A) (f : A → List Token → B) → Steady r → Steady (λ ts. r ts >>= λ x. Ok (f x.0 (take (length ts - length x.1) ts), x.1))
steady_taken r f h =
    record {
      bounded = λ ts. within_then (length ts) (λ x. Ok (f x.0 (take (length ts - length x.1) ts), x.1)) (r ts) (h.bounded ts) (λ x rest le. le);
      local = λ t q q' ts us s. goes_then t q q' (λ x. Ok (f x.0 (take (length ts - length x.1) ts), x.1)) (λ x. Ok (f x.0 (take (length us - length x.1) us), x.1)) (r ts) (r us) (h.local t q q' ts us s) (λ x rest le. le)
          (λ x rest rest' e e' s'. inr (rest', s', ap (λ ws. Ok (f x ws, rest')) (sym (same_before s s'))));
    }

-- ---- lists

module _ (G : Gram Statement) (one : Read Statement) (sound : Sound G one) (short : Shorter G) (steady : Steady one) where
  pub entry_steady : Steady (entry_at one)
  unfolding entry_at
  entry_steady =
      steady_if m.Semicolon (λ ts. Ok (None, ts)) (λ ts. one ts >>= λ x. expect m.Semicolon x.1 >>= λ rest. Ok (Some x.0, rest))
      (steady_done None) (steady_then one _ steady (λ x. steady_expect m.Semicolon _ (steady_done (Some x))))

  pub list_steady : Steady (entries_at one)
  unfolding entries_at
  list_steady =
      steady_then (all_at begins_entry (entry_at one)) _
      (steady_all (entry_at one) entry_steady (shrinks_of (IsEntry G) (entry_at one) (entry_sound G one sound) (entry_shorter G short)) begins_entry entry_sees)
      (λ es. steady_done (statements (statements_in es)))

module _ (E : Gram Expression) (expr : Read Expression) (sound : Sound E expr) (short : Shorter E) (steady : Steady expr) where
  -- ---- assignments

  assign_steady : (x : Word) → Steady (assign_at expr x)
  unfolding assign_at
  assign_steady x =
      steady_place (λ at ts. expect m.Assign ts >>= λ rest. expr rest >>= λ v. Ok (assign x at v.0, v.1)) (λ at.
      steady_expect m.Assign _ (steady_then expr _ steady (λ v. steady_done (assign x at v))))

  element_steady : (x : Word) → Steady (element_at expr x)
  unfolding element_at
  element_steady x =
      steady_place (λ at ts. expect m.LBracket ts >>= λ begin. expr begin >>= λ i. expect m.RBracket i.1 >>= λ sign. expect m.Assign sign >>= λ rest. expr rest >>= λ v. Ok (assign_element x at i.0 (offset_at sign) v.0, v.1)) (λ at.
      steady_expect m.LBracket _
      (steady_then expr _ steady (λ i.
      steady_expect m.RBracket _
      (steady_place (λ sign ts. expect m.Assign ts >>= λ rest. expr rest >>= λ v. Ok (assign_element x at i sign v.0, v.1)) (λ sign.
      steady_expect m.Assign _ (steady_then expr _ steady (λ v. steady_done (assign_element x at i sign v))))))))

  assignment_steady : Steady (assignment_at expr)
  unfolding assignment_at
  assignment_steady = steady_then name_at _ steady_name (λ x. steady_choice m.LBracket (element_at expr x) (assign_at expr x) (element_steady x) (assign_steady x))

  -- ---- IF, CASE and FOR

  module _ (IsInner : Gram Statements) (list : Read Statements) (inner_sound : Sound IsInner list) (no_longer : NoLonger IsInner) (inner : Steady list) where
    pub branch_steady : (opening : Mark) → Steady (branch_at expr list opening)
    unfolding branch_at
    branch_steady opening =
        steady_place (λ at ts. expect opening ts >>= λ begin. expr begin >>= λ c. expect m.Then c.1 >>= λ rest. list rest >>= λ xs. Ok ((at, c.0, xs.0), xs.1)) (λ at.
        steady_expect opening _ (steady_then expr _ steady (λ c. steady_expect m.Then _ (steady_then list _ inner (λ xs. steady_done (at, c, xs))))))

    pub else_steady : Steady (else_at list)
    unfolding else_at
    else_steady = steady_if m.Else list (λ ts. Ok (no_statement, ts)) inner (steady_done no_statement)

    pub elsif_shrinks : Shrinks (branch_at expr list m.Elsif)
    elsif_shrinks = shrinks_of (IsBranch E IsInner m.Elsif) (branch_at expr list m.Elsif) (branch_sound E expr sound IsInner list inner_sound m.Elsif) (branch_shorter E short IsInner no_longer m.Elsif)

    if_steady : Steady (if_at expr list)
    unfolding if_at
    if_steady =
        steady_then (branch_at expr list m.If) _ (branch_steady m.If) (λ b.
        steady_then (λ ts. headed b (elsifs_at expr list ts)) _ (steady_headed (next_is m.Elsif) (next_sees m.Elsif) (branch_at expr list m.Elsif) (branch_steady m.Elsif) elsif_shrinks b) (λ bs.
        steady_then (else_at list) _ else_steady (λ xs. steady_expect m.EndIf _ (steady_done (branch (branches bs) xs)))))

    pub arm_steady : Steady (arm_at list)
    unfolding arm_at
    arm_steady = steady_then (list_at m.Comma label_at) _ labels_steady (λ ls. steady_expect m.Colon _ (steady_then list _ inner (λ xs. steady_done (ls, xs))))

    pub arm_shrinks : Shrinks (arm_at list)
    arm_shrinks = shrinks_of (IsArm E IsInner) (arm_at list) (arm_sound E expr sound IsInner list inner_sound) (arm_shorter E short IsInner no_longer)

    case_steady : Steady (case_at expr list)
    unfolding case_at
    case_steady =
        steady_place (λ at ts. expect m.Case ts >>= λ begin. expr begin >>= λ x. expect m.Of x.1 >>= λ rest. arm_at list rest >>= λ a. headed a.0 (arms_at list a.1) >>= λ others. else_at list others.1 >>= λ xs. expect m.EndCase xs.1 >>= λ last. Ok (select at x.0 (arms others.0) xs.0, last)) (λ at.
        steady_expect m.Case _
        (steady_then expr _ steady (λ x. steady_expect m.Of _
        (steady_then (arm_at list) _ arm_steady (λ a.
        steady_then (λ ts. headed a (arms_at list ts)) _ (steady_headed begins_integer integer_sees (arm_at list) arm_steady arm_shrinks a) (λ others.
        steady_then (else_at list) _ else_steady (λ xs. steady_expect m.EndCase _ (steady_done (select at x (arms others) xs)))))))))

    pub bound_steady : Steady (bound_at expr)
    unfolding bound_at
    bound_steady = steady_taken expr (λ x ws. record { value = x; plain = is_number ws }) steady

    pub head_steady : Steady (head_at expr)
    unfolding head_at
    head_steady =
        steady_then name_at _ steady_name (λ x. steady_expect m.Assign _
        (steady_then (bound_at expr) _ bound_steady (λ a. steady_expect m.To _
        (steady_then (bound_at expr) _ bound_steady (λ b.
        steady_then step_at _ step_steady (λ c. steady_expect m.Do _ (steady_done (x, a, b, c))))))))

    for_steady : Steady (for_at expr list)
    unfolding for_at
    for_steady =
        steady_place (λ at ts. expect m.For ts >>= λ begin. head_at expr begin >>= λ h. list h.1 >>= λ xs. expect m.EndFor xs.1 >>= λ last. Ok (repeat at h.0.0 h.0.1 h.0.2 h.0.3 xs.0, last)) (λ at.
        steady_expect m.For _
        (steady_then (head_at expr) _ head_steady (λ h.
        steady_then list _ inner (λ xs. steady_expect m.EndFor _ (steady_done (repeat at h.0 h.1 h.2 h.3 xs))))))

    pub block_steady : Steady (block_at expr list)
    unfolding block_at
    block_steady =
        steady_choice m.If (if_at expr list) (λ ts. cond (next_is m.Case ts) (case_at expr list ts) (for_at expr list ts)) if_steady
        (steady_choice m.Case (case_at expr list) (for_at expr list) case_steady for_steady)

  -- ---- lists that nest

  pub statement_steady : (block : Read Statement) → Steady block → Steady (statement_at expr block)
  unfolding statement_at
  statement_steady block h = steady_test begins_block block_sees block (assignment_at expr) h assignment_steady

  of_blocks : (IsInner : Gram Statements) (block : Read Statement) → NoLonger IsInner → Sound (IsStatement E IsInner) block → Steady block → Steady (entries_at (statement_at expr block))
  of_blocks IsInner block no_longer block_sound block_steady =
      list_steady (IsStatement E IsInner) (statement_at expr block) (statement_sound E expr sound IsInner block block_sound) (statement_shorter E short IsInner no_longer) (statement_steady block block_steady)

  pub body_steady : (depth : ℕ) → Steady (body_at expr depth)
  unfolding nested_at
  body_steady zero = of_blocks (λ ts xs rest. ⊥) (nested_at expr zero) (λ ts xs rest h. absurd h) (λ ts. tt) steady_deep
  body_steady (suc depth) =
      of_blocks (IsBody E depth) (nested_at expr (suc depth)) (body_no_longer E short depth)
      (block_sound E expr sound (IsBody E depth) (body_at expr depth) (body_sound E expr sound depth))
      (block_steady (IsBody E depth) (body_at expr depth) (body_sound E expr sound depth) (body_no_longer E short depth) (body_steady depth))
