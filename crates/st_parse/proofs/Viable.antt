-- Where the nesting of statements is at its end, a deeper list begins with what was read and with the token that opens one more, where that is so of expressions.
use Rattle.std.proofs.Common.{◌≡◌, ℕ, zero, suc, ◌-◌, Bool, true, false, cond, List, [], ◌∷◌, length, take, None, Some, Ok, Err, refl}
use Rattle.fb_words.specs.declared.mark.Mark.{Mark}
use Rattle.fb_words.specs.declared.mark.Mark.TheVariants as m
use Rattle.fb_model.specs.Tokens.{Token, token, name, mark}
use Rattle.fb_model.specs.Productions.{Gram, Word, IsName, a_name, IsMany, none, IsSeparated, last}
use Rattle.fb_model.specs.StructuredText.{Expression, Statement, assign, assign_element, branch, select, repeat, Statements, no_statement, statements, Branch, branches, Arm, arms}
use Rattle.fb_model.specs.StructuredTextGrammar.{unsigned, IsLabel, one, no_step, IsList, end, IsBranch, a_condition, IsArm, a_labelled, IsElse, absent, present, is_number, IsBound, a_bound, IsStatement, an_assignment, to_element, an_if, a_case, a_for, IsBody, IsExpression, IsAlgorithm}
use Rattle.fb_read.specs.Reading.{too_deep, Read, ◌>>=◌, next_is, after, expect, offset_at, name_at, all_at, list_at}
use Rattle.fb_read.proofs.Readers.{Sound, Shorter, shallow_then, shallow_name}
use Rattle.fb_read.proofs.Repetitions.{separated_shallow}
use Rattle.fb_read.proofs.Steady.{Steady, next_sees, steady_deep, steady_name}
use Rattle.fb_read.proofs.Viable.{Span, Any, GoesOn, Viable, Marked, Behind, goes_as, goes_if, goes_shallow, goes_done, begun_at, viable_expect, viable_may, viable_then, is_read, is_name, shallow_closing, while_viable}
use Rattle.st_parse.specs.ExpressionReading.{expression_at}
use Rattle.st_parse.proofs.ExpressionLaws.{expression_shorter, expression_steady}
use Rattle.st_parse.proofs.ExpressionViable.{nought, zero_tree, closing, expression_wide, expression_alone, expression_viable}
use Rattle.st_parse.specs.Reading.{headed, begins_integer, begins_block, begins_entry, label_at, step_at, assign_at, element_at, assignment_at, branch_at, else_at, elsifs_at, if_at, arm_at, arms_at, case_at, bound_at, head_at, for_at, block_at, statement_at, entry_at, statements_in, entries_at, nested_at, body_at, algorithm_at}
use Rattle.st_parse.proofs.Headed.{IsHeaded, a_head, headed_sound, steady_headed}
use Rattle.st_parse.proofs.Labels.{labels_sound, labels_steady, integer_sees}
use Rattle.st_parse.proofs.Shallow.{option_shallow, label_shallow}
use Rattle.st_parse.proofs.Shorter.{NoLonger, statement_shorter, body_no_longer}
use Rattle.st_parse.proofs.Sound.{IsEntry, an_entry, list_of, entry_sound, list_sound, branch_sound, if_of, arm_sound, case_of, bound_sound, IsHead, a_front, head_sound, for_of, block_sound, statement_sound}
use Rattle.st_parse.proofs.Steady.{entry_steady, branch_steady, elsif_shrinks, arm_steady, arm_shrinks, bound_steady, head_steady, statement_steady, block_steady, body_steady}

-- ---- lists

module _ (G : Gram Statement) (one : Read Statement) (sound : Sound G one) (short : Shorter G) (steady : Steady one) (viable : Viable (Any G) one) where
  entry_viable : Viable (Any (IsEntry G)) (entry_at one)
  unfolding entry_at
  entry_viable =
      viable_may (Any (IsEntry G)) m.Semicolon (λ ts. Ok (None, ts)) (λ ts. one ts >>= λ x. expect m.Semicolon x.1 >>= λ rest. Ok (Some x.0, rest)) (λ ts. tt)
      (λ ts. goes_done (Any (IsEntry G)) ts (λ x. expect m.Semicolon x.1 >>= λ rest. Ok (Some x.0, rest)) (one ts) (λ x. shallow_closing m.Semicolon x.1 (λ rest. (Some x.0, rest)))
      (goes_as ts (one ts) (λ rest. (closing m.Semicolon ∷ rest, λ us h. (Some h.0, an_entry h.1))) (viable ts)))

  list_viable : Viable (Any (IsList G)) (entries_at one)
  unfolding entries_at
  list_viable ts =
      goes_done (Any (IsList G)) ts (λ es. Ok (statements (statements_in es.0), es.1)) (all_at begins_entry (entry_at one) ts) (λ es. tt)
      (goes_as ts (all_at begins_entry (entry_at one) ts) (λ rest. (rest, λ us h. (statements (statements_in h.0), list_of h.1)))
      (while_viable (IsEntry G) (entry_at one) (entry_sound G one sound) (entry_steady G one sound short steady) entry_viable begins_entry (length ts) ts))

module _ (E : Gram Expression) (expr : Read Expression) (sound : Sound E expr) (short : Shorter E) (steady : Steady expr) (alone : (ts : List Token) → E (nought ∷ ts) zero_tree ts) (viable : Viable (Any E) expr) where
  -- ---- assignments

  module _ (IsInner : Gram Statements) where
    abbrev One : Span
    One = Any (IsStatement E IsInner)

    assign_viable : (x : Word) → Viable (Behind name_at x One) (assign_at expr x)
    unfolding assign_at
    assign_viable x ts =
        viable_expect (Behind name_at x One) m.Assign (λ rest. expr rest >>= λ v. Ok (assign x (offset_at ts) v.0, v.1))
        (λ mid. goes_done (Marked m.Assign (Behind name_at x One)) mid (λ v. Ok (assign x (offset_at ts) v.0, v.1)) (expr mid) (λ v. tt)
        (goes_as mid (expr mid) (λ rest. (rest, λ us h s e all d. (assign x s h.0, an_assignment (is_name all x _ d) h.1))) (viable mid))) ts

    element_viable : (x : Word) → Viable (Behind name_at x One) (element_at expr x)
    unfolding element_at
    element_viable x ts =
        let at = offset_at ts in
        let P : Span = Marked m.LBracket (Behind name_at x One) in
        viable_expect (Behind name_at x One) m.LBracket (λ begin. expr begin >>= λ i. expect m.RBracket i.1 >>= λ sign. expect m.Assign sign >>= λ rest. expr rest >>= λ v. Ok (assign_element x at i.0 (offset_at sign) v.0, v.1))
        (viable_then P expr (λ i. expect m.RBracket i.1 >>= λ sign. expect m.Assign sign >>= λ rest. expr rest >>= λ v. Ok (assign_element x at i.0 (offset_at sign) v.0, v.1)) steady
        (λ mid. goes_as mid (expr mid) (λ rest. (closing m.RBracket ∷ closing m.Assign ∷ nought ∷ rest, λ us h s e all d. (assign_element x s h.0 0 zero_tree, to_element (is_name all x _ d) h.1 (alone rest)))) (viable mid))
        (λ i. viable_expect (Behind expr i P) m.RBracket (λ sign. expect m.Assign sign >>= λ rest. expr rest >>= λ v. Ok (assign_element x at i (offset_at sign) v.0, v.1))
        (λ sign. viable_expect (Marked m.RBracket (Behind expr i P)) m.Assign (λ rest. expr rest >>= λ v. Ok (assign_element x at i (offset_at sign) v.0, v.1))
        (λ on. goes_done (Marked m.Assign (Marked m.RBracket (Behind expr i P))) on (λ v. Ok (assign_element x at i (offset_at sign) v.0, v.1)) (expr on) (λ v. tt)
        (goes_as on (expr on) (λ rest. (rest, λ us h s e s' e' mid d' s'' e'' all d. (assign_element x s'' i s h.0, to_element (is_name all x _ d) (is_read E expr sound mid i _ d') h.1))) (viable on))) sign))) ts

    assignment_viable : Viable One (assignment_at expr)
    unfolding assignment_at
    assignment_viable =
        viable_then One name_at (λ x. cond (next_is m.LBracket x.1) (element_at expr x.0 x.1) (assign_at expr x.0 x.1)) steady_name (λ ts. goes_shallow One ts (name_at ts) (shallow_name ts))
        (λ x mid. goes_if (Behind name_at x One) mid (next_is m.LBracket mid) (element_at expr x mid) (assign_at expr x mid) (element_viable x mid) (assign_viable x mid))

    statement_viable : (block : Read Statement) → ((ts : List Token) → begins_block ts ≡ true → GoesOn One ts (block ts)) → Viable One (statement_at expr block)
    unfolding statement_at
    statement_viable block h ts = by (begins_block ts) refl where
      by : (b : Bool) → begins_block ts ≡ b → GoesOn One ts (cond b (block ts) (assignment_at expr ts))
      by true e = h ts e
      by false e = assignment_viable ts

  -- ---- IF, CASE and FOR

  module _ (IsInner : Gram Statements) (empty : (ts : List Token) → IsInner ts no_statement ts) where
    -- the end of a FOR, behind its mark
    abbrev for_end : List Token → List Token
    for_end rest = token (name []) 0 0 ∷ closing m.Assign ∷ nought ∷ closing m.To ∷ nought ∷ closing m.Do ∷ closing m.EndFor ∷ rest

    -- an IF, CASE or FOR that opens one nesting too many
    opened_viable : (ts : List Token) → begins_block ts ≡ true → GoesOn {A = Statement × List Token} (One IsInner) ts (Err (too_deep (length ts)))
    opened_viable ts e = by_if (next_is m.If ts) refl e where
      by_case : (b : Bool) → next_is m.Case ts ≡ b → cond b true (next_is m.For ts) ≡ true → GoesOn {A = Statement × List Token} (One IsInner) ts (Err (too_deep (length ts)))
      by_case true d f =
          begun_at (One IsInner) m.Case ts d (λ rest. (
            nought ∷ closing m.Of ∷ nought ∷ closing m.Colon ∷ closing m.EndCase ∷ rest,
            λ s e.
                (_, a_case (alone (closing m.Of ∷ nought ∷ closing m.Colon ∷ closing m.EndCase ∷ rest)) (a_labelled (last (one unsigned)) (empty (closing m.EndCase ∷ rest))) none absent),
          ))
      by_case false d f =
          begun_at (One IsInner) m.For ts f (λ rest. (
            for_end rest,
            λ s e.
                (_, a_for a_name (a_bound (alone (closing m.To ∷ nought ∷ closing m.Do ∷ closing m.EndFor ∷ rest))) (a_bound (alone (closing m.Do ∷ closing m.EndFor ∷ rest))) no_step (empty (closing m.EndFor ∷ rest))),
          ))

      by_if : (b : Bool) → next_is m.If ts ≡ b → cond b true (cond (next_is m.Case ts) true (next_is m.For ts)) ≡ true → GoesOn {A = Statement × List Token} (One IsInner) ts (Err (too_deep (length ts)))
      by_if true d f =
          begun_at (One IsInner) m.If ts d (λ rest. (
            nought ∷ closing m.Then ∷ closing m.EndIf ∷ rest,
            λ s e.
                (_, an_if (a_condition (alone (closing m.Then ∷ closing m.EndIf ∷ rest)) (empty (closing m.EndIf ∷ rest))) none absent),
          ))
      by_if false d f = by_case (next_is m.Case ts) refl f

    module _ (list : Read Statements) (inner_sound : Sound IsInner list) (no_longer : NoLonger IsInner) (inner_steady : Steady list) (inner_viable : Viable (Any IsInner) list) where
      branch_viable : (opening : Mark) → Viable (Any (IsBranch E IsInner opening)) (branch_at expr list opening)
      unfolding branch_at
      branch_viable opening ts =
          let at = offset_at ts in
          let B : Span = Any (IsBranch E IsInner opening) in
          viable_expect B opening (λ begin. expr begin >>= λ c. expect m.Then c.1 >>= λ rest. list rest >>= λ xs. Ok ((at, c.0, xs.0), xs.1))
          (viable_then (Marked opening B) expr (λ c. expect m.Then c.1 >>= λ rest. list rest >>= λ xs. Ok ((at, c.0, xs.0), xs.1)) steady
          (λ mid. goes_as mid (expr mid) (λ rest. (closing m.Then ∷ rest, λ us h s e. ((s, h.0, no_statement), a_condition h.1 (empty rest)))) (viable mid))
          (λ c. viable_expect (Behind expr c (Marked opening B)) m.Then (λ rest. list rest >>= λ xs. Ok ((at, c, xs.0), xs.1))
          (λ on. goes_done (Marked m.Then (Behind expr c (Marked opening B))) on (λ xs. Ok ((at, c, xs.0), xs.1)) (list on) (λ xs. tt)
          (goes_as on (list on) (λ rest. (rest, λ us h s' e' mid d s e. ((s, c, h.0), a_condition (is_read E expr sound mid c _ d) h.1))) (inner_viable on))))) ts

      else_viable : Viable (Any (IsElse E IsInner)) (else_at list)
      unfolding else_at
      else_viable =
          viable_may (Any (IsElse E IsInner)) m.Else list (λ ts. Ok (no_statement, ts))
          (λ mid. goes_as mid (list mid) (λ rest. (rest, λ us h s e. (h.0, present h.1))) (inner_viable mid)) (λ ts. tt)

      read_branch : (opening : Mark) → Steady (branch_at expr list opening)
      read_branch = branch_steady E expr sound short steady IsInner list inner_sound no_longer inner_steady

      is_branch : (opening : Mark) (ts : List Token) (b : Branch) (rest : List Token) → branch_at expr list opening ts ≡ Ok (b, rest) → IsBranch E IsInner opening ts b rest
      is_branch opening = is_read (IsBranch E IsInner opening) (branch_at expr list opening) (branch_sound E expr sound IsInner list inner_sound opening)

      is_elsifs : (b : Branch) (ts : List Token) (bs : List Branch) (rest : List Token) → headed b (elsifs_at expr list ts) ≡ Ok (bs, rest) → IsHeaded b (IsBranch E IsInner m.Elsif) ts bs rest
      is_elsifs b = is_read (IsHeaded b (IsBranch E IsInner m.Elsif)) (λ ts. headed b (elsifs_at expr list ts)) (headed_sound (IsBranch E IsInner m.Elsif) (branch_at expr list m.Elsif) (branch_sound E expr sound IsInner list inner_sound m.Elsif) (next_is m.Elsif) b)

      if_viable : Viable (One IsInner) (if_at expr list)
      unfolding if_at
      if_viable =
          let S : Span = One IsInner in
          viable_then S (branch_at expr list m.If) (λ b. headed b.0 (elsifs_at expr list b.1) >>= λ bs. else_at list bs.1 >>= λ xs. expect m.EndIf xs.1 >>= λ rest. Ok (branch (branches bs.0) xs.0, rest)) (read_branch m.If)
          (λ ts. goes_as ts (branch_at expr list m.If ts) (λ rest. (closing m.EndIf ∷ rest, λ us h. (branch (branches (h.0 ∷ [])) no_statement, an_if h.1 none absent))) (branch_viable m.If ts))
          (λ b. let P : Span = Behind (branch_at expr list m.If) b S in
          viable_then P (λ ts. headed b (elsifs_at expr list ts)) (λ bs. else_at list bs.1 >>= λ xs. expect m.EndIf xs.1 >>= λ rest. Ok (branch (branches bs.0) xs.0, rest))
          (steady_headed (next_is m.Elsif) (next_sees m.Elsif) (branch_at expr list m.Elsif) (read_branch m.Elsif) (elsif_shrinks E expr sound short steady IsInner list inner_sound no_longer inner_steady) b)
          (λ mid. goes_done P mid (λ xs. Ok (b ∷ xs.0, xs.1)) (elsifs_at expr list mid) (λ xs. tt)
          (goes_as mid (elsifs_at expr list mid) (λ rest. (closing m.EndIf ∷ rest, λ us h all d. (branch (branches (b ∷ h.0)) no_statement, an_if (is_branch m.If all b us d) h.1 absent)))
          (while_viable (IsBranch E IsInner m.Elsif) (branch_at expr list m.Elsif) (branch_sound E expr sound IsInner list inner_sound m.Elsif) (read_branch m.Elsif) (branch_viable m.Elsif) (next_is m.Elsif) (length mid) mid)))
          (λ bs on. goes_done (Behind (λ ts. headed b (elsifs_at expr list ts)) bs P) on (λ xs. expect m.EndIf xs.1 >>= λ rest. Ok (branch (branches bs) xs.0, rest)) (else_at list on) (λ xs. shallow_closing m.EndIf xs.1 (λ rest. (branch (branches bs) xs.0, rest)))
          (goes_as on (else_at list on) (λ rest. (closing m.EndIf ∷ rest, λ us h mid d' all d. (branch (branches bs) h.0, if_of E expr sound IsInner list inner_sound (is_branch m.If all b mid d) (is_elsifs b mid bs us d') h.1))) (else_viable on))))

      arm_viable : Viable (Any (IsArm E IsInner)) (arm_at list)
      unfolding arm_at
      arm_viable =
          let A : Span = Any (IsArm E IsInner) in
          viable_then A (list_at m.Comma label_at) (λ ls. expect m.Colon ls.1 >>= λ rest. list rest >>= λ xs. Ok ((ls.0, xs.0), xs.1)) labels_steady
          (λ ts. goes_shallow A ts (list_at m.Comma label_at ts) (separated_shallow label_at label_shallow m.Comma (length ts) ts))
          (λ ls. viable_expect (Behind (list_at m.Comma label_at) ls A) m.Colon (λ rest. list rest >>= λ xs. Ok ((ls, xs.0), xs.1))
          (λ on. goes_done (Marked m.Colon (Behind (list_at m.Comma label_at) ls A)) on (λ xs. Ok ((ls, xs.0), xs.1)) (list on) (λ xs. tt)
          (goes_as on (list on) (λ rest. (rest, λ us h s e all d. ((ls, h.0), a_labelled (is_read (IsSeparated m.Comma IsLabel) (list_at m.Comma label_at) labels_sound all ls _ d) h.1))) (inner_viable on))))

      read_arm : Steady (arm_at list)
      read_arm = arm_steady E expr sound short steady IsInner list inner_sound no_longer inner_steady

      arms_sound : Sound (IsArm E IsInner) (arm_at list)
      arms_sound = arm_sound E expr sound IsInner list inner_sound

      is_arms : (a : Arm) (ts : List Token) (others : List Arm) (rest : List Token) → headed a (arms_at list ts) ≡ Ok (others, rest) → IsHeaded a (IsArm E IsInner) ts others rest
      is_arms a = is_read (IsHeaded a (IsArm E IsInner)) (λ ts. headed a (arms_at list ts)) (headed_sound (IsArm E IsInner) (arm_at list) arms_sound begins_integer a)

      case_viable : Viable (One IsInner) (case_at expr list)
      unfolding case_at
      case_viable ts =
          let at = offset_at ts in
          let S : Span = Marked m.Case (One IsInner) in
          viable_expect (One IsInner) m.Case (λ begin. expr begin >>= λ x. expect m.Of x.1 >>= λ rest. arm_at list rest >>= λ a. headed a.0 (arms_at list a.1) >>= λ others. else_at list others.1 >>= λ xs. expect m.EndCase xs.1 >>= λ last. Ok (select at x.0 (arms others.0) xs.0, last))
          (viable_then S expr (λ x. expect m.Of x.1 >>= λ rest. arm_at list rest >>= λ a. headed a.0 (arms_at list a.1) >>= λ others. else_at list others.1 >>= λ xs. expect m.EndCase xs.1 >>= λ last. Ok (select at x.0 (arms others.0) xs.0, last)) steady
          (λ mid. goes_as mid (expr mid) (λ rest. (closing m.Of ∷ nought ∷ closing m.Colon ∷ closing m.EndCase ∷ rest, λ us h s e. (_, a_case h.1 (a_labelled (last (one unsigned)) (empty (closing m.EndCase ∷ rest))) none absent))) (viable mid))
          (λ x. let P : Span = Marked m.Of (Behind expr x S) in
          viable_expect (Behind expr x S) m.Of (λ rest. arm_at list rest >>= λ a. headed a.0 (arms_at list a.1) >>= λ others. else_at list others.1 >>= λ xs. expect m.EndCase xs.1 >>= λ last. Ok (select at x (arms others.0) xs.0, last))
          (viable_then P (arm_at list) (λ a. headed a.0 (arms_at list a.1) >>= λ others. else_at list others.1 >>= λ xs. expect m.EndCase xs.1 >>= λ last. Ok (select at x (arms others.0) xs.0, last)) read_arm
          (λ mid. goes_as mid (arm_at list mid) (λ rest. (closing m.EndCase ∷ rest, λ us h s' e' all d s e. (select s x (arms (h.0 ∷ [])) no_statement, a_case (is_read E expr sound all x _ d) h.1 none absent))) (arm_viable mid))
          (λ a. let Q : Span = Behind (arm_at list) a P in
          viable_then Q (λ ts. headed a (arms_at list ts)) (λ others. else_at list others.1 >>= λ xs. expect m.EndCase xs.1 >>= λ last. Ok (select at x (arms others.0) xs.0, last))
          (steady_headed begins_integer integer_sees (arm_at list) read_arm (arm_shrinks E expr sound short steady IsInner list inner_sound no_longer inner_steady) a)
          (λ mid. goes_done Q mid (λ xs. Ok (a ∷ xs.0, xs.1)) (arms_at list mid) (λ xs. tt)
          (goes_as mid (arms_at list mid) (λ rest. (closing m.EndCase ∷ rest, λ us h all' d' s' e' all d s e. (select s x (arms (a ∷ h.0)) no_statement, a_case (is_read E expr sound all x _ d) (is_read (IsArm E IsInner) (arm_at list) arms_sound all' a us d') h.1 absent)))
          (while_viable (IsArm E IsInner) (arm_at list) arms_sound read_arm arm_viable begins_integer (length mid) mid)))
          (λ others on. goes_done (Behind (λ ts. headed a (arms_at list ts)) others Q) on (λ xs. expect m.EndCase xs.1 >>= λ last. Ok (select at x (arms others) xs.0, last)) (else_at list on) (λ xs. shallow_closing m.EndCase xs.1 (λ last. (select at x (arms others) xs.0, last)))
          (goes_as on (else_at list on) (λ rest. (
            closing m.EndCase ∷ rest,
            λ us h all'' d'' all' d' s' e' all d s e. (
              select s x (arms others) h.0,
              case_of E expr sound IsInner list inner_sound (is_read E expr sound all x _ d) (is_read (IsArm E IsInner) (arm_at list) arms_sound all' a all'' d') (is_arms a all'' others us d'') h.1,
            ),
          )) (else_viable on))))))) ts

      bound_viable : Viable (Any (IsBound E)) (bound_at expr)
      unfolding bound_at
      bound_viable ts =
          goes_done (Any (IsBound E)) ts (λ x. Ok (record { value = x.0; plain = is_number (take (length ts - length x.1) ts) }, x.1)) (expr ts) (λ x. tt) (goes_as ts (expr ts) (λ rest. (rest, λ us p. (_, a_bound p.1))) (viable ts))

      abbrev bound_keeps : Steady (bound_at expr)
      bound_keeps = bound_steady E expr sound short steady IsInner list inner_sound no_longer inner_steady

      abbrev bound_reads : Sound (IsBound E) (bound_at expr)
      bound_reads = bound_sound E expr sound IsInner list inner_sound

      head_viable : Viable (Any (IsHead E expr sound IsInner list inner_sound)) (head_at expr)
      unfolding head_at
      head_viable =
          let H : Span = Any (IsHead E expr sound IsInner list inner_sound) in
          viable_then H name_at (λ x. expect m.Assign x.1 >>= λ begin. bound_at expr begin >>= λ a. expect m.To a.1 >>= λ rest. bound_at expr rest >>= λ b. step_at b.1 >>= λ c. expect m.Do c.1 >>= λ body. Ok ((x.0, a.0, b.0, c.0), body)) steady_name
          (λ ts. goes_shallow H ts (name_at ts) (shallow_name ts))
          (λ x. let P : Span = Marked m.Assign (Behind name_at x H) in
          viable_expect (Behind name_at x H) m.Assign (λ begin. bound_at expr begin >>= λ a. expect m.To a.1 >>= λ rest. bound_at expr rest >>= λ b. step_at b.1 >>= λ c. expect m.Do c.1 >>= λ body. Ok ((x, a.0, b.0, c.0), body))
          (viable_then P (bound_at expr) (λ a. expect m.To a.1 >>= λ rest. bound_at expr rest >>= λ b. step_at b.1 >>= λ c. expect m.Do c.1 >>= λ body. Ok ((x, a.0, b.0, c.0), body)) bound_keeps
          (λ mid. goes_as mid (bound_at expr mid) (λ rest. (closing m.To ∷ nought ∷ closing m.Do ∷ rest, λ us h s e all d. (_, a_front (is_name all x _ d) h.1 (a_bound (alone (closing m.Do ∷ rest))) no_step))) (bound_viable mid))
          (λ a. let Q : Span = Marked m.To (Behind (bound_at expr) a P) in
          viable_expect (Behind (bound_at expr) a P) m.To (λ rest. bound_at expr rest >>= λ b. step_at b.1 >>= λ c. expect m.Do c.1 >>= λ body. Ok ((x, a, b.0, c.0), body))
          (viable_then Q (bound_at expr) (λ b. step_at b.1 >>= λ c. expect m.Do c.1 >>= λ body. Ok ((x, a, b.0, c.0), body)) bound_keeps
          (λ mid. goes_as mid (bound_at expr mid) (λ rest. (closing m.Do ∷ rest, λ us h s' e' all' d' s e all d. ((x, a, h.0, None), a_front (is_name all x _ d) (is_read (IsBound E) (bound_at expr) bound_reads all' a _ d') h.1 no_step))) (bound_viable mid))
          (λ b mid. goes_shallow (Behind (bound_at expr) b Q) mid (step_at mid >>= λ c. expect m.Do c.1 >>= λ body. Ok ((x, a, b, c.0), body)) (shallow_then _ (step_at mid) (option_shallow m.By mid) (λ c. shallow_closing m.Do c.1 (λ body. ((x, a, b, c.0), body)))))))))

      for_viable : Viable (One IsInner) (for_at expr list)
      unfolding for_at
      for_viable ts =
          let at = offset_at ts in
          let S : Span = Marked m.For (One IsInner) in
          viable_expect (One IsInner) m.For (λ begin. head_at expr begin >>= λ h. list h.1 >>= λ xs. expect m.EndFor xs.1 >>= λ last. Ok (repeat at h.0.0 h.0.1 h.0.2 h.0.3 xs.0, last))
          (viable_then S (head_at expr) (λ h. list h.1 >>= λ xs. expect m.EndFor xs.1 >>= λ last. Ok (repeat at h.0.0 h.0.1 h.0.2 h.0.3 xs.0, last)) (head_steady E expr sound short steady IsInner list inner_sound no_longer inner_steady)
          (λ mid. goes_as mid (head_at expr mid) (λ rest. (closing m.EndFor ∷ rest, λ us h s e. (_, for_of E expr sound IsInner list inner_sound h.0 h.1 (empty (closing m.EndFor ∷ rest))))) (head_viable mid))
          (λ h on. goes_done (Behind (head_at expr) h S) on (λ xs. expect m.EndFor xs.1 >>= λ last. Ok (repeat at h.0 h.1 h.2 h.3 xs.0, last)) (list on) (λ xs. shallow_closing m.EndFor xs.1 (λ last. (repeat at h.0 h.1 h.2 h.3 xs.0, last)))
          (goes_as on (list on) (λ rest. (closing m.EndFor ∷ rest, λ us p all d s e. (_, for_of E expr sound IsInner list inner_sound h (is_read (IsHead E expr sound IsInner list inner_sound) (head_at expr) (head_sound E expr sound IsInner list inner_sound) all h us d) p.1))) (inner_viable on)))) ts

      block_viable : Viable (One IsInner) (block_at expr list)
      unfolding block_at
      block_viable ts =
          goes_if (One IsInner) ts (next_is m.If ts) (if_at expr list ts) (cond (next_is m.Case ts) (case_at expr list ts) (for_at expr list ts)) (if_viable ts)
          (goes_if (One IsInner) ts (next_is m.Case ts) (case_at expr list ts) (for_at expr list ts) (case_viable ts) (for_viable ts))

  -- ---- lists that nest

  nothing : (depth : ℕ) (ts : List Token) → IsBody E depth ts no_statement ts
  nothing zero ts = end
  nothing (suc depth) ts = end

  -- what is read where so many may nest is in the grammar where one more may
  pub body_wide : (depth : ℕ) → Sound (IsBody E (suc depth)) (body_at expr depth)
  unfolding nested_at
  body_wide zero = list_sound (IsStatement E (IsBody E zero)) (statement_at expr (nested_at expr zero)) (statement_sound E expr sound (IsBody E zero) (nested_at expr zero) (λ ts. tt))
  body_wide (suc depth) =
      list_sound (IsStatement E (IsBody E (suc depth))) (statement_at expr (nested_at expr (suc depth)))
      (statement_sound E expr sound (IsBody E (suc depth)) (nested_at expr (suc depth)) (block_sound E expr sound (IsBody E (suc depth)) (body_at expr depth) (body_wide depth)))

  steady_body : (depth : ℕ) → Steady (body_at expr depth)
  steady_body = body_steady E expr sound short steady

  of_blocks : (IsInner : Gram Statements) (block : Read Statement) → NoLonger IsInner → Sound (IsStatement E IsInner) block → Steady block → ((ts : List Token) → begins_block ts ≡ true → GoesOn (One IsInner) ts (block ts)) → Viable (Any (IsList (IsStatement E IsInner))) (entries_at (statement_at expr block))
  of_blocks IsInner block no_longer block_sound steady_block h =
      list_viable (IsStatement E IsInner) (statement_at expr block) (statement_sound E expr sound IsInner block block_sound) (statement_shorter E short IsInner no_longer)
      (statement_steady E expr sound short steady block steady_block) (statement_viable IsInner block h)

  pub body_viable : (depth : ℕ) → Viable (Any (IsBody E (suc depth))) (body_at expr depth)
  unfolding nested_at
  body_viable zero = of_blocks (IsBody E zero) (nested_at expr zero) (body_no_longer E short zero) (λ ts. tt) steady_deep (opened_viable (IsBody E zero) (nothing zero))
  body_viable (suc depth) =
      of_blocks (IsBody E (suc depth)) (nested_at expr (suc depth)) (body_no_longer E short (suc depth))
      (block_sound E expr sound (IsBody E (suc depth)) (body_at expr depth) (body_wide depth))
      (block_steady E expr sound short steady (IsBody E (suc depth)) (body_at expr depth) (body_wide depth) (body_no_longer E short (suc depth)) (steady_body depth))
      (λ ts e. block_viable (IsBody E (suc depth)) (nothing (suc depth)) (body_at expr depth) (body_wide depth) (body_no_longer E short (suc depth)) (steady_body depth) (body_viable depth) ts)

-- ---- algorithms

-- What is read within limits is an algorithm within limits that are one more.
pub algorithm_wide : (n k : ℕ) → Sound (IsAlgorithm (suc n) (suc k)) (algorithm_at n k)
algorithm_wide n k = body_wide (IsExpression (suc n)) (expression_at n) (expression_wide n) (expression_shorter (suc n)) (expression_steady n) (expression_alone (suc n)) (expression_viable n) k

-- Where an algorithm is too deep, one that nests one deeper begins with the tokens up to there.
pub algorithm_viable : (n k : ℕ) → Viable (Any (IsAlgorithm (suc n) (suc k))) (algorithm_at n k)
algorithm_viable n k = body_viable (IsExpression (suc n)) (expression_at n) (expression_wide n) (expression_shorter (suc n)) (expression_steady n) (expression_alone (suc n)) (expression_viable n) k
