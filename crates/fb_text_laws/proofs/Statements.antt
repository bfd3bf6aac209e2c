-- Wherever reading of statements stops, the tokens before that place begin an algorithm that nests no deeper than is read.
use Rattle.std.proofs.Common.{ℕ, zero, suc, true, false, cond, List, ◌∷◌, Option, None, Some, Ok}
use Rattle.fb_words.specs.declared.mark.Mark.{Mark}
use Rattle.fb_words.specs.declared.mark.Mark.TheVariants as m
use Rattle.fb_model.specs.Tokens.{Token, token, mark}
use Rattle.fb_model.specs.Productions.{Gram, Word, IsName, IsMany, IsSeparated}
use Rattle.fb_model.specs.Trees.{Constant}
use Rattle.fb_model.specs.StructuredText.{Expression, Bound, Statement, Statements, no_statement}
use Rattle.fb_model.specs.StructuredTextGrammar.{IsInteger, unsigned, signed, IsLabel, one, from_to, IsStep, no_step, a_step, IsList, IsBound, a_bound, IsBranch, a_condition, IsArm, a_labelled, IsElse, absent, present, IsStatement, an_assignment, to_element, an_if, a_case, a_for, IsBody, IsExpression, IsAlgorithm}
use Rattle.fb_read.specs.Reading.{Read, ◌>>=◌, next_is, name_at, list_at}
use Rattle.st_parse.specs.ConstantReading.{number_at}
use Rattle.st_parse.specs.ExpressionReading.{expression_at}
use Rattle.st_parse.specs.Reading.{headed, begins_integer, begins_block, begins_entry, integer_at, optional_at, label_at, step_at, assign_at, element_at, assignment_at, branch_at, else_at, elsifs_at, if_at, arm_at, arms_at, case_at, bound_at, head_at, for_at, block_at, statement_at, entry_at, entries_at, nested_at, body_at, algorithm_at}
use Rattle.st_parse.proofs.Sound.{IsEntry, a_lone, an_entry, list_of}
use Rattle.fb_text_laws.proofs.Steps.{Span, Any, Marked, Behind, Fine, stopped, fine_done, fine_as, fine_then, fine_last, fine_if, fine_expect, fine_may}
use Rattle.fb_text_laws.proofs.Items.{all_fine, list_fine}
use Rattle.fb_text_laws.proofs.Words.{Num, num, number_fine, name_fine}
use Rattle.fb_text_laws.proofs.Expressions.{expression_fine}

-- ---- labels and steps

signed_of : (us rest : List Token) → Num us rest → Marked m.Minus (Any IsInteger) us rest
signed_of us rest num s e = (_, signed)

unsigned_of : (us rest : List Token) → Num us rest → Any IsInteger us rest
unsigned_of us rest num = (_, unsigned)

pub integer_fine : Fine (Any IsInteger) integer_at
unfolding integer_at
integer_fine =
    fine_may (Any IsInteger) m.Minus (λ l. number_at true) (number_at false) (λ l. fine_as (Marked m.Minus (Any IsInteger)) (number_at true) signed_of (number_fine true))
    (fine_as (Any IsInteger) (number_at false) unsigned_of (number_fine false))

option_fine : (P : Span) (k : Mark) → ((us rest : List Token) → Any IsInteger us rest → Marked k P us rest) → ((us : List Token) → P us us) → Fine P (optional_at k)
unfolding optional_at
option_fine P k h g =
    fine_may P k (λ l us. integer_at us >>= λ c. Ok (Some c.0, c.1)) (λ ts. Ok (None, ts)) (λ l. fine_last (Marked k P) integer_at _ (fine_as (Marked k P) integer_at h integer_fine)) (fine_done P (λ ts. None) g)

label_fine : Fine (Any IsLabel) label_at
unfolding label_at
label_fine =
    fine_then (Any IsLabel) (Any IsInteger) integer_at _ integer_fine (λ l c.
    fine_last (Behind (Any IsInteger) (Any IsLabel)) (optional_at m.DotDot) _ (option_fine (Behind (Any IsInteger) (Any IsLabel)) m.DotDot (λ us rest d s e all p. (_, from_to p.1 d.1)) (λ us all p. (_, one p.1))))

step_fine : Fine (Any IsStep) step_at
step_fine = option_fine (Any IsStep) m.By (λ us rest c s e. (_, a_step c.1)) (λ us. (_, no_step))

module _ (E : Gram Expression) (expr : Read Expression) (fine : Fine (Any E) expr) where
  -- what stands between FOR and DO
  data Head : List Token → List Token → Type 0 where
    head : {s₁ e₁ s₂ e₂ s₃ e₃ : ℕ} {ts ts₁ ts₂ ts₃ ts₄ : List Token} {x : Word} {a b : Bound} {c : Option Constant}
        → IsName ts x (token (mark m.Assign) s₁ e₁ ∷ ts₁) → IsBound E ts₁ a (token (mark m.To) s₂ e₂ ∷ ts₂) → IsBound E ts₂ b ts₃ → IsStep ts₃ c (token (mark m.Do) s₃ e₃ ∷ ts₄) → Head ts ts₄

  bound_fine : Fine (Any (IsBound E)) (bound_at expr)
  unfolding bound_at
  bound_fine = fine_last (Any (IsBound E)) expr _ (fine_as (Any (IsBound E)) expr (λ us rest h. (_, a_bound h.1)) fine)

  head_fine : Fine Head (head_at expr)
  unfolding head_at
  head_fine =
      fine_then Head (Any IsName) name_at _ name_fine (λ l x.
      fine_expect _ m.Assign _ (λ l.
      fine_then _ (Any (IsBound E)) (bound_at expr) _ bound_fine (λ l a.
      fine_expect _ m.To _ (λ l.
      fine_then _ (Any (IsBound E)) (bound_at expr) _ bound_fine (λ l b.
      fine_then _ (Any IsStep) step_at _ step_fine (λ l c.
      fine_expect _ m.Do _ (λ l. fine_done _ _ (λ us s₃ e₃ ts₃ c ts₂ b s₂ e₂ ts₁ a s₁ e₁ all x. head x.1 a.1 b.1 c.1))))))))

  -- ---- statements, where the lists inside are read so

  module _ (L : Gram Statements) where
    abbrev One : Span
    One = Any (IsStatement E L)

    assign_fine : (x : Word) → Fine (Behind (Any IsName) One) (assign_at expr x)
    unfolding assign_at
    assign_fine x = fine_expect (Behind (Any IsName) One) m.Assign _ (λ l. fine_last _ expr _ (fine_as (Marked m.Assign (Behind (Any IsName) One)) expr (λ us rest v s e all x. (_, an_assignment x.1 v.1)) fine))

    element_fine : (x : Word) → Fine (Behind (Any IsName) One) (element_at expr x)
    unfolding element_at
    element_fine x =
        fine_expect (Behind (Any IsName) One) m.LBracket _ (λ l.
        fine_then _ (Any E) expr _ fine (λ l i.
        fine_expect _ m.RBracket _ (λ l.
        fine_expect _ m.Assign _ (λ l. fine_last _ expr _ (fine_as _ expr (λ us rest v s'' e'' s' e' mid i s e all x. (_, to_element x.1 i.1 v.1)) fine)))))

    assignment_fine : Fine One (assignment_at expr)
    unfolding assignment_at
    assignment_fine = fine_then One (Any IsName) name_at _ name_fine (λ l x. fine_if (Behind (Any IsName) One) (next_is m.LBracket) (element_at expr x) (assign_at expr x) (element_fine x) (assign_fine x))

    statement_fine : (block : Read Statement) → Fine One block → Fine One (statement_at expr block)
    unfolding statement_at
    statement_fine block h = fine_if One begins_block block (assignment_at expr) h assignment_fine

    module _ (list : Read Statements) (inner : Fine (Any L) list) where
      branch_fine : (opening : Mark) → Fine (Any (IsBranch E L opening)) (branch_at expr list opening)
      unfolding branch_at
      branch_fine opening =
          fine_expect (Any (IsBranch E L opening)) opening _ (λ l.
          fine_then _ (Any E) expr _ fine (λ l c.
          fine_expect _ m.Then _ (λ l. fine_last _ list _ (fine_as _ list (λ us rest xs s' e' mid c s e. (_, a_condition c.1 xs.1)) inner))))

      else_fine : Fine (Any (IsElse E L)) (else_at list)
      unfolding else_at
      else_fine = fine_may (Any (IsElse E L)) m.Else (λ l. list) (λ ts. Ok (no_statement, ts)) (λ l. fine_as _ list (λ us rest xs s e. (_, present xs.1)) inner) (fine_done _ _ (λ us. (_, absent)))

      abbrev Elsifs : Span
      Elsifs = Any (IsMany (IsBranch E L m.Elsif))

      elsifs_fine : Fine Elsifs (elsifs_at expr list)
      elsifs_fine = all_fine (IsBranch E L m.Elsif) (next_is m.Elsif) (branch_at expr list m.Elsif) (λ ts e. (branch_fine m.Elsif).goes_on ts)

      if_fine : Fine One (if_at expr list)
      unfolding if_at
      if_fine =
          fine_then One (Any (IsBranch E L m.If)) (branch_at expr list m.If) _ (branch_fine m.If) (λ l b.
          fine_then _ Elsifs (λ ts. headed b (elsifs_at expr list ts)) _ (fine_last Elsifs (elsifs_at expr list) _ elsifs_fine) (λ l bs.
          fine_then _ (Any (IsElse E L)) (else_at list) _ else_fine (λ l xs.
          fine_expect _ m.EndIf _ (λ l. fine_done _ _ (λ us s e on xs mid bs all b. (_, an_if b.1 bs.1 xs.1))))))

      arm_fine : Fine (Any (IsArm E L)) (arm_at list)
      unfolding arm_at
      arm_fine =
          fine_then (Any (IsArm E L)) (Any (IsSeparated m.Comma IsLabel)) (list_at m.Comma label_at) _ (list_fine IsLabel label_at label_fine m.Comma) (λ l ls.
          fine_expect _ m.Colon _ (λ l. fine_last _ list _ (fine_as _ list (λ us rest xs s e all ls. (_, a_labelled ls.1 xs.1)) inner)))

      abbrev Arms : Span
      Arms = Any (IsMany (IsArm E L))

      arms_fine : Fine Arms (arms_at list)
      arms_fine = all_fine (IsArm E L) begins_integer (arm_at list) (λ ts e. arm_fine.goes_on ts)

      case_fine : Fine One (case_at expr list)
      unfolding case_at
      case_fine =
          fine_expect One m.Case _ (λ l.
          fine_then _ (Any E) expr _ fine (λ l x.
          fine_expect _ m.Of _ (λ l.
          fine_then _ (Any (IsArm E L)) (arm_at list) _ arm_fine (λ l a.
          fine_then _ Arms (λ ts. headed a (arms_at list ts)) _ (fine_last Arms (arms_at list) _ arms_fine) (λ l others.
          fine_then _ (Any (IsElse E L)) (else_at list) _ else_fine (λ l xs.
          fine_expect _ m.EndCase _ (λ l. fine_done _ _ (λ us s'' e'' ts₃ xs ts₂ others ts₁ a s' e' all x s e. (_, a_case x.1 a.1 others.1 xs.1)))))))))

      for_of : {s e s' e' : ℕ} {ts mid rest : List Token} {xs : Statements} → Head ts mid → L mid xs (token (mark m.EndFor) s' e' ∷ rest) → One (token (mark m.For) s e ∷ ts) rest
      for_of (head p q r t) g = (_, a_for p q r t g)

      for_fine : Fine One (for_at expr list)
      unfolding for_at
      for_fine =
          fine_expect One m.For _ (λ l.
          fine_then _ Head (head_at expr) _ head_fine (λ l h.
          fine_then _ (Any L) list _ inner (λ l xs.
          fine_expect _ m.EndFor _ (λ l. fine_done _ _ (λ us s' e' mid xs all h s e. for_of h xs.1)))))

      block_fine : Fine One (block_at expr list)
      unfolding block_at
      block_fine =
          fine_if One (next_is m.If) (if_at expr list) (λ ts. cond (next_is m.Case ts) (case_at expr list ts) (for_at expr list ts)) if_fine
          (fine_if One (next_is m.Case) (case_at expr list) (for_at expr list) case_fine for_fine)

  -- ---- lists of statements

  entry_fine : (G : Gram Statement) (item : Read Statement) → Fine (Any G) item → Fine (Any (IsEntry G)) (entry_at item)
  unfolding entry_at
  entry_fine G item h =
      fine_may (Any (IsEntry G)) m.Semicolon (λ l us. Ok (None, us)) _ (λ l. fine_done _ (λ us. None) (λ us s e. (_, a_lone)))
      (fine_then _ (Any G) item _ h (λ l x. fine_expect _ m.Semicolon _ (λ l. fine_done _ _ (λ us s e all x. (_, an_entry x.1)))))

  list_of_fine : (L : Gram Statements) (block : Read Statement) → Fine (One L) block → Fine (Any (IsList (IsStatement E L))) (entries_at (statement_at expr block))
  unfolding entries_at
  list_of_fine L block h =
      let G = IsStatement E L in
      let item = statement_at expr block in
      fine_last _ _ _ (fine_as (Any (IsList G)) _ (λ us rest t. (_, list_of t.1)) (all_fine (IsEntry G) begins_entry (entry_at item) (λ ts e. (entry_fine G item (statement_fine L block h)).goes_on ts)))

  body_fine : (depth : ℕ) → Fine (Any (IsBody E depth)) (body_at expr depth)
  unfolding nested_at
  body_fine zero =
      let a = assignment_fine (λ ts xs rest. ⊥) in
      list_of_fine (λ ts xs rest. ⊥) (nested_at expr zero) (record { sample = a.sample; fills = a.fills; goes_on = λ ts. stopped (One (λ ts xs rest. ⊥)) a.fills ts })
  body_fine (suc depth) = list_of_fine (IsBody E depth) (nested_at expr (suc depth)) (block_fine (IsBody E depth) (body_at expr depth) (body_fine depth))

pub algorithm_fine : (n k : ℕ) → Fine (Any (IsAlgorithm n k)) (algorithm_at n k)
algorithm_fine n k = body_fine (IsExpression n) (expression_at n) (expression_fine n) k
