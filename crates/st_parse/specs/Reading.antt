-- Reading algorithms of Structured Text from left to right, production by production.
use Rattle.std.specs.Prelude.{ℕ, zero, suc, ◌-◌, List, [], ◌∷◌, length, take, Bool, true, false, Option, None, Some, Result, Ok, Err, if◌then◌else◌}
use Rattle.fb_words.specs.declared.mark.Mark.{Mark}
use Rattle.fb_words.specs.declared.mark.Mark.TheVariants as m
use Rattle.fb_model.specs.Tokens.{Token}
use Rattle.fb_model.specs.Productions.{Word}
use Rattle.fb_model.specs.Trees.{Constant}
use Rattle.fb_model.specs.StructuredText.{Expression, Label, Bound, Statement, assign, assign_element, branch, select, repeat, Statements, no_statement, statements, Branch, branches, Arm, arms}
use Rattle.fb_model.specs.StructuredTextGrammar.{begins_number, is_number, most_nested, most_nested_statements}
use Rattle.fb_read.specs.Reading.{Wrong, too_deep, Answer, Read, ◌>>=◌, next_is, after, expect, offset_at, name_at, begins_name, all_at, list_at, whole_of}
use Rattle.st_parse.specs.ConstantReading.{number_at}
use Rattle.st_parse.specs.ExpressionReading.{expression_at}

-- ---- items of which one begins

-- what is read behind a first item, with that item
abbrev pub headed : {A : Type 0} → A → Answer (List A) → Answer (List A)
headed x read = read >>= λ xs. Ok (x ∷ xs.0, xs.1)

-- ---- what begins with the next token

-- a number, or the sign of one
abbrev pub begins_integer : List Token → Bool
begins_integer ts = if next_is m.Minus ts then true else begins_number ts

-- a statement that holds lists of statements: IF, CASE or FOR
abbrev pub begins_block : List Token → Bool
begins_block ts = if next_is m.If ts then true else if next_is m.Case ts then true else next_is m.For ts

-- a statement, or a lone semicolon
abbrev pub begins_entry : List Token → Bool
begins_entry ts = if next_is m.Semicolon ts then true else if begins_name ts then true else begins_block ts

-- ---- labels and steps

-- ['-'] number
unfoldable pub integer_at : Read Constant
integer_at ts = if next_is m.Minus ts then number_at true (after ts) else number_at false ts

-- [mark integer]
unfoldable pub optional_at : Mark → Read (Option Constant)
optional_at k ts = if next_is k ts then (integer_at (after ts) >>= λ c. Ok (Some c.0, c.1)) else Ok (None, ts)

-- integer ['..' integer]
unfoldable pub label_at : Read Label
label_at ts = do
  c ← integer_at ts
  d ← optional_at m.DotDot c.1
  Ok (record { low = c.0; high = d.0 }, d.1)

-- [BY integer]
abbrev pub step_at : Read (Option Constant)
step_at = optional_at m.By

-- ---- assignments

-- ':=' expression, behind a name
unfoldable pub assign_at : Read Expression → Word → Read Statement
assign_at expr x ts = do
  rest ← expect m.Assign ts
  v ← expr rest
  Ok (assign x (offset_at ts) v.0, v.1)

-- '[' expression ']' ':=' expression, behind a name
unfoldable pub element_at : Read Expression → Word → Read Statement
element_at expr x ts = do
  begin ← expect m.LBracket ts
  i ← expr begin
  sign ← expect m.RBracket i.1
  rest ← expect m.Assign sign
  v ← expr rest
  Ok (assign_element x (offset_at ts) i.0 (offset_at sign) v.0, v.1)

-- an assignment to a variable or to an element
unfoldable pub assignment_at : Read Expression → Read Statement
assignment_at expr ts = name_at ts >>= λ x. if next_is m.LBracket x.1 then element_at expr x.0 x.1 else assign_at expr x.0 x.1

-- ---- IF, CASE and FOR, where the lists inside are read so

-- (IF | ELSIF) expression THEN list
unfoldable pub branch_at : Read Expression → Read Statements → Mark → Read Branch
branch_at expr list opening ts = do
  begin ← expect opening ts
  c ← expr begin
  rest ← expect m.Then c.1
  xs ← list rest
  Ok ((offset_at ts, c.0, xs.0), xs.1)

-- [ELSE list]
unfoldable pub else_at : Read Statements → Read Statements
else_at list ts = if next_is m.Else ts then list (after ts) else Ok (no_statement, ts)

-- the conditions behind ELSIF
abbrev pub elsifs_at : Read Expression → Read Statements → Read (List Branch)
elsifs_at expr list = all_at (next_is m.Elsif) (branch_at expr list m.Elsif)

-- IF to END_IF
unfoldable pub if_at : Read Expression → Read Statements → Read Statement
if_at expr list ts = do
  b ← branch_at expr list m.If ts
  bs ← headed b.0 (elsifs_at expr list b.1)
  xs ← else_at list bs.1
  rest ← expect m.EndIf xs.1
  Ok (branch (branches bs.0) xs.0, rest)

-- label {',' label} ':' list
unfoldable pub arm_at : Read Statements → Read Arm
arm_at list ts = do
  ls ← list_at m.Comma label_at ts
  rest ← expect m.Colon ls.1
  xs ← list rest
  Ok ((ls.0, xs.0), xs.1)

-- the arms behind the first
abbrev pub arms_at : Read Statements → Read (List Arm)
arms_at list = all_at begins_integer (arm_at list)

-- CASE to END_CASE
unfoldable pub case_at : Read Expression → Read Statements → Read Statement
case_at expr list ts = do
  begin ← expect m.Case ts
  x ← expr begin
  rest ← expect m.Of x.1
  a ← arm_at list rest
  others ← headed a.0 (arms_at list a.1)
  xs ← else_at list others.1
  end ← expect m.EndCase xs.1
  Ok (select (offset_at ts) x.0 (arms others.0) xs.0, end)

-- the first or the last value of a FOR, which is plain where the tokens that it takes are a number
unfoldable pub bound_at : Read Expression → Read Bound
bound_at expr ts = expr ts >>= λ x. Ok (record { value = x.0; plain = is_number (take (length ts - length x.1) ts) }, x.1)

-- name ':=' bound TO bound [BY integer] DO, with the variable, the first and the last value, and the step
unfoldable pub head_at : Read Expression → Read (Word × Bound × Bound × Option Constant)
head_at expr ts = do
  x ← name_at ts
  begin ← expect m.Assign x.1
  a ← bound_at expr begin
  rest ← expect m.To a.1
  b ← bound_at expr rest
  c ← step_at b.1
  body ← expect m.Do c.1
  Ok ((x.0, a.0, b.0, c.0), body)

-- FOR to END_FOR
unfoldable pub for_at : Read Expression → Read Statements → Read Statement
for_at expr list ts = do
  begin ← expect m.For ts
  h ← head_at expr begin
  xs ← list h.1
  end ← expect m.EndFor xs.1
  Ok (repeat (offset_at ts) h.0.0 h.0.1 h.0.2 h.0.3 xs.0, end)

-- IF, CASE or FOR
unfoldable pub block_at : Read Expression → Read Statements → Read Statement
block_at expr list ts = if next_is m.If ts then if_at expr list ts else if next_is m.Case ts then case_at expr list ts else for_at expr list ts

-- ---- lists of statements

-- a statement, where IF, CASE and FOR are read so
unfoldable pub statement_at : Read Expression → Read Statement → Read Statement
statement_at expr block ts = if begins_block ts then block ts else assignment_at expr ts

-- [statement] ';'
unfoldable pub entry_at : Read Statement → Read (Option Statement)
entry_at one ts = if next_is m.Semicolon ts then Ok (None, after ts) else (one ts >>= λ x. expect m.Semicolon x.1 >>= λ rest. Ok (Some x.0, rest))

-- the statements among entries
abbrev pub statements_in : List (Option Statement) → List Statement
statements_in [] = []
statements_in (None ∷ es) = statements_in es
statements_in (Some x ∷ es) = x ∷ statements_in es

-- {[statement] ';'}
unfoldable pub entries_at : Read Statement → Read Statements
entries_at one ts = all_at begins_entry (entry_at one) ts >>= λ es. Ok (statements (statements_in es.0), es.1)

-- IF, CASE or FOR, where so many may nest
unfoldable pub nested_at : Read Expression → ℕ → Read Statement
nested_at expr zero ts = Err (too_deep (length ts))
nested_at expr (suc depth) ts = block_at expr (entries_at (statement_at expr (nested_at expr depth))) ts

-- a list with IF, CASE and FOR nested at most so deep
abbrev pub body_at : Read Expression → ℕ → Read Statements
body_at expr depth = entries_at (statement_at expr (nested_at expr depth))

-- the statements of an algorithm, with expressions and statements nested at most so deep
abbrev pub algorithm_at : ℕ → ℕ → Read Statements
algorithm_at expressions_depth statements_depth = body_at (expression_at expressions_depth) statements_depth

-- an algorithm that is all of the tokens
unfoldable pub whole_at : List Token → Result Statements Wrong
whole_at ts = whole_of (algorithm_at most_nested most_nested_statements) ts
