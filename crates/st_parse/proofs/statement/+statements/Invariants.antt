use Rattle.std.proofs.Common.{◌≡◌, ◌+◌, ◌-◌, ◌*◌, ◌++◌, length, List, Option, map}
use Rattle.fb_lex.specs.Views.{tokens_of}
use Rattle.fb_words.specs.declared.mark.Mark.TheVariants as m
use Rattle.fb_model.specs.StructuredText.{Statement}
use Rattle.fb_model.specs.StructuredTextGrammar.{most_nested}
use Rattle.fb_read.specs.Reading.{next_is, while_at}
use Rattle.fb_read.proofs.Lists.{with_front}
use Rattle.fb_tree.specs.Algorithms.{stmt_of, branch_of, arm_of}
use Rattle.st_parse.specs.ExpressionReading.{expression_at}
use Rattle.st_parse.specs.Reading.{headed, begins_entry, begins_integer, entry_at, statement_at, nested_at, body_at, branch_at, elsifs_at, arm_at, arms_at, statements_in}
use Rattle.st_parse.proofs.statement.+statements.Given as goal

-- ---- what gets less with each call

abbrev pub decreases-list : goal.decreases-list
decreases-list l = 16 * l.depth + 4

abbrev pub decreases-entry : goal.decreases-entry
decreases-entry l = 16 * l.depth + 3

abbrev pub decreases-statement : goal.decreases-statement
decreases-statement l = 16 * l.depth + 2

abbrev pub decreases-nested : goal.decreases-nested
decreases-nested l = 16 * l.depth + 1

abbrev pub decreases-block : goal.decreases-block
decreases-block l = 16 * l.depth + 8

abbrev pub decreases-choice : goal.decreases-choice
decreases-choice l = 16 * l.depth + 7

abbrev pub decreases-selection : goal.decreases-selection
decreases-selection l = 16 * l.depth + 7

abbrev pub decreases-repetition : goal.decreases-repetition
decreases-repetition l = 16 * l.depth + 7

abbrev pub decreases-branches : goal.decreases-branches
decreases-branches l = 16 * l.depth + 6

abbrev pub decreases-arms : goal.decreases-arms
decreases-arms l = 16 * l.depth + 6

abbrev pub decreases-branch : goal.decreases-branch
decreases-branch l = 16 * l.depth + 5

abbrev pub decreases-arm : goal.decreases-arm
decreases-arm l = 16 * l.depth + 5

abbrev pub decreases-otherwise : goal.decreases-otherwise
decreases-otherwise l = 16 * l.depth + 5

-- ---- the items so far and those that are still read are all of them

abbrev pub invariant-list-loop : goal.invariant-list-loop
invariant-list-loop l =
    let read = while_at begins_entry (entry_at (statement_at (expression_at most_nested) (nested_at (expression_at most_nested) l.depth))) in
    (es : List (Option Statement)) × (map stmt_of l.list.items ≡ statements_in es)
    × (with_front (λ xs. es ++ xs) (read (length (tokens_of l.tokens) - l.counter) (tokens_of l.rest)) ≡ read (length (tokens_of l.tokens)) (tokens_of l.tokens))

abbrev pub invariant-branches-loop : goal.invariant-branches-loop
invariant-branches-loop l =
    let list = body_at (expression_at most_nested) l.depth in
    let read = while_at (next_is m.Elsif) (branch_at (expression_at most_nested) list m.Elsif) in
    with_front (λ xs. map branch_of l.branches.items ++ xs) (read (length (tokens_of l.tokens) - l.counter) (tokens_of l.rest)) ≡ headed (branch_of l.fn.first) (elsifs_at (expression_at most_nested) list (tokens_of l.tokens))

abbrev pub invariant-arms-loop : goal.invariant-arms-loop
invariant-arms-loop l =
    let list = body_at (expression_at most_nested) l.depth in
    let read = while_at begins_integer (arm_at list) in
    with_front (λ xs. map arm_of l.arms.items ++ xs) (read (length (tokens_of l.tokens) - l.counter) (tokens_of l.rest)) ≡ headed (arm_of l.fn.first) (arms_at list (tokens_of l.tokens))
