use Rattle.std.proofs.Common.{◌≡◌, ◌<◌, ◌≤◌, ◌++◌, ◌∷◌, [], length, map, sym, ap, ◌∙◌, arith}
use Rattle.std.proofs.lemmas.Result.{err_from_is_err_and}
use Rattle.std.proofs.lemmas.List.{map_push, length-map}
use Rattle.fb_lex.specs.Views.{token_of, tokens_of}
use Rattle.fb_words.specs.declared.mark.Mark.TheVariants as m
use Rattle.fb_model.specs.StructuredTextGrammar.{most_nested}
use Rattle.fb_tree.specs.Words.{optional}
use Rattle.fb_read.specs.Reading.{next_is, while_at}
use Rattle.fb_tree.specs.Algorithms.{stmt_of, branch_of, arm_of}
use Rattle.st_parse.specs.ExpressionReading.{expression_at}
use Rattle.st_parse.specs.Reading.{headed, begins_entry, begins_integer, entry_at, statement_at, nested_at, body_at, branch_at, elsifs_at, arm_at, arms_at, statements_in}
use Rattle.fb_read.proofs.Lists.{while_goes_on, while_fails, while_stops, while_done}
use Rattle.st_parse.proofs.Entries.{statements_some, statements_none, list_ends, list_fails}
use Rattle.st_parse.proofs.statement.+statements.Goals as goal
use Rattle.st_parse.proofs.statement.+statements.Goals.{list-in-Some+in_ok-push-in-Some, list-in-None}

-- ---- lists of statements

pub list-returns-then-not-begins_entry : goal.list-returns-then-not-begins_entry
list-returns-then-not-begins_entry t c =
    let ts = tokens_of c.args.tokens.now in
    let one = statement_at (expression_at most_nested) (nested_at (expression_at most_nested) c.args.depth) in
    let e = while_stops begins_entry (entry_at one) c.loop.invariant.0 (length ts) c.loop.counter (tokens_of c.loop.rest.now) (while_at begins_entry (entry_at one) (length ts) ts) c.loop.invariant.2 (sym c.begins_entry.ensures ∙ c.if-not-begins_entry.true) in
    list_ends one ts c.loop.invariant.0 (map stmt_of c.loop.list.items) (tokens_of c.loop.rest.now) e c.loop.invariant.1

pub list-returns : goal.list-returns
list-returns t c =
    let ts = tokens_of c.args.tokens.now in
    let one = statement_at (expression_at most_nested) (nested_at (expression_at most_nested) c.args.depth) in
    let past : length ts ≤ c.loop.counter = omega (arith, length-map c.args.tokens.now token_of) in
    let e = while_done begins_entry (entry_at one) c.loop.invariant.0 (length ts) c.loop.counter (tokens_of c.loop.rest.now) (while_at begins_entry (entry_at one) (length ts) ts) c.loop.invariant.2 past in
    list_ends one ts c.loop.invariant.0 (map stmt_of c.loop.list.items) (tokens_of c.loop.rest.now) e c.loop.invariant.1

pub list-returns-in_err-entry : goal.list-returns-in_err-entry
list-returns-in_err-entry t c =
    let ts = tokens_of c.args.tokens.now in
    let one = statement_at (expression_at most_nested) (nested_at (expression_at most_nested) c.args.depth) in
    let within : c.loop.counter < length ts = omega (arith, length-map c.args.tokens.now token_of) in
    let p = err_from_is_err_and c.from_residual.result c.from_residual.ensures.1 in
    rw (p.1, p.2) (list_fails c.in_err-entry.field-0.0 one ts
    (while_fails begins_entry (entry_at one) c.loop.invariant.0 (length ts) c.loop.counter (tokens_of c.loop.rest.now) (while_at begins_entry (entry_at one) (length ts) ts) c.loop.invariant.2 c.in_err-entry.field-0.0 within (sym c.begins_entry.ensures ∙ c.if-not-begins_entry.false) c.in_err-entry.ensures))

pub list-loop-preserved : goal.list-loop-preserved
list-loop-preserved t c =
    let ts = tokens_of c.args.tokens.now in
    let one = statement_at (expression_at most_nested) (nested_at (expression_at most_nested) c.args.depth) in
    let within : c.loop.counter < length ts = omega (arith, length-map c.args.tokens.now token_of) in
    let es = c.loop.invariant.0 in
    let x = optional stmt_of c.in_ok-entry.entry in
    let kept : map stmt_of c.match-entry.list.items ≡ statements_in (es ++ x ∷ []) =
    elim c.match-entry.branch [
      | list-in-Some+in_ok-push-in-Some w ↦ let a = w.list-is in let b = w.in-Some.is in let d = w.in_ok-push-in-Some.ensures.items in rw (a, d, b) (map_push _ c.loop.list.items w.in-Some.statement ∙ ap (λ xs. xs ++ stmt_of w.in-Some.statement ∷ []) c.loop.invariant.1 ∙ sym (statements_some es (stmt_of w.in-Some.statement)))
      | list-in-None w ↦ let a = w.list-is in let b = w.in-None.is in rw (a, b) (c.loop.invariant.1 ∙ sym (statements_none es))
    ] in
    (es ++ x ∷ [], kept, while_goes_on begins_entry (entry_at one) es (length ts) c.loop.counter (tokens_of c.loop.rest.now) (while_at begins_entry (entry_at one) (length ts) ts) c.loop.invariant.2 x (tokens_of c.in_ok-entry.after.now) within (sym c.begins_entry.ensures ∙ c.if-not-begins_entry.false) c.in_ok-entry.ensures)

-- ---- conditions behind ELSIF

pub branches-returns-then-not-next_is : goal.branches-returns-then-not-next_is
branches-returns-then-not-next_is t c =
    let ts = tokens_of c.args.tokens.now in
    let list = body_at (expression_at most_nested) c.args.depth in
    while_stops (next_is m.Elsif) (branch_at (expression_at most_nested) list m.Elsif) (map branch_of c.loop.branches.items) (length ts) c.loop.counter (tokens_of c.loop.rest.now) (headed (branch_of c.args.first) (elsifs_at (expression_at most_nested) list ts)) c.loop.invariant (sym c.next_is.ensures ∙ c.if-not-next_is.true)

pub branches-returns : goal.branches-returns
branches-returns t c =
    let ts = tokens_of c.args.tokens.now in
    let list = body_at (expression_at most_nested) c.args.depth in
    let past : length ts ≤ c.loop.counter = omega (arith, length-map c.args.tokens.now token_of) in
    while_done (next_is m.Elsif) (branch_at (expression_at most_nested) list m.Elsif) (map branch_of c.loop.branches.items) (length ts) c.loop.counter (tokens_of c.loop.rest.now) (headed (branch_of c.args.first) (elsifs_at (expression_at most_nested) list ts)) c.loop.invariant past

pub branches-returns-in_err-branch : goal.branches-returns-in_err-branch
branches-returns-in_err-branch t c =
    let ts = tokens_of c.args.tokens.now in
    let list = body_at (expression_at most_nested) c.args.depth in
    let within : c.loop.counter < length ts = omega (arith, length-map c.args.tokens.now token_of) in
    let p = err_from_is_err_and c.from_residual-in_err-branch.result c.from_residual-in_err-branch.ensures.1 in
    rw (p.1, p.2) (while_fails (next_is m.Elsif) (branch_at (expression_at most_nested) list m.Elsif) (map branch_of c.loop.branches.items) (length ts) c.loop.counter (tokens_of c.loop.rest.now) (headed (branch_of c.args.first) (elsifs_at (expression_at most_nested) list ts)) c.loop.invariant c.in_err-branch.field-0.0 within (sym c.next_is.ensures ∙ c.if-not-next_is.false) c.in_err-branch.ensures)

pub branches-loop-preserved : goal.branches-loop-preserved
branches-loop-preserved t c =
    let ts = tokens_of c.args.tokens.now in
    let list = body_at (expression_at most_nested) c.args.depth in
    let within : c.loop.counter < length ts = omega (arith, length-map c.args.tokens.now token_of) in
    let x = c.in_ok-branch.branch in
    let e : map branch_of c.push-in-loop.new.self.items ≡ map branch_of c.loop.branches.items ++ branch_of x ∷ [] = rw c.in_ok-push-2.ensures.items (map_push _ c.loop.branches.items x) in
    rw e (while_goes_on (next_is m.Elsif) (branch_at (expression_at most_nested) list m.Elsif) (map branch_of c.loop.branches.items) (length ts) c.loop.counter (tokens_of c.loop.rest.now) (headed (branch_of c.args.first) (elsifs_at (expression_at most_nested) list ts)) c.loop.invariant (branch_of x) (tokens_of c.in_ok-branch.after.now) within (sym c.next_is.ensures ∙ c.if-not-next_is.false) c.in_ok-branch.ensures)

-- ---- arms

pub arms-returns-then-not-begins_integer : goal.arms-returns-then-not-begins_integer
arms-returns-then-not-begins_integer t c =
    let ts = tokens_of c.args.tokens.now in
    let list = body_at (expression_at most_nested) c.args.depth in
    while_stops begins_integer (arm_at list) (map arm_of c.loop.arms.items) (length ts) c.loop.counter (tokens_of c.loop.rest.now) (headed (arm_of c.args.first) (arms_at list ts)) c.loop.invariant (sym c.begins_integer.ensures ∙ c.if-not-begins_integer.true)

pub arms-returns : goal.arms-returns
arms-returns t c =
    let ts = tokens_of c.args.tokens.now in
    let list = body_at (expression_at most_nested) c.args.depth in
    let past : length ts ≤ c.loop.counter = omega (arith, length-map c.args.tokens.now token_of) in
    while_done begins_integer (arm_at list) (map arm_of c.loop.arms.items) (length ts) c.loop.counter (tokens_of c.loop.rest.now) (headed (arm_of c.args.first) (arms_at list ts)) c.loop.invariant past

pub arms-returns-in_err-arm : goal.arms-returns-in_err-arm
arms-returns-in_err-arm t c =
    let ts = tokens_of c.args.tokens.now in
    let list = body_at (expression_at most_nested) c.args.depth in
    let within : c.loop.counter < length ts = omega (arith, length-map c.args.tokens.now token_of) in
    let p = err_from_is_err_and c.from_residual-in_err-arm.result c.from_residual-in_err-arm.ensures.1 in
    rw (p.1, p.2) (while_fails begins_integer (arm_at list) (map arm_of c.loop.arms.items) (length ts) c.loop.counter (tokens_of c.loop.rest.now) (headed (arm_of c.args.first) (arms_at list ts)) c.loop.invariant c.in_err-arm.field-0.0 within (sym c.begins_integer.ensures ∙ c.if-not-begins_integer.false) c.in_err-arm.ensures)

pub arms-loop-preserved : goal.arms-loop-preserved
arms-loop-preserved t c =
    let ts = tokens_of c.args.tokens.now in
    let list = body_at (expression_at most_nested) c.args.depth in
    let within : c.loop.counter < length ts = omega (arith, length-map c.args.tokens.now token_of) in
    let x = c.in_ok-arm.arm in
    let e : map arm_of c.push-in-loop.new.self.items ≡ map arm_of c.loop.arms.items ++ arm_of x ∷ [] = rw c.in_ok-push-2.ensures.items (map_push _ c.loop.arms.items x) in
    rw e (while_goes_on begins_integer (arm_at list) (map arm_of c.loop.arms.items) (length ts) c.loop.counter (tokens_of c.loop.rest.now) (headed (arm_of c.args.first) (arms_at list ts)) c.loop.invariant (arm_of x) (tokens_of c.in_ok-arm.after.now) within (sym c.begins_integer.ensures ∙ c.if-not-begins_integer.false) c.in_ok-arm.ensures)
