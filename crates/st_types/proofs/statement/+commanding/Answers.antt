use Rattle.std.proofs.Common.{◌≡◌, Ok, arith, map, refl, sym, ap, subst, ◌∙◌}
use Rattle.std.proofs.lemmas.Result.{err_from_is_err_and}
use Rattle.std.proofs.lemmas.List.{map_push}
use Rattle.fb_model.specs.TypedText.{done, then_do, no_choice, no_case}
use Rattle.fb_tree.specs.Algorithms.{expr_of, stmt_of, branch_of, arm_of, body_of}
use Rattle.st_types.specs.Answers.{Fails}
use Rattle.st_types.specs.Commanding.{commanded, all_commanded, one_chosen, one_cased}
use Rattle.st_types.specs.Views.{term_of, entries}
use Rattle.st_types.specs.CommandViews.{then_all, all_choices, all_cases, busy_of, command_of, commands_of, choice_of, case_of}
use Rattle.st_types.proofs.Gathering.{drop_all, fails_at, goes_on_at, ends_at}
use Rattle.st_types.proofs.Loops.{put_choice, put_case, commands_gathered, choices_gathered, cases_gathered}
use denote.Param.Weighed.{most}
use Rattle.fb_tree.proofs.statement.Stmt.TheLaws.{the_size as stmt_size}
use Rattle.st_types.proofs.Plain.{for_size, view_branch, view_choice, condition_fails, body_fails, choice_is}
use Rattle.st_types.proofs.statement.+commanding.Goals as goal

pub commands-returns-in_err-command : goal.commands-returns-in_err-command
commands-returns-in_err-command t c =
    let p = err_from_is_err_and c.from_residual.result c.from_residual.ensures.1 in
    let f = fails_at (commanded (entries c.args.scope.now) (busy_of c.args.busy.now)) done then_do then_all (λ r. refl) (λ c cs r. refl) stmt_of c.args.list.now c.loop-stmt.stmt-index c.stmt-item.result (map command_of c.loop-stmt.done.items) c.in_err-command.field-0.0 c.loop-stmt-test.true c.stmt-item.is c.loop-stmt.invariant c.in_err-command.ensures in
    rw (p.1, p.2) (subst (λ r. Fails c.in_err-command.field-0.0 r) (sym (commands_gathered (entries c.args.scope.now) (busy_of c.args.busy.now) (map stmt_of c.args.list.now))) f)

pub commands-loop-stmt-preserved : goal.commands-loop-stmt-preserved
commands-loop-stmt-preserved t c =
    let g = goes_on_at (commanded (entries c.args.scope.now) (busy_of c.args.busy.now)) done then_do then_all (λ r. refl) (λ c cs r. refl) stmt_of c.args.list.now c.loop-stmt.stmt-index c.stmt-item.result (map command_of c.loop-stmt.done.items) (command_of c.in_ok-command.field-0) c.loop-stmt-test.true c.stmt-item.is c.loop-stmt.invariant c.in_ok-command.ensures in
    rw (c.in_ok-push.ensures.items, map_push command_of c.loop-stmt.done.items c.in_ok-command.field-0) g

pub commands-returns : goal.commands-returns
commands-returns t c = commands_gathered (entries c.args.scope.now) (busy_of c.args.busy.now) (map stmt_of c.args.list.now) ∙ ends_at (commanded (entries c.args.scope.now) (busy_of c.args.busy.now)) done then_do then_all (λ r. refl) (λ c cs r. refl) stmt_of c.args.list.now c.loop-stmt.stmt-index (map command_of c.loop-stmt.done.items) (drop_all c.args.list.now c.loop-stmt.stmt-index c.loop-stmt-test.false) c.loop-stmt.invariant

pub choices-returns-in_err-choice : goal.choices-returns-in_err-choice
choices-returns-in_err-choice t c =
    let p = err_from_is_err_and c.from_residual.result c.from_residual.ensures.1 in
    let f = fails_at (one_chosen (entries c.args.scope.now) (busy_of c.args.busy.now)) no_choice put_choice all_choices (λ r. refl) (λ c cs r. refl) branch_of c.args.list.now c.loop-branch.branch-index c.branch-item.result (map choice_of c.loop-branch.done.items) c.in_err-choice.field-0.0 c.loop-branch-test.true c.branch-item.is c.loop-branch.invariant c.in_err-choice.ensures in
    rw (p.1, p.2) (subst (λ r. Fails c.in_err-choice.field-0.0 r) (sym (choices_gathered (entries c.args.scope.now) (busy_of c.args.busy.now) (map branch_of c.args.list.now))) f)

pub choices-loop-branch-preserved : goal.choices-loop-branch-preserved
choices-loop-branch-preserved t c =
    let g = goes_on_at (one_chosen (entries c.args.scope.now) (busy_of c.args.busy.now)) no_choice put_choice all_choices (λ r. refl) (λ c cs r. refl) branch_of c.args.list.now c.loop-branch.branch-index c.branch-item.result (map choice_of c.loop-branch.done.items) (choice_of c.in_ok-choice.field-0) c.loop-branch-test.true c.branch-item.is c.loop-branch.invariant c.in_ok-choice.ensures in
    rw (c.in_ok-push.ensures.items, map_push choice_of c.loop-branch.done.items c.in_ok-choice.field-0) g

pub choices-returns : goal.choices-returns
choices-returns t c = choices_gathered (entries c.args.scope.now) (busy_of c.args.busy.now) (map branch_of c.args.list.now) ∙ ends_at (one_chosen (entries c.args.scope.now) (busy_of c.args.busy.now)) no_choice put_choice all_choices (λ r. refl) (λ c cs r. refl) branch_of c.args.list.now c.loop-branch.branch-index (map choice_of c.loop-branch.done.items) (drop_all c.args.list.now c.loop-branch.branch-index c.loop-branch-test.false) c.loop-branch.invariant

pub cases-returns-in_err-case : goal.cases-returns-in_err-case
cases-returns-in_err-case t c =
    let p = err_from_is_err_and c.from_residual.result c.from_residual.ensures.1 in
    let f = fails_at (one_cased (entries c.args.scope.now) (busy_of c.args.busy.now) c.args.of) no_case put_case all_cases (λ r. refl) (λ c cs r. refl) arm_of c.args.list.now c.loop-arm.arm-index c.arm-item.result (map case_of c.loop-arm.done.items) c.in_err-case.field-0.0 c.loop-arm-test.true c.arm-item.is c.loop-arm.invariant c.in_err-case.ensures in
    rw (p.1, p.2) (subst (λ r. Fails c.in_err-case.field-0.0 r) (sym (cases_gathered (entries c.args.scope.now) (busy_of c.args.busy.now) c.args.of (map arm_of c.args.list.now))) f)

pub cases-loop-arm-preserved : goal.cases-loop-arm-preserved
cases-loop-arm-preserved t c =
    let g = goes_on_at (one_cased (entries c.args.scope.now) (busy_of c.args.busy.now) c.args.of) no_case put_case all_cases (λ r. refl) (λ c cs r. refl) arm_of c.args.list.now c.loop-arm.arm-index c.arm-item.result (map case_of c.loop-arm.done.items) (case_of c.in_ok-case.field-0) c.loop-arm-test.true c.arm-item.is c.loop-arm.invariant c.in_ok-case.ensures in
    rw (c.in_ok-push.ensures.items, map_push case_of c.loop-arm.done.items c.in_ok-case.field-0) g

pub cases-returns : goal.cases-returns
cases-returns t c = cases_gathered (entries c.args.scope.now) (busy_of c.args.busy.now) c.args.of (map arm_of c.args.list.now) ∙ ends_at (one_cased (entries c.args.scope.now) (busy_of c.args.busy.now) c.args.of) no_case put_case all_cases (λ r. refl) (λ c cs r. refl) arm_of c.args.list.now c.loop-arm.arm-index (map case_of c.loop-arm.done.items) (drop_all c.args.list.now c.loop-arm.arm-index c.loop-arm-test.false) c.loop-arm.invariant

pub command-loop_body-requires : goal.command-loop_body-requires
command-loop_body-requires t c =
    let d = c.decreases in
    let i = ap stmt_size c.in-For.is in
    let f = for_size c.in-For.at c.in-For.name c.in-For.first c.in-For.last c.in-For.by c.in-For.body in
    let e = ap (most stmt_size) c.deref-in-For.ensures.value in
    (omega (arith, d, i, f, e), tt)

pub choice-returns-in_err-condition : goal.choice-returns-in_err-condition
choice-returns-in_err-condition t c =
    let b = c.args.branch.now in
    let w = c.in_err-condition.field-0.0 in
    let p = err_from_is_err_and c.from_residual.result c.from_residual.ensures.1 in
    let f : Fails w (one_chosen (entries c.args.scope.now) (busy_of c.args.busy.now) (branch_of b)) = subst (λ x. Fails w (one_chosen (entries c.args.scope.now) (busy_of c.args.busy.now) x)) (sym (view_branch b)) (condition_fails (entries c.args.scope.now) (busy_of c.args.busy.now) b.at (expr_of b.condition) (body_of b.body.items) w c.in_err-condition.ensures) in
    rw (p.1, p.2) f

pub choice-returns-in_err-body : goal.choice-returns-in_err-body
choice-returns-in_err-body t c =
    let b = c.args.branch.now in
    let w = c.in_err-body.field-0.0 in
    let p = err_from_is_err_and c.from_residual-in_err-body.result c.from_residual-in_err-body.ensures.1 in
    let g : Fails w (all_commanded (entries c.args.scope.now) (busy_of c.args.busy.now) (body_of b.body.items)) = subst (λ l. Fails w (all_commanded (entries c.args.scope.now) (busy_of c.args.busy.now) (body_of l))) c.deref.ensures.value c.in_err-body.ensures in
    let f : Fails w (one_chosen (entries c.args.scope.now) (busy_of c.args.busy.now) (branch_of b)) = subst (λ x. Fails w (one_chosen (entries c.args.scope.now) (busy_of c.args.busy.now) x)) (sym (view_branch b)) (body_fails (entries c.args.scope.now) (busy_of c.args.busy.now) b.at (expr_of b.condition) (body_of b.body.items) (term_of c.in_ok-condition.condition) w c.in_ok-condition.ensures g) in
    rw (p.1, p.2) f

pub choice-returns : goal.choice-returns
choice-returns t c =
    let b = c.args.branch.now in
    let e = c.in_ok-condition.condition in
    let v = c.in_ok-body.body in
    let g : all_commanded (entries c.args.scope.now) (busy_of c.args.busy.now) (body_of b.body.items) ≡ _ = ap (λ l. all_commanded (entries c.args.scope.now) (busy_of c.args.busy.now) (body_of l)) (sym c.deref.ensures.value) ∙ c.in_ok-body.ensures in
    ap (λ x. one_chosen (entries c.args.scope.now) (busy_of c.args.busy.now) x) (view_branch b) ∙ choice_is (entries c.args.scope.now) (busy_of c.args.busy.now) b.at (expr_of b.condition) (body_of b.body.items) (term_of e) (commands_of v.items) c.in_ok-condition.ensures g ∙ ap Ok (sym (view_choice e v))
