use Rattle.std.proofs.Common.{◌≡◌, suc, ◌+◌, ◌-◌, ◌≤◌, ◌^◌, pos, ◌+ℤ◌, ◌*ℤ◌, true, false, List, [], ◌∷◌, map, drop, string_bytes, Some, refl, sym, ap, subst, ◌∙◌, arith, rules, to_z, of_z, w64}
use Rattle.std.proofs.lemmas.Int.{ints, to_z-of_z}
use Rattle.fb_model.specs.Language.{run, run_one, more, value_of, is_zero, labelled, run_choices, run_cases, iteration_count}
use Rattle.st_exec.specs.CodeViews.{code_command, code_commands, code_term, code_choices, code_cases}
use Rattle.st_types.proofs.Gathering.{drop_step, drop_all}
use Rattle.st_exec.specs.Cells.{Form, values_of, forms_of}
use Rattle.st_exec.specs.Runs.{Supports, SupportsOne, EndsWithin}
use denote.Param.Weighed.{most, at_most}
use Rattle.fb_model.specs.TypedText.{constant, choose, match_on}
use Rattle.st_exec.proofs.command.CodeStmt.TheLaws.{the_size as stmt_size}
use Rattle.st_exec.proofs.command.CodeBranch.TheLaws.{the_size as branch_size}
use Rattle.st_exec.proofs.command.CodeArm.TheLaws.{the_size as arm_size}
use Rattle.st_exec.proofs.Serving.{first_served, rest_served, other_served, no_case_served, selected_served}
use Rattle.st_exec.proofs.Runs.{part_within, one_more, within_more, given_within, iterations_within, iterations_from, iteration_within, iteration_done, iteration_steps, iterations_end, next_value, same_whole}
use Rattle.st_exec.specs.Forms.{size_of, plain_slot}
use Rattle.st_exec.specs.Placed.{placed_stmt, placed_branch, placed_arm, placed_all, all_true}
use Rattle.st_exec.proofs.Running.{and_second}
use Rattle.st_exec.proofs.Placing.{item_right, items_right, item_before, items_before, arm_placed, branch_placed, if_placed, arms_placed}
use Rattle.st_exec.proofs.Slots.{plain_within}
use Rattle.st_exec.proofs.Setting.{set_room, element_slot, element_count, element_within, element_room, element_runs}
use Rattle.st_exec.proofs.Branching.{if_view, case_view, if_first, if_rest, case_first, case_rest, arm_taken, arm_passed, arm_serves, arms_serve, arm_smaller, branch_taken, branch_passed, branch_serves, branches_serve, branch_smaller}
use Rattle.st_exec.proofs.execute.+running.Goals as goal

pub run_list-loop-statement-preserved : goal.run_list-loop-statement-preserved
run_list-loop-statement-preserved t c =
    let i = c.loop-statement.statement-index in
    let x = c.statement-item.result in
    let ls = drop (i + 1) c.args.list.now in
    let V = values_of c.loop-statement.store in
    let d = drop_step c.args.list.now i x c.loop-statement-test.true c.statement-item.is in
    let s : Supports (forms_of c.loop-statement.store) (code_commands (x ∷ ls)) = subst (λ l. Supports (forms_of c.loop-statement.store) (code_commands l)) d c.loop-statement.invariant.serves in
    record {
      left = one_more c.loop-statement.steps c.run_statement-steps.result (run_one (code_command x) V) (run (code_commands c.args.list.now) (values_of c.args.store.now)) (run (code_commands ls)) (values_of c.run_statement-steps.new.store)
          (ap (λ l. more c.loop-statement.steps (run (code_commands l) V)) (sym d) ∙ c.loop-statement.invariant.left) c.run_statement-steps.ensures.answers;
      serves = subst (λ f. Supports f (code_commands ls)) (sym c.run_statement-steps.ensures.unchanged) (rest_served (forms_of c.loop-statement.store) (code_command x) (code_commands ls) s);
      same = c.run_statement-steps.ensures.unchanged ∙ c.loop-statement.invariant.same;
      slots = ap (λ f. placed_all f ls) c.run_statement-steps.ensures.unchanged ∙ items_right (placed_stmt (forms_of c.loop-statement.store)) c.args.list.now i x c.loop-statement-test.true c.statement-item.is c.loop-statement.invariant.slots;
    }

pub run_list-run_statement-steps-requires : goal.run_list-run_statement-steps-requires
run_list-run_statement-steps-requires t c =
    let i = c.loop-statement.statement-index in
    let x = c.statement-item.result in
    let ls = drop (i + 1) c.args.list.now in
    let V = values_of c.loop-statement.store in
    let d = drop_step c.args.list.now i x c.loop-statement-test.true c.statement-item.is in
    let s : Supports (forms_of c.loop-statement.store) (code_commands (x ∷ ls)) = subst (λ l. Supports (forms_of c.loop-statement.store) (code_commands l)) d c.loop-statement.invariant.serves in
    let e : more c.loop-statement.steps (run (code_commands (x ∷ ls)) V) ≡ run (code_commands c.args.list.now) (values_of c.args.store.now) = ap (λ l. more c.loop-statement.steps (run (code_commands l) V)) (sym d) ∙ c.loop-statement.invariant.left in
    let m = at_most stmt_size c.args.list.now i x c.loop-statement-test.true in
    let g = ap stmt_size c.statement-item.is in (
      omega (arith, m, g, c.decreases),
      (
        item_right (placed_stmt (forms_of c.loop-statement.store)) c.args.list.now i x c.loop-statement-test.true c.statement-item.is c.loop-statement.invariant.slots,
        (
          first_served (forms_of c.loop-statement.store) (code_command x) (code_commands ls) s,
          part_within (10 ^ 12) c.loop-statement.steps (run_one (code_command x) V) (run (code_commands c.args.list.now) (values_of c.args.store.now)) (run (code_commands ls)) e c.requires.small,
        ),
      ),
    )

pub run_arms-run_list-requires-2 : goal.run_arms-run_list-requires-2
run_arms-run_list-requires-2 t c =
    let q = to_z-of_z w64 c.args.number c.ranges.number in
    let k = to_z w64 (of_z w64 c.args.number) in
    let V = values_of c.loop-arm.store in
    let V0 = values_of c.args.store.now in
    let n = drop_all c.args.list.now c.loop-arm.arm-index c.loop-arm-test.false in
    let s : SupportsOne (forms_of c.loop-arm.store) (match_on (constant k) (code_cases []) (code_commands c.args.rest.now)) =
    subst (λ l. SupportsOne (forms_of c.loop-arm.store) (match_on (constant k) (code_cases l) (code_commands c.args.rest.now))) n c.loop-arm.invariant.serves in
    let e : run (code_commands c.args.rest.now) V ≡ run_cases (code_cases c.args.list.now) k V0 (run (code_commands c.args.rest.now) V0) =
    ap (λ l. run_cases (code_cases l) k V (run (code_commands c.args.rest.now) V)) (sym n) ∙ c.loop-arm.invariant.left in
    let h : EndsWithin (10 ^ 12) (run_cases (code_cases c.args.list.now) k V0 (run (code_commands c.args.rest.now) V0)) =
    subst (λ z. EndsWithin (10 ^ 12) (run_cases (code_cases c.args.list.now) z V0 (run (code_commands c.args.rest.now) V0))) (sym q) c.requires.small in
    (omega (arith, c.decreases), (and_second (all_true (map (placed_arm (forms_of c.loop-arm.store)) (drop c.loop-arm.arm-index c.args.list.now))) (placed_all (forms_of c.loop-arm.store) c.args.rest.now) c.loop-arm.invariant.slots, (no_case_served (forms_of c.loop-arm.store) (constant k) (code_commands c.args.rest.now) s, subst (λ x. EndsWithin (10 ^ 12) x) (sym e) h)))

pub run_branches-run_list-requires-2 : goal.run_branches-run_list-requires-2
run_branches-run_list-requires-2 t c =
    let V = values_of c.loop-branch.store in
    let V0 = values_of c.args.store.now in
    let n = drop_all c.args.list.now c.loop-branch.branch-index c.loop-branch-test.false in
    let s : SupportsOne (forms_of c.loop-branch.store) (choose (code_choices []) (code_commands c.args.rest.now)) =
    subst (λ l. SupportsOne (forms_of c.loop-branch.store) (choose (code_choices l) (code_commands c.args.rest.now))) n c.loop-branch.invariant.serves in
    let e : run (code_commands c.args.rest.now) V ≡ run_choices (code_choices c.args.list.now) V0 (run (code_commands c.args.rest.now) V0) =
    ap (λ l. run_choices (code_choices l) V (run (code_commands c.args.rest.now) V)) (sym n) ∙ c.loop-branch.invariant.left in
    (omega (arith, c.decreases), (and_second (all_true (map (placed_branch (forms_of c.loop-branch.store)) (drop c.loop-branch.branch-index c.args.list.now))) (placed_all (forms_of c.loop-branch.store) c.args.rest.now) c.loop-branch.invariant.slots, (other_served (forms_of c.loop-branch.store) (code_commands c.args.rest.now) s, subst (λ x. EndsWithin (10 ^ 12) x) (sym e) c.requires.small)))

pub run_arms-run_list-requires : goal.run_arms-run_list-requires
run_arms-run_list-requires t c =
    let q = to_z-of_z w64 c.args.number c.ranges.number in
    let V = values_of c.loop-arm.store in
    let V0 = values_of c.args.store.now in
    let z : labelled c.arm-item.result.labels.items (to_z w64 (of_z w64 c.args.number)) ≡ true =
    ap (λ l. labelled l (to_z w64 (of_z w64 c.args.number))) (sym c.deref.ensures.value) ∙ sym c.is_labelled.ensures ∙ c.if-is_labelled.true in
    let e = arm_taken c.args.list.now c.loop-arm.arm-index c.arm-item.result c.loop-arm-test.true c.arm-item.is (to_z w64 (of_z w64 c.args.number)) c.deref-then-is_labelled.result.now c.deref-then-is_labelled.ensures.value V (run (code_commands c.args.rest.now) V) _ c.loop-arm.invariant.left z in
    let s = arm_serves c.args.list.now c.loop-arm.arm-index c.arm-item.result c.loop-arm-test.true c.arm-item.is (to_z w64 (of_z w64 c.args.number)) c.deref-then-is_labelled.result.now c.deref-then-is_labelled.ensures.value (forms_of c.loop-arm.store) (code_commands c.args.rest.now) c.loop-arm.invariant.serves in
    let w = arm_smaller c.args.list.now c.loop-arm.arm-index c.arm-item.result c.loop-arm-test.true c.arm-item.is (to_z w64 (of_z w64 c.args.number)) c.deref-then-is_labelled.result.now c.deref-then-is_labelled.ensures.value t (omega (arith, c.decreases)) in
    let h : EndsWithin (10 ^ 12) (run_cases (code_cases c.args.list.now) (to_z w64 (of_z w64 c.args.number)) V0 (run (code_commands c.args.rest.now) V0)) =
    subst (λ k. EndsWithin (10 ^ 12) (run_cases (code_cases c.args.list.now) k V0 (run (code_commands c.args.rest.now) V0))) (sym q) c.requires.small in
    let p = item_before (placed_arm (forms_of c.loop-arm.store)) c.args.list.now c.loop-arm.arm-index c.arm-item.result c.loop-arm-test.true c.arm-item.is (placed_all (forms_of c.loop-arm.store) c.args.rest.now) c.loop-arm.invariant.slots in
    (w, (arm_placed (forms_of c.loop-arm.store) c.arm-item.result c.deref-then-is_labelled.result.now c.deref-then-is_labelled.ensures.value p, (s, subst (λ x. EndsWithin (10 ^ 12) x) (sym e) h)))

pub run_arms-returns-then-is_labelled-clause-answers : goal.run_arms-returns-then-is_labelled-clause-answers
run_arms-returns-then-is_labelled-clause-answers t c =
    let q = to_z-of_z w64 c.args.number c.ranges.number in
    let V = values_of c.loop-arm.store in
    let V0 = values_of c.args.store.now in
    let z : labelled c.arm-item.result.labels.items (to_z w64 (of_z w64 c.args.number)) ≡ true =
    ap (λ l. labelled l (to_z w64 (of_z w64 c.args.number))) (sym c.deref.ensures.value) ∙ sym c.is_labelled.ensures ∙ c.if-is_labelled.true in
    let e = arm_taken c.args.list.now c.loop-arm.arm-index c.arm-item.result c.loop-arm-test.true c.arm-item.is (to_z w64 (of_z w64 c.args.number)) c.deref-then-is_labelled.result.now c.deref-then-is_labelled.ensures.value V (run (code_commands c.args.rest.now) V) _ c.loop-arm.invariant.left z in
    ap (λ k. run_cases (code_cases c.args.list.now) k V0 (run (code_commands c.args.rest.now) V0)) (sym q) ∙ sym e ∙ c.run_list.ensures.answers

pub run_arms-loop-arm-preserved : goal.run_arms-loop-arm-preserved
run_arms-loop-arm-preserved t c =
    let V = values_of c.loop-arm.store in
    let z : labelled c.arm-item.result.labels.items (to_z w64 (of_z w64 c.args.number)) ≡ false =
    ap (λ l. labelled l (to_z w64 (of_z w64 c.args.number))) (sym c.deref.ensures.value) ∙ sym c.is_labelled.ensures ∙ c.if-is_labelled.false in
    record {
      still = c.loop-arm.invariant.still;
      left = arm_passed c.args.list.now c.loop-arm.arm-index c.arm-item.result c.loop-arm-test.true c.arm-item.is (to_z w64 (of_z w64 c.args.number)) c.arm-item.result.body.items refl V (run (code_commands c.args.rest.now) V) _ c.loop-arm.invariant.left z;
      serves = arms_serve c.args.list.now c.loop-arm.arm-index c.arm-item.result c.loop-arm-test.true c.arm-item.is (to_z w64 (of_z w64 c.args.number)) c.arm-item.result.body.items refl (forms_of c.loop-arm.store) (code_commands c.args.rest.now) c.loop-arm.invariant.serves;
      slots = items_before (placed_arm (forms_of c.loop-arm.store)) c.args.list.now c.loop-arm.arm-index c.arm-item.result c.loop-arm-test.true c.arm-item.is (placed_all (forms_of c.loop-arm.store) c.args.rest.now) c.loop-arm.invariant.slots;
    }

pub run_branches-run_list-requires : goal.run_branches-run_list-requires
run_branches-run_list-requires t c =
    let V = values_of c.loop-branch.store in
    let q : to_z w64 (of_z w64 c.eval.result) ≡ c.eval.result = to_z-of_z w64 c.eval.result (search rules) in
    let z : is_zero c.eval.result ≡ false = ap is_zero (sym q) ∙ sym c.is_zero.ensures ∙ c.if-not-is_zero.true in
    let e = branch_taken c.args.list.now c.loop-branch.branch-index c.branch-item.result c.loop-branch-test.true c.branch-item.is V (run (code_commands c.args.rest.now) V) _ c.loop-branch.invariant.left c.eval.result c.eval.ensures z c.deref.result.now c.deref.ensures.value in
    let s = branch_serves c.args.list.now c.loop-branch.branch-index c.branch-item.result c.loop-branch-test.true c.branch-item.is (forms_of c.loop-branch.store) (code_commands c.args.rest.now) c.loop-branch.invariant.serves c.deref.result.now c.deref.ensures.value in
    let w = branch_smaller c.args.list.now c.loop-branch.branch-index c.branch-item.result c.loop-branch-test.true c.branch-item.is c.deref.result.now c.deref.ensures.value t (omega (arith, c.decreases)) in
    let p = item_before (placed_branch (forms_of c.loop-branch.store)) c.args.list.now c.loop-branch.branch-index c.branch-item.result c.loop-branch-test.true c.branch-item.is (placed_all (forms_of c.loop-branch.store) c.args.rest.now) c.loop-branch.invariant.slots in
    (w, (branch_placed (forms_of c.loop-branch.store) c.branch-item.result c.deref.result.now c.deref.ensures.value p, (s, subst (λ x. EndsWithin (10 ^ 12) x) (sym e) c.requires.small)))

pub run_branches-returns-then-not-is_zero-clause-answers : goal.run_branches-returns-then-not-is_zero-clause-answers
run_branches-returns-then-not-is_zero-clause-answers t c =
    let V = values_of c.loop-branch.store in
    let q : to_z w64 (of_z w64 c.eval.result) ≡ c.eval.result = to_z-of_z w64 c.eval.result (search rules) in
    let z : is_zero c.eval.result ≡ false = ap is_zero (sym q) ∙ sym c.is_zero.ensures ∙ c.if-not-is_zero.true in
    let e = branch_taken c.args.list.now c.loop-branch.branch-index c.branch-item.result c.loop-branch-test.true c.branch-item.is V (run (code_commands c.args.rest.now) V) _ c.loop-branch.invariant.left c.eval.result c.eval.ensures z c.deref.result.now c.deref.ensures.value in
    sym e ∙ c.run_list.ensures.answers

pub run_branches-loop-branch-preserved : goal.run_branches-loop-branch-preserved
run_branches-loop-branch-preserved t c =
    let V = values_of c.loop-branch.store in
    let q : to_z w64 (of_z w64 c.eval.result) ≡ c.eval.result = to_z-of_z w64 c.eval.result (search rules) in
    let z : is_zero c.eval.result ≡ true = ap is_zero (sym q) ∙ sym c.is_zero.ensures ∙ c.if-not-is_zero.false in
    record {
      still = c.loop-branch.invariant.still;
      left = branch_passed c.args.list.now c.loop-branch.branch-index c.branch-item.result c.loop-branch-test.true c.branch-item.is V (run (code_commands c.args.rest.now) V) _ c.loop-branch.invariant.left c.eval.result c.eval.ensures z;
      serves = branches_serve c.args.list.now c.loop-branch.branch-index c.branch-item.result c.loop-branch-test.true c.branch-item.is (forms_of c.loop-branch.store) (code_commands c.args.rest.now) c.loop-branch.invariant.serves;
      slots = items_before (placed_branch (forms_of c.loop-branch.store)) c.args.list.now c.loop-branch.branch-index c.branch-item.result c.loop-branch-test.true c.branch-item.is (placed_all (forms_of c.loop-branch.store) c.args.rest.now) c.loop-branch.invariant.slots;
    }

pub run_statement-run_branches-requires : goal.run_statement-run_branches-requires
run_statement-run_branches-requires t c =
    let V = values_of c.args.store.now in
    let bs = c.deref.result.now in
    let rest = c.deref-in-If.result.now in
    let is : code_command c.args.statement.now ≡ choose (code_choices bs) (code_commands rest) =
    ap code_command c.in-If.is ∙ if_view c.in-If.branches c.in-If.rest ∙ ap (λ l. choose (code_choices l) (code_commands c.in-If.rest.items)) (sym c.deref.ensures.value) ∙ ap (λ l. choose (code_choices bs) (code_commands l)) (sym c.deref-in-If.ensures.value) in
    let a = if_first c.in-If.branches c.in-If.rest in
    let b = if_rest c.in-If.branches c.in-If.rest in
    let g = ap stmt_size c.in-If.is in
    let d = ap (most branch_size) c.deref.ensures.value in
    let e = ap (most stmt_size) c.deref-in-If.ensures.value in
    let h : EndsWithin (10 ^ 12) (run_one (choose (code_choices bs) (code_commands rest)) V) = subst (λ x. EndsWithin (10 ^ 12) (run_one x V)) is c.requires.small in
    (omega (arith, a, b, g, d, e, c.decreases), (if_placed (forms_of c.args.store.now) c.args.statement.now c.requires.placed c.in-If.branches c.in-If.rest c.in-If.is bs rest c.deref.ensures.value c.deref-in-If.ensures.value, (subst (SupportsOne (forms_of c.args.store.now)) is c.requires.serves, within_more (10 ^ 12) 1 _ h)))

pub run_statement-run_arms-requires : goal.run_statement-run_arms-requires
run_statement-run_arms-requires t c =
    let V = values_of c.args.store.now in
    let as' = c.deref-in-Case.result.now in
    let rest = c.deref-in-Case-2.result.now in
    let q : to_z w64 (of_z w64 c.eval-selector.result) ≡ c.eval-selector.result = to_z-of_z w64 c.eval-selector.result (search rules) in
    let is : code_command c.args.statement.now ≡ match_on (code_term c.in-Case.selector) (code_cases as') (code_commands rest) =
    ap code_command c.in-Case.is ∙ case_view c.in-Case.selector c.in-Case.arms c.in-Case.rest ∙ ap (λ l. match_on (code_term c.in-Case.selector) (code_cases l) (code_commands c.in-Case.rest.items)) (sym c.deref-in-Case.ensures.value)
    ∙ ap (λ l. match_on (code_term c.in-Case.selector) (code_cases as') (code_commands l)) (sym c.deref-in-Case-2.ensures.value) in
    let a = case_first c.in-Case.selector c.in-Case.arms c.in-Case.rest in
    let b = case_rest c.in-Case.selector c.in-Case.arms c.in-Case.rest in
    let g = ap stmt_size c.in-Case.is in
    let d = ap (most arm_size) c.deref-in-Case.ensures.value in
    let e = ap (most stmt_size) c.deref-in-Case-2.ensures.value in
    let h : EndsWithin (10 ^ 12) (run_one (match_on (code_term c.in-Case.selector) (code_cases as') (code_commands rest)) V) = subst (λ x. EndsWithin (10 ^ 12) (run_one x V)) is c.requires.small in
    let s = selected_served (forms_of c.args.store.now) (code_term c.in-Case.selector) (to_z w64 (of_z w64 c.eval-selector.result)) (code_cases as') (code_commands rest) (subst (SupportsOne (forms_of c.args.store.now)) is c.requires.serves) in
    let i = given_within (10 ^ 12) (value_of (code_term c.in-Case.selector) V) (to_z w64 (of_z w64 c.eval-selector.result)) (λ v. more 1 (run_cases (code_cases as') v V (run (code_commands rest) V))) (c.eval-selector.ensures ∙ ap Some (sym q)) h in
    (omega (arith, a, b, g, d, e, c.decreases), (arms_placed (forms_of c.args.store.now) c.args.statement.now c.requires.placed c.in-Case.selector c.in-Case.arms c.in-Case.rest c.in-Case.is as' rest c.deref-in-Case.ensures.value c.deref-in-Case-2.ensures.value, (s, within_more (10 ^ 12) 1 _ i)))

pub run_iterations-iterations_of-iteration-end-requires : goal.run_iterations-iterations_of-iteration-end-requires
run_iterations-iterations_of-iteration-end-requires t c =
    let f = to_z-of_z w64 c.args.first c.ranges.first in
    let l = to_z-of_z w64 c.args.last c.ranges.last in
    let k : to_z w64 (of_z w64 c.args.counting.now.step) ≡ c.args.counting.now.step = to_z-of_z w64 c.args.counting.now.step (search rules) in
    let body = run (code_commands c.args.body.now) in
    let V0 = values_of c.args.store.now in
    let h : iteration_count c.args.first c.args.last c.args.counting.now.step ≤ 10 ^ 12 = iterations_within (10 ^ 12) (iteration_count c.args.first c.args.last c.args.counting.now.step) body (string_bytes c.args.counting.now.variable) c.args.first c.args.counting.now.step V0 c.requires.small in
    rw (f, l, k) (omega arith)

pub run_iterations-loop-iteration-init : goal.run_iterations-loop-iteration-init
run_iterations-loop-iteration-init t c =
    let n = c.iterations_of-iteration-end.result in
    let p : n - 0 ≡ n = omega arith in
    let f = to_z w64 (of_z w64 c.args.first) in
    let k = c.args.counting.now.step in
    let e : to_z w64 (of_z w64 k) ≡ k = to_z-of_z w64 k (search rules) in
    let q : f +ℤ pos 0 *ℤ k ≡ f = omega (arith, ints) in
    record {
      count = c.iterations_of-iteration-end.ensures ∙ ap (λ z. iteration_count (to_z w64 (of_z w64 c.args.first)) (to_z w64 (of_z w64 c.args.last)) z) e;
      left = iterations_from (n - 0) n (run (code_commands c.args.body.now)) (string_bytes c.args.counting.now.variable) (f +ℤ pos 0 *ℤ k) f k (values_of c.args.store.now) p q;
      same = refl;
    }

pub run_iterations-run_list-steps-requires : goal.run_iterations-run_list-steps-requires
run_iterations-run_list-steps-requires t c =
    let f = to_z-of_z w64 c.args.first c.ranges.first in
    let l = to_z-of_z w64 c.args.last c.ranges.last in
    let k : to_z w64 (of_z w64 c.args.counting.now.step) ≡ c.args.counting.now.step = to_z-of_z w64 c.args.counting.now.step (search rules) in
    let body = run (code_commands c.args.body.now) in
    let V0 = values_of c.args.store.now in
    let w = same_whole c.args.first (to_z w64 (of_z w64 c.args.first)) c.args.last (to_z w64 (of_z w64 c.args.last)) c.args.counting.now.step (c.args.counting.now.step) body (string_bytes c.args.counting.now.variable) c.iterations_of-iteration-end.result V0 f l refl (c.iterations_of-iteration-end.ensures ∙ ap (λ z. iteration_count (to_z w64 (of_z w64 c.args.first)) (to_z w64 (of_z w64 c.args.last)) z) k) in
    let V = values_of c.loop-iteration.store in
    let put = values_of c.set_number.new.self in
    let m = c.loop-iteration.steps in
    let v = to_z w64 (of_z w64 c.args.first) +ℤ pos c.loop-iteration.iteration *ℤ c.args.counting.now.step in
    let n = to_z w64 (of_z w64 c.taken-number.result) in
    let r : c.iterations_of-iteration-end.result - c.loop-iteration.iteration ≡ suc (c.iterations_of-iteration-end.result - (c.loop-iteration.iteration + 1)) = omega arith in
    let u : n ≡ v = to_z-of_z w64 c.taken-number.result (search rules) ∙ c.taken-number.ensures ∙ ap (λ z. to_z w64 (of_z w64 c.args.first) +ℤ pos c.loop-iteration.iteration *ℤ z) (to_z-of_z w64 c.args.counting.now.step (search rules)) in
    let i = iteration_within m (c.iterations_of-iteration-end.result - c.loop-iteration.iteration) (c.iterations_of-iteration-end.result - (c.loop-iteration.iteration + 1)) (string_bytes c.args.counting.now.variable) body v n (c.args.counting.now.step) V put _ (c.loop-iteration.invariant.left ∙ w) r u (c.set_number.ensures.values (string_bytes c.args.counting.now.variable) (ap (λ f. plain_slot f (string_bytes c.args.counting.now.variable)) c.loop-iteration.invariant.same ∙ c.requires.slot)) (10 ^ 12) c.requires.small in
    let s = subst (λ (x : List Form). Supports x (code_commands c.args.body.now)) (sym (c.set_number.ensures.forms ∙ c.loop-iteration.invariant.same)) c.requires.serves in
    (omega (arith, c.decreases), (ap (λ f. placed_all f c.args.body.now) (c.set_number.ensures.forms ∙ c.loop-iteration.invariant.same) ∙ c.requires.placed, (s, i)))

pub run_iterations-overflow_add-steps-in-loop-iteration : goal.run_iterations-overflow_add-steps-in-loop-iteration
run_iterations-overflow_add-steps-in-loop-iteration t c =
    let f = to_z-of_z w64 c.args.first c.ranges.first in
    let l = to_z-of_z w64 c.args.last c.ranges.last in
    let k : to_z w64 (of_z w64 c.args.counting.now.step) ≡ c.args.counting.now.step = to_z-of_z w64 c.args.counting.now.step (search rules) in
    let body = run (code_commands c.args.body.now) in
    let V0 = values_of c.args.store.now in
    let w = same_whole c.args.first (to_z w64 (of_z w64 c.args.first)) c.args.last (to_z w64 (of_z w64 c.args.last)) c.args.counting.now.step (c.args.counting.now.step) body (string_bytes c.args.counting.now.variable) c.iterations_of-iteration-end.result V0 f l refl (c.iterations_of-iteration-end.ensures ∙ ap (λ z. iteration_count (to_z w64 (of_z w64 c.args.first)) (to_z w64 (of_z w64 c.args.last)) z) k) in
    let V = values_of c.loop-iteration.store in
    let put = values_of c.set_number.new.self in
    let m = c.loop-iteration.steps in
    let v = to_z w64 (of_z w64 c.args.first) +ℤ pos c.loop-iteration.iteration *ℤ c.args.counting.now.step in
    let n = to_z w64 (of_z w64 c.taken-number.result) in
    let r : c.iterations_of-iteration-end.result - c.loop-iteration.iteration ≡ suc (c.iterations_of-iteration-end.result - (c.loop-iteration.iteration + 1)) = omega arith in
    let u : n ≡ v = to_z-of_z w64 c.taken-number.result (search rules) ∙ c.taken-number.ensures ∙ ap (λ z. to_z w64 (of_z w64 c.args.first) +ℤ pos c.loop-iteration.iteration *ℤ z) (to_z-of_z w64 c.args.counting.now.step (search rules)) in
    let h : m + 1 + c.run_list-steps.result ≤ 10 ^ 12 = iteration_steps m (c.iterations_of-iteration-end.result - c.loop-iteration.iteration) (c.iterations_of-iteration-end.result - (c.loop-iteration.iteration + 1)) (string_bytes c.args.counting.now.variable) body v n (c.args.counting.now.step) V put _ (c.loop-iteration.invariant.left ∙ w) r u (c.set_number.ensures.values (string_bytes c.args.counting.now.variable) (ap (λ f. plain_slot f (string_bytes c.args.counting.now.variable)) c.loop-iteration.invariant.same ∙ c.requires.slot)) (10 ^ 12) c.run_list-steps.result (values_of c.run_list-steps.new.store) c.requires.small c.run_list-steps.ensures.answers in
    omega arith

pub run_iterations-loop-iteration-preserved : goal.run_iterations-loop-iteration-preserved
run_iterations-loop-iteration-preserved t c =
    let body = run (code_commands c.args.body.now) in
    let V = values_of c.loop-iteration.store in
    let put = values_of c.set_number.new.self in
    let m = c.loop-iteration.steps in
    let v = to_z w64 (of_z w64 c.args.first) +ℤ pos c.loop-iteration.iteration *ℤ c.args.counting.now.step in
    let n = to_z w64 (of_z w64 c.taken-number.result) in
    let r : c.iterations_of-iteration-end.result - c.loop-iteration.iteration ≡ suc (c.iterations_of-iteration-end.result - (c.loop-iteration.iteration + 1)) = omega arith in
    let u : n ≡ v = to_z-of_z w64 c.taken-number.result (search rules) ∙ c.taken-number.ensures ∙ ap (λ z. to_z w64 (of_z w64 c.args.first) +ℤ pos c.loop-iteration.iteration *ℤ z) (to_z-of_z w64 c.args.counting.now.step (search rules)) in
    record {
      count = c.loop-iteration.invariant.count;
      left = iteration_done m (c.iterations_of-iteration-end.result - c.loop-iteration.iteration) (c.iterations_of-iteration-end.result - (c.loop-iteration.iteration + 1)) (string_bytes c.args.counting.now.variable) body v n (c.args.counting.now.step) V put _ c.loop-iteration.invariant.left r u (c.set_number.ensures.values (string_bytes c.args.counting.now.variable) (ap (λ f. plain_slot f (string_bytes c.args.counting.now.variable)) c.loop-iteration.invariant.same ∙ c.requires.slot)) c.run_list-steps.result (values_of c.run_list-steps.new.store) _ c.run_list-steps.ensures.answers (next_value (to_z w64 (of_z w64 c.args.first)) (c.args.counting.now.step) c.loop-iteration.iteration);
      same = c.run_list-steps.ensures.unchanged ∙ c.set_number.ensures.forms ∙ c.loop-iteration.invariant.same;
    }

pub run_iterations-returns-clause-answers : goal.run_iterations-returns-clause-answers
run_iterations-returns-clause-answers t c =
    let f = to_z-of_z w64 c.args.first c.ranges.first in
    let l = to_z-of_z w64 c.args.last c.ranges.last in
    let k : to_z w64 (of_z w64 c.args.counting.now.step) ≡ c.args.counting.now.step = to_z-of_z w64 c.args.counting.now.step (search rules) in
    let body = run (code_commands c.args.body.now) in
    let V0 = values_of c.args.store.now in
    let w = same_whole c.args.first (to_z w64 (of_z w64 c.args.first)) c.args.last (to_z w64 (of_z w64 c.args.last)) c.args.counting.now.step (c.args.counting.now.step) body (string_bytes c.args.counting.now.variable) c.iterations_of-iteration-end.result V0 f l refl (c.iterations_of-iteration-end.ensures ∙ ap (λ z. iteration_count (to_z w64 (of_z w64 c.args.first)) (to_z w64 (of_z w64 c.args.last)) z) k) in
    let z : c.iterations_of-iteration-end.result - c.loop-iteration.iteration ≡ 0 = omega arith in
    sym w ∙ iterations_end c.loop-iteration.steps (c.iterations_of-iteration-end.result - c.loop-iteration.iteration) (string_bytes c.args.counting.now.variable) body _ _ (values_of c.loop-iteration.store) _ c.loop-iteration.invariant.left z

pub run_iterations-set_number-requires : goal.run_iterations-set_number-requires
run_iterations-set_number-requires t c =
    let x = string_bytes c.args.counting.now.variable in
    let w = plain_within (forms_of c.args.store.now) x c.requires.declared c.requires.plain in
    let e = ap size_of c.loop-iteration.invariant.same in
    omega (arith, w, e, c.requires.slot)

pub run_statement-set_number-requires : goal.run_statement-set_number-requires
run_statement-set_number-requires t c =
    set_room (forms_of c.args.store.now) c.args.statement.now c.requires.placed c.in-Set.field-0 c.in-Set.slot c.in-Set.value c.in-Set.is c.requires.serves

pub run_statement-set_element-requires : goal.run_statement-set_element-requires
run_statement-set_element-requires t c =
    let low = to_z w64 (of_z w64 c.in-SetElement.low) in
    let index = to_z w64 (of_z w64 c.eval-index.result) in
    let number = to_z w64 (of_z w64 c.eval-value-in-SetElement.result) in
    let l : low ≡ c.in-SetElement.low = to_z-of_z w64 c.in-SetElement.low (search rules) in
    let q : index ≡ c.eval-index.result = to_z-of_z w64 c.eval-index.result (search rules) in
    let r : number ≡ c.eval-value-in-SetElement.result = to_z-of_z w64 c.eval-value-in-SetElement.result (search rules) in
    element_room (forms_of c.args.store.now) c.args.statement.now c.requires.placed c.in-SetElement.field-0 c.in-SetElement.first c.in-SetElement.low c.in-SetElement.field-3 c.in-SetElement.index c.in-SetElement.value c.in-SetElement.is c.requires.serves (values_of c.args.store.now) c.eval-index.result c.eval-value-in-SetElement.result c.eval-index.ensures c.eval-value-in-SetElement.ensures low index number l q r (10 ^ 12) c.requires.small

pub run_statement-returns-in-SetElement-clause-answers : goal.run_statement-returns-in-SetElement-clause-answers
run_statement-returns-in-SetElement-clause-answers t c =
    let low = to_z w64 (of_z w64 c.in-SetElement.low) in
    let index = to_z w64 (of_z w64 c.eval-index.result) in
    let number = to_z w64 (of_z w64 c.eval-value-in-SetElement.result) in
    let l : low ≡ c.in-SetElement.low = to_z-of_z w64 c.in-SetElement.low (search rules) in
    let q : index ≡ c.eval-index.result = to_z-of_z w64 c.eval-index.result (search rules) in
    let r : number ≡ c.eval-value-in-SetElement.result = to_z-of_z w64 c.eval-value-in-SetElement.result (search rules) in
    let slot = element_slot (forms_of c.args.store.now) c.args.statement.now c.requires.placed c.in-SetElement.field-0 c.in-SetElement.first c.in-SetElement.low c.in-SetElement.field-3 c.in-SetElement.index c.in-SetElement.value c.in-SetElement.is c.requires.serves (values_of c.args.store.now) c.eval-index.result c.eval-value-in-SetElement.result c.eval-index.ensures c.eval-value-in-SetElement.ensures low index number l q r in
    let count = element_count (forms_of c.args.store.now) c.args.statement.now c.requires.placed c.in-SetElement.field-0 c.in-SetElement.first c.in-SetElement.low c.in-SetElement.field-3 c.in-SetElement.index c.in-SetElement.value c.in-SetElement.is c.requires.serves (values_of c.args.store.now) c.eval-index.result c.eval-value-in-SetElement.result c.eval-index.ensures c.eval-value-in-SetElement.ensures low index number l q r in
    let within = element_within (forms_of c.args.store.now) c.args.statement.now c.requires.placed c.in-SetElement.field-0 c.in-SetElement.first c.in-SetElement.low c.in-SetElement.field-3 c.in-SetElement.index c.in-SetElement.value c.in-SetElement.is c.requires.serves (values_of c.args.store.now) c.eval-index.result c.eval-value-in-SetElement.result c.eval-index.ensures c.eval-value-in-SetElement.ensures low index number l q r (10 ^ 12) c.requires.small in
    element_runs (forms_of c.args.store.now) c.args.statement.now c.requires.placed c.in-SetElement.field-0 c.in-SetElement.first c.in-SetElement.low c.in-SetElement.field-3 c.in-SetElement.index c.in-SetElement.value c.in-SetElement.is c.requires.serves (values_of c.args.store.now) c.eval-index.result c.eval-value-in-SetElement.result c.eval-index.ensures c.eval-value-in-SetElement.ensures low index number l q r (values_of c.set_element.new.self) (c.set_element.ensures.values (string_bytes c.in-SetElement.field-0) c.in-SetElement.field-3 slot count within.0 within.1)
