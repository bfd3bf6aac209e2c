use Rattle.std.proofs.Common.{◌∙◌}
use Rattle.st_types.specs.CommandViews.{command_of, case_of, choice_of}
use Rattle.st_exec.specs.declared.command.CodeArm.{CodeArm}
use Rattle.st_exec.specs.declared.command.CodeBranch.{CodeBranch}
use Rattle.st_exec.specs.CodeViews.{code_command, code_case, code_choice}
use Rattle.st_exec.specs.Placed.{placed_stmt, placed_arm, placed_branch}
use Rattle.st_exec.proofs.Coding.{same_more, slots_more, branch_same, branch_slots, arm_same, arm_slots, body_same}
use Rattle.st_exec.proofs.statement.+writing.Goals as goal

pub coded_arms-loop-arm-preserved : goal.coded_arms-loop-arm-preserved
coded_arms-loop-arm-preserved t c =
    let a = c.arm-item.result in
    let fs = c.args.layout.now in
    let x : CodeArm = record { labels = c.in_ok-labels.labels; body = c.in_ok-body.body } in
    let body = body_same c.in_ok-body.body.items c.deref-in-loop-arm.result.now a.body.items c.in_ok-body.ensures.same c.deref-in-loop-arm.ensures.value in
    record {
      same = same_more code_case case_of c.loop-arm.coded.items c.push.new.self.items c.args.list.now c.loop-arm.arm-index x a c.loop-arm-test.true c.arm-item.is c.loop-arm.invariant.same c.in_ok-push.ensures.items
          (arm_same x a (c.in_ok-labels.ensures ∙ c.deref.ensures.value) body);
      slots = slots_more (placed_arm fs) c.loop-arm.coded.items c.push.new.self.items x c.loop-arm.invariant.slots c.in_ok-push.ensures.items (arm_slots fs x c.in_ok-body.ensures.slots);
    }

pub coded_branches-loop-branch-preserved : goal.coded_branches-loop-branch-preserved
coded_branches-loop-branch-preserved t c =
    let b = c.branch-item.result in
    let fs = c.args.layout.now in
    let x : CodeBranch = record { condition = c.in_ok-condition.condition; body = c.in_ok-body.body } in
    let body = body_same c.in_ok-body.body.items c.deref.result.now b.body.items c.in_ok-body.ensures.same c.deref.ensures.value in
    record {
      same = same_more code_choice choice_of c.loop-branch.coded.items c.push.new.self.items c.args.list.now c.loop-branch.branch-index x b c.loop-branch-test.true c.branch-item.is c.loop-branch.invariant.same c.in_ok-push.ensures.items
          (branch_same x b c.in_ok-condition.ensures.same body);
      slots = slots_more (placed_branch fs) c.loop-branch.coded.items c.push.new.self.items x c.loop-branch.invariant.slots c.in_ok-push.ensures.items (branch_slots fs x c.in_ok-condition.ensures.slots c.in_ok-body.ensures.slots);
    }

pub coded_list-loop-statement-preserved : goal.coded_list-loop-statement-preserved
coded_list-loop-statement-preserved t c =
    let s = c.statement-item.result in
    let fs = c.args.layout.now in
    let x = c.in_ok-coded_statement.field-0 in
    record {
      same = same_more code_command command_of c.loop-statement.coded.items c.push.new.self.items c.args.list.now c.loop-statement.statement-index x s c.loop-statement-test.true c.statement-item.is c.loop-statement.invariant.same c.in_ok-push.ensures.items
          c.in_ok-coded_statement.ensures.same;
      slots = slots_more (placed_stmt fs) c.loop-statement.coded.items c.push.new.self.items x c.loop-statement.invariant.slots c.in_ok-push.ensures.items c.in_ok-coded_statement.ensures.slots;
    }
