use Rattle.std.proofs.Common.{◌≡◌, ◌+◌, ◌*◌, ◌≤◌, max, drop}
use denote.Param.Weighed.{most}
use Rattle.st_types.specs.CommandViews.{commands_of, choices_of, cases_of}
use Rattle.fb_ranges.specs.Views.{spans_of}
use Rattle.fb_prices.specs.Words.{prices_of}
use Rattle.fb_model_work.specs.Most.{most_all, most_cases, most_choices}
use Rattle.fb_find_laws.specs.Nodes.{capped}
use Rattle.st_types.proofs.command.TypedStmt.TheLaws.{the_size as stmt_size}
use Rattle.st_types.proofs.command.TypedBranch.TheLaws.{the_size as branch_size}
use Rattle.st_types.proofs.command.TypedArm.TheLaws.{the_size as arm_size}
use Rattle.fb_work_statements.proofs.algorithm.+pricing.Given as goal

abbrev pub decreases-list_work : goal.decreases-list_work
decreases-list_work l = 3 * most stmt_size l.list.now + 1

abbrev pub decreases-statement_work : goal.decreases-statement_work
decreases-statement_work l = 3 * stmt_size l.statement.now

abbrev pub decreases-branches_work : goal.decreases-branches_work
decreases-branches_work l = 3 * max (most branch_size l.branches.now) (most stmt_size l.other.now) + 2

abbrev pub decreases-arms_work : goal.decreases-arms_work
decreases-arms_work l = 3 * max (most arm_size l.arms.now) (most stmt_size l.other.now) + 2

abbrev pub decreases-iterations_work : goal.decreases-iterations_work
decreases-iterations_work l = 3 * most stmt_size l.body.now + 2

abbrev pub invariant-list_work-loop-statement : goal.invariant-list_work-loop-statement
invariant-list_work-loop-statement l =
    record {
      least : l.sum ≤ 1000000000001;
      sum :
          capped (l.sum + most_all (prices_of l.tariff.prices.now) (spans_of l.tariff.rows.now) (commands_of (drop l.statement-index l.list)) (spans_of l.here))
          ≡ capped (most_all (prices_of l.tariff.prices.now) (spans_of l.tariff.rows.now) (commands_of l.list) (spans_of l.initial.here));
    }

abbrev pub invariant-branches_work-loop-branch : goal.invariant-branches_work-loop-branch
invariant-branches_work-loop-branch l =
    let ps = prices_of l.tariff.prices.now in
    let rows = spans_of l.tariff.rows.now in
    let other = most_all ps rows (commands_of l.other) in
    record {
      best : l.best ≤ 1000000000001;
      sum :
          max l.best (capped (l.tried + most_choices ps rows (choices_of (drop l.branch-index l.branches)) other (spans_of l.others)))
          ≡ capped (most_choices ps rows (choices_of l.branches) other (spans_of l.initial.others));
    }

abbrev pub invariant-arms_work-loop-arm : goal.invariant-arms_work-loop-arm
invariant-arms_work-loop-arm l =
    let ps = prices_of l.tariff.prices.now in
    let rows = spans_of l.tariff.rows.now in
    let other = most_all ps rows (commands_of l.other) (spans_of l.ranges) in
    record {
      best : l.best ≤ 1000000000001;
      sum :
          max l.best (capped (l.tried + most_cases ps rows (cases_of (drop l.arm-index l.arms)) other (spans_of l.ranges)))
          ≡ capped (most_cases ps rows (cases_of l.arms) other (spans_of l.ranges));
    }
