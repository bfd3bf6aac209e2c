use Rattle.std.proofs.Common.{◌≡◌, ◌+◌, ◌*◌, max, drop, true}
use Rattle.fb_model.specs.Names.{Name}
use denote.Param.Weighed.{most}
use Rattle.fb_model.specs.Clear.{assigned, examine, examine_choices, examine_cases}
use Rattle.st_types.specs.CommandViews.{commands_of, choices_of, cases_of}
use Rattle.fb_model.specs.Asking.{point, ask, ask_choices, ask_cases}
use Rattle.fb_ranges.specs.declared.told.Told.TheVariants as t
use Rattle.fb_ranges.specs.Finding.{in_sequence, longer, tell}
use Rattle.fb_ranges.specs.Meeting.{Dated, met_by, ranges_after}
use Rattle.fb_ranges.specs.Settling.{HaveRows, held}
use Rattle.fb_ranges.specs.Views.{mark_of, spans_of}
use Rattle.fb_ranges.proofs.Settling.{Behind}
use Rattle.st_types.proofs.command.TypedStmt.TheLaws.{the_size as stmt_size}
use Rattle.st_types.proofs.command.TypedBranch.TheLaws.{the_size as branch_size}
use Rattle.st_types.proofs.command.TypedArm.TheLaws.{the_size as arm_size}
use Rattle.fb_ranges.proofs.examination.+examining.Given as goal

abbrev pub decreases-examine : goal.decreases-examine
decreases-examine l = 5 * most stmt_size l.list.now + 1

abbrev pub decreases-examine_statement : goal.decreases-examine_statement
decreases-examine_statement l = 5 * stmt_size l.statement.now

abbrev pub decreases-examine_branches : goal.decreases-examine_branches
decreases-examine_branches l = 5 * max (most branch_size l.branches.now) (most stmt_size l.other.now) + 4

abbrev pub decreases-examine_branch : goal.decreases-examine_branch
decreases-examine_branch l = 5 * branch_size l.branch.now

abbrev pub decreases-examine_arms : goal.decreases-examine_arms
decreases-examine_arms l = 5 * max (most arm_size l.arms.now) (most stmt_size l.other.now) + 4

abbrev pub decreases-examine_last : goal.decreases-examine_last
decreases-examine_last l = 5 * most stmt_size l.body.now + 3

abbrev pub decreases-examine_way : goal.decreases-examine_way
decreases-examine_way l = 5 * most stmt_size l.body.now + 2

abbrev pub decreases-examine_for : goal.decreases-examine_for
decreases-examine_for l = 5 * most stmt_size l.repetition.now.body.now + 4

abbrev pub decreases-examine_iterations : goal.decreases-examine_iterations
decreases-examine_iterations l = 5 * most stmt_size l.count.body.now + 3

abbrev pub decreases-examine_keeping : goal.decreases-examine_keeping
decreases-examine_keeping l = 5 * most stmt_size l.assigning.now.body.now + 2

abbrev pub invariant-examine-loop-statement : goal.invariant-examine-loop-statement
invariant-examine-loop-statement l =
    record {
      asks :
          ask (spans_of l.rows) (commands_of (drop l.statement-index l.list)) (point (spans_of l.ranges) (held (spans_of l.rows) (spans_of l.asked)))
          ≡ ask (spans_of l.rows) (commands_of l.list) (point (spans_of l.initial.ranges) (held (spans_of l.rows) (spans_of l.initial.asked)));
      tells :
          in_sequence l.all (tell (examine (spans_of l.rows) (commands_of (drop l.statement-index l.list)) (spans_of l.ranges)))
          ≡ tell (examine (spans_of l.rows) (commands_of l.list) (spans_of l.initial.ranges));
      last : in_sequence l.all (t.Steps 0) ≡ l.all;
      have : l.have_rows ≡ true → HaveRows (assigned (commands_of (drop l.statement-index l.list))) (spans_of l.rows) (spans_of l.ranges);
      settled : Behind (assigned (commands_of l.list)) (assigned (commands_of (drop l.statement-index l.list))) l.settled (spans_of l.rows) (spans_of l.ranges);
    }

abbrev pub invariant-examine_branches-loop-branch : goal.invariant-examine_branches-loop-branch
invariant-examine_branches-loop-branch l =
    record {
      count : l.ways.count ≡ l.branch-index;
      dated : (x : Name) → Dated l.ways.count (mark_of l.ways x);
      meets :
          met_by l.ways.count (ranges_after l.ways.count (mark_of l.ways) (spans_of l.ranges))
          (ask_choices (spans_of l.rows) (choices_of (drop l.branch-index l.branches)) (ask (spans_of l.rows) (commands_of l.other)) (point (spans_of l.ranges) (held (spans_of l.rows) (spans_of l.asked))))
          ≡ ask_choices (spans_of l.rows) (choices_of l.branches) (ask (spans_of l.rows) (commands_of l.other)) (point (spans_of l.initial.ranges) (held (spans_of l.rows) (spans_of l.initial.asked)));
      tells :
          longer l.ways.told (tell (examine_choices (spans_of l.rows) (choices_of (drop l.branch-index l.branches)) (examine (spans_of l.rows) (commands_of l.other)) (spans_of l.ranges)))
          ≡ tell (examine_choices (spans_of l.rows) (choices_of l.branches) (examine (spans_of l.rows) (commands_of l.other)) (spans_of l.initial.ranges));
    }

abbrev pub invariant-examine_arms-loop-arm : goal.invariant-examine_arms-loop-arm
invariant-examine_arms-loop-arm l =
    record {
      count : l.ways.count ≡ l.arm-index;
      dated : (x : Name) → Dated l.ways.count (mark_of l.ways x);
      same : spans_of l.ranges ≡ spans_of l.initial.ranges;
      meets :
          met_by l.ways.count (ranges_after l.ways.count (mark_of l.ways) (spans_of l.ranges))
          (ask_cases (spans_of l.rows) (cases_of (drop l.arm-index l.arms)) (ask (spans_of l.rows) (commands_of l.other)) (point (spans_of l.ranges) (held (spans_of l.rows) (spans_of l.asked))))
          ≡ ask_cases (spans_of l.rows) (cases_of l.arms) (ask (spans_of l.rows) (commands_of l.other)) (point (spans_of l.initial.ranges) (held (spans_of l.rows) (spans_of l.initial.asked)));
      tells :
          longer l.ways.told (tell (examine_cases (spans_of l.rows) (cases_of (drop l.arm-index l.arms)) (examine (spans_of l.rows) (commands_of l.other) (spans_of l.ranges)) (spans_of l.ranges)))
          ≡ tell (examine_cases (spans_of l.rows) (cases_of l.arms) (examine (spans_of l.rows) (commands_of l.other) (spans_of l.initial.ranges)) (spans_of l.initial.ranges));
    }
