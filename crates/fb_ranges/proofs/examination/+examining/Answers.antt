use Rattle.std.proofs.Common.{◌≡◌, ℤ, List, Option, true, false, not, ◌++◌, ◌<◌, ◌≤◌, ◌+◌, refl, rules, map, sym, ap, ap₂, subst, ◌∙◌, arith, drop, to_z, of_z, w64}
use Rattle.std.specs.Prelude.{if◌then◌else◌, string_bytes}
use Rattle.std.specs.Borrow.{Bor}
use Rattle.st_types.specs.declared.term.VariableName.{VariableName}
use Rattle.std.proofs.lemmas.Int.{ints}
use Rattle.fb_model.specs.Names.{Name, is_in}
use Rattle.fb_model.specs.TypedText.{Commands, set_part}
use Rattle.fb_model.specs.Spans.{Span, span, within}
use Rattle.fb_model.specs.Clear.{Spans, Clear, Leaves, Traps, changed, narrowed, reset, range_of, with_range, are_kept, kept, taken, left_with, most_iterations, looped, assigned, assigned_one, is_idle, examine, examine_one, examine_choices, examine_cases}
use Rattle.fb_model.specs.Asking.{Asked, point, range_in, asking, asking_all, asked_loop, ask, ask_one, ask_choices, ask_cases}
use Rattle.fb_model_laws.proofs.Ending.{Ends, ends}
use denote.Param.Weighed.{at_most, most}
use Rattle.st_types.proofs.command.TypedStmt.TheLaws.{the_size as stmt_size}
use Rattle.st_types.specs.declared.command.TypedStmt.{TypedStmt}
use Rattle.st_types.specs.Views.{term_of}
use Rattle.st_types.specs.CommandViews.{Cased, Chosen, counted_command, counting_of, cases_of, case_of, command_of, commands_of, choice_of, choices_of}
use Rattle.st_types.proofs.Gathering.{drop_all, drop_step}
use Rattle.fb_ranges.specs.declared.told.Told.TheVariants as told
use Rattle.fb_ranges.specs.Finding.{in_sequence, longer, tell, iterated}
use Rattle.fb_ranges.specs.Meeting.{Besides, joint, met_by, ranges_after}
use Rattle.fb_ranges.specs.Narrowing.{read_in}
use Rattle.fb_ranges_intervals.specs.declared.interval.Interval.{Interval}
use Rattle.fb_ranges_intervals.specs.Views.{span_of}
use Rattle.fb_ranges.specs.Views.{clear_range, mark_of, names_of, spans_of}
use Rattle.fb_ranges.proofs.Blocks.{command_case, command_if, command_set, command_element, next_asked, next_told, choice_is, on_ok_both, iterations_asked}
use Rattle.fb_ranges.proofs.Branches.{branch_asked, branch_besides, branch_told, arm_asked, arm_told, case_is}
use Rattle.fb_ranges.proofs.Frames.{all_besides}
use Rattle.fb_ranges.proofs.Joins.{ended_at, reset_besides, iterations_leave, taken_back}
use Rattle.fb_ranges.proofs.Noted.{IsNoted}
use Rattle.fb_ranges.specs.Settling.{HaveRows, LastHaveRows, held}
use Rattle.fb_ranges.proofs.Settling.{apart_have, behind_all, behind_next, have_front, held_asking, if_named, none_known, own_last}
use Rattle.fb_ranges.proofs.Telling.{tell_last, tell_looped, told_kept}
use Rattle.fb_ranges.proofs.examination.+examining.Goals as goal

pub examine-examine_statement-requires : goal.examine-examine_statement-requires
examine-examine_statement-requires t c =
    let rows = spans_of c.args.rows.now in
    let list = c.args.list.now in
    let i = c.loop-statement.statement-index in
    let y = c.statement-item.result in
    let step = ap (λ (l : List TypedStmt). assigned (commands_of l)) (drop_step list i y c.loop-statement-test.true c.statement-item.is) in
    let small : stmt_size y ≤ most stmt_size list = subst (λ z. stmt_size z ≤ most stmt_size list) (sym c.statement-item.is) (at_most stmt_size list i y c.loop-statement-test.true) in
    (omega (arith, small), λ h. have_front (assigned_one (command_of y)) (assigned (commands_of (drop (i + 1) list))) rows (spans_of c.loop-statement.ranges) (subst (λ (xs : List Name). HaveRows xs rows (spans_of c.loop-statement.ranges)) step (c.loop-statement.invariant.have h)))

pub examine-loop-statement-preserved : goal.examine-loop-statement-preserved
examine-loop-statement-preserved t c =
    let h = c.loop-statement.invariant in
    let rows = spans_of c.args.rows.now in
    let list = c.args.list.now in
    let i = c.loop-statement.statement-index in
    let y = c.statement-item.result in
    let a = point (spans_of c.loop-statement.ranges) (held rows (spans_of c.loop-statement.asked)) in
    let b = point (spans_of c.examine_statement.new.ranges) (held rows (spans_of c.examine_statement.new.asked)) in
    let rest = tell (examine rows (commands_of (drop (i + 1) list)) b.spans) in
    let end = c.in_ok-end.end in
    let step = ap (λ (l : List TypedStmt). assigned (commands_of l)) (drop_step list i y c.loop-statement-test.true c.statement-item.is) in
    record {
      asks = next_asked rows list i y a b (ask rows (commands_of list) (point (spans_of c.args.ranges.now) (held rows (spans_of c.args.asked.now)))) c.loop-statement-test.true c.statement-item.is h.asks c.in_ok-end.ensures.asks;
      tells =
          ap (λ u. in_sequence u rest) c.in_sequence-all.ensures
          ∙ next_told rows list i y a b c.loop-statement.all end.told (tell (examine rows (commands_of list) (spans_of c.args.ranges.now))) c.loop-statement-test.true c.statement-item.is h.tells c.in_ok-end.ensures.tells c.in_ok-end.ensures.asks;
      last = ap (λ u. in_sequence u (told.Steps 0)) c.in_sequence-all.ensures ∙ tell_last c.loop-statement.all end.told ∙ sym c.in_sequence-all.ensures;
      have = λ e. absurd cc;
      settled =
          behind_next (assigned (commands_of list)) (assigned (commands_of (drop i list))) (assigned (commands_of (drop (i + 1) list))) (assigned_one (command_of y)) c.loop-statement.settled end.settled rows a.spans b.spans
          step h.settled c.in_ok-end.ensures.settled;
    }

pub examine-returns-clause-tells : goal.examine-returns-clause-tells
examine-returns-clause-tells t c =
    let h = c.loop-statement.invariant in
    let rows = spans_of c.args.rows.now in
    let list = c.args.list.now in
    let all = c.loop-statement.all in
    sym h.last
    ∙ ap (λ (l : List TypedStmt). in_sequence all (tell (examine rows (commands_of l) (spans_of c.loop-statement.ranges)))) (sym (drop_all list c.loop-statement.statement-index c.loop-statement-test.false))
    ∙ h.tells

pub examine-returns-clause-settled : goal.examine-returns-clause-settled
examine-returns-clause-settled t c =
    let list = c.args.list.now in
    let i = c.loop-statement.statement-index in
    behind_all (assigned (commands_of list)) (assigned (commands_of (drop i list))) c.loop-statement.settled (spans_of c.args.rows.now) (spans_of c.loop-statement.ranges)
    (ap (λ (l : List TypedStmt). assigned (commands_of l)) (drop_all list i c.loop-statement-test.false)) c.loop-statement.invariant.settled

pub examine_statement-returns-in_ok-examine_set-in-Set-clause-asks : goal.examine_statement-returns-in_ok-examine_set-in-Set-clause-asks
examine_statement-returns-in_ok-examine_set-in-Set-clause-asks t c =
    let rows = spans_of c.args.rows.now in
    let s = spans_of c.args.ranges.now in
    let q = held rows (spans_of c.args.asked.now) in
    let e = ap command_of c.in-Set.is ∙ command_set c.in-Set.name c.in-Set.value in
    ap (λ (u : Spans). point u q) c.in_ok-examine_set-in-Set.ensures.ranges ∙ sym (ap (λ d. ask_one rows d (point s q)) e)

pub examine_statement-returns-in_ok-examine_set-in-Set-clause-settled : goal.examine_statement-returns-in_ok-examine_set-in-Set-clause-settled
examine_statement-returns-in_ok-examine_set-in-Set-clause-settled t c =
    none_known c.unsettled.result.settled (assigned_one (command_of c.args.statement.now)) (spans_of c.args.rows.now) (spans_of c.examine_set.new.ranges) c.unsettled.ensures.settled

pub examine_statement-returns-in_ok-ask-in-SetElement-clause-asks : goal.examine_statement-returns-in_ok-ask-in-SetElement-clause-asks
examine_statement-returns-in_ok-ask-in-SetElement-clause-asks t c =
    let rows = spans_of c.args.rows.now in
    let s = spans_of c.args.ranges.now in
    let q = spans_of c.args.asked.now in
    let x = c.in-SetElement.name in
    let n = string_bytes x.name in
    let value = term_of c.in-SetElement.value in
    let e = ap command_of c.in-SetElement.is ∙ command_element x c.in-SetElement.low c.in-SetElement.high c.in-SetElement.index c.in-SetElement.value in
    ap (λ (u : Spans). point s (held rows u)) (c.in_ok-ask-in-SetElement.ensures ∙ ap (λ (r : Span). asking n r q) c.range-value.ensures.range)
    ∙ ap (point s) (held_asking rows q n (range_in value s))
    ∙ sym (ap (λ d. ask_one rows d (point s (held rows q))) e)

pub examine_statement-returns-in_ok-ask-in-SetElement-clause-settled : goal.examine_statement-returns-in_ok-ask-in-SetElement-clause-settled
examine_statement-returns-in_ok-ask-in-SetElement-clause-settled t c =
    none_known c.unsettled-in-SetElement.result.settled (assigned_one (command_of c.args.statement.now)) (spans_of c.args.rows.now) (spans_of c.args.ranges.now) c.unsettled-in-SetElement.ensures.settled

pub examine_statement-returns-in_ok-ask-in-SetElement-clause-tells : goal.examine_statement-returns-in_ok-ask-in-SetElement-clause-tells
examine_statement-returns-in_ok-ask-in-SetElement-clause-tells t c =
    let rows = spans_of c.args.rows.now in
    let s = spans_of c.args.ranges.now in
    let x = c.in-SetElement.name in
    let low = c.in-SetElement.low in
    let high = c.in-SetElement.high in
    let index = term_of c.in-SetElement.index in
    let value = term_of c.in-SetElement.value in
    let e = ap command_of c.in-SetElement.is ∙ command_element x low high c.in-SetElement.index c.in-SetElement.value in
    let a : to_z w64 (of_z w64 low) ≡ low = omega (arith, ints) in
    let b : to_z w64 (of_z w64 high) ≡ high = omega (arith, ints) in
    let found = λ (row : Span) (l h : ℤ) (o p : Option Span). tell (with_range o (λ k. with_range p (λ r. if within k (span l h) then (if within r row then Clear s 1 else Leaves) else Traps))) in
    c.unsettled-in-SetElement.ensures.told
    ∙ c.element_told.ensures s
    ∙ ap (λ (row : Span). found row (to_z w64 (of_z w64 low)) (to_z w64 (of_z w64 high)) (clear_range c.range-index.result) (clear_range c.range-value.result)) c.find_at-row.ensures
    ∙ ap₂ (found (rows (string_bytes x.name)) (to_z w64 (of_z w64 low)) (to_z w64 (of_z w64 high))) c.range-index.ensures.clear c.range-value.ensures.clear
    ∙ ap₂ (λ l h. tell (examine_one rows (set_part (string_bytes x.name) l h index value) s)) a b
    ∙ sym (ap (λ d. tell (examine_one rows d s)) e)

pub examine_statement-returns-in_ok-told-in-If-clause-asks : goal.examine_statement-returns-in_ok-told-in-If-clause-asks
examine_statement-returns-in_ok-told-in-If-clause-asks t c =
    let rows = spans_of c.args.rows.now in
    let p = point (spans_of c.args.ranges.now) (held rows (spans_of c.args.asked.now)) in
    let e = ap command_of c.in-If.is ∙ command_if c.in-If.branches c.in-If.other in
    c.in_ok-told-in-If.ensures.asks
    ∙ ap₂ (λ bs l. ask_choices rows (choices_of bs) (ask rows (commands_of l)) p) c.deref.ensures.value c.deref-in-If.ensures.value
    ∙ sym (ap (λ d. ask_one rows d p) e)

pub examine_statement-returns-in_ok-told-in-Case-clause-asks : goal.examine_statement-returns-in_ok-told-in-Case-clause-asks
examine_statement-returns-in_ok-told-in-Case-clause-asks t c =
    let rows = spans_of c.args.rows.now in
    let p = point (spans_of c.args.ranges.now) (held rows (spans_of c.args.asked.now)) in
    let e = ap command_of c.in-Case.is ∙ command_case c.in-Case.selector c.in-Case.arms c.in-Case.other in
    c.in_ok-told-in-Case.ensures.asks
    ∙ ap₂ (λ bs l. ask_cases rows (cases_of bs) (ask rows (commands_of l)) p) c.deref-in-Case.ensures.value c.deref-in-Case-2.ensures.value
    ∙ sym (ap (λ d. ask_one rows d p) e)

pub examine_statement-returns-in_ok-told-in-If-clause-settled : goal.examine_statement-returns-in_ok-told-in-If-clause-settled
examine_statement-returns-in_ok-told-in-If-clause-settled t c =
    none_known c.unsettled-in-If.result.settled (assigned_one (command_of c.args.statement.now)) (spans_of c.args.rows.now) (spans_of c.examine_branches.new.ranges) c.unsettled-in-If.ensures.settled

pub examine_statement-returns-in_ok-told-in-Case-clause-settled : goal.examine_statement-returns-in_ok-told-in-Case-clause-settled
examine_statement-returns-in_ok-told-in-Case-clause-settled t c =
    none_known c.unsettled-in-Case.result.settled (assigned_one (command_of c.args.statement.now)) (spans_of c.args.rows.now) (spans_of c.examine_arms.new.ranges) c.unsettled-in-Case.ensures.settled

pub examine_branches-loop-branch-preserved : goal.examine_branches-loop-branch-preserved
examine_branches-loop-branch-preserved t c =
    let h = c.loop-branch.invariant in
    let rows = spans_of c.args.rows.now in
    let branches = c.args.branches.now in
    let other = examine rows (commands_of c.args.other.now) in
    let asks = ask rows (commands_of c.args.other.now) in
    let b = c.branch-item.result in
    let i = c.loop-branch.branch-index in
    let ways = c.loop-branch.ways in
    let merged = c.merged.new.ways in
    let way = c.in_ok-way.way in
    let xs = names_of way.names.items in
    let s = spans_of c.examine_branch.new.ranges in
    let q = held rows (spans_of c.loop-branch.asked) in
    let later = spans_of c.narrow.new.ranges in
    let more = held rows (spans_of c.examine_branch.new.asked) in
    let back = sym c.in_ok-way.ensures.unchanged in
    let all = ask_choices rows (choices_of branches) asks (point (spans_of c.args.ranges.now) (held rows (spans_of c.args.asked.now))) in
    let whole = tell (examine_choices rows (choices_of branches) other (spans_of c.args.ranges.now)) in
    let meets = subst (λ (u : Spans). met_by ways.count (ranges_after ways.count (mark_of ways) u) (ask_choices rows (choices_of (drop i branches)) asks (point u q)) ≡ all) back h.meets in
    let tells = subst (λ (u : Spans). longer ways.told (tell (examine_choices rows (choices_of (drop i branches)) other u)) ≡ whole) back h.tells in
    let ends = λ (u : Spans). (ask rows (choice_of b).1 (point (narrowed (choice_of b).0 true u) q)).spans in
    let besides = subst (λ (ys : List Name). Besides ys s (ends s)) (sym c.in_ok-way.ensures.touched) (branch_besides rows s (narrowed (choice_of b).0 true s) (choice_of b).0 (choice_of b).1 q refl) in
    let ends_so = ended_at xs s (ends s) (ends s) besides (λ base. refl) in
    let noted = c.in_ok-way.ensures.ends ∙ ap (λ (u : Spans). map (ends u) xs) back in
    let asked = c.in_ok-way.ensures.asks ∙ ap (λ (u : Spans). (ask rows (choice_of b).1 (point (narrowed (choice_of b).0 true u) q)).rows) back in
    let told = c.in_ok-way.ensures.tells ∙ ap (λ (u : Spans). tell (with_range (range_of (choice_of b).0 u) (λ r. examine rows (choice_of b).1 (narrowed (choice_of b).0 true u)))) back in
    let put = c.in_ok-narrow.ensures ∙ ap (λ (p : Chosen). narrowed p.0 false s) (sym (choice_is b)) in
    record {
      count = c.in_ok-merged.ensures.count ∙ ap (λ n. n + 1) h.count;
      dated = c.in_ok-merged.ensures.dated (ends s) noted;
      meets =
          branch_asked rows branches i b asks ways.count merged.count (mark_of ways) (mark_of merged) s (ends s) later q more xs all
          c.loop-branch-test.true c.branch-item.is meets ends_so asked c.in_ok-way.ensures.touched c.in_ok-merged.ensures.count (λ others. c.in_ok-merged.ensures.ranges (ends s) others noted) put;
      tells = branch_told rows branches i b other s later ways.told way.told merged.told whole c.loop-branch-test.true c.branch-item.is tells told c.in_ok-merged.ensures.told put;
    }

pub examine_arms-loop-arm-preserved : goal.examine_arms-loop-arm-preserved
examine_arms-loop-arm-preserved t c =
    let h = c.loop-arm.invariant in
    let rows = spans_of c.args.rows.now in
    let arms = c.args.arms.now in
    let other = λ (u : Spans). examine rows (commands_of c.args.other.now) u in
    let asks = ask rows (commands_of c.args.other.now) in
    let a = c.arm-item.result in
    let i = c.loop-arm.arm-index in
    let ways = c.loop-arm.ways in
    let merged = c.merged.new.ways in
    let way = c.in_ok-way.way in
    let xs = names_of way.names.items in
    let s = spans_of c.examine_way.new.ranges in
    let q = held rows (spans_of c.loop-arm.asked) in
    let more = held rows (spans_of c.examine_way.new.asked) in
    let back = sym c.in_ok-way.ensures.unchanged in
    let start = spans_of c.args.ranges.now in
    let all = ask_cases rows (cases_of arms) asks (point start (held rows (spans_of c.args.asked.now))) in
    let whole = tell (examine_cases rows (cases_of arms) (other start) start) in
    let meets = subst (λ (u : Spans). met_by ways.count (ranges_after ways.count (mark_of ways) u) (ask_cases rows (cases_of (drop i arms)) asks (point u q)) ≡ all) back h.meets in
    let tells = subst (λ (u : Spans). longer ways.told (tell (examine_cases rows (cases_of (drop i arms)) (other u) u)) ≡ whole) back h.tells in
    let body = ap commands_of c.deref.ensures.value ∙ ap (λ (p : Cased). p.1) (sym (case_is a)) in
    let ends = λ (k : Commands) (u : Spans). (ask rows k (point u q)).spans in
    let end = ends (case_of a).1 s in
    let besides = subst (λ (ys : List Name). Besides ys s end) (sym (c.in_ok-way.ensures.touched ∙ ap assigned body)) (all_besides rows (case_of a).1 (point s q)) in
    let ends_so = ended_at xs s end end besides (λ base. refl) in
    let noted = c.in_ok-way.ensures.ends ∙ ap₂ (λ (k : Commands) (u : Spans). map (ends k u) xs) body back in
    let asked = c.in_ok-way.ensures.asks ∙ ap₂ (λ (k : Commands) (u : Spans). (ask rows k (point u q)).rows) body back in
    let told = c.in_ok-way.ensures.tells ∙ ap₂ (λ (k : Commands) (u : Spans). tell (examine rows k u)) body back in
    record {
      count = c.in_ok-merged.ensures.count ∙ ap (λ n. n + 1) h.count;
      dated = c.in_ok-merged.ensures.dated end noted;
      same = c.in_ok-way.ensures.unchanged ∙ h.same;
      meets =
          arm_asked rows arms i a asks ways.count merged.count (mark_of ways) (mark_of merged) s end q more xs all
          c.loop-arm-test.true c.arm-item.is meets ends_so asked c.in_ok-merged.ensures.count (λ others. c.in_ok-merged.ensures.ranges end others noted);
      tells = arm_told rows arms i a (other s) s ways.told way.told merged.told whole c.loop-arm-test.true c.arm-item.is tells told c.in_ok-merged.ensures.told;
    }

pub examine_branches-returns-clause-asks : goal.examine_branches-returns-clause-asks
examine_branches-returns-clause-asks t c =
    let rows = spans_of c.args.rows.now in
    let list = c.args.branches.now in
    let ways = c.loop-branch.ways in
    let s = spans_of c.loop-branch.ranges in
    let q = held rows (spans_of c.loop-branch.asked) in
    let asks = ask rows (commands_of c.args.other.now) in
    on_ok_both c.examine_last.result _ _ _
    (λ h k. ap₂ point h k
    ∙ ap (λ l. met_by ways.count (ranges_after ways.count (mark_of ways) s) (ask_choices rows (choices_of l) asks (point s q))) (sym (drop_all list c.loop-branch.branch-index c.loop-branch-test.false))
    ∙ c.loop-branch.invariant.meets)
    c.examine_last.ensures.ranges c.examine_last.ensures.asks

pub examine_arms-returns-clause-asks : goal.examine_arms-returns-clause-asks
examine_arms-returns-clause-asks t c =
    let rows = spans_of c.args.rows.now in
    let list = c.args.arms.now in
    let ways = c.loop-arm.ways in
    let s = spans_of c.loop-arm.ranges in
    let q = held rows (spans_of c.loop-arm.asked) in
    let asks = ask rows (commands_of c.args.other.now) in
    on_ok_both c.examine_last.result _ _ _
    (λ h k. ap₂ point h k
    ∙ ap (λ l. met_by ways.count (ranges_after ways.count (mark_of ways) s) (ask_cases rows (cases_of l) asks (point s q))) (sym (drop_all list c.loop-arm.arm-index c.loop-arm-test.false))
    ∙ c.loop-arm.invariant.meets)
    c.examine_last.ensures.ranges c.examine_last.ensures.asks

pub examine_last-returns-clause-ranges : goal.examine_last-returns-clause-ranges
examine_last-returns-clause-ranges t c =
    let rows = spans_of c.args.rows.now in
    let ways = c.args.ways in
    let xs = names_of c.in_ok-way.way.names.items in
    let start = spans_of c.args.ranges.now in
    let s = spans_of c.examine_way.new.ranges in
    let a = commands_of c.args.body.now in
    let from = point start (held rows (spans_of c.args.asked.now)) in
    let end = (ask rows a from).spans in
    let besides = subst (λ (ys : List Name). Besides ys start end) (sym c.in_ok-way.ensures.touched) (all_besides rows a from) in
    c.in_ok-close.ensures
    ∙ c.in_ok-merged.ensures.ranges end s c.in_ok-way.ensures.ends (λ x out. refl)
    ∙ ap (λ (u : Spans). joint ways.count (ranges_after ways.count (mark_of ways) u) (reset xs end u)) c.in_ok-way.ensures.unchanged
    ∙ ap (joint ways.count (ranges_after ways.count (mark_of ways) start)) (ended_at xs start end end besides (λ base. refl))

pub examine_branch-returns-clause-ends : goal.examine_branch-returns-clause-ends
examine_branch-returns-clause-ends t c =
    let rows = spans_of c.args.rows.now in
    let s = spans_of c.args.ranges.now in
    let q = held rows (spans_of c.args.asked.now) in
    let b = c.args.branch.now in
    let e = term_of b.condition in
    let a = commands_of b.body.items in
    let begin = spans_of c.narrow.new.ranges in
    let way = c.in_ok-ended.field-0 in
    let after = spans_of c.examine.new.ranges in
    let asks = c.in_ok-end.ensures.asks ∙ ap (λ (l : List TypedStmt). ask rows (commands_of l) (point begin q)) c.deref-3.ensures.value in
    let end = ap (λ (p : Asked). p.spans) (asks ∙ ap (λ (u : Spans). ask rows a (point u q)) c.in_ok-narrow.ensures) ∙ ap (λ (p : Chosen). (ask rows p.1 (point (narrowed p.0 true s) q)).spans) (sym (choice_is b)) in
    c.in_ok-ended.ensures.ends ∙ ap₂ (λ (u : Spans) (ys : List Name). map u ys) end (sym c.in_ok-ended.ensures.names)

pub examine_branch-returns-clause-unchanged : goal.examine_branch-returns-clause-unchanged
examine_branch-returns-clause-unchanged t c =
    let rows = spans_of c.args.rows.now in
    let s = spans_of c.args.ranges.now in
    let q = held rows (spans_of c.args.asked.now) in
    let b = c.args.branch.now in
    let e = term_of b.condition in
    let a = commands_of b.body.items in
    let begin = spans_of c.narrow.new.ranges in
    let after = spans_of c.examine.new.ranges in
    let asks = c.in_ok-end.ensures.asks ∙ ap (λ (l : List TypedStmt). ask rows (commands_of l) (point begin q)) c.deref-3.ensures.value in
    let names = c.in_ok-names.ensures ∙ ap (λ (l : List TypedStmt). read_in e ++ assigned (commands_of l)) c.deref.ensures.value in
    let besides = subst (λ (ys : List Name). Besides ys s after) (sym names) (subst (λ (u : Spans). Besides (read_in e ++ assigned a) s u) (sym (ap (λ (p : Asked). p.spans) asks)) (branch_besides rows s begin e a q c.in_ok-narrow.ensures)) in
    let noted = subst (λ (l : List (Bor VariableName)). IsNoted l s c.in_ok-before.before.items) c.deref-2.ensures.value c.in_ok-before.ensures in
    let here = subst (λ (rs : List Interval). IsNoted c.in_ok-names.names.items s rs) (sym c.deref-4.ensures.value) noted in
    c.in_ok-ended.ensures.ranges s here ∙ taken_back (names_of c.in_ok-names.names.items) s after besides

pub examine_way-returns-clause-ends : goal.examine_way-returns-clause-ends
examine_way-returns-clause-ends t c =
    c.in_ok-ended.ensures.ends ∙ ap₂ (λ (u : Spans) (ys : List Name). map u ys) (ap (λ (p : Asked). p.spans) c.in_ok-end.ensures.asks) (sym c.in_ok-ended.ensures.names)

pub examine_way-returns-clause-unchanged : goal.examine_way-returns-clause-unchanged
examine_way-returns-clause-unchanged t c =
    let rows = spans_of c.args.rows.now in
    let s = spans_of c.args.ranges.now in
    let a = commands_of c.args.body.now in
    let after = spans_of c.examine.new.ranges in
    let asks = ap (λ (p : Asked). p.spans) c.in_ok-end.ensures.asks in
    let besides = subst (λ (ys : List Name). Besides ys s after) (sym c.in_ok-names.ensures) (subst (λ (u : Spans). Besides (assigned a) s u) (sym asks) (all_besides rows a (point s (held rows (spans_of c.args.asked.now))))) in
    let noted = subst (λ (l : List (Bor VariableName)). IsNoted l s c.in_ok-before.before.items) c.deref.ensures.value c.in_ok-before.ensures in
    let here = subst (λ (rs : List Interval). IsNoted c.in_ok-names.names.items s rs) (sym c.deref-2.ensures.value) noted in
    c.in_ok-ended.ensures.ranges s here ∙ taken_back (names_of c.in_ok-names.names.items) s after besides

pub examine_iterations-iterated-requires : goal.examine_iterations-iterated-requires
examine_iterations-iterated-requires t c =
    let r = span_of c.args.count.first in
    let s = span_of c.args.count.last in
    let k : to_z w64 (of_z w64 c.args.count.step) ≡ c.args.count.step = omega (arith, ints) in
    subst (λ m. 0 < m) (sym (c.most_iterations-iterations.ensures ∙ ap (most_iterations r s) k)) c.requires.some

pub examine_for-returns-then-most_iterations-eq0-clause-settled : goal.examine_for-returns-then-most_iterations-eq0-clause-settled
examine_for-returns-then-most_iterations-eq0-clause-settled t c =
    none_known c.unsettled.result.settled (assigned_one (counted_command (counting_of c.args.repetition.now.counting.now) (commands_of c.args.repetition.now.body.now))) (spans_of c.args.rows.now) (spans_of c.args.ranges.now) c.unsettled.ensures.settled

pub examine_for-returns-clause-settled : goal.examine_for-returns-clause-settled
examine_for-returns-clause-settled t c =
    let counting = counting_of c.args.repetition.now.counting.now in
    own_last (is_idle counting.plain counting.first counting.last counting.step) c.in_ok-end.end.settled counting.variable (assigned (commands_of c.args.repetition.now.body.now)) (spans_of c.args.rows.now) (spans_of c.examine_iterations.new.ranges) c.in_ok-end.ensures.settled

pub examine_iterations-settle-requires : goal.examine_iterations-settle-requires
examine_iterations-settle-requires t c =
    let rows = spans_of c.args.rows.now in
    let s = spans_of c.args.ranges.now in
    let xs = assigned (commands_of c.args.count.body.now) in
    let listed = ap names_of c.deref-2.ensures.value ∙ c.in_ok-names.ensures in
    let named = ap names_of c.deref.ensures.value ∙ c.in_ok-names.ensures in
    subst (λ (ys : List Name). LastHaveRows c.all_or_none-settled.result ys rows s) (sym listed) (if_named c.args.have_rows c.all_or_none-settled.result c.deref.result.now xs rows s named c.all_or_none-settled.ensures c.requires.have)

pub examine_iterations-examine_keeping-requires : goal.examine_iterations-examine_keeping-requires
examine_iterations-examine_keeping-requires t c =
    let rows = spans_of c.args.rows.now in
    let spans = spans_of c.args.ranges.now in
    let x = string_bytes c.args.count.variable.now.name in
    let xs = assigned (commands_of c.args.count.body.now) in
    let same = c.in_ok-begins.ensures.rest ∙ ap (λ ys. reset ys rows spans) (ap names_of c.deref-2.ensures.value ∙ c.in_ok-names.ensures) in
    let tells = c.is_among-is_apart.ensures ∙ ap (is_in x) (ap names_of c.deref-3.ensures.value ∙ c.in_ok-names.ensures) in (
      omega arith,
      (
        ap names_of c.deref-4.ensures.value ∙ c.in_ok-names.ensures,
        λ e. apart_have x xs rows spans (spans_of c.insert_at.new.self) (span_of c.taken.result) c.is_among-is_apart.result tells e (c.in_ok-insert_at.ensures.set ∙ ap (changed x (λ b. span_of c.taken.result)) same),
      ),
    )

pub examine_iterations-returns-clause-settled : goal.examine_iterations-returns-clause-settled
examine_iterations-returns-clause-settled t c =
    let rows = spans_of c.args.rows.now in
    let spans = spans_of c.args.ranges.now in
    let own = span_of c.taken.result in
    let left = span_of c.left_with.result in
    let x = string_bytes c.args.count.variable.now.name in
    let xs = assigned (commands_of c.args.count.body.now) in
    let same = c.in_ok-begins.ensures.rest ∙ ap (λ ys. reset ys rows spans) (ap names_of c.deref-2.ensures.value ∙ c.in_ok-names.ensures) in
    let tells = c.is_among-is_apart.ensures ∙ ap (is_in x) (ap names_of c.deref-3.ensures.value ∙ c.in_ok-names.ensures) in
    let names = ap names_of c.deref-4.ensures.value ∙ c.in_ok-names.ensures in
    let put =
    c.in_ok-insert_at-2.ensures.set
    ∙ ap (changed x (λ b. left)) (c.in_ok-told.ensures.rest ∙ ap₂ (λ (ys : List Name) (u : Spans). reset ys rows u) names (c.in_ok-insert_at.ensures.set ∙ ap (changed x (λ b. own)) same))
    ∙ iterations_leave xs rows spans x own left in
    if_named (not c.is_among-is_apart.result) c.all_or_none.result c.deref-5.result.now xs rows (spans_of c.insert_at-2.new.self) (ap names_of c.deref-5.ensures.value ∙ c.in_ok-names.ensures) c.all_or_none.ensures
    (λ e. apart_have x xs rows spans (spans_of c.insert_at-2.new.self) left c.is_among-is_apart.result tells e put)

pub examine_iterations-returns-clause-asks : goal.examine_iterations-returns-clause-asks
examine_iterations-returns-clause-asks t c =
    let r = span_of c.args.count.first in
    let s = span_of c.args.count.last in
    let rows = spans_of c.args.rows.now in
    let spans = spans_of c.args.ranges.now in
    let q = held rows (spans_of c.args.asked.now) in
    let base = spans_of c.settle.new.ranges in
    let begin = spans_of c.insert_at.new.self in
    let after = spans_of c.insert_at-2.new.self in
    let asked = held rows (spans_of c.settle.new.asked) in
    let own = span_of c.taken.result in
    let left = span_of c.left_with.result in
    let x = string_bytes c.args.count.variable.now.name in
    let f = ask rows (commands_of c.args.count.body.now) in
    let xs = assigned (commands_of c.args.count.body.now) in
    let n = c.most_iterations-iterations.result in
    let named = ap names_of c.deref-2.ensures.value ∙ c.in_ok-names.ensures in
    let k : to_z w64 (of_z w64 c.args.count.step) ≡ c.args.count.step = omega (arith, ints) in
    let iterations : n ≡ most_iterations r s c.args.count.step = c.most_iterations-iterations.ensures ∙ ap (most_iterations r s) k in
    let some : 0 < n = subst (λ m. 0 < m) (sym iterations) c.requires.some in
    let begins : asked ≡ asking_all xs spans q = c.in_ok-begins.ensures.asks ∙ ap (λ ys. asking_all ys spans q) named in
    let same : base ≡ reset xs rows spans = c.in_ok-begins.ensures.rest ∙ ap (λ ys. reset ys rows spans) named in
    let o : own ≡ taken r s c.args.count.step n = c.taken.ensures ∙ ap (λ z. taken r s z n) k in
    let l : left ≡ left_with r s c.args.count.step n (base x) = c.left_with.ensures ∙ ap₂ (λ z b. left_with r s z n b) k c.find_at-before.ensures in
    let names = ap names_of c.deref-4.ensures.value ∙ c.in_ok-names.ensures in
    let set : begin ≡ changed x (λ b. own) base = c.in_ok-insert_at.ensures.set in
    let put : after ≡ changed x (λ b. left) base =
    c.in_ok-insert_at-2.ensures.set
    ∙ ap (changed x (λ b. left)) (c.in_ok-told.ensures.rest ∙ ap₂ (λ (ys : List Name) (u : Spans). reset ys rows u) names (set ∙ ap (changed x (λ b. own)) same))
    ∙ iterations_leave xs rows spans x own left
    ∙ ap (changed x (λ b. left)) (sym same) in
    let asks = λ (ys : List Name) (u : Spans). let end = f (point u asked) in asking_all ys end.spans end.rows in
    iterations_asked n xs rows f x r s c.args.count.step (point spans q) base after asked (held rows (spans_of c.examine_keeping.new.asked)) own left some same o l put begins (c.in_ok-told.ensures.asks ∙ ap₂ asks names set)
    ∙ ap (λ m. asked_loop m xs rows f x r s c.args.count.step (point spans q)) iterations

pub examine_iterations-returns-clause-tells : goal.examine_iterations-returns-clause-tells
examine_iterations-returns-clause-tells t c =
    let r = span_of c.args.count.first in
    let s = span_of c.args.count.last in
    let rows = spans_of c.args.rows.now in
    let spans = spans_of c.args.ranges.now in
    let base = spans_of c.settle.new.ranges in
    let own = span_of c.taken.result in
    let x = string_bytes c.args.count.variable.now.name in
    let body = examine rows (commands_of c.args.count.body.now) in
    let xs = assigned (commands_of c.args.count.body.now) in
    let n = c.most_iterations-iterations.result in
    let named = ap names_of c.deref-2.ensures.value ∙ c.in_ok-names.ensures in
    let k : to_z w64 (of_z w64 c.args.count.step) ≡ c.args.count.step = omega (arith, ints) in
    let iterations : n ≡ most_iterations r s c.args.count.step = c.most_iterations-iterations.ensures ∙ ap (most_iterations r s) k in
    let some : 0 < n = subst (λ m. 0 < m) (sym iterations) c.requires.some in
    let begins : c.in_ok-begins.begins ≡ are_kept xs rows spans = c.in_ok-begins.ensures.kept ∙ ap (λ ys. are_kept ys rows spans) named in
    let same : base ≡ reset xs rows spans = c.in_ok-begins.ensures.rest ∙ ap (λ ys. reset ys rows spans) named in
    let o : own ≡ taken r s c.args.count.step n = c.taken.ensures ∙ ap (λ z. taken r s z n) k in
    let names = ap names_of c.deref-4.ensures.value ∙ c.in_ok-names.ensures in
    let set = c.in_ok-insert_at.ensures.set ∙ ap₂ (λ p (u : Spans). changed x (λ b. p) u) o same in
    let told = c.in_ok-told.ensures.tells ∙ ap₂ (λ (ys : List Name) (u : Spans). tell (kept rows ys (body u))) names set in
    c.iterated.ensures
    ∙ ap₂ (iterated n) begins told
    ∙ sym (tell_looped n xs rows body x r s c.args.count.step spans some)
    ∙ ap (λ m. tell (looped m xs rows body x r s c.args.count.step spans)) iterations

pub examine_keeping-returns-clause-asks : goal.examine_keeping-returns-clause-asks
examine_keeping-returns-clause-asks t c = c.in_ok-are_kept.ensures.asks ∙ ap (λ (p : Asked). asking_all (names_of c.args.assigning.now.names.now) p.spans p.rows) c.in_ok-end.ensures.asks

pub examine_keeping-returns-clause-tells : goal.examine_keeping-returns-clause-tells
examine_keeping-returns-clause-tells t c =
    let rows = spans_of c.args.rows.now in
    let a = commands_of c.args.assigning.now.body.now in
    let begin = spans_of c.args.ranges.now in
    let after = spans_of c.examine.new.ranges in
    let found = examine rows a begin in
    let end = subst (Ends found) (sym (ap (λ (p : Asked). p.spans) c.in_ok-end.ensures.asks)) (ends rows a (point begin (held rows (spans_of c.args.asked.now)))) in
    told_kept rows (names_of c.args.assigning.now.names.now) found after c.in_ok-end.end.told c.keeping.result c.in_ok-are_kept.are_kept end c.in_ok-end.ensures.tells c.in_ok-are_kept.ensures.kept c.keeping.ensures

pub examine_keeping-returns-clause-rest : goal.examine_keeping-returns-clause-rest
examine_keeping-returns-clause-rest t c =
    let rows = spans_of c.args.rows.now in
    let a = commands_of c.args.assigning.now.body.now in
    let xs = names_of c.args.assigning.now.names.now in
    let begin = spans_of c.args.ranges.now in
    let after = spans_of c.examine.new.ranges in
    let besides : Besides xs begin after =
    subst (λ (ys : List Name). Besides ys begin after) (sym c.requires.named)
    (subst (λ (u : Spans). Besides (assigned a) begin u) (sym (ap (λ (p : Asked). p.spans) c.in_ok-end.ensures.asks)) (all_besides rows a (point begin (held rows (spans_of c.args.asked.now))))) in
    c.in_ok-are_kept.ensures.rest ∙ reset_besides xs rows begin after besides

pub examine_for-examine_iterations-requires : goal.examine_for-examine_iterations-requires
examine_for-examine_iterations-requires t c =
    let many : 0 < c.most_iterations.result = search rules in
    let some = subst (λ m. 0 < m) c.most_iterations.ensures many in
    (omega arith, (some, λ e. search rules))
