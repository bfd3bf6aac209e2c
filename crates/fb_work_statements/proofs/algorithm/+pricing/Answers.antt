use Rattle.std.proofs.Common.{◌≡◌, ◌+◌, true, false, max, List, rules, sym, ap, ap₂, subst, ◌∙◌, arith, to_z, of_z, w64, string_bytes}
use Rattle.std.proofs.lemmas.Int.{clamps, ints}
use Rattle.fb_prices.specs.declared.primitive.Primitive.TheVariants as p
use Rattle.fb_model.specs.Names.{Name}
use Rattle.fb_model.specs.TypedText.{Commands}
use Rattle.fb_model.specs.Spans.{Span}
use Rattle.fb_model.specs.Clear.{Spans, changed, reset, narrowed, taken, most_iterations, range_of, examine_one}
use Rattle.fb_model.specs.Asking.{Asked, point}
use Rattle.fb_model_laws.proofs.Ending.{Ends, ends_one}
use Rattle.st_types.specs.declared.command.TypedStmt.{TypedStmt}
use Rattle.st_types.specs.Views.{term_of}
use Rattle.st_types.specs.CommandViews.{Chosen, choices_of, command_of, commands_of, counting_of}
use Rattle.fb_ranges.specs.Settling.{held}
use Rattle.fb_ranges.specs.Views.{names_of, spans_of}
use Rattle.fb_ranges_intervals.specs.Views.{span_of}
use Rattle.fb_prices.specs.Words.{prices_of}
use Rattle.fb_find_laws.specs.Nodes.{capped}
use Rattle.fb_model_work.specs.Spending.{in_term}
use Rattle.fb_model_work.specs.Most.{most_all, most_choices, most_one}
use Rattle.fb_work_statements.specs.Sums.{most_repeated}
use Rattle.fb_work_statements.specs.Telling.{has_steps}
use Rattle.fb_work_statements.proofs.Going.{choice_is, command_for, for_cost, iterations_cost, next_branch, next_statement, ranged}
use Rattle.fb_work_statements.proofs.algorithm.+pricing.Goals as goal

pub list_work-loop-statement-preserved : goal.list_work-loop-statement-preserved
list_work-loop-statement-preserved t c =
    let ps = prices_of c.args.tariff.now.prices.now in
    let rows = spans_of c.args.tariff.now.rows.now in
    let list = c.args.list.now in
    let h = c.loop-statement.invariant in
    let y = c.statement-item.result in
    let here = spans_of c.loop-statement.here in
    let after = spans_of c.examine_one.new.ranges in
    let found = examine_one rows (command_of y) here in
    let told = c.in_ok-told.told in
    let clear : has_steps told ≡ true = search rules in
    let spans = ap (λ (q : Asked). q.spans) c.in_ok-told.ensures.asks in
    let end = subst (Ends found) (sym spans) (ends_one rows (command_of y) (point here (held rows (spans_of c.loop-statement.asked)))) in
    record {
      least = omega (arith, clamps, c.added-sum.ensures);
      sum =
          next_statement ps rows list c.loop-statement.statement-index y here after told c.loop-statement.sum c.in_ok-work.work c.added-sum.result
          (capped (most_all ps rows (commands_of list) (spans_of c.in_ok-here.here)))
          c.loop-statement-test.true c.statement-item.is h.sum c.in_ok-work.ensures c.added-sum.ensures c.in_ok-told.ensures.tells clear end;
    }

pub branches_work-loop-branch-preserved : goal.branches_work-loop-branch-preserved
branches_work-loop-branch-preserved t c =
    let ps = prices_of c.args.tariff.now.prices.now in
    let rows = spans_of c.args.tariff.now.rows.now in
    let branches = c.args.branches.now in
    let other = most_all ps rows (commands_of c.args.other.now) in
    let h = c.loop-branch.invariant in
    let y = c.branch-item.result in
    let here = spans_of c.loop-branch.others in
    let after = spans_of c.narrow-in-loop-branch.new.ranges in
    let cost = λ (k : Commands) (u : Spans). capped (most_all ps rows k u) in
    let begin = c.in_ok-narrow.ensures ∙ ap (narrowed (term_of y.condition) true) c.in_ok-inside.ensures in
    let body =
    c.in_ok-body.ensures
    ∙ ap₂ (λ (l : List TypedStmt) (u : Spans). cost (commands_of l) u) c.deref.ensures.value begin
    ∙ ap (λ (q : Chosen). cost q.1 (narrowed q.0 true here)) (sym (choice_is y)) in
    let most : c.max-best.result ≡ max c.loop-branch.best c.added.result = search rules in
    let left = c.in_ok-narrow-2.ensures ∙ ap (λ (q : Chosen). narrowed q.0 false here) (sym (choice_is y)) in
    record {
      best = omega (arith, clamps, h.best, c.added.ensures, most);
      sum =
          next_branch ps rows branches c.loop-branch.branch-index y other here after c.loop-branch.best c.loop-branch.tried
          c.condition_work.result c.in_ok-body.body c.added-tried.result c.added.result c.max-best.result
          (capped (most_choices ps rows (choices_of branches) other (spans_of c.in_ok-others.others)))
          c.loop-branch-test.true c.branch-item.is h.sum c.condition_work.ensures body c.added-tried.ensures c.added.ensures most left;
    }

pub iterations_work-returns : goal.iterations_work-returns
iterations_work-returns t c =
    let ps = prices_of c.args.tariff.now.prices.now in
    let rows = spans_of c.args.tariff.now.rows.now in
    let k = c.args.counting.now in
    let body = commands_of c.args.body.now in
    let spans = spans_of c.args.ranges.now in
    let inside = spans_of c.insert_at.new.self in
    let r = span_of c.range-first.result.range in
    let s = span_of c.range-last.result.range in
    let n = c.most_iterations-iterations.result in
    let x = string_bytes k.variable.name in
    let step : to_z w64 (of_z w64 k.step) ≡ k.step = omega (arith, ints) in
    let many : n ≡ most_iterations r s k.step = c.most_iterations-iterations.ensures ∙ ap (most_iterations r s) step in
    let own = c.taken-values.ensures ∙ ap (λ z. taken r s z n) step in
    let first = ranged c.range-first.result (range_of (term_of k.first) spans) (search rules) c.range-first.ensures.clear in
    let last = ranged c.range-last.result (range_of (term_of k.last) spans) (search rules) c.range-last.ensures.clear in
    let names = ap names_of c.deref.ensures.value ∙ c.in_ok-names.ensures in
    let begin = c.in_ok-reset.ensures ∙ ap₂ (λ (ys : List Name) (u : Spans). reset ys rows u) names c.in_ok-inside.ensures in
    let from = c.in_ok-insert_at.ensures.set ∙ ap₂ (λ (q : Span) (u : Spans). changed x (λ b. q) u) own begin in
    iterations_cost ps rows (counting_of k) body spans inside r s n c.in_ok-work.work c.added-each.result c.times.result
    first last many from c.in_ok-work.ensures
    (c.added-each.ensures ∙ ap (λ j. capped (j + c.in_ok-work.work)) c.price.ensures) c.times.ensures

pub statement_work-returns-in_ok-work-in-For : goal.statement_work-returns-in_ok-work-in-For
statement_work-returns-in_ok-work-in-For t c =
    let ps = prices_of c.args.tariff.now.prices.now in
    let rows = spans_of c.args.tariff.now.rows.now in
    let spans = spans_of c.args.ranges.now in
    let k = c.in-For.counting in
    let v = c.in-For.body in
    let is = ap command_of c.in-For.is ∙ command_for k v in
    let cost = λ (l : List TypedStmt). most_repeated ps rows (counting_of k) (commands_of l) spans in
    let work = c.in_ok-work-in-For.ensures ∙ ap (λ (l : List TypedStmt). capped (cost l)) c.deref-in-For.ensures.value in
    for_cost (ps p.For) (in_term ps (term_of k.first)) (in_term ps (term_of k.last)) (cost v.items)
    c.expression_work-in-For.result c.expression_work-in-For-2.result c.added-bounds.result c.added-in-For.result c.added-in-For-2.result
    c.expression_work-in-For.ensures c.expression_work-in-For-2.ensures c.added-bounds.ensures
    (c.added-in-For.ensures ∙ ap (λ j. capped (c.added-bounds.result + j)) work)
    (c.added-in-For-2.ensures ∙ ap (λ j. capped (j + c.added-in-For.result)) c.price-in-For.ensures)
    ∙ sym (ap (λ d. capped (most_one ps rows d spans)) is)
