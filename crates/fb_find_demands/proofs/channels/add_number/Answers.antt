use Rattle.std.proofs.Common.{◌∷◌, ◌++◌, sym, ap, ◌∙◌}
use Rattle.fb_find_demands.proofs.Ranks.{if_ok}
use Rattle.fb_find_demands.proofs.Ends.{stands_at, stands_before, goes_on}
use Rattle.fb_find_demands.proofs.channels.add_number.Goals as goal

pub returns-then-is_at : goal.returns-then-is_at
returns-then-is_at c =
    let xs = c.args.numbers.now in
    let i = c.loop-index.index in
    if_ok (λ v e. e ∙ (ap (λ ys. c.loop-index.all.items ++ ys) (c.rest-behind.ensures ∙ stands_at c.args.number xs i c.loop-index-test.true (sym c.is_at.ensures ∙ c.if-is_at.true)) ∙ c.loop-index.invariant)) c.with_all.result c.with_all.ensures

pub returns-then-is_below : goal.returns-then-is_below
returns-then-is_below c =
    let xs = c.args.numbers.now in
    let i = c.loop-index.index in
    if_ok
    (λ v e.
    e
    ∙ (ap (λ ys. c.loop-index.all.items ++ ys) (ap (λ ys. c.args.number ∷ ys) c.rest-behind.ensures ∙ stands_before c.args.number xs i c.loop-index-test.true (sym c.is_at.ensures ∙ c.if-is_at.false) (sym c.is_below.ensures ∙ c.if-is_below.true))
    ∙ c.loop-index.invariant)) c.with_one.result c.with_one.ensures

pub loop-index-preserved : goal.loop-index-preserved
loop-index-preserved c =
    let xs = c.args.numbers.now in
    let i = c.loop-index.index in
    goes_on c.args.number xs c.loop-index.all.items c.push.new.self.items i c.loop-index-test.true (sym c.is_at.ensures ∙ c.if-is_at.false) (sym c.is_below.ensures ∙ c.if-is_below.false) c.in_ok-push.ensures.items c.loop-index.invariant
