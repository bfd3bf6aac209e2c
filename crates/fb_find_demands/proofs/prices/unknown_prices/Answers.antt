use Rattle.std.proofs.Common.{[], ◌∷◌, ◌++◌, ◌+◌, ◌<◌, None, drop, length, map, sym, ap, ◌∙◌, append_assoc, arith}
use Rattle.fb_find_demands.specs.Prices.{prices}
use Rattle.fb_find_demands.proofs.Costs.{procedure, unknown_more}
use Rattle.fb_find_demands.proofs.prices.unknown_prices.Goals as goal

pub loop-preserved : goal.loop-preserved
loop-preserved c =
    let es = c.args.procedures.now.entries in
    let i = c.loop.counter in
    let old = c.loop.prices.items in
    let inside : i < length es = omega (arith, c.loop-test.true, c.len-end.ensures) in
    let rest = prices None (map procedure (drop (i + 1) es)) in
    ap (λ xs. xs ++ rest) c.in_ok-push.ensures.items ∙ append_assoc old (1000000000001 ∷ []) rest ∙ ap (λ xs. old ++ xs) (sym (unknown_more es i inside)) ∙ c.loop.invariant
