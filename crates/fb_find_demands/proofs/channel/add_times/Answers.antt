use Rattle.std.proofs.Common.{[], ◌∷◌, ◌++◌, replicate, ap, ◌∙◌, append_assoc, arith}
use Rattle.fb_find_demands.proofs.Ranks.{one_more}
use Rattle.fb_find_demands.proofs.channel.add_times.Goals as goal

pub loop-preserved : goal.loop-preserved
loop-preserved c =
    let old = c.args.terms.now.items in
    let x = c.args.number in
    c.in_ok-push.ensures.items ∙ (ap (λ xs. xs ++ x ∷ []) c.loop.invariant ∙ (append_assoc old (replicate c.loop.counter x) (x ∷ []) ∙ ap (λ xs. old ++ xs) (one_more c.loop.counter x)))

pub returns : goal.returns
returns c = c.loop.invariant ∙ ap (λ k. c.args.terms.now.items ++ replicate k c.args.number) (omega (arith, c.loop-test.false))
