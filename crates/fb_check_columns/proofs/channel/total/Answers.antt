use Rattle.std.proofs.Common.{◌≡◌, refl, ap, subst, arith}
use Rattle.std.proofs.lemmas.List.{drop_all}
use Rattle.fb_check_columns.specs.Sums.{IsSum}
use Rattle.fb_check_columns.specs.Channels.{cost_of, cost_in}
use Rattle.fb_check_columns.proofs.Hearing.{cost_there, costs_length}
use Rattle.fb_check_columns.proofs.Values.{sum_step}
use Rattle.fb_check_columns.proofs.channel.total.Goals as goal

pub loop-each-preserved : goal.loop-each-preserved
loop-each-preserved c =
    λ xs a.
    let inv = c.loop-each.invariant xs a in
    let t = cost_there c.args.heard.now xs c.loop-each.each-index _ a c.loop-each-test.true in
    let f = cost_of c.args.channel in
    (_, c.plus-sum.ensures inv.0 (f t.0) inv.1 (c.cost_of.ensures t.0 t.3 t.4), sum_step f xs c.loop-each.each-index t.0 t.1 t.2 inv.0 (f t.0) _ refl inv.2)

pub returns : goal.returns
returns c =
    λ xs a.
    let inv = c.loop-each.invariant xs a in
    let none = drop_all c.loop-each.each-index xs (omega (arith, costs_length c.args.heard.now xs a, c.loop-each-test.false)) in
    let all : inv.0 ≡ cost_in c.args.channel xs = omega (arith, inv.2, ap (cost_in c.args.channel) none) in
    subst (IsSum c.loop-each.sum) all inv.1
