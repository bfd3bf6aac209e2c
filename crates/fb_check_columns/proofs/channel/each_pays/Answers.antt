use Rattle.std.proofs.Common.{◌≡◌, take, subst, arith}
use Rattle.std.specs.List.{AllByRecursion}
use Rattle.std.proofs.lemmas.List.{take_all}
use Rattle.fb_check_columns.specs.Channels.{Cost, ChannelPays}
use Rattle.fb_check_columns.proofs.Each.{all_more}
use Rattle.fb_check_columns.proofs.Hearing.{cost_there, costs_length}
use Rattle.fb_check_columns.proofs.channel.each_pays.Goals as goal

pub loop-each-preserved : goal.loop-each-preserved
loop-each-preserved c =
    λ xs a.
    let t = cost_there c.args.heard.now xs c.loop-each.each-index _ a c.loop-each-test.true in
    all_more (λ (x : Cost). ChannelPays c.args.certificate.now xs x.channel) xs c.loop-each.each-index t.0 t.1 t.2 (c.loop-each.invariant xs a) (subst (ChannelPays c.args.certificate.now xs) t.3 (c.in_ok-channel_pays.ensures xs a))

pub returns : goal.returns
returns c =
    λ xs a.
    let all : take c.loop-each.each-index xs ≡ xs = take_all c.loop-each.each-index xs (omega (arith, costs_length c.args.heard.now xs a, c.loop-each-test.false)) in
    subst (AllByRecursion (λ (x : Cost). ChannelPays c.args.certificate.now xs x.channel)) all (c.loop-each.invariant xs a)
