use Rattle.std.proofs.Common.{◌≡◌, ◌-◌, length, map, drop, sym, ap, ap₂, ◌∙◌, arith, Bor}
use Rattle.fb_flat.specs.declared.flat.Leaf.{Leaf}
use Rattle.fb_find_demands.specs.Ends.{with_channel, channels_in}
use Rattle.fb_find_demands.proofs.channels.all_channels.Goals as goal

pub loop-back-preserved : goal.loop-back-preserved
loop-back-preserved c = c.in_ok-add_channel.ensures ∙ (ap₂ with_channel c.channel_of.ensures c.loop-back.invariant ∙ ap channels_in (sym c.from_end.ensures))

pub returns : goal.returns
returns c =
    let xs = c.args.leaves.now in
    c.loop-back.invariant ∙ ap (λ k. channels_in (drop k (map (λ (l : Bor Leaf). l.now) xs))) (let e : length xs - c.loop-back.back ≡ 0 = omega (arith, c.loop-back-test.false) in e)
