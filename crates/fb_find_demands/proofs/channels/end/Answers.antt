use Rattle.std.proofs.Common.{sym, ap, ◌∙◌}
use Rattle.fb_find_demands.proofs.Loops.{rest_of}
use Rattle.fb_find_demands.specs.Ends.{names_channel}
use Rattle.fb_find_demands.proofs.Ends.{end_here, end_later}
use Rattle.fb_find_demands.proofs.channels.end.Goals as goal

pub returns-then-is_of : goal.returns-then-is_of
returns-then-is_of c =
    let xs = c.args.leaves.now in
    let i = c.loop-leaf.leaf-index in
    let x = c.leaf-item.result in
    c.as_str.ensures.value ∙ end_here xs i x c.args.number (rest_of xs i x c.loop-leaf-test.true c.leaf-item.is) (ap (names_channel c.args.number) (sym c.channel_of.ensures) ∙ (sym c.is_of.ensures ∙ c.if-is_of.true)) c.loop-leaf.invariant

pub loop-leaf-preserved : goal.loop-leaf-preserved
loop-leaf-preserved c =
    let xs = c.args.leaves.now in
    let i = c.loop-leaf.leaf-index in
    let x = c.leaf-item.result in
    end_later xs i x c.args.number (rest_of xs i x c.loop-leaf-test.true c.leaf-item.is) (ap (names_channel c.args.number) (sym c.channel_of.ensures) ∙ (sym c.is_of.ensures ∙ c.if-is_of.false)) c.loop-leaf.invariant
