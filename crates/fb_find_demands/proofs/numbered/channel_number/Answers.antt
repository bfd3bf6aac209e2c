use Rattle.std.proofs.Common.{arith, string_bytes}
use Rattle.std.proofs.lemmas.List.{length-map}
use Rattle.fb_find_demands.proofs.Ranks.{if_ok}
use Rattle.fb_find_demands.proofs.numbered.channel_number.Goals as goal

pub returns : goal.returns
returns c =
    if_ok (λ n e. omega (arith, e, c.rank.ensures, c.len.ensures.len, c.len-2.ensures.len, length-map c.args.states.now.keys string_bytes, length-map c.args.events.now.keys string_bytes)) c.sum.result c.sum.ensures
