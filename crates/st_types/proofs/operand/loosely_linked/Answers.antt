use Rattle.std.proofs.Common.{Ok, sym, ap, ◌∙◌}
use Rattle.fb_model.specs.TextTyping.{loose_double}
use Rattle.st_types.specs.Views.{loose_of}
use Rattle.st_types.proofs.Chains.{loose_chain_push}
use Rattle.st_types.proofs.operand.loosely_linked.Goals as goal

pub returns-in_ok-push-in-Chain : goal.returns-in_ok-push-in-Chain
returns-in_ok-push-in-Chain c =
    ap Ok (ap (λ x. loose_double c.args.operation c.args.at (loose_of x) (loose_of c.args.operand)) c.in-Chain.is ∙ sym (loose_chain_push c.in-Chain.front c.in-Chain.links c.push.new.self c.args.operation c.args.at c.args.operand c.in_ok-push-in-Chain.ensures.items))
