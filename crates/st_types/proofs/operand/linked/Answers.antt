use Rattle.std.proofs.Common.{Ok, sym, ap, ◌∙◌}
use Rattle.fb_model.specs.TypedText.{double}
use Rattle.st_types.specs.Views.{term_of}
use Rattle.st_types.proofs.Chains.{chain_push}
use Rattle.st_types.proofs.operand.linked.Goals as goal

pub returns-in_ok-push-in-Chain : goal.returns-in_ok-push-in-Chain
returns-in_ok-push-in-Chain c =
    ap Ok (ap (λ x. double c.args.operation c.args.of_type (term_of x) (term_of c.args.operand)) c.in-Chain.is ∙ sym (chain_push c.in-Chain.front c.in-Chain.links c.push.new.self c.args.operation c.args.of_type c.args.operand c.in_ok-push-in-Chain.ensures.items))
