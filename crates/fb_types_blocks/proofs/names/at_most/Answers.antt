use Rattle.fb_types_blocks.proofs.Refused.{read_at}
use Rattle.fb_types_blocks.proofs.names.at_most.Goals as goal

pub returns-in-Some-clause-refused : goal.returns-in-Some-clause-refused
returns-in-Some-clause-refused g c =
    let h = c.in-Some.ensures.lookup in
    let x = c.in-Some.item.now in
    (record { text = g.T.Named.text x; at = g.T.Named.at x }, read_at (λ x. record { text = g.T.Named.text x; at = g.T.Named.at x }) c.args.items.now c.args.most x h.3.0 h.1, c.name.ensures.at)
