use Rattle.std.proofs.Common.{arith, ◌≡◌, ◌∙◌, ℕ, ap, length, take, subst}
use Rattle.fb_words.specs.Links.{Handed}
use Rattle.fb_seal.proofs.Dropping.{one_more}
use Rattle.fb_seal.proofs.link.take_from.Goals as goal

pub loop-preserved : goal.loop-preserved
loop-preserved g c =
    let at = c.loop in
    let bytes = take c.in-Got.length c.receive.new.buffer in
    let room : length at.raw ≡ 188 = omega arith in
    one_more g.L.Link.steps g.K.Ledger.writes g.G.Gate.lets c.args.peers.now.items c.args.ledger.now c.args.gate.now c.args.dropped.now c.args.link.now at.counter at.peers.items
    at.ledger at.gate at.dropped at.link c.in-Err.reason bytes c.in-Err.ensures.err.0 c.taken_in.new.ledger c.taken_in.new.peers.items c.taken_in.new.gate c.count.new.self
    c.receive.new.self at.invariant
    (subst (λ (n : ℕ). g.L.Link.steps at.link (Handed n bytes) c.receive.new.self) room c.in-Got.ensures.told)
    c.in-Err.ensures.err.1 c.in-Err.ensures.err.2 c.count.ensures

pub returns-in-Ok-clause-told : goal.returns-in-Ok-clause-told
returns-in-Ok-clause-told g c =
    let at = c.loop in
    let bytes = take c.in-Got.length c.receive.new.buffer in
    let room : length at.raw ≡ 188 = omega arith in
    let whole : length at.buffer ≡ length c.args.buffer.now = omega arith in
    record {
      reasons = at.invariant.reasons;
      mid = at.peers.items;
      ledger = at.ledger;
      gate = at.gate;
      between = at.link;
      drops = at.invariant.drops;
      received = (
        omega (arith, at.invariant.as_many),
        bytes,
        c.in-Ok.datagram.now,
        c.in-Ok.ensures.ok.0,
        subst (λ (n : ℕ). g.L.Link.steps at.link (Handed n bytes) c.receive.new.self) room c.in-Got.ensures.told,
        c.in-Ok.ensures.ok.1,
        c.in-Ok.ensures.ok.2,
        c.copy_front.ensures.front ∙ ap (λ (n : ℕ). take n c.in-Ok.datagram.now) whole,
      );
      counts = at.invariant.counts;
    }
