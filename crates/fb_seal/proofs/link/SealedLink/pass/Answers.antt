use Rattle.std.proofs.Common.{arith, ◌≡◌, ◌∙◌, List, ℕ, refl, subst}
use Rattle.std.specs.Prelude.{nat_lt, nat_le, length}
use Rattle.std.proofs.lemmas.Bool.{and_from, both_ways, lt-ltb, le-leb}
use Rattle.fb_words.specs.Links.{Sent}
use Rattle.fb_seal.specs.Seal.{sealed}
use Rattle.fb_seal.specs.Passing.{Own}
use Rattle.fb_seal.proofs.link.SealedLink.pass.Goals as goal

pub returns-clause-told : goal.returns-clause-told
returns-clause-told g c =
    let f = c.refill.new.self in
    let filled : Own = record { number = f.number; key = f.key; next = f.next; reserved = f.reserved; peers = f.peers.items; dropped = f.dropped } in
    let bytes = c.args.bytes.now in
    let is : c.as_slice.result.now ≡ sealed f.key f.number f.next bytes = c.as_slice.ensures.value ∙ c.seal-sealed.ensures in
    record {
      filled = filled;
      refills = c.refill.ensures.told;
      done = λ can. (
        subst (λ l. g.L.Link.steps l (Sent (sealed f.key f.number f.next bytes) c.send.result) c.send.new.self) c.refill.ensures.kept.0
            (subst (λ (x : List ℕ). g.L.Link.steps f.link (Sent x c.send.result) c.send.new.self) is c.send.ensures.told),
        refl,
      );
      refused = λ no. absurd (both_ways _ no (and_from (nat_lt f.next f.reserved) (nat_le (length bytes) 160)
          (lt-ltb f.next f.reserved (omega arith)) (le-leb (length bytes) 160 (omega arith))));
    }
