use Rattle.std.proofs.Common.{◌≡◌, ◌∙◌, ℕ, refl, ap, subst, arith}
use Rattle.std.specs.Prelude.{slice_get, Some}
use Rattle.std.proofs.lemmas.Bool.{both_ways}
use Rattle.fb_seal.specs.Ledger.{Permits, beyond}
use Rattle.fb_seal.specs.Peers.{allow_at, sealer}
use Rattle.fb_seal.proofs.Admitting.{allows_at}
use Rattle.fb_seal.proofs.Extending.{allowed_sealer, there_at}
use Rattle.fb_seal.proofs.peers.extend_at.Goals as goal

pub returns-then-allow-clause-told : goal.returns-then-allow-clause-told
returns-then-allow-clause-told g c =
    let known = c.index-known.result.now in
    let peers = c.args.peers.now.items in
    let is : c.saturating_add-upto.result ≡ beyond c.args.counter 64 = c.saturating_add-upto.ensures in
    let there : slice_get peers c.args.place ≡ Some known = there_at peers c.args.place known c.requires c.index-known.ensures in
    let kept = allows_at peers c.args.place c.saturating_add-upto.result known c.max.result c.index-known.ensures c.max.ensures in
    record {
      peer = known;
      there = there;
      enough = λ less. absurd (omega (arith, less));
      last = λ le. absurd (omega (arith, le));
      more = λ le less. (
        c.allow.result,
        subst (λ (n : ℕ). g.K.Ledger.writes c.args.ledger.now (Permits c.args.place n) c.allow.result c.allow.new.self) is c.allow.ensures,
        (λ yes. kept ∙ ap (allow_at peers c.args.place) is),
        (λ no. absurd (both_ways _ no c.if-allow.true)),
      );
    }

pub returns-then-allow-clause-sealers : goal.returns-then-allow-clause-sealers
returns-then-allow-clause-sealers g c = λ bytes.
    let known = c.index-known.result.now in
    let peers = c.args.peers.now.items in
    ap (sealer bytes) (allows_at peers c.args.place c.saturating_add-upto.result known c.max.result c.index-known.ensures c.max.ensures)
    ∙ allowed_sealer bytes peers c.args.place c.saturating_add-upto.result

pub returns-else-allow-clause-told : goal.returns-else-allow-clause-told
returns-else-allow-clause-told g c =
    let known = c.index-known.result.now in
    let peers = c.args.peers.now.items in
    let is : c.saturating_add-upto.result ≡ beyond c.args.counter 64 = c.saturating_add-upto.ensures in
    let there : slice_get peers c.args.place ≡ Some known = there_at peers c.args.place known c.requires c.index-known.ensures in
    record {
      peer = known;
      there = there;
      enough = λ less. absurd (omega (arith, less));
      last = λ le. absurd (omega (arith, le));
      more = λ le less. (
        c.allow.result,
        subst (λ (n : ℕ). g.K.Ledger.writes c.args.ledger.now (Permits c.args.place n) c.allow.result c.allow.new.self) is c.allow.ensures,
        (λ yes. absurd (both_ways _ c.if-allow.false yes)),
        (λ no. refl),
      );
    }
