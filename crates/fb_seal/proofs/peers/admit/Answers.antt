use Rattle.std.proofs.Common.{arith, sym, ◌∙◌, ap, ◌≡◌, Some, List, subst, ℕ, ◌<◌}
use Rattle.std.specs.List.{position_from}
use Rattle.fb_seal.specs.Reading.{Envelope, envelope_of}
use Rattle.fb_seal.specs.declared.peers.Peer.{Peer}
use Rattle.fb_seal.specs.Ledger.{Extends}
use Rattle.fb_seal.specs.Peers.{has_sealed, sealer, sender_in}
use Rattle.fb_seal.proofs.Admitting.{admits, found_within}
use Rattle.fb_seal.proofs.Extending.{extended, sealer_at, untaken_at}
use Rattle.fb_seal.proofs.Spelling.{are_bytes}
use Rattle.fb_seal.proofs.peers.admit.Goals as goal

pub extend_at-requires : goal.extend_at-requires
extend_at-requires g c =
    found_within (has_sealed c.args.bytes.now c.in-Some.said.sender) c.args.peers.now.items c.in-Some-sealer.place
    (ap (position_from (has_sealed c.args.bytes.now c.in-Some.said.sender) 0) (sym c.deref.ensures.value) ∙ sym c.in-Some-sealer.ensures)

pub take_at-requires : goal.take_at-requires
take_at-requires g c =
    let within = found_within (has_sealed c.args.bytes.now c.in-Some.said.sender) c.args.peers.now.items c.in-Some-sealer.place
    (ap (position_from (has_sealed c.args.bytes.now c.in-Some.said.sender) 0) (sym c.deref.ensures.value) ∙ sym c.in-Some-sealer.ensures) in
    subst (λ (n : ℕ). c.in-Some-sealer.place < n) (sym c.extend_at.ensures.as_many) within

pub returns-in-None-take_at-clause-ok : goal.returns-in-None-take_at-clause-ok
returns-in-None-take_at-clause-ok g c =
    let bytes = c.args.bytes.now in
    let e = envelope_of c.in-Some.said in
    let mid = c.extend_at.new.peers.items in
    let first : position_from (has_sealed bytes e.sender) 0 c.args.peers.now.items ≡ Some c.in-Some-sealer.place =
    ap (position_from (has_sealed bytes c.in-Some.said.sender) 0) (sym c.deref.ensures.value) ∙ sym c.in-Some-sealer.ensures in
    let says = sym c.in-Some.ensures.1 in
    let sender : sender_in bytes ≡ e.sender = ap (λ (x : Envelope). x.sender) says in
    let later : position_from (has_sealed bytes e.sender) 0 mid ≡ Some c.in-Some-sealer.place =
    ap (λ (n : ℕ). position_from (has_sealed bytes n) 0 mid) (sym sender) ∙ c.extend_at.ensures.sealers bytes
    ∙ sealer_at bytes e c.args.peers.now.items c.in-Some-sealer.place says first in (
      mid,
      extended g.K.Ledger.writes c.args.peers.now.items c.args.ledger.now bytes e c.in-Some-sealer.place mid c.extend_at.new.ledger c.in-Some.ensures.0 says first c.extend_at.ensures.told,
      admits mid c.take_at.new.peers.items bytes e c.in-Some-sealer.place (are_bytes bytes (λ i. omega (arith, c.type_inv.bytes i))) c.in-Some.ensures.0 says later c.in-None-take_at.ensures.taken,
    )

pub returns-in-Some-take_at-clause-err : goal.returns-in-Some-take_at-clause-err
returns-in-Some-take_at-clause-err g c =
    let bytes = c.args.bytes.now in
    let e = envelope_of c.in-Some.said in
    let before = c.args.peers.now.items in
    let mid = c.extend_at.new.peers.items in
    let place = c.in-Some-sealer.place in
    let refused = c.in-Some-take_at.ensures.refused in
    let first : position_from (has_sealed bytes e.sender) 0 before ≡ Some place =
    ap (position_from (has_sealed bytes c.in-Some.said.sender) 0) (sym c.deref.ensures.value) ∙ sym c.in-Some-sealer.ensures in
    let says = sym c.in-Some.ensures.1 in
    let later : sealer bytes mid ≡ Some place = c.extend_at.ensures.sealers bytes ∙ sealer_at bytes e before place says first in (
      subst (λ (ps : List Peer). Extends g.K.Ledger.writes before c.args.ledger.now bytes ps c.extend_at.new.ledger) (sym refused.kept)
          (extended g.K.Ledger.writes before c.args.ledger.now bytes e place mid c.extend_at.new.ledger c.in-Some.ensures.0 says first c.extend_at.ensures.told),
      untaken_at mid bytes place e.counter c.take_at.new.peers.items c.in-Some-take_at.reason c.in-Some.ensures.0 (sym (ap (λ (x : Envelope). x.counter) says)) later refused,
    )
