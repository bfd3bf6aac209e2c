use Rattle.fb_wire.proofs.Coming.{Coming}
use Rattle.fb_wire.proofs.decoding.decode.Given as goal

-- so many values are read
abbrev pub invariant-loop : goal.invariant-loop
invariant-loop l = Coming l.fn.bytes l.count l.counter l.message l.rest
