use Rattle.std.proofs.Common.{refl, arith}
use Rattle.fb_wire.specs.Views.{stamped_of}
use Rattle.fb_device.proofs.Beginning.{good_at_first, machine_is}
use Rattle.fb_device.proofs.loading.numbered_ready.Goals as goal

pub invariant_of-result : goal.invariant_of-result
invariant_of-result c =
    let e = rw c.deref.ensures at c.in-Ok.ensures in
    let f = e.first in
    good_at_first (record { verified = c.args.verified; number = c.args.number; tables = c.in-Ok.tables }) c.args.first c.args.stamp f.0 c.in-Ok.running e.checked c.requires.within e.tables f.1.lies f.1.rest
    (record { boot = omega (arith); sequence = omega (arith) }) (omega (arith, c.requires.early))

pub invariant_of-result-in-Ok : goal.invariant_of-result-in-Ok
invariant_of-result-in-Ok c =
    let e = rw c.deref.ensures at c.in-Ok.ensures in
    let f = e.first in
    record {
      first = c.args.first;
      stamp = stamped_of c.args.stamp;
      early = c.requires.early;
      is_stamp = record { boot = omega (arith); sequence = omega (arith) };
      silent = machine_is (record { verified = c.args.verified; number = c.args.number; tables = c.in-Ok.tables }) c.args.first c.args.stamp f.0 c.in-Ok.running e.checked c.requires.within e.tables f.1.lies f.1.rest;
    }

pub returns-in-Ok-clause-ready : goal.returns-in-Ok-clause-ready
returns-in-Ok-clause-ready c =
    let e = rw c.deref.ensures at c.in-Ok.ensures in
    let f = e.first in
    (refl, refl, machine_is (record { verified = c.args.verified; number = c.args.number; tables = c.in-Ok.tables }) c.args.first c.args.stamp f.0 c.in-Ok.running e.checked c.requires.within e.tables f.1.lies f.1.rest)
