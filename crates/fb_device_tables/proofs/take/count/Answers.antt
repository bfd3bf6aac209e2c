use Rattle.std.proofs.Common.{◌≡◌, ◌<◌, ◌^◌, refl, sym, ap, rules, arith}
use Rattle.st_exec.specs.Forms.{slot_in, slot_count, bounds_in, IsDeclaredIn}
use Rattle.st_exec.proofs.Slots.{place_within}
use Rattle.fb_device_tables.proofs.Slots.{none_bound}
use Rattle.fb_device_tables.proofs.take.count.Goals as goal

pub count-requires : goal.count-requires
count-requires c =
    let fs = c.args.layout.now in
    let x = c.args.name.now in
    let d : (c.in-Some.location.first ≡ slot_in fs x) × (c.in-Some.location.bounds ≡ bounds_in fs x) × IsDeclaredIn fs x = c.in-Some.ensures in
    let w = place_within fs fs x c.in-Some.location.first (slot_count c.in-Some.location.bounds) c.in-Some.location.bounds refl d.0 d.1 d.2 refl in
    let small : c.size-room.result < 2 ^ 64 = search rules in
    omega (arith, w, c.size-room.ensures, small)

pub returns-in-None : goal.returns-in-None
returns-in-None c = sym (ap slot_count (none_bound c.args.layout.now c.args.name.now c.in-None.ensures))
