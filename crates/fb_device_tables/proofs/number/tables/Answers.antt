use Rattle.std.proofs.Common.{◌≡◌, List, sym, ap, subst, ◌∙◌, length, map, get_or, arith}
use Rattle.std.proofs.lemmas.List.{length-map}
use Rattle.st_exec.specs.Cells.{Cell, forms_of}
use Rattle.fb_types_blocks.specs.Views.{names_of}
use Rattle.fb_device_tables.specs.declared.seat.Home.{Home}
use Rattle.fb_device_tables.specs.Filling.{home_of, homes_of, seats_of, AreSeats}
use Rattle.fb_device_tables.proofs.Devices.{as_many_devices, stores_many, tables_are}
use Rattle.fb_device_tables.proofs.number.tables.Goals as goal

pub index-flat-requires : goal.index-flat-requires
index-flat-requires c =
    omega (arith, c.requires.within, as_many_devices c.args.verified.now c.fits.ensures, ap (λ x. length x.devices.items) c.flat.ensures)

pub seats-requires-clause-own : goal.seats-requires-clause-own
seats-requires-clause-own c =
    let v = c.args.verified.now in
    let n = c.args.device in
    let f = c.index-flat.result.now in
    let hs = c.in_ok-homes.homes.items in
    let f_is : f ≡ get_or v.flat.devices.items n f = subst (λ x. f ≡ get_or x.devices.items n f) c.flat.ensures c.index-flat.ensures in
    let many = stores_many v n f (homes_of hs) c.args.values.now.own.items c.args.values.now.issued.items c.fits.ensures c.requires.within f_is (rw c.deref.ensures.value at c.in_ok-homes.ensures) c.requires.first in
    ap (λ (cs : List (List Cell)). length cs) c.deref-3.ensures.value ∙ many.0 ∙ length-map hs home_of ∙ sym (ap (λ (us : List Home). length us) c.deref-2.ensures.value)

pub seats-requires-clause-issued : goal.seats-requires-clause-issued
seats-requires-clause-issued c =
    let v = c.args.verified.now in
    let n = c.args.device in
    let f = c.index-flat.result.now in
    let hs = c.in_ok-homes.homes.items in
    let f_is : f ≡ get_or v.flat.devices.items n f = subst (λ x. f ≡ get_or x.devices.items n f) c.flat.ensures c.index-flat.ensures in
    let many = stores_many v n f (homes_of hs) c.args.values.now.own.items c.args.values.now.issued.items c.fits.ensures c.requires.within f_is (rw c.deref.ensures.value at c.in_ok-homes.ensures) c.requires.first in
    ap (λ (cs : List (List Cell)). length cs) c.deref-4.ensures.value ∙ many.1 ∙ length-map hs home_of ∙ sym (ap (λ (us : List Home). length us) c.deref-2.ensures.value)

pub returns : goal.returns
returns c =
    λ d e.
    let v = c.args.verified.now in
    let n = c.args.device in
    let f = c.index-flat.result.now in
    let t = c.index-typed.result.now in
    let ss = seats_of c.in_ok-seats.seats.items in
    let owns = map forms_of c.args.values.now.own.items in
    let issues = map forms_of c.args.values.now.issued.items in
    let f_is : f ≡ get_or v.flat.devices.items n f = subst (λ x. f ≡ get_or x.devices.items n f) c.flat.ensures c.index-flat.ensures in
    let t_is : t ≡ get_or v.typed.devices.items n t = subst (λ x. t ≡ get_or x.devices.items n t) c.typed.ensures c.index-typed.ensures in
    let seated : AreSeats (homes_of c.in_ok-homes.homes.items) owns issues ss = rw c.deref-2.ensures.value at (rw c.deref-3.ensures.value at (rw c.deref-4.ensures.value at c.in_ok-seats.ensures)) in
    tables_are v n f t d (homes_of c.in_ok-homes.homes.items) owns issues ss (names_of c.in_ok-paths.paths) _ c.fits.ensures e f_is t_is
    (rw c.deref.ensures.value at c.in_ok-homes.ensures) seated
    (rw c.deref-5.ensures.value at c.in_ok-paths.ensures)
    (rw c.certificate-certificate.ensures at (rw c.deref-6.ensures.value at c.in_ok-blocks.ensures))
    (rw c.deref-7.ensures.value at c.in_ok-ports.ensures)
    (rw c.certificate-certificate.ensures at (rw c.as_str.ensures.value at (rw c.deref-10.ensures.value at c.in_ok-resources.ensures)))
    (rw c.deref-8.ensures.value at c.in_ok-inputs.ensures)
    (rw c.deref-9.ensures.value at c.in_ok-subscribers.ensures)
