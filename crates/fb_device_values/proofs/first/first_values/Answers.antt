use Rattle.std.proofs.Common.{◌≡◌, subst, get_or, length, ap, arith}
use Rattle.fb_device_values.proofs.Knowing.{as_many_devices, firsts_are}
use Rattle.fb_device_values.proofs.first.first_values.Goals as goal

pub index-requires : goal.index-requires
index-requires c = omega (arith, c.requires.within, as_many_devices c.args.verified.now c.fits.ensures, ap (λ x. length x.devices.items) c.flat.ensures)

pub returns : goal.returns
returns c =
    λ d e.
    let v = c.args.verified.now in
    let n = c.args.device in
    let f = c.index.result.now in
    let f_is : f ≡ get_or v.flat.devices.items n f = subst (λ x. f ≡ get_or x.devices.items n f) c.flat.ensures c.index.ensures in
    firsts_are v n f d c.leaf_values.result c.fits.ensures e f_is (rw c.deref.ensures.value at c.leaf_values.ensures)
