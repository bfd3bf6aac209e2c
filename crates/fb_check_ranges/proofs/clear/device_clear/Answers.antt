use denote.Ref.{Bor}
use Rattle.std.proofs.Common.{◌≡◌, List, [], ◌∷◌, map, sym, ap, subst, ◌∙◌}
use Rattle.fb_model.specs.Wires.{leaves}
use Rattle.fb_cert.specs.Views.{certificate_of}
use Rattle.fb_flat.specs.declared.flat.Leaf.{Leaf}
use Rattle.fb_flat.specs.Tables.{AreLeaves}
use Rattle.fb_check_ranges.specs.Places.{leaves_in}
use Rattle.fb_check_ranges.proofs.Placing.{device_leaves}
use Rattle.fb_check_ranges.proofs.Composed.{passes_then, refused_then}
use Rattle.fb_check_ranges.proofs.clear.device_clear.Goals as goal

pub returns-clause-clears : goal.returns-clause-clears
returns-clause-clears c =
    let device = c.args.device.now in
    let all : map (λ (l : Bor Leaf). l.now) c.in_ok-leaves.leaves.items ≡ leaves_in device.resources.items = c.in_ok-leaves.ensures ∙ ap leaves_in c.as_slice.ensures.value in
    let places = rw c.as_slice-2.ensures.value at c.in_ok-places.ensures in
    let ensured = rw c.as_slice-3.ensures.value at c.leaves_clear.ensures.clears in
    passes_then (certificate_of c.args.certificate.now).ranges device c.leaves_clear.result
    (λ d is known. ensured places (leaves d) (subst (λ (ls : List Leaf). AreLeaves ls (leaves d)) (sym all) (device_leaves 0 (d.name ∷ []) device.resources.items d.resources is.resources)) known)

pub returns-clause-refused : goal.returns-clause-refused
returns-clause-refused c =
    let device = c.args.device.now in
    let all : map (λ (l : Bor Leaf). l.now) c.in_ok-leaves.leaves.items ≡ leaves_in device.resources.items = c.in_ok-leaves.ensures ∙ ap leaves_in c.as_slice.ensures.value in
    let places = rw c.as_slice-2.ensures.value at c.in_ok-places.ensures in
    let ensured = rw c.as_slice-3.ensures.value at c.leaves_clear.ensures.refused in
    refused_then (certificate_of c.args.certificate.now).ranges device c.leaves_clear.result
    (λ d is known. ensured places (leaves d) (subst (λ (ls : List Leaf). AreLeaves ls (leaves d)) (sym all) (device_leaves 0 (d.name ∷ []) device.resources.items d.resources is.resources)) known)
