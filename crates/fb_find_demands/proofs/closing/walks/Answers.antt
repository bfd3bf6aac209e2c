use Rattle.std.proofs.Common.{◌∙◌}
use Rattle.fb_find_graph.specs.Views.{system_of}
use Rattle.fb_find_demands.specs.Rights.{rights_of}
use Rattle.fb_find_demands.proofs.Handed.{asked_system, answered, handed_many, handed_grouped}
use Rattle.fb_find_demands.proofs.closing.walks.Goals as goal

pub is_closed_walk-requires : goal.is_closed_walk-requires
is_closed_walk-requires c =
    let n = c.args.numbering.now in
    let fs = c.args.flat.now.devices.items in
    let s = c.requires.0 in
    let i = c.requires.1 in
    let rights = rights_of c.in_ok-rights.rights.items in
    asked_system c.args.repeats fs n s i rights (system_of c.as_slice.result.now) (c.in_ok-rights.ensures s i)
    (handed_grouped n c.in_ok-count.count rights c.in_ok-system.system.items c.as_slice.result.now c.in_ok-count.ensures c.as_slice.ensures.value c.in_ok-system.ensures.grouped)
    (handed_many n c.in_ok-count.count rights c.in_ok-system.system.items c.as_slice.result.now c.in_ok-count.ensures c.as_slice.ensures.value c.in_ok-system.ensures.sized)

pub returns : goal.returns
returns c = λ s i.
    let n = c.args.numbering.now in
    let fs = c.args.flat.now.devices.items in
    let rights = rights_of c.in_ok-rights.rights.items in
    answered c.args.repeats fs n s i rights (system_of c.as_slice.result.now) (c.in_ok-rights.ensures s i)
    (handed_grouped n c.in_ok-count.count rights c.in_ok-system.system.items c.as_slice.result.now c.in_ok-count.ensures c.as_slice.ensures.value c.in_ok-system.ensures.grouped)
    (handed_many n c.in_ok-count.count rights c.in_ok-system.system.items c.as_slice.result.now c.in_ok-count.ensures c.as_slice.ensures.value c.in_ok-system.ensures.sized)
    c.args.places.now c.as_slice-2.result.now (c.as_slice-2.ensures.value ∙ c.in_ok-numbers.ensures) c.is_closed_walk.result c.is_closed_walk.ensures
