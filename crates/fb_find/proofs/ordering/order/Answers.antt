use Rattle.std.proofs.Common.{subst}
use Rattle.fb_find_graph.specs.Views.{system_of}
use Rattle.fb_find_rows.specs.Faults.{IsWalk}
use Rattle.fb_types_blocks.specs.Views.{names_of}
use Rattle.fb_find_demands.specs.Rights.{rights_of}
use Rattle.fb_find.proofs.Nodes.{asked_system, serves_all, cycle, if_ok, if_err, sized_slice, grouped_slice}
use Rattle.fb_find.proofs.ordering.order.Goals as goal

pub sorted-requires : goal.sorted-requires
sorted-requires c =
    asked_system c.args.repeats c.args.flat.now.devices.items c.args.numbering.now c.requires.0 c.requires.1 (rights_of c.in_ok-rights.rights.items) (system_of c.as_slice-2.result.now) (c.in_ok-rights.ensures c.requires.0 c.requires.1)
    (grouped_slice c.args.numbering.now c.in_ok-count.count (rights_of c.in_ok-rights.rights.items) c.in_ok-system.system.items c.as_slice-2.result.now c.in_ok-count.ensures c.as_slice-2.ensures.value c.in_ok-system.ensures.grouped)
    (sized_slice c.args.numbering.now c.in_ok-count.count c.in_ok-system.system.items c.as_slice-2.result.now c.in_ok-count.ensures c.as_slice-2.ensures.value c.in_ok-system.ensures.sized)

pub returns-clause-ordered : goal.returns-clause-ordered
returns-clause-ordered c = λ s i.
    if_ok (λ o h. serves_all c.args.repeats c.args.flat.now.devices.items c.args.numbering.now s i (rights_of c.in_ok-rights.rights.items) (system_of c.as_slice-2.result.now) (c.in_ok-rights.ensures s i)
    (grouped_slice c.args.numbering.now c.in_ok-count.count (rights_of c.in_ok-rights.rights.items) c.in_ok-system.system.items c.as_slice-2.result.now c.in_ok-count.ensures c.as_slice-2.ensures.value c.in_ok-system.ensures.grouped)
    (sized_slice c.args.numbering.now c.in_ok-count.count c.in_ok-system.system.items c.as_slice-2.result.now c.in_ok-count.ensures c.as_slice-2.ensures.value c.in_ok-system.ensures.sized) o.items h) c.sorted.result c.sorted.ensures.ordered

pub returns-clause-cycle : goal.returns-clause-cycle
returns-clause-cycle c = λ s i.
    if_err (λ f h. cycle c.args.repeats c.args.flat.now.devices.items c.args.numbering.now s i (rights_of c.in_ok-rights.rights.items) (system_of c.as_slice-2.result.now) (c.in_ok-rights.ensures s i)
    (grouped_slice c.args.numbering.now c.in_ok-count.count (rights_of c.in_ok-rights.rights.items) c.in_ok-system.system.items c.as_slice-2.result.now c.in_ok-count.ensures c.as_slice-2.ensures.value c.in_ok-system.ensures.grouped)
    (sized_slice c.args.numbering.now c.in_ok-count.count c.in_ok-system.system.items c.as_slice-2.result.now c.in_ok-count.ensures c.as_slice-2.ensures.value c.in_ok-system.ensures.sized) f (subst (λ cs. IsWalk (system_of c.as_slice-2.result.now) (names_of c.args.numbering.now.states) (names_of c.args.numbering.now.events) cs f) c.as_slice.ensures.value h)) c.sorted.result c.sorted.ensures.walk
