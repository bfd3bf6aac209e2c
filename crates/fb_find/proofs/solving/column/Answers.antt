use Rattle.std.proofs.Common.{subst, map, string_bytes}
use Rattle.fb_find_graph.specs.Views.{system_of}
use Rattle.fb_find_rows.specs.Faults.{IsPastLimit}
use Rattle.fb_types_blocks.specs.Views.{names_of}
use Rattle.fb_find_demands.specs.Rights.{rights_of}
use Rattle.fb_find.proofs.Nodes.{is_system, is_order, smallest, past, ok_three, if_err, sized_slice, grouped_slice}
use Rattle.fb_find.proofs.solving.column.Goals as goal

pub solved-requires-clause-system : goal.solved-requires-clause-system
solved-requires-clause-system c =
    is_system c.args.numbering.now c.args.order.now (rights_of c.args.rights.items) c.requires.demands.0 c.requires.demands.1 (system_of c.as_slice-2.result.now)
    (grouped_slice c.args.numbering.now c.in_ok-count.count (rights_of c.args.rights.items) c.in_ok-system.system.items c.as_slice-2.result.now c.in_ok-count.ensures c.as_slice-2.ensures.value c.in_ok-system.ensures.grouped)
    (sized_slice c.args.numbering.now c.in_ok-count.count c.in_ok-system.system.items c.as_slice-2.result.now c.in_ok-count.ensures c.as_slice-2.ensures.value c.in_ok-system.ensures.sized)

pub solved-requires-clause-order : goal.solved-requires-clause-order
solved-requires-clause-order c =
    is_order c.args.numbering.now c.args.order.now (rights_of c.args.rights.items) c.requires.demands.0 c.requires.demands.1 (system_of c.as_slice-2.result.now)
    (grouped_slice c.args.numbering.now c.in_ok-count.count (rights_of c.args.rights.items) c.in_ok-system.system.items c.as_slice-2.result.now c.in_ok-count.ensures c.as_slice-2.ensures.value c.in_ok-system.ensures.grouped)
    (sized_slice c.args.numbering.now c.in_ok-count.count c.in_ok-system.system.items c.as_slice-2.result.now c.in_ok-count.ensures c.as_slice-2.ensures.value c.in_ok-system.ensures.sized)

pub returns-clause-least : goal.returns-clause-least
returns-clause-least c = λ ds col.
    ok_three (λ v sized' small least. smallest c.args.numbering.now c.args.order.now (rights_of c.args.rights.items) ds col (system_of c.as_slice-2.result.now)
    (grouped_slice c.args.numbering.now c.in_ok-count.count (rights_of c.args.rights.items) c.in_ok-system.system.items c.as_slice-2.result.now c.in_ok-count.ensures c.as_slice-2.ensures.value c.in_ok-system.ensures.grouped)
    (sized_slice c.args.numbering.now c.in_ok-count.count c.in_ok-system.system.items c.as_slice-2.result.now c.in_ok-count.ensures c.as_slice-2.ensures.value c.in_ok-system.ensures.sized) c.args.limit v.items c.requires.limit sized' small least) c.solved.result c.solved.ensures.sized c.solved.ensures.small c.solved.ensures.least

pub returns-clause-refused : goal.returns-clause-refused
returns-clause-refused c = λ ds col.
    if_err (λ f h. past c.args.numbering.now c.args.order.now (rights_of c.args.rights.items) ds col (system_of c.as_slice-2.result.now)
    (grouped_slice c.args.numbering.now c.in_ok-count.count (rights_of c.args.rights.items) c.in_ok-system.system.items c.as_slice-2.result.now c.in_ok-count.ensures c.as_slice-2.ensures.value c.in_ok-system.ensures.grouped)
    (sized_slice c.args.numbering.now c.in_ok-count.count c.in_ok-system.system.items c.as_slice-2.result.now c.in_ok-count.ensures c.as_slice-2.ensures.value c.in_ok-system.ensures.sized) c.args.limit f (subst (λ ts. IsPastLimit (system_of c.as_slice-2.result.now) c.args.limit (names_of c.args.numbering.now.states) (names_of c.args.numbering.now.events) (map string_bytes ts) f) c.as_slice.ensures.value h)) c.solved.result c.solved.ensures.refused
