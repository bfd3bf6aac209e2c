use Rattle.std.proofs.Common.{rules, arith}
use Rattle.std.proofs.lemmas.List.Sorted.{IsPartitionPoint-from_clause}
use Rattle.fb_sched.specs.declared.armed.Armed.{Armed}
use Rattle.fb_sched.specs.Order.{is_ahead}
use Rattle.fb_sched.proofs.Seats.{parted, place_found}
use Rattle.fb_sched.proofs.timers.position_of.Goals as goal

pub returns-clause-position : goal.returns-clause-position
returns-clause-position c =
    let x = c.args.one.now in
    let l = c.args.armed.now.items in
    let point = IsPartitionPoint-from_clause (λ (y : Armed). is_ahead y x) l c.partition_point.result c.partition_point.ensures.partitioned (parted x l c.requires) (λ a r q k. search rules) in
    place_found x l c.partition_point.result (omega (arith, c.partition_point.ensures.bound, c.args.armed.now.ok.0)) point
