use Rattle.std.proofs.Common.{sym, ap, ◌∙◌, subst}
use Rattle.circular_buffer.specs.Buffer.{Buffer}
use Rattle.fb_chart.specs.declared.table.Point.{Point}
use Rattle.fb_sched.proofs.Delivering.{Delivers, next}
use Rattle.fb_sched.proofs.outbox.Outbox.deliver.Goals as goal

pub loop-point-preserved : goal.loop-point-preserved
loop-point-preserved c = (
  subst (λ (b : Buffer Point). Delivers c.args.queue.now c.args.slot c.self.inside.points.items b.items c.put.new.self) (sym c.pop_front.ensures.items)
      (next c.args.queue.now c.args.slot c.self.inside.points.items c.loop-point.self-inside.points.items c.loop-point.queue c.in-Some.point c.put.new.self c.loop-point.invariant.0 (sym c.pop_front.ensures.value ∙ c.in-Some.is) c.put.ensures.puts c.put.ensures.sound),
  ap (λ (b : Buffer Point). b.capacity) c.pop_front.ensures.items ∙ c.loop-point.invariant.1,
)
