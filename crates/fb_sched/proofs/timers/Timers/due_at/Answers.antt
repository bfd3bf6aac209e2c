use Rattle.std.proofs.Common.{sym, ap, ◌∙◌}
use Rattle.std.specs.Prelude.{slice_get}
use Rattle.fb_sched.specs.Order.{due_at}
use Rattle.fb_sched.proofs.Ordered.{due_get}
use Rattle.fb_sched.proofs.timers.Timers.due_at.Goals as goal

pub returns : goal.returns
returns c =
    let items = c.self.inside.armed.items in
    let view = ap (λ t. slice_get (due_at c.args.clock t.armed) c.args.index) c.self.view_is in
    c.due_in.ensures ∙ sym (due_get c.args.clock items c.args.index c.self.invariant.0) ∙ view
