use Rattle.std.proofs.Common.{◌≡◌, refl, subst}
use Rattle.fb_sched.specs.Agenda.{Agenda}
use Rattle.fb_sched.specs.Changes.{PutsAll}
use Rattle.fb_chart.proofs.Stood.{read}
use Rattle.fb_device_dispatch.proofs.queue.enter.Goals as goal

pub returns-clause-entered : goal.returns-clause-entered
returns-clause-entered c =
    let s = c.requires in
    let e : c.index_mut-queue.result.now ≡ s.queue = read c.args.queues.now.items c.args.resource s.queue c.index_mut-queue.result.now s.stands c.index_mut-queue.ensures.value in
    record {
      queue = s.queue;
      mid = c.deliver.new.queue;
      left = c.settle-ended.new.self;
      stands = s.stands;
      puts = subst (λ (a : Agenda). PutsAll a c.args.slot c.args.outbox.now.items c.deliver.new.queue) e c.deliver.ensures.puts;
      mid_agenda = c.deliver.ensures.sound;
      is = c.reaction_at-reaction.ensures;
      settles = c.settle-ended.ensures.settles;
      agenda = c.settle-ended.ensures.sound;
      new_is = refl;
    }
