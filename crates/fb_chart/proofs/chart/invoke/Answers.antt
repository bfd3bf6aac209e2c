use Rattle.std.proofs.Common.{refl, ◌∙◌, arith}
use Rattle.fb_model.specs.Charts.{Waiting}
use Rattle.fb_chart.specs.Views.{named}
use Rattle.fb_chart.specs.Charting.{block_in, states_in, events_in, phase_of, cells_of}
use Rattle.fb_chart.proofs.Choosing.{names_length, clear_choice, rests_so}
use Rattle.fb_chart.proofs.Doing.{not_gone, crossing_steps, crossing_fine, steps_more, come_further}
use Rattle.fb_chart.proofs.chart.invoke.Goals as goal

pub loop-target-init : goal.loop-target-init
loop-target-init g c =
    let k = c.args.invocation.now.chart.now in
    record {
      come = not_gone (block_in k) c.args.invocation.now.outputs.now (named (states_in k) c.args.state) (cells_of c.args.own.now c.args.issued.now) (Waiting (named (events_in k) c.args.invocation.now.event)) 1 (g.E.Emit.sent c.args.emit.now);
      state = c.requires.state;
      event = c.requires.event;
      own_forms = refl;
      issued_forms = refl;
      kept = refl;
      same = refl;
    }

pub next_state-requires-clause-clear : goal.next_state-requires-clause-clear
next_state-requires-clause-clear g c =
    let k = c.args.invocation.now.chart.now in
    let v = c.loop-target.invariant in
    clear_choice (block_in k) (events_in k) (named (states_in k) c.loop-target.now) (cells_of c.loop-target.own c.loop-target.issued) c.loop-target.waiting c.loop-target.steps v.come.outs (c.requires.fine _ v.come.run).clear

pub act-steps-requires-clause-fine : goal.act-steps-requires-clause-fine
act-steps-requires-clause-fine g c =
    let k = c.args.invocation.now.chart.now in
    let v = c.loop-target.invariant in
    crossing_fine k c.args.invocation.now.outputs.now c.args.own.now c.args.issued.now c.args.state c.args.invocation.now.event c.args.invocation.now.most (g.E.Emit.room c.args.emit.now) c.requires.fine (g.E.Emit.sent c.args.emit.now)
    c.loop-target.own c.loop-target.issued c.loop-target.now c.loop-target.steps c.loop-target.waiting (g.E.Emit.sent c.loop-target.emit) v.come c.in-Some.target c.in-Some.ensures.chosen (g.E.Emit.room c.loop-target.emit) v.kept

pub loop-target-smaller : goal.loop-target-smaller
loop-target-smaller g c =
    let k = c.args.invocation.now.chart.now in
    let v = c.loop-target.invariant in
    let a = crossing_steps k c.args.invocation.now.outputs.now c.args.own.now c.args.issued.now c.args.state c.args.invocation.now.event c.args.invocation.now.most (g.E.Emit.room c.args.emit.now) c.requires.fine (g.E.Emit.sent c.args.emit.now)
    c.loop-target.own c.loop-target.issued c.loop-target.now c.loop-target.steps c.loop-target.waiting (g.E.Emit.sent c.loop-target.emit) v.come c.in-Some.target c.in-Some.ensures.chosen in
    let b = steps_more k c.args.invocation.now.outputs.now c.args.own.now c.args.issued.now c.args.state c.args.invocation.now.event c.args.invocation.now.most (g.E.Emit.room c.args.emit.now) c.requires.fine (g.E.Emit.sent c.args.emit.now)
    c.loop-target.own c.loop-target.issued c.loop-target.now c.loop-target.steps c.loop-target.waiting (g.E.Emit.sent c.loop-target.emit) v.come c.in-Some.target c.in-Some.ensures.chosen
    c.act-steps.new.own c.act-steps.new.issued c.act-steps.result (g.E.Emit.sent c.act-steps.new.emit) c.act-steps.ensures.come in
    omega (arith, a, b)

pub loop-target-preserved : goal.loop-target-preserved
loop-target-preserved g c =
    let k = c.args.invocation.now.chart.now in
    let v = c.loop-target.invariant in
    record {
      come = come_further k c.args.invocation.now.outputs.now c.args.own.now c.args.issued.now c.args.state c.args.invocation.now.event c.args.invocation.now.most (g.E.Emit.room c.args.emit.now) c.requires.fine (g.E.Emit.sent c.args.emit.now)
          c.loop-target.own c.loop-target.issued c.loop-target.now c.loop-target.steps c.loop-target.waiting (g.E.Emit.sent c.loop-target.emit) v.come c.in-Some.target c.in-Some.ensures.chosen
          c.act-steps.new.own c.act-steps.new.issued c.act-steps.result (g.E.Emit.sent c.act-steps.new.emit) c.act-steps.ensures.come;
      state = λ some. omega (arith, c.in-Some.ensures.within, names_length (block_in k).states);
      event = tt;
      own_forms = c.act-steps.ensures.own ∙ v.own_forms;
      issued_forms = c.act-steps.ensures.issued ∙ v.issued_forms;
      kept = v.kept ∙ c.act-steps.ensures.room;
      same = c.act-steps.ensures.same_reference ∙ v.same;
    }

pub returns-clause-rested : goal.returns-clause-rested
returns-clause-rested g c =
    let k = c.args.invocation.now.chart.now in
    let v = c.loop-target.invariant in
    record {
      phase = phase_of (events_in k) c.loop-target.waiting;
      come = v.come;
      rest = rests_so (block_in k) (events_in k) (named (states_in k) c.loop-target.now) (cells_of c.loop-target.own c.loop-target.issued) c.loop-target.waiting c.in_default.ensures.chosen;
    }
