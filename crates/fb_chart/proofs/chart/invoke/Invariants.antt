use Rattle.std.proofs.Common.{◌≡◌, ◌+◌, ◌-◌, ◌<◌, length}
use Rattle.std.specs.Prelude.{IfSome}
use Rattle.st_exec.specs.Cells.{forms_of}
use Rattle.fb_chart.specs.Views.{named}
use Rattle.fb_chart.specs.Charting.{block_in, states_in, events_in, IsStateNumber, phase_of, cells_of, begun, HasCome}
use Rattle.fb_chart.proofs.chart.invoke.Given as goal

-- it has come so far, and what it sent is emitted
abbrev pub invariant-loop-target : goal.invariant-loop-target
invariant-loop-target g l = record {
  come : HasCome (block_in l.invocation.chart.now) l.invocation.outputs.now (begun l.invocation.chart.now l.state (cells_of l.fn.own l.fn.issued) l.invocation.event) (named (states_in l.invocation.chart.now) l.now) (cells_of l.own l.issued) (phase_of (events_in l.invocation.chart.now) l.waiting) l.steps (g.E.Emit.sent l.fn.emit) (g.E.Emit.sent l.emit);
  state : IsStateNumber l.now (block_in l.invocation.chart.now);
  event : IfSome l.waiting (λ e. e < length (events_in l.invocation.chart.now));
  own_forms : forms_of l.own ≡ forms_of l.fn.own;
  issued_forms : forms_of l.issued ≡ forms_of l.fn.issued;
  kept : g.E.Emit.room l.fn.emit + length (g.E.Emit.sent l.fn.emit) ≡ g.E.Emit.room l.emit + length (g.E.Emit.sent l.emit);
  same : g.E.Emit.reference l.emit ≡ g.E.Emit.reference l.fn.emit;
}

abbrev pub decreases-loop-target : goal.decreases-loop-target
decreases-loop-target g l = l.invocation.most - l.steps
