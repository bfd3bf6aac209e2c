use Rattle.std.proofs.Common.{◌≡◌, ◌+◌, List, drop, length}
use Rattle.fb_model.specs.System.{Action}
use Rattle.fb_model.specs.Charts.{Acting}
use Rattle.st_exec.specs.Cells.{forms_of}
use Rattle.fb_chart.specs.Views.{named}
use Rattle.fb_chart.specs.Tables.{Each, IsAction}
use Rattle.fb_chart.specs.Charting.{block_in, states_in, outputs_in, cells_of, entered, HasCome}
use Rattle.fb_chart.proofs.chart.act.Given as goal

-- these actions are left
abbrev pub invariant-loop-action : goal.invariant-loop-action
invariant-loop-action g l =
    (left : List Action) × Each (IsAction (block_in l.invocation.chart.now) (outputs_in l.invocation.chart.now)) left (drop l.action-index l.action-items)
    × HasCome (block_in l.invocation.chart.now) l.invocation.outputs.now (entered l.invocation.chart.now l.state (cells_of l.fn.own l.fn.issued) l.before) (named (states_in l.invocation.chart.now) l.state) (cells_of l.own l.issued) (Acting left) l.steps (g.E.Emit.sent l.fn.emit) (g.E.Emit.sent l.emit)
    × (forms_of l.own ≡ forms_of l.fn.own) × (forms_of l.issued ≡ forms_of l.fn.issued)
    × (g.E.Emit.room l.fn.emit + length (g.E.Emit.sent l.fn.emit) ≡ g.E.Emit.room l.emit + length (g.E.Emit.sent l.emit))
    × (g.E.Emit.reference l.emit ≡ g.E.Emit.reference l.fn.emit)
