use Rattle.std.proofs.Common.{inl}
use Rattle.std.proofs.lemmas.Result.{err_from_is_err_and}
use Rattle.fb_model.specs.BlockFaults.{in_algorithms}
use Rattle.fb_types_blocks.proofs.block.chart_within.Goals as goal

pub returns-in_err-scope-clause-refused : goal.returns-in_err-scope-clause-refused
returns-in_err-scope-clause-refused c =
    let p = err_from_is_err_and c.from_residual.result c.from_residual.ensures.1 in
    rw p.1 (in_algorithms (inl p.2))

pub returns-clause-found : goal.returns-clause-found
returns-clause-found c = rw (← c.in_ok-scope.ensures) c.control_chart.ensures.found

pub returns-clause-refused : goal.returns-clause-refused
returns-clause-refused c = rw (← c.in_ok-scope.ensures) c.control_chart.ensures.refused
