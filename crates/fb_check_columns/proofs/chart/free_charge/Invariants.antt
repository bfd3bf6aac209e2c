use Rattle.std.proofs.Common.{◌≡◌, None, drop}
use Rattle.fb_check_columns.specs.Reckoning.{charge_of, most_free}
use Rattle.fb_check_columns.proofs.chart.free_charge.Given as goal

-- the greatest so far and those that are left give the greatest of all
abbrev pub invariant-loop-transition : goal.invariant-loop-transition
invariant-loop-transition l =
    most_free (charge_of l.rows.column l.rows.certificate.now l.rows.path.now) l.most (drop l.transition-index l.transitions) ≡ most_free (charge_of l.rows.column l.rows.certificate.now l.rows.path.now) None l.transitions
