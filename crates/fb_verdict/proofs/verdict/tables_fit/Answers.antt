use Rattle.fb_types.specs.Views.{system_of}
use Rattle.fb_verdict.proofs.verdict.tables_fit.Goals as goal

pub returns-clause-refused : goal.returns-clause-refused
returns-clause-refused c = λ typed w e few. c.far_fits.ensures.refused typed w e (c.in_ok-alone_fits.ensures.fits (system_of typed) w e few).clear
